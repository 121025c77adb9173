pub mod Bridge
pub mod Gateways
pub mod KeyLaws
pub mod Ptp
pub mod Results
pub mod Veth
