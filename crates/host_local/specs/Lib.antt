pub mod Conf
pub mod Kinds
pub mod Laws
pub mod Leases
pub mod Results
