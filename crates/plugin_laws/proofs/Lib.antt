pub mod Chains
mod AddressResults
mod ChainedResults
mod Digests
mod Interfaces
mod Lists
mod Results
