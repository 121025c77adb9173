pub mod Portmap
