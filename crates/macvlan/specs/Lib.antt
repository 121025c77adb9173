pub mod Macvlan
