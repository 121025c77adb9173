-- The names of other crates that several proofs take.
mod Kernel
mod Plugins
mod Std
unfoldable pub use Kernel.*
unfoldable pub use Plugins.*
unfoldable pub use Std.*
