-- The names of other crates that several proofs take.
mod Kernel
mod Plugins
mod Std
mod Verbs
unfoldable pub use Kernel.*
unfoldable pub use Plugins.*
unfoldable pub use Std.*
unfoldable pub use Verbs.*
