pub mod Adding
pub mod DataCode
pub mod Laws
pub mod Raw
pub mod Request
