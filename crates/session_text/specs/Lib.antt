pub mod SessionText
