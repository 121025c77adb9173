-- Lists: elements by their places, joins, maps and splits.
pub mod Each
pub mod Elements
pub mod Splits
