-- Whether some of a list passes a test, by what the list was made from.
pub use Rattle.cni_addr.proofs.Lists.{list_any-map as any_mapped}
