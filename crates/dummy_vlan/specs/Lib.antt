pub mod DummyVlan
