pub mod PortmapLaws
