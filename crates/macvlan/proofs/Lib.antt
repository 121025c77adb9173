pub mod MacvlanLaws
