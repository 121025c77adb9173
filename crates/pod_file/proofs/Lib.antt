pub mod CommandFacts
mod FaultFacts
mod GeneratedListFacts
mod GeneratorFacts
mod IndexFacts
mod Numbering
mod OpeningFacts
mod PodFacts
