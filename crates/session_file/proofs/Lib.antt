mod NeverOfRound
mod SessionFacts
mod Steps
