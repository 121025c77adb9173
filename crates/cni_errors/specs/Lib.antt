pub mod Answers
pub mod CommandFields
pub mod ErrorKinds
pub mod ObjectQuestions
