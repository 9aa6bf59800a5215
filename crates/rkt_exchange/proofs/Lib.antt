pub mod AnswerTurns
pub mod AskTurns
pub mod Chaining
pub mod Exchanging
pub mod Peeks
pub mod Running
