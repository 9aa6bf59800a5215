pub mod Answers
pub mod AnswersData
pub mod DefaultCatcher
pub mod OneOf
pub mod Replies
