pub mod WrittenNumbers
pub mod AnswerLaws
