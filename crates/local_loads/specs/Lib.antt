pub mod Answers
pub mod Local
pub mod Making
pub mod LocalLaws
pub mod Laws
pub mod RefusalLaws
pub mod AnswerLaws
