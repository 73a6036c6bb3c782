pub mod CallRows
pub mod RefusalRows
pub mod AnswerRows
pub mod ListRows
pub mod MessageRows
