pub mod Digits
pub mod Pieces
pub mod Utf8
pub mod PrintLaws
pub mod PlainLaws
pub mod UnfoldLaws
