pub mod RecordsInRow
pub mod Searching
pub mod Voting
pub mod Written
pub mod Lasts
