pub mod Asking
pub mod Errors
pub mod Hearing
pub mod Renewing
pub mod Rows
pub mod SyncLaws
pub mod Taking
pub mod Whole
