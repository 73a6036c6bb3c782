pub mod NoticeLaws
pub mod Notices
