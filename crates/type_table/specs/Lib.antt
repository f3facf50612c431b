pub mod Kept
pub mod RowWords
pub mod View
pub mod Answers
