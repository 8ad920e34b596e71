pub mod Refusals
pub mod Replies
pub mod Answers
pub mod Reports
