pub mod Replies
pub mod Admitted
