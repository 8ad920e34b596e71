pub mod Words
pub mod Squares
pub mod Rule
pub mod Apart
pub mod Searching
pub mod Steps
pub mod Numbers
