pub mod Words
pub mod Layout
pub mod Contents
pub mod Agreement
pub mod Counting
pub mod Operations
