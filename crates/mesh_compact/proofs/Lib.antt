pub mod Naming
pub mod Loop
pub mod Statuses
pub mod Shared
pub mod Numbering
pub mod Compacting
