pub mod OutputLists
pub mod Clipped
pub mod MarkLists
pub mod RoomLaws
pub mod Shown
pub mod Bounds
