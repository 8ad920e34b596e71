pub mod SnapTwice
