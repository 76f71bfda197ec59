pub mod Checked
pub mod Truths
pub mod Within
