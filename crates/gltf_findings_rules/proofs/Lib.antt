mod Counted
mod Marked
