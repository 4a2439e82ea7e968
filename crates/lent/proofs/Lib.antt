pub mod Runs
pub mod RunsWhole
pub mod Showing
