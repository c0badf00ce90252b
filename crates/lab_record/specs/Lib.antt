pub mod Fitting
pub mod Logs
pub mod Recorders
pub mod Courses
pub mod Playing
pub mod Steady
pub mod Benches
