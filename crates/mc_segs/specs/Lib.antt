pub mod HeldFrames
pub mod Inside
pub mod Sessions
pub mod Ends
pub mod Places
pub mod Overlaid
pub mod Puts
pub mod Commits
