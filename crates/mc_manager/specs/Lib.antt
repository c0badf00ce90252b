pub mod ManagerState
pub mod CommandDue
pub mod Load
pub mod Calls
pub mod Ends
pub mod Status
pub mod Ruled
-- the libraries below that those above cite through this one
pub use Rattle.law_manager as law_manager
