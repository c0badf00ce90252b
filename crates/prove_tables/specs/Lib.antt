pub mod Closed
-- the libraries below that those above cite through this one
pub use Rattle.law_sum_plays.specs.law_prove_closed as law_prove_closed
pub use Rattle.prove_report.specs.Reports as Reports
