pub mod CostLemmas
pub mod PlanLemmas
