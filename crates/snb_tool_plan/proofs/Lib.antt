pub mod LogLemmas
pub mod PlanLemmas
pub mod TrialLemmas
