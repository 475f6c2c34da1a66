-- Each edit's result in bytes, and that a plan makes it.
pub mod InBytes
pub mod InBytesBanks
pub mod PlanLaws
