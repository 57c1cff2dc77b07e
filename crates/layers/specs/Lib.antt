pub mod Quotas
pub mod LoadLimits
