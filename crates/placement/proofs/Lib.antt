pub mod Sweep
pub mod Ranking
pub mod Fitting
pub mod Stepping
pub mod Beginning
pub mod Entering
pub mod Shut
pub mod Cut
