pub mod Computed
pub mod Fitting
pub mod StepWidths
pub mod Widths
