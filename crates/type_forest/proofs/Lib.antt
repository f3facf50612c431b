pub mod Totals
pub mod Within
pub mod Sizing
pub mod Placing
pub mod Exact
pub mod Holds
