pub mod Walking
pub mod Forms
