pub mod InRange
pub mod ByForm
