pub mod Numbers
pub mod Sections
pub mod Instructions
pub mod Bodies
