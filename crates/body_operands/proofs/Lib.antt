pub mod Laws
pub mod OneOrNone
pub mod Several
