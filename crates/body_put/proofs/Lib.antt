pub mod Laws
pub mod OnTop
pub mod PushedState
