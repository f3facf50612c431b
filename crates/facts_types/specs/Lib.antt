pub mod TypeRelations
pub mod Chains
pub mod TenTypes
pub mod OwnForms
pub mod AllowedTypes
