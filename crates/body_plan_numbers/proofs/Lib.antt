pub mod NumberPlans
