pub mod Makes
