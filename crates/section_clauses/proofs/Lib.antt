pub mod Listing
pub mod Heading
