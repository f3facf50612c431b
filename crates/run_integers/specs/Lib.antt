pub mod IntegerTests
