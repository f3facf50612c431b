pub mod FloatTests
