pub mod CastWays
