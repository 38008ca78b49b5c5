pub mod LeapBound
pub mod ReadOnly
pub mod InRanges
pub mod Stretches
pub mod Longest
pub mod Trace
pub mod Tallies
pub mod Worked
