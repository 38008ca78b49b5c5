pub mod WakesLines
