pub mod NightLines
