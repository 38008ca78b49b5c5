pub mod UnrunLines
