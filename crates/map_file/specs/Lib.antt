pub mod MapFile
