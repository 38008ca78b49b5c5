pub mod Folders
pub mod Fields
pub mod Rules
pub mod Effects
