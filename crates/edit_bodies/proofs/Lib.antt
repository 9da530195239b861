pub mod HexDigits
pub mod RightCommands
mod SameCommands
