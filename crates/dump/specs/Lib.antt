pub mod BitLine
pub mod HexLine
