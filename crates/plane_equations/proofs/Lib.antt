pub mod Boxes
pub mod Fractions
pub mod Guesses
