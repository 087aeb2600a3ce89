pub mod Bits
pub mod RowPaints
pub mod Spans
pub mod Sums
pub mod TileLemmas
pub mod Unshaded
