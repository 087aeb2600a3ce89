pub use Rattle.gl_records.specs.Clear
pub use Rattle.gl_records.specs.Fragment
pub mod Quotient
