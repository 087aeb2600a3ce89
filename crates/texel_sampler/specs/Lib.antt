pub use Rattle.gl_records.specs.Sampling
pub mod Choosings
pub mod FourTexels
pub mod SampledImage
pub mod Wraps
