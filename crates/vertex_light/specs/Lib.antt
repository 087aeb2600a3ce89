pub mod Aim
pub mod Attenuation
pub mod Components
pub mod Cone
pub mod Half
pub mod Lit
pub mod Prepared
pub mod Term
