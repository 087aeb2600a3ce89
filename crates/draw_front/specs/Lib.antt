pub mod Call
pub mod Collecting
pub mod Context
pub mod Draws
pub mod Immediate
pub mod Pending
pub mod Playing
