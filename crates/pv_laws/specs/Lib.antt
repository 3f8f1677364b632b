pub mod Moments
pub mod Stopping
pub mod CarryingOut
pub mod Between
pub mod Copying
pub mod Swept
