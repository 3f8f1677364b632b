pub mod Faults
pub mod Calls
pub mod Transfers
pub mod Memory
