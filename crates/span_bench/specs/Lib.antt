pub mod Counter
pub mod Fault
pub mod Order
pub mod Rounds
pub mod ThreadOrder
pub mod ThreadWorkload
pub mod Workload
