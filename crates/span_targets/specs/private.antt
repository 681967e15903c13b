pub mod EnvTake
pub mod Order
pub mod Take
