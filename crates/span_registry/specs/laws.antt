pub mod Form
pub mod Position
pub mod Registry
