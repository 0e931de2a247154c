pub mod Put
pub mod Drawn
pub mod stencil
pub mod lanes
pub mod copy
