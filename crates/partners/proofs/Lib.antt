pub mod Stores
pub mod Pairs
pub mod SharedEdges
pub mod Keys
pub mod Chains
pub mod Laws
