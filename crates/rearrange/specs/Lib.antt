pub mod restoring
pub mod four_bytes
