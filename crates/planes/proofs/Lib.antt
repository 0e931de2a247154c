pub mod BytesPut
pub mod Planes
