pub mod Planes
