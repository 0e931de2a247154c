pub mod Files
pub mod file_input
pub mod mesh_input
