-- Laws of the table of corners.
--     Table   what a step reads is where the corners' own step leads; a table is that of the corners it tells
pub mod Table
