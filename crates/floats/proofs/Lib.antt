-- Laws of floats that carry whole numbers, and of L1's checks and parts.
--     Exact      which whole numbers a float carries, and that it reads back as what it carries
--     Laws       the checks, the differences and the two cases, as the code meets them
--     All        all points of a list of quad-nets: the six floats of each, and the list that is filled with them
--     Theorems   what the owner is told of an answer
pub mod Exact
pub mod Laws
pub mod All
pub mod Theorems
