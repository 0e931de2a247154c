-- Demand 3, proved, and a law of L1.
--     Conditions   the four conditions of the values of a border
--     Written      what a call that is not refused tells, and where its output has a point
--     Theorem      demand 3: `demand3`
--     Ranges       no range of an accepted mesh is refused, so it speaks of every border: `every_border`
--     FromC        a call from C that answers 0 is a call that is not refused: `from_c`
--     Nets         every quad-net that building writes passes 18 and 19: `nets_pass`
pub mod Conditions
pub mod Written
pub mod Theorem
pub mod Ranges
pub mod FromC
pub mod Nets
