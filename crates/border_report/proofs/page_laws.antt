-- The theorems of L14.
--     Largest    the largest of values below a bound
--     Once       each border counts once; no miss is above 13 ticks
--     Runs       what a run of files leaves, its order, its parts
--     Refusals   a refused mesh adds one under its number
pub mod Largest
pub mod Once
pub mod Runs
pub mod Refusals
