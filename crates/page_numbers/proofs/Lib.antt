-- Pages as numbers.
--     Laws    where the numbers stand
--     Calls   the calls from C
pub mod Laws
pub mod Calls
