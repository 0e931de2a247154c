-- The laws of ℤ, and the two ways to prove more of them.
--     Diff      a number as a difference of two naturals: `each`, `as_diff`, the set `diff`
--     Poly      statements about sums and products of any degree in one line: `over`, the set `poly`
--     Laws      the ring, the order, sizes of sums and products
--     Floor     the quotient rounded down
--     Sum       finite sums, and sums over a ring
--     Machine   what the machine's signed operations ask and tell
pub mod Diff
pub mod Poly
pub mod Laws
pub mod Floor
pub mod Sum
pub mod Machine
pub mod Nearest
pub mod Rules
pub mod Fractions
pub mod Lift
pub mod Small
pub mod Units
