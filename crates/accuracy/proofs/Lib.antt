-- L10, proved.
--     Close       a whole number beside a fraction, and what each operation leaves between them
--     Face        centre and face points of one refined face
--     Net         the 41 points of a corner, kind by kind
--     Theorem     the theorem: `accuracy`
pub mod Close
pub mod Face
pub mod Net
pub mod Theorem
