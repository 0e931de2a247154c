-- Laws of the construction.
--     Within      bounds on both sides of zero
--     Rings       the refined faces round a corner as rings
--     Faces       centre and face points of one refined face, and the table's rule among them
--     Border      what the two sides of a border have in common, and the two rules across it
--     Roundings   each value is off by at most half
--     Formulas    what each formula gives for numbers of a net's sizes
--     Sizes       every value, every sum before a division and every written number
--     Hull        the refined point's size; the corners of an accepted mesh have the laws of `Sound`
--     Eights      with 8 and 8 throughout the refined points are those of 01
--     Agree       corners that agree have the same nets
--     Call        what a call of building that is not refused tells
--     RingFaces   the rings of a corner lie in the faces at its vertex
pub mod Within
pub mod Rings
pub mod Faces
pub mod Border
pub mod Roundings
pub mod Formulas
pub mod Sizes
pub mod Hull
pub mod Eights
pub mod Agree
pub mod RingFaces
pub mod Call
