-- What a reader of the contracts has to believe, in the order of document 01: the definitions that the entry points' contracts and
-- the theorems for the owner rest on, and nothing else (.ci/trusted).
--     Scan       scans over numbers, used by all others
--     Mesh, Corners, Links   "Mesh tables and links": lists and limits, next and previous corners, links
--     Faults     "Why a mesh is turned down", 4 to 14 with 27 and 28, and answers
--     Counts, File   "The file": what `inspect` counts; format, versions 1 and 2, 1 to 3, `survey` and `decode`
--     Numbers, Cosines   "Numbers used": rounding, the readings `rounded` and `exact`; the cosine table
--     Refined, Face, Net   "From corner to 41 points", with L8's sharpness
--     Calls      linking and building as calls, 14 to 17
--     Floats     L1: a control point as floats, 18 to 20; all points of a list of quad-nets
--     Nesting    L4: the nested grids as a table, 21 to 23, the listing, the call
--     Irregular  L7: the lowest irregular face or vertex, the call, and the lines of `inspect`
--     Archive    L11: coordinates rearranged for the archive and back, 30 and 31, the two calls
--     Off        L6: reading OFF texts, 24 to 26, the call
--     Preview    L9: a vertex moved, 29, the preview; the corners that a vertex can change
--     Turning    L13: turning faces, connected parts, 34 to 36, the call
--     Borders    "The four conditions across a side"
--     Sampling   L12: samples of a patch, 32 and 33, the calls
--     Triangles  the surface as one closed mesh of triangles, 39 and 40, the calls
--     Tangents   the tangents of a patch and of the surface's points, the calls
--     Report     L14: the yearly border report, 37 and 38, the calls, runs of files
--     CFace      the C face
--     Mirror     a mesh with one axis negated
--     Accuracy   L10: the true surface, and how far off a point may be
--     Manifold   what an accepted mesh is
--     Examples   "Checked examples"
--     Claims     the theorems
pub mod Scan
pub mod Mesh
pub mod Corners
pub mod Links
pub mod Faults
pub mod Counts
pub mod File
pub mod Numbers
pub mod Cosines
pub mod Refined
pub mod Face
pub mod Net
pub mod Calls
pub mod Floats
pub mod Nesting
pub mod Irregular
pub mod Archive
pub mod Off
pub mod Preview
pub mod Turning
pub mod Borders
pub mod Sampling
pub mod Triangles
pub mod Tangents
pub mod Report
pub mod CFace
pub mod Mirror
pub mod Accuracy
pub mod Manifold
pub mod Examples
pub mod Claims
