-- Marks of vertices: those that a range of corners names, and the corners of a range whose vertices are marked.
use Rattle.std.specs.Prelude.{◌≡◌, List, ℕ, ◌+◌, ◌<◌, ◌≤◌, length, get_or}
use Rattle.paper.specs.Links.{vertex_of}
use Rattle.face_sums.specs.Marks.{SomeIn, Tells, AtMark}

-- u is the vertex of one of `count` corners from `first` on
abbrev pub NamedIn : List ℕ → ℕ → ℕ → ℕ → Type 0
NamedIn corners first count u = SomeIn (λ c. vertex_of corners c ≡ u) first (first + count)

-- the table tells of each vertex whether a corner of the range names it
abbrev pub Marked : List ℕ → ℕ → ℕ → List ℕ → Type 0
Marked corners first count marked = (u : ℕ) → u < length marked → Tells (get_or marked u 0) (NamedIn corners first count u)

-- the vertex of corner c is marked, and c is from `start` to before `end`
abbrev pub MarkedIn : List ℕ → List ℕ → ℕ → ℕ → ℕ → Type 0
MarkedIn corners marked start end c = (start ≤ c) × (c < end) × AtMark corners marked c
