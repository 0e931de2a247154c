-- The marks of the vertices that stand in a face with a given one, as they grow face by face.
use Rattle.std.specs.Prelude.{◌≡◌, Bool, ◌&&◌, List, ℕ, ◌+◌, ◌<◌, length, get_or}
use Rattle.paper.specs.Scan.{pick_n, some_below}
use Rattle.paper.specs.Corners.{start_of}
use Rattle.paper.specs.Links.{names}

-- one of n corners from `start` on is at the vertex u
unfoldable pub among : List ℕ → ℕ → ℕ → ℕ → Bool
among corners start n u = some_below n (λ j. names corners u (start + j))

-- the table `after` is `before` with 1 where a vertex is among these corners
abbrev pub AllMarked : List ℕ → ℕ → ℕ → List ℕ → List ℕ → Type 0
AllMarked corners start n before after = (w : ℕ) → w < length before → get_or after w 0 ≡ pick_n (among corners start n w) 1 (get_or before w 0)

-- the same where u is among them too, else as it was
abbrev pub FaceMarked : List ℕ → ℕ → ℕ → ℕ → List ℕ → List ℕ → Type 0
FaceMarked corners u start n before after =
    (w : ℕ) → w < length before → get_or after w 0 ≡ pick_n (among corners start n u && among corners start n w) 1 (get_or before w 0)

-- u and w are among the corners of face f
unfoldable pub in_face : List ℕ → List ℕ → ℕ → ℕ → ℕ → Bool
in_face sides corners u w f = among corners (start_of sides f) (get_or sides f 0) u && among corners (start_of sides f) (get_or sides f 0) w

-- 1 for each vertex that stands with u in one of the first n faces, else 0
abbrev pub SharingMarked : List ℕ → List ℕ → ℕ → ℕ → List ℕ → Type 0
SharingMarked sides corners u n sharing = (w : ℕ) → w < length sharing → get_or sharing w 0 ≡ pick_n (some_below n (in_face sides corners u w)) 1 0
