-- Linking and building as calls: what each answers (4 to 14, 4 to 17) and what the lent space holds afterwards, for all inputs.
use Rattle.std.specs.Prelude.{Bool, not, ◌||◌, List, ℕ, ◌+◌, ◌*◌, ◌/◌, ◌%◌, ltb, eqb, length, get_or, ℤ, pos}
use Rattle.paper.specs.Scan.{values_from}
use Rattle.paper.specs.Mesh.{Mesh, corner_count}
use Rattle.paper.specs.Links.{link_table, link}
use Rattle.paper.specs.Faults.{link_verdict, Answered, Verdict, ◌or_else◌, single, lowest_of, Answer}
use Rattle.paper.specs.Numbers.{Numbers, rounded}
use Rattle.paper.specs.Refined.{refined_of}
use Rattle.paper.specs.Net.{net, net_points}

-- a call of linking on the lists M with a lent table that held `old`: it answers the fault of 4 to 14, or none, and writes the links of the mesh
abbrev pub Linked : Mesh → List ℕ → Answer → List ℕ → Type 0
Linked M old = Answered (link_verdict M (length old)) (link_table M) old

-- the numbers that building writes for a corner: x, y, z of each of its 41 points
abbrev pub per_corner : ℕ
per_corner = 3 * net_points

-- number i of the output for the corners from `first` on
unfoldable pub number_at : (S : Numbers) → Mesh → ℕ → ℕ → S.Number
number_at S M first i = get_or (net (refined_of S M (i % 3)) (first + i / per_corner)) (i % per_corner / 3) (S.whole (pos 0))

-- what building writes for `count` corners from `first` on
unfoldable pub nets : Mesh → ℕ → ℕ → List ℤ
nets M first count = values_from (number_at rounded M first) 0 (per_corner * count)

-- 15: the link table differs from what linking writes
unfoldable pub fault15 : Mesh → List ℕ → ℕ → Bool
fault15 M links c = not (eqb (get_or links c 0) (link M.sides M.corners c))

-- 16: the count asked is 0, or the range runs past the corner count
unfoldable pub fault16 : Mesh → ℕ → ℕ → Bool
fault16 M first count = eqb count 0 || ltb (corner_count M) (first + count)

-- 17: the output's length
unfoldable pub fault17 : ℕ → ℕ → Bool
fault17 count n = not (eqb n (per_corner * count))

-- building is checked by 4 to 17; n is the output's length
unfoldable pub build_verdict : Mesh → List ℕ → ℕ → ℕ → ℕ → Verdict
build_verdict M links first count n =
    link_verdict M (length links)
    or_else lowest_of 15 (corner_count M) (fault15 M links)
    or_else single 16 (fault16 M first count) first
    or_else single 17 (fault17 count n) n

-- a call of building on the lists M, a link table, a first corner and a count, with a lent output that held `old`: it writes the nets of those corners
abbrev pub Built : Mesh → List ℕ → ℕ → ℕ → List ℤ → Answer → List ℤ → Type 0
Built M links first count old = Answered (build_verdict M links first count (length old)) (nets M first count) old
