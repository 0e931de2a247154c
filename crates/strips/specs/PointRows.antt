-- A row of a net's points by number, the triangles of the strip between two rows, and lists that are filled part by part.
use Rattle.std.specs.Prelude.{◌≡◌, true, List, ◌++◌, ℕ, zero, suc, ◌+◌, ◌-◌, ◌*◌, ◌/◌, ◌%◌, ◌^◌, ◌≤◌, ◌<◌, eqb, ltb, length, drop}
use Rattle.paper.specs.Scan.{pick_n, values_from}
use Rattle.paper.specs.Net.{Side}
use Rattle.paper.specs.Triangles.{apex, foot}
use Rattle.strips.specs.declared.NumberedRow.{NumberedRow}

-- the number at place j of a row
unfoldable pub row_number : NumberedRow → ℕ → ℕ
row_number r j =
    pick_n (eqb j 0) r.first (pick_n (eqb j r.parts) r.last (pick_n r.up (r.base + (j - 1)) (r.base + (r.parts - j - 1))))

-- its numbers fit
pub record RowFits (r : NumberedRow) : Type 0 where
  pub parts : r.parts ≤ 16
  pub base : r.base + r.parts < 2 ^ 32

-- the rows of a strip: the upper one has fewer segments
pub record Strip (s : ℕ) (L U : NumberedRow) : Type 0 where
  pub side : s ≤ 3
  pub lower : RowFits L
  pub upper : RowFits U
  pub fewer : U.parts < L.parts

-- a row whose numbers rise from its first on, up to its last; and two of them with a point over each lower segment
pub record RisingRow (r : NumberedRow) : Type 0 where
  pub up : r.up ≡ true
  pub base : r.base ≡ r.first + 1

pub record PlainStrip (L U : NumberedRow) : Type 0 where
  pub as_many : L.parts ≡ U.parts + 1
  pub lower : RisingRow L
  pub upper : RisingRow U

-- number e of the triangle over lower segment t, and of that under upper segment i
unfoldable pub over_number : Side → NumberedRow → NumberedRow → ℕ → ℕ → ℕ
over_number s L U t zero = row_number L t
over_number s L U t (suc zero) = row_number L (t + 1)
over_number s L U t (suc (suc e)) = row_number U (apex s L.parts (U.parts + 1) t)

unfoldable pub under_number : Side → NumberedRow → NumberedRow → ℕ → ℕ → ℕ
under_number s L U i zero = row_number U (i + 1)
under_number s L U i (suc zero) = row_number U i
under_number s L U i (suc (suc e)) = row_number L (foot s L.parts (U.parts + 1) i)

-- number x of the strip
unfoldable pub strip_number : Side → NumberedRow → NumberedRow → ℕ → ℕ
strip_number s L U x = pick_n (ltb (x / 3) L.parts) (over_number s L U (x / 3) (x % 3)) (under_number s L U (x / 3 - L.parts) (x % 3))

-- place j of a side's row of w segments in its ring
abbrev pub ring_place : ℕ → ℕ → ℕ → ℕ
ring_place side w j = pick_n (eqb (side * w + j) (4 * w)) 0 (side * w + j)

-- ---- the first i numbers of a list that was `old` are those of f
pub record FilledTo {A : Type 0} (f : ℕ → A) (old : List A) (i : ℕ) (out : List A) : Type 0 where
  pub long : length out ≡ length old
  pub holds : out ≡ values_from f 0 i ++ drop i old

-- a list that is filled up to `at` is then filled with n numbers of g more
abbrev pub Fills : {A : Type 0} → (ℕ → A) → ℕ → ℕ → List A → List A → Type 0
Fills {A} g at n before after =
    (f : ℕ → A) (old : List A) → FilledTo f old at before → ((x : ℕ) → x < n → f (at + x) ≡ g x) → FilledTo f old (at + n) after

-- numbers 3a to 3b of f's values stand from `at` to `to`
pub record Stands {A : Type 0} (f : ℕ → A) (a b at to : ℕ) (old out : List A) : Type 0 where
  pub ends : to ≡ at + 3 * (b - a)
  pub fills : Fills (λ x. f (3 * a + x)) at (3 * (b - a)) old out

-- three numbers
abbrev pub three : ℕ → ℕ → ℕ → ℕ → ℕ
three a b c x = pick_n (eqb x 0) a (pick_n (eqb x 1) b c)
