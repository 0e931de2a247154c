-- The rows that a net is made from, as they are filled: one row, those of a face, of a vertex, of the corners around.
use mathlib.Core.Path.{◌≡◌, refl, ap, ◌∙◌}
use mathlib.Core.Bool.{Bool, true, false, not}
use mathlib.Core.List.{List}
use Prim.Native.Nat.{ℕ, zero, suc, ◌+◌, ◌*◌, ◌≤◌, ◌<◌}
use native.Mathlib.Omega.{arith}
use lib.Dec.{T, ltb, ltb→lt, nltb→le, lit<}
use lib.ListN.{length, get_or}
use lib.IntN.{ℤ, pos}
use borrow.Author.Count.{below_more}
use Rattle.paper.specs.Scan.{iterate}
use Rattle.paper.specs.Numbers.{rounded}
use Rattle.paper.specs.Refined.{RefinedMesh}
use Rattle.paper.specs.Net.{side0, side1, side3, H, X}
use Rattle.surface.specs.Points.{point_row, point_at}
use Rattle.surface.specs.Sizes.{RefinedSize}
use Rattle.faces.specs.declared.FacePoint.{FacePoint}
use Rattle.faces.specs.Ring.{OnAxes}
use Rattle.walk.specs.Table.{tabled}
use Rattle.net_rows.specs.sides.Values.{corners_around}
use Rattle.net.specs.Drawn.{drawn, Drawn}
use Rattle.net.specs.copy.Copy.{PointPut}
use Rattle.net.specs.stencil.Taken.{Quiet, FaceTaken, VertexTaken, WholeTaken, CornerTaken}
use Rattle.net.proofs.stencil.Rings.{around_in}

-- ---- one row
-- row i has the numbers v of the three axes
abbrev pub RowHas : (ℕ → ℤ) → ℕ → List ℤ → Type 0
RowHas v i rows = (a : ℕ) → a < 3 → point_at rows a i ≡ v a

module _ (p : FacePoint) (i : ℕ) (old new : List ℤ) (t : PointPut p.x p.y p.z (point_row * i) 3 old new) where
  pub row_at : (Is : ℕ → ℤ → Type 0) (v : ℕ → ℤ) → ((a : ℕ) → a < 3 → (r : ℤ) → Is a r → r ≡ v a) → OnAxes Is p → RowHas v i new
  row_at Is v is o zero l = ap (λ (n : ℕ). get_or new n (pos 0)) (omega arith) ∙ t.first ∙ is 0 l p.x o.x
  row_at Is v is o (suc zero) l = t.second ∙ is 1 l p.y o.y
  row_at Is v is o (suc (suc zero)) l = t.third ∙ is 2 l p.z o.z
  row_at Is v is o (suc (suc (suc a))) l = absurd (omega arith)

  pub fourth_kept : (j : ℕ) → point_at new 3 j ≡ point_at old 3 j
  fourth_kept j = which (ltb j i) (λ u. ltb→lt j i u) (λ u. nltb→le j i u)
    where
      which : (b : Bool) → (T b → j < i) → (T (not b) → i ≤ j) → point_at new 3 j ≡ point_at old 3 j
      which true f g = let l = f tt in t.before (point_row * j + 3) (omega arith)
      which false f g = let l = g tt in t.after (point_row * j + 3) (omega arith)

-- ---- the rows of a face's ring
module _ (K : ℕ → RefinedMesh rounded) (c : ℕ) where
  pub face_none : (rows : List ℤ) → RowHas (λ a. H (K a) c side1) 10 rows → FaceTaken K c 0 rows rows
  face_none rows h = record { same = refl; centre = h; toward = λ r l. absurd (omega arith); fourth = λ i. refl }

  -- one row more
  pub face_more : (n : ℕ) (old mid new : List ℤ) (p : FacePoint) → FaceTaken K c n old mid
      → PointPut p.x p.y p.z (point_row * (11 + n)) 3 mid new
      → RowHas (λ a. X (K a) (iterate n (K a).corners.next ((K a).corners.previous c)) side1) (11 + n) new → FaceTaken K c (n + 1) old new
  face_more n old mid new p f t h = record {
    same = t.same ∙ f.same;
    centre = λ a l. t.before (point_row * 10 + a) (omega arith) ∙ f.centre a l;
    toward = below_more _ n (λ r l a k. t.before (point_row * (11 + r) + a) (omega arith) ∙ f.toward r l a k) h;
    fourth = λ i. fourth_kept p (11 + n) mid new t i ∙ f.fourth i;
  }

  -- after the row of the centre
  pub face_end : (n : ℕ) (old mid new : List ℤ) (p : FacePoint) → PointPut p.x p.y p.z (point_row * 10) 3 old mid → FaceTaken K c n mid new
      → FaceTaken K c n old new
  face_end n old mid new p t f = record {
    same = f.same ∙ t.same;
    centre = f.centre;
    toward = f.toward;
    fourth = λ i. f.fourth i ∙ fourth_kept p 10 old mid t i;
  }

  -- ---- the rows of a vertex's ring
  pub vertex_taken : (p q r : FacePoint) (e f g h : List ℤ) → PointPut p.x p.y p.z (point_row * 7) 3 e f
      → PointPut q.x q.y q.z (point_row * 8) 3 f g → PointPut r.x r.y r.z (point_row * 9) 3 g h → RowHas (λ a. H (K a) c side0) 7 f
      → RowHas (λ a. X (K a) c side3) 8 g → RowHas (λ a. X (K a) c side0) 9 h → VertexTaken K c e h
  vertex_taken p q r e f g h t u v centre behind ahead = record {
    same = v.same ∙ u.same ∙ t.same;
    centre = λ a l. v.before (point_row * 7 + a) (omega arith) ∙ u.before (point_row * 7 + a) (omega arith) ∙ centre a l;
    behind = λ a l. v.before (point_row * 8 + a) (omega arith) ∙ behind a l;
    ahead = ahead;
    fourth = λ i. fourth_kept r 9 g h v i ∙ fourth_kept q 8 f g u i ∙ fourth_kept p 7 e f t i;
    after = λ i l. v.after i (omega arith) ∙ u.after i (omega arith) ∙ t.after i (omega arith);
  }

-- ---- the rows of the corners around
pub whole_taken : (points : List ℤ) (c i : ℕ) (x y z w : ℤ) (old new : List ℤ) → x ≡ point_at points 0 c → y ≡ point_at points 1 c → z ≡ point_at points 2 c
    → w ≡ point_at points 3 c → PointPut x y z (point_row * i) 4 old new → get_or new (point_row * i + 3) (pos 0) ≡ w → WholeTaken points c i old new
whole_taken points c i x y z w old new ex ey ez ew t e = record { same = t.same; row = row; before = t.before; after = t.after }
  where
    row : (k : ℕ) → k < 4 → point_at new k i ≡ point_at points k c
    row zero l = ap (λ (n : ℕ). get_or new n (pos 0)) (omega arith) ∙ t.first ∙ ex
    row (suc zero) l = t.second ∙ ey
    row (suc (suc zero)) l = t.third ∙ ez
    row (suc (suc (suc zero))) l = e ∙ ew
    row (suc (suc (suc (suc k)))) l = absurd (omega arith)

-- the first n rows are those of the first n corners; the rows after them are as before
pub record RowsTaken (points : List ℤ) (corners : List ℕ) (n : ℕ) (old new : List ℤ) : Type 0 where
  pub same : length new ≡ length old
  pub rows : (i : ℕ) → i < n → (k : ℕ) → k < 4 → point_at new k i ≡ point_at points k (get_or corners i 0)
  pub after : (j : ℕ) → point_row * n ≤ j → get_or new j (pos 0) ≡ get_or old j (pos 0)

pub rows_none : (points : List ℤ) (corners : List ℕ) (old : List ℤ) → RowsTaken points corners 0 old old
rows_none points corners old = record { same = refl; rows = λ i l. absurd (omega arith); after = λ j l. refl }

pub rows_more : (points : List ℤ) (corners : List ℕ) (n : ℕ) (old mid new : List ℤ) → RowsTaken points corners n old mid
    → WholeTaken points (get_or corners n 0) n mid new → RowsTaken points corners (n + 1) old new
rows_more points corners n old mid new r t = record {
  same = t.same ∙ r.same;
  rows = below_more _ n (λ i l k h. t.before (point_row * i + k) (omega arith) ∙ r.rows i l k h) t.row;
  after = λ j l. t.after j (omega arith) ∙ r.after j (omega arith);
}

-- then all the rows of corner c are taken
pub corner_taken : (count : ℕ) (table : List ℕ) (points : List ℤ) (t : Drawn count table points) (c : ℕ) → c < count → (old mid new : List ℤ)
    → VertexTaken (drawn count table points) c old mid → RowsTaken points (corners_around (tabled count table) c) 7 mid new
    → CornerTaken (drawn count table points) c old new
corner_taken count table points t c h old mid new v r = record {
  same = r.same ∙ v.same;
  points = λ i l a k. r.rows i l a (omega arith);
  centre = λ a l. r.after (point_row * 7 + a) (omega arith) ∙ v.centre a l;
  behind = λ a l. r.after (point_row * 8 + a) (omega arith) ∙ v.behind a l;
  ahead = λ a l. r.after (point_row * 9 + a) (omega arith) ∙ v.ahead a l;
  quiet = λ q i. which q i (ltb i 7) (λ u. ltb→lt i 7 u) (λ u. nltb→le i 7 u);
  after = λ i l. r.after i (omega arith) ∙ v.after i l;
}
  where
    which : Quiet old → (i : ℕ) → (b : Bool) → (T b → i < 7) → (T (not b) → 7 ≤ i) → RefinedSize (point_at new 3 i)
    which q i true f g = let l = f tt in rw (r.rows i l 3 (lit< tt)) (t.fourth _ (around_in count table points t c h i l))
    which q i false f g = let l = g tt in rw (r.after (point_row * i + 3) (omega arith), v.fourth i) (q i)
