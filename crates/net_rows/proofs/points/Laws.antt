-- Numbers placed in fours: one more, row after row, and the whole net.
use mathlib.Core.Path.{◌≡◌, refl, sym, ap, ◌∙◌, subst}
use mathlib.Core.Bool.{Bool, true, false, not}
use mathlib.Core.List.{List, [], ◌∷◌, ◌++◌, append_assoc}
use Prim.Native.Nat.{ℕ, ◌+◌, ◌-◌, ◌*◌, ◌≤◌, ◌<◌}
use native.Mathlib.Nat.{mul-le-mul_left}
use native.Mathlib.Numerals.{add-one}
use native.Mathlib.Omega.{arith}
use lib.Dec.{T, ltb, ltb→lt, nltb→le}
use lib.ListN.{length, get_or, take, set, length-set, length-append, get_or-append}
use lib.Seq.{take-suc, take_all, get_or-append-add, get_or-set_same, get_or-set_other, length-take-le}
use lib.IntN.{ℤ, pos}
use Rattle.paper.specs.Numbers.{rounded}
use Rattle.paper.specs.Refined.{RefinedMesh}
use Rattle.paper.specs.Net.{side0, side1, side2, side3, net, net_points, rows, b_grid, a_grid}
use Rattle.net_rows.specs.declared.sides.NetSides.{NetSides}
use Rattle.net_rows.specs.sides.Values.{FourSides, FourSized}
use Rattle.net_rows.specs.declared.rows.RowValues.{RowValues}
use Rattle.net_rows.specs.rows.SideRows.{RowsOf, AllRows, IsAGrid, IsBGrid, Square}
use Rattle.net_rows.proofs.rows.Laws.{plain, value_is}
use Rattle.net_rows.specs.points.Placed.{PointsPlaced}

pub placed_none : (old : List ℤ) (from : ℕ) → PointsPlaced old old from []
placed_none old from = record { same = refl; points_are = λ p h. absurd (omega arith); others = λ i n. refl }

pub placed_one : (old : List ℤ) (from : ℕ) (v : ℤ) → from < length old → PointsPlaced old (set old from v) from (v ∷ [])
placed_one old from v h = record {
  same = length-set old from v;
  points_are = λ p l. let e : p ≡ 0 = omega arith in rw e (ap (λ (i : ℕ). get_or (set old from v) i (pos 0)) (none from) ∙ get_or-set_same old from v (pos 0) h);
  others = λ i n. get_or-set_other old from i v (pos 0) (λ e. n 0 (omega arith) (e ∙ sym (none from)));
}
  where
    none : (from : ℕ) → from + 4 * 0 ≡ from
    none from = omega arith

-- two runs, the second where the first ends
pub placed_append : (old mid new : List ℤ) (from at : ℕ) (xs ys : List ℤ) → at ≡ from + 4 * length xs → PointsPlaced old mid from xs → PointsPlaced mid new at ys
    → PointsPlaced old new from (xs ++ ys)
placed_append old mid new from at xs ys e p q = record {
  same = q.same ∙ p.same;
  points_are = λ k h. which k (simp length-append at h) (ltb k (length xs)) (λ t. ltb→lt k (length xs) t) (λ t. nltb→le k (length xs) t);
  others = λ i n.
      q.others i (λ j l f. n (length xs + j) (simp length-append (omega arith)) (omega arith))
      ∙ p.others i (λ j l f. n j (simp length-append (omega arith)) f);
}
  where
    which : (k : ℕ) → k < length xs + length ys → (b : Bool) → (T b → k < length xs) → (T (not b) → length xs ≤ k)
        → get_or new (from + 4 * k) (pos 0) ≡ get_or (xs ++ ys) k (pos 0)
    which k h true f g =
        let l : k < length xs = f tt in
        q.others (from + 4 * k) (λ j m w. omega arith) ∙ p.points_are k l ∙ sym (get_or-append xs ys (pos 0) k l)
    which k h false f g =
        let l : length xs ≤ k = g tt in
        let d : k ≡ length xs + (k - length xs) = omega arith in
        let w : from + 4 * k ≡ at + 4 * (k - length xs) = omega arith in
        ap (λ (i : ℕ). get_or new i (pos 0)) w ∙ q.points_are (k - length xs) (omega arith) ∙ sym (get_or-append-add xs ys (k - length xs) (pos 0))
        ∙ ap (λ (i : ℕ). get_or (xs ++ ys) i (pos 0)) (sym d)

-- ---- a row, number by number
pub row_step : (old mid : List ℤ) (from at j : ℕ) (row : List ℤ) → j < length row → at ≡ from + 4 * j → at < length mid → PointsPlaced old mid from (take j row)
    → PointsPlaced old (set mid at (get_or row j (pos 0))) from (take (j + 1) row)
row_step old mid from at j row l e h p =
    rw (add-one, take-suc row j (pos 0) l)
    (placed_append old mid _ from at (take j row) (get_or row j (pos 0) ∷ [])
    (e ∙ ap (λ (n : ℕ). from + 4 * n) (sym (length-take-le j row (omega arith)))) p (placed_one mid at (get_or row j (pos 0)) h))

-- ---- a grid, row by row; its rows have n numbers each
rows_append : (g h : List (List ℤ)) → rows (g ++ h) ≡ rows g ++ rows h
rows_append [] h = refl
rows_append (r ∷ g) h = ap (λ (l : List ℤ). r ++ l) (rows_append g h) ∙ sym (append_assoc r (rows g) (rows h))

rows_more : (g : List (List ℤ)) (i : ℕ) → i < length g → rows (take (i + 1) g) ≡ rows (take i g) ++ get_or g i []
rows_more g i l = rw (add-one, take-suc g i [] l) (rows_append (take i g) (get_or g i [] ∷ []) ∙ ap (λ (l : List ℤ). rows (take i g) ++ l) (empty (get_or g
    i [])))
  where
    empty : (l : List ℤ) → l ++ [] ≡ l
    empty [] = refl
    empty (x ∷ l) = ap (λ (k : List ℤ). x ∷ k) (empty l)

-- after i rows
abbrev pub RowsPlaced : List ℤ → List ℤ → ℕ → List (List ℤ) → ℕ → ℕ → Type 0
RowsPlaced old new from g n i = (length (rows (take i g)) ≡ n * i) × PointsPlaced old new from (rows (take i g))

pub grid_step : (old mid new : List ℤ) (from at : ℕ) (g : List (List ℤ)) (n i : ℕ) → i < length g → length (get_or g i []) ≡ n → at ≡ from + 4 * (n * i)
    → RowsPlaced old mid from g n i → PointsPlaced mid new at (get_or g i []) → RowsPlaced old new from g n (i + 1)
grid_step old mid new from at g n i l r e p q = (
  rw (rows_more g i l) (length-append (rows (take i g)) (get_or g i []) ∙ more p.0 r),
  rw (rows_more g i l) (placed_append old mid new from at (rows (take i g)) (get_or g i []) (e ∙ ap (λ (k : ℕ). from + 4 * k) (sym p.0)) p.1 q),
)
  where
    more : {a b : ℕ} → a ≡ n * i → b ≡ n → a + b ≡ n * (i + 1)
    more e f = omega arith

-- a grid that is written row by row: before the first row, at row i, and after the last
pub grid_start : (old : List ℤ) (from n : ℕ) (g : List (List ℤ)) → RowsPlaced old old from g n 0
grid_start old from n g = (omega arith, placed_none old from)

pub grid_row : (old out : List ℤ) (from at : ℕ) (g : List (List ℤ)) (n i : ℕ) → Square n g → i < n → at ≡ from + 4 * (n * i)
    → from + 4 * (n * n) ≤ length old + 3 → RowsPlaced old out from g n i → at + 4 * length (get_or g i []) ≤ length out + 3
grid_row old out from at g n i q l e room p =
    let h : i + 1 ≤ n = omega arith in
    omega (arith, mul-le-mul_left n h, q i l, p.1.same)

pub grid_end : (old new : List ℤ) (from : ℕ) (g : List (List ℤ)) (n i : ℕ) → length g ≤ i → RowsPlaced old new from g n i → PointsPlaced old new from (rows g)
grid_end old new from g n i l p = subst (λ (h : List (List ℤ)). PointsPlaced old new from (rows h)) (take_all i g l) p.1

-- ---- the grids of a corner, as the calls give them
module _ (K : RefinedMesh rounded) (c : ℕ) (n : NetSides) (f : FourSides K c n) (z : FourSized n) (r0 r1 r2 r3 : RowValues)
    (o0 : RowsOf n.side0 n.side3 n.side1 n.side2 r0) (o1 : RowsOf n.side1 n.side2 n.side0 n.side3 r1)
    (o2 : RowsOf n.side2 n.side1 n.side3 n.side0 r2) (o3 : RowsOf n.side3 n.side0 n.side2 n.side1 r3) where
  all_rows : AllRows K c r0 r1 r2 r3
  all_rows =
      let i0 = f.side0 in
      let i1 = f.side1 in
      let i2 = f.side2 in
      let i3 = f.side3 in
      record {
        rows0 = o0.rows K c side0 i0 i3 i1 i2;
        rows1 = o1.rows K c side1 i1 i2 i0 i3;
        rows2 = o2.rows K c side2 i2 i1 i3 i0;
        rows3 = o3.rows K c side3 i3 i0 i2 i1;
      }

  pub a_is : (a : List (List ℤ)) → IsAGrid r0 r1 r2 r3 a → a ≡ a_grid K c
  a_is a h = h.grid K c all_rows

  pub b_is : (a b : List (List ℤ)) → IsAGrid r0 r1 r2 r3 a
      → IsBGrid (plain n.side0.head) (plain n.side0.tail) (plain n.side2.head) (plain n.side3.tail) r0 r1 r2 r3 a b → b ≡ b_grid K c
  b_is a b ha hb =
      hb.grid K c
      (record {
        end0 = value_is n.side0.head _ z.side0.head f.side0.head;
        end1 = value_is n.side0.tail _ z.side0.tail f.side0.tail;
        end2 = value_is n.side2.head _ z.side2.head f.side2.head;
        end3 = value_is n.side3.tail _ z.side3.tail f.side3.tail;
      })
      all_rows (a_is a ha)

-- ---- the net in a lane: its b grid, then its a grid
pub lane_laid : (K : RefinedMesh rounded) (c k : ℕ) (old mid new : List ℤ) → PointsPlaced old mid k (rows (b_grid K c)) → PointsPlaced mid new (k + 100) (rows (a_grid K c))
    → (p : ℕ) → p < net_points → get_or new (k + 4 * p) (pos 0) ≡ get_or (net K c) p (pos 0)
unfolding net b_grid a_grid
lane_laid K c k old mid new p q i h =
    let r : PointsPlaced old new k (net K c) = placed_append old mid new k (k + 100) (rows (b_grid K c)) (rows (a_grid K c)) refl p q in
    r.points_are i h

pub other_lanes : (k : ℕ) (old mid new : List ℤ) (xs ys : List ℤ) → k < 4 → PointsPlaced old mid k xs → PointsPlaced mid new (k + 100) ys
    → (j p : ℕ) → j < 4 → (j ≡ k → ⊥) → get_or new (j + 4 * p) (pos 0) ≡ get_or old (j + 4 * p) (pos 0)
other_lanes k old mid new xs ys l p q j i m n =
    q.others (j + 4 * i) (λ u h e. n (omega arith)) ∙ p.others (j + 4 * i) (λ u h e. n (omega arith))
