-- What the numbers of single corners hold, the rows that are read from them, and the misses of a corner.
use mathlib.Core.Path.{◌≡◌, refl, sym, ap, ◌∙◌, subst}
use mathlib.Core.Logic.{⊎_elim}
use mathlib.Core.List.{List}
use Prim.Native.Nat.{ℕ, zero, suc, ◌+◌, ◌-◌, ◌*◌, ◌<◌, ◌≤◌, max}
use native.Mathlib.Numerals.{add-one}
use native.Mathlib.Nat.{zero-max}
use native.Mathlib.Omega.{arith}
use lib.Dec.{ltb, lit<}
use borrow.Author.Tests.{ltb-true, ltb-false}
use lib.ListN.{length, get_or}
use lib.IntN.{ℤ, pos, nat_abs}
use Rattle.paper.specs.Scan.{values_from}
use Rattle.pages.proofs.Lists.{value_at_lem}
use Rattle.paper.specs.Corners.{sum_of, first_of, sides_of, previous}
use Rattle.paper.specs.Numbers.{rounded}
use Rattle.paper.specs.Refined.{RefinedMesh}
use Rattle.paper.specs.Net.{Side, side0, side1, neighbour, across, net, net_points, outer_row, a_row}
use Rattle.paper.specs.Calls.{per_corner}
use Rattle.paper.specs.Report.{conditions, condition, largest_below}
use Rattle.mesh.proofs.Scans.{ways}
use Rattle.mesh.proofs.Faces.{first_from_lem, first_to, first_ends, first_same, sides_same, previous_first}
use Rattle.surface.proofs.Sizes.{net_size}
use Rattle.walk.specs.Table.{to_next, to_previous, sides_here, entry}
use Rattle.net_rows.specs.sides.Values.{IsSide}
use Rattle.net_rows.specs.declared.sides.SideValues.{SideValues}
use Rattle.net.specs.Drawn.{drawn, Drawn}
use Rattle.building.specs.writing.Written.{Faced, NetsWritten}
use Rattle.building.proofs.writing.Laws.{run_of}
use Rattle.border_report.specs.border_misses.Held.{point_in, NetHeld, NetHeldAll, WholeFace, four_of, net_point, net_miss, corner_miss}

-- ---- the larger misses, by the place of their condition
pub larger_at : (f : ℕ → ℕ) (r : List ℕ) → r ≡ values_from f 0 conditions → (j : ℕ) → j < conditions → get_or r j 0 ≡ f j
larger_at f r e j few = rw e (value_at_lem f conditions j few)

-- ---- the numbers of corner j of those that are written
pub held_of : (n : ℕ) (table : List ℕ) (points : List ℤ) → Drawn n table points → (first count : ℕ) → first + count ≤ n → (out : List ℤ)
    → per_corner * count ≤ length out → NetsWritten (drawn n table points) first count out → (j : ℕ) → j < count
    → NetHeldAll (drawn n table points) (first + j) out (per_corner * j)
unfolding NetsWritten
held_of n table points d first count here out room w j l axis small = record {
  points_are = is;
  small = record { long = omega arith; small = λ k h. rw (is k h) (net_size K d.sound (d.small axis small) (first + j) (omega arith) k) };
}
  where
    K : RefinedMesh rounded
    K = drawn n table points axis

    is : (k : ℕ) → k < net_points → point_in out (per_corner * j) axis k ≡ get_or (net K (first + j)) k (pos 0)
    is k h = w axis j k small l h

-- of one corner alone
pub held_one : (n : ℕ) (table : List ℕ) (points : List ℤ) → Drawn n table points → (c : ℕ) → c < n → (out : List ℤ) → per_corner ≤ length out
    → NetsWritten (drawn n table points) c 1 out → NetHeldAll (drawn n table points) c out 0
held_one n table points d c here out room w =
    subst (λ (e : ℕ). NetHeldAll (drawn n table points) e out 0) (let e : c + 0 ≡ c = omega arith in e)
    (held_of n table points d c 1 (omega arith) out (omega arith) w 0 (omega arith))

-- ---- the corners of a face, and the first corner of the next face
module _ (n : ℕ) (table : List ℕ) (points : List ℤ) (d : Drawn n table points) (f : Faced n table) (start : ℕ) (here : start < n)
    (first : first_of f.sides start ≡ start) where
  abbrev sides : List ℕ
  sides = f.sides

  listed : start < sum_of sides
  listed = omega (arith, f.all)

  counted : entry table sides_here start ≡ sides_of sides start
  counted = f.rounds.counts start listed

  pub whole_face : (k : ℕ) → k ≡ entry table sides_here start → WholeFace table n start k
  whole_face k e =
      let least = d.sound.sides_least start here in
      let p : previous sides start ≡ first_of sides start + sides_of sides start - 1 = previous_first sides start (omega arith) in
      record {
        some = omega arith;
        within = omega (arith, first_ends sides start listed, counted, f.all);
        run = run_of n table points d f start k here (omega (arith, counted));
        round = λ j l.
            let q : entry table to_previous start ≡ start + j = omega (arith, f.rounds.previouses start listed, p, counted) in
            ap (entry table to_next) (sym q) ∙ d.sound.next_previous start here;
      }

  pub next_first : (k : ℕ) → k ≡ entry table sides_here start → start + k < n → first_of sides (start + k) ≡ start + k
  next_first k e l =
      let c = start + k in
      let hc : c < sum_of sides = omega (arith, f.all) in
      let least = d.sound.sides_least start here in
      let a = first_from_lem sides c hc in
      let b = first_to sides c hc in
      ⊎_elim
      (λ t. let m = ltb-true (first_of sides c) c t in
      let x = first_same sides c hc (c - 1) (omega arith) (omega arith) in
      let y = first_same sides start listed (c - 1) (omega (arith, counted)) (omega (arith, counted)) in
      let u = sides_same sides c hc (c - 1) (omega arith) (omega arith) in
      let v = sides_same sides start listed (c - 1) (omega (arith, counted)) (omega (arith, counted)) in
      absurd (omega (arith, counted)))
      (λ t. let m = ltb-false (first_of sides c) c t in omega arith)
      (ways (ltb (first_of sides c) c))

-- ---- four points of a row
pub four_same : (f g : ℕ → ℤ) → ((k : ℕ) → k < net_points → f k ≡ g k) → (p q r s : ℕ)
    → (p < net_points) × (q < net_points) × (r < net_points) × (s < net_points) → (h : ℕ → ℤ) → (g p ≡ h 0) × (g q ≡ h 1) × (g r ≡ h 2) × (g s ≡ h 3)
    → (j : ℕ) → j < conditions → four_of f p q r s j ≡ h j
four_same f g same p q r s l h e zero few = same p l.0 ∙ e.0
four_same f g same p q r s l h e (suc zero) few = same q l.1 ∙ e.1
four_same f g same p q r s l h e (suc (suc zero)) few = same r l.2 ∙ e.2
four_same f g same p q r s l h e (suc (suc (suc zero))) few = same s l.3 ∙ e.3
four_same f g same p q r s l h e (suc (suc (suc (suc j)))) few = absurd (omega arith)

-- ---- the misses of sides 0 and 1 on an axis, from the rows at their places
module _ (K : RefinedMesh rounded) (c axis : ℕ) where
  miss_is : (s : Side) (v : SideValues) → IsSide K c s v → (j : ℕ) (b a o : ℤ) → b ≡ outer_row (net_point K c) s j → a ≡ a_row (net_point K c) s j
      → o ≡ a_row (net_point K (neighbour K.corners c s)) (across s) j
      → nat_abs (condition j v.head v.tail v.x v.y v.cosine b a o) ≡ net_miss K j c s
  unfolding net_miss
  miss_is s v i j b a o eb ea eo = rw (i.head, i.tail, i.x, i.y, i.cosine, eb, ea, eo)

  module _ (here there : List ℤ) (at other : ℕ) (h : NetHeld K c axis here at) where
    pub miss0 : NetHeld K (K.corners.link c) axis there other → (v : SideValues) → IsSide K c side0 v → (j : ℕ) → j < conditions → (b a o : ℤ)
        → b ≡ four_of (point_in here at axis) 0 1 2 3 j → a ≡ four_of (point_in here at axis) 25 26 27 28 j → o ≡ four_of (point_in there other axis) 25 29 33 37 j
        → nat_abs (condition j v.head v.tail v.x v.y v.cosine b a o) ≡ net_miss K j c side0
    miss0 t v i j few b a o eb ea eo =
        let p = net_point K c in
        let q = net_point K (K.corners.link c) in
        miss_is side0 v i j b a o
        (eb ∙ four_same (point_in here at axis) p h.points_are 0 1 2 3 (lit< tt, lit< tt, lit< tt, lit< tt) (outer_row p side0) (refl, refl, refl, refl) j few)
        (ea ∙ four_same (point_in here at axis) p h.points_are 25 26 27 28 (lit< tt, lit< tt, lit< tt, lit< tt) (a_row p side0) (refl, refl, refl, refl) j few)
        (eo
        ∙ four_same (point_in there other axis) q t.points_are 25 29 33 37 (lit< tt, lit< tt, lit< tt, lit< tt) (a_row q (across side0)) (refl, refl, refl, refl)
        j few)

    pub miss1 : NetHeld K (K.corners.next c) axis there other → (v : SideValues) → IsSide K c side1 v → (j : ℕ) → j < conditions → (b a o : ℤ)
        → b ≡ four_of (point_in here at axis) 24 19 14 9 j → a ≡ four_of (point_in here at axis) 40 36 32 28 j → o ≡ four_of (point_in there other axis) 40 39 38 37 j
        → nat_abs (condition j v.head v.tail v.x v.y v.cosine b a o) ≡ net_miss K j c side1
    miss1 t v i j few b a o eb ea eo =
        let p = net_point K c in
        let q = net_point K (K.corners.next c) in
        miss_is side1 v i j b a o
        (eb ∙ four_same (point_in here at axis) p h.points_are 24 19 14 9 (lit< tt, lit< tt, lit< tt, lit< tt) (outer_row p side1) (refl, refl, refl, refl) j few)
        (ea ∙ four_same (point_in here at axis) p h.points_are 40 36 32 28 (lit< tt, lit< tt, lit< tt, lit< tt) (a_row p side1) (refl, refl, refl, refl) j few)
        (eo
        ∙ four_same (point_in there other axis) q t.points_are 40 39 38 37 (lit< tt, lit< tt, lit< tt, lit< tt) (a_row q (across side1)) (refl, refl, refl, refl)
        j few)

-- ---- a corner's on all axes, and the largest so far
pub corner_is : (K : ℕ → RefinedMesh rounded) (j c r xy x y z : ℕ) → r ≡ max xy z → xy ≡ max x y
    → x ≡ max (net_miss (K 0) j c side0) (net_miss (K 0) j c side1) → y ≡ max (net_miss (K 1) j c side0) (net_miss (K 1) j c side1)
    → z ≡ max (net_miss (K 2) j c side0) (net_miss (K 2) j c side1) → r ≡ corner_miss K j c
unfolding corner_miss largest_below
corner_is K j c r xy x y z er exy ex ey ez = rw (er, exy, ex, ey, ez, zero-max)

pub none_so_far : (K : ℕ → RefinedMesh rounded) (j : ℕ) → largest_below 0 (corner_miss K j) ≡ 0
unfolding largest_below
none_so_far K j = refl

pub one_more_lem : (K : ℕ → RefinedMesh rounded) (j c r a b : ℕ) → r ≡ max a b → a ≡ largest_below c (corner_miss K j) → b ≡ corner_miss K j c
    → r ≡ largest_below (c + 1) (corner_miss K j)
unfolding largest_below
one_more_lem K j c r a b er ea eb = rw (add-one c) (omega arith)
