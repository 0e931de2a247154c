-- With all vertices marked the tables draw the whole mesh, and the misses of its nets are those of the numbers that building
-- writes for all corners.
use mathlib.Core.Path.{◌≡◌, sym, ap, ◌∙◌}
use mathlib.Core.List.{List}
use Prim.Native.Nat.{ℕ, zero, suc, ◌*◌, ◌<◌, ◌≤◌, max}
use native.Mathlib.Omega.{arith}
use lib.ListN.{length, get_or, replicate, length-replicate}
use lib.IntN.{ℤ, pos, nat_abs}
use Rattle.paper.specs.Mesh.{Mesh, face_count, corner_count, most_vertices}
use Rattle.paper.specs.Links.{vertex_of, link_table}
use Rattle.paper.specs.Faults.{Accepted}
use Rattle.paper.specs.Numbers.{rounded}
use Rattle.paper.specs.Refined.{Corners, RefinedMesh, corners_of, refined_point, refined_of}
use Rattle.paper.specs.Net.{End, Side, side0, side1, neighbour, across, ring, H, T, X, Y, C, a_row}
use Rattle.paper.specs.Calls.{per_corner, number_at, nets}
use Rattle.paper.specs.Borders.{Output, output_of, Wrote, written, beside}
use Rattle.paper.specs.Report.{conditions, condition, miss_on, miss_at, largest_below, largest_miss}
use Rattle.mesh.proofs.Accepted.{sound_of, few_vertices}
use Rattle.mesh.proofs.Links.{values_length}
use Rattle.surface.specs.Sound.{Agree}
use Rattle.surface.specs.Points.{point_row, point_at}
use Rattle.surface.proofs.Hull.{corners_sound}
use Rattle.surface.proofs.Rings.{ring_in, neighbour_in}
use Rattle.surface.proofs.Agree.{neighbour_same, H-same, T-same, X-same, Y-same, C-same, net_same}
use Rattle.walk.specs.Table.{Tabled, tabled}
use Rattle.mesh.specs.Tables.{Named}
use Rattle.refine.specs.Pointed.{MarkedPointed}
use Rattle.refine.proofs.Accepted.{vertex_in, table_agrees, table_sound}
use Rattle.borders.proofs.Ranges.{ranges}
use Rattle.borders.proofs.Theorem.{same_outer, same_a}
use Rattle.borders.proofs.Written.{written_is}
use Rattle.net.specs.Drawn.{drawn, Drawn}
use Rattle.border_report.specs.border_misses.Held.{net_point, net_miss, corner_miss}
use Rattle.border_report.proofs.page_laws.Largest.{largest_same}

-- ---- the largest of larger ones
larger_swap : (a b x y : ℕ) → max (max a b) (max x y) ≡ max (max a x) (max b y)
larger_swap a b x y = omega arith

largest_split : (n : ℕ) (f g : ℕ → ℕ) → largest_below n (λ i. max (f i) (g i)) ≡ max (largest_below n f) (largest_below n g)
unfolding largest_below
largest_split zero f g = omega arith
largest_split (suc n) f g = rw (largest_split n f g) (larger_swap (largest_below n f) (largest_below n g) (f n) (g n))

-- ---- a condition of equal values
condition_same : (j : ℕ) (H T X Y C b a â H' T' X' Y' C' b' a' â' : ℤ)
    → H ≡ H' → T ≡ T' → X ≡ X' → Y ≡ Y' → C ≡ C' → b ≡ b' → a ≡ a' → â ≡ â'
    → nat_abs (condition j H T X Y C b a â) ≡ nat_abs (condition j H' T' X' Y' C' b' a' â')
condition_same j H T X Y C b a â H' T' X' Y' C' b' a' â' eH eT eX eY eC eb ea eâ = rw (eH, eT, eX, eY, eC, eb, ea, eâ)

-- ---- every vertex is marked
abbrev ones : ℕ → List ℕ
ones n = replicate n 1

one_at : (n i : ℕ) → i < n → 0 < get_or (ones n) i 0
one_at zero i h = absurd (omega arith)
one_at (suc n) zero h = omega arith
one_at (suc n) (suc i) h = one_at n i (omega arith)

module _ (M : Mesh) (ok : Accepted M) where
  named_in : (c : ℕ) → c < corner_count M → vertex_of M.corners c < most_vertices
  named_in c h =
      omega (arith, vertex_in M ok c h, few_vertices (length M.coordinates) (face_count M) (corner_count M) (sound_of M ok).four)

  pub ones_named : Named M.corners (length {A = ℕ} (replicate most_vertices 1))
  ones_named c h = omega (arith, named_in c h, length-replicate {A = ℕ} most_vertices 1)

module _ (M : Mesh) (ok : Accepted M) (table : List ℕ) (old points : List ℤ) (t : Tabled (corners_of M) table)
    (long : point_row * corner_count M ≤ length old) (v : MarkedPointed M (ones most_vertices) old points) where
  abbrev n : ℕ
  n = corner_count M

  abbrev told : Corners
  told = tabled n table

  agree : Agree (corners_of M) told
  agree = table_agrees M table t

  pub drawn_all : Drawn n table points
  drawn_all = record {
    sound = table_sound M table t ok;
    table_long = t.long;
    points_long = omega (arith, v.same);
    small = λ axis l c h. v.small _;
    fourth = λ c h. v.small _;
  }

  point_is : (axis c : ℕ) → axis < 3 → c < n → refined_point rounded M axis c ≡ point_at points axis c
  point_is axis c a h = sym (v.points_are axis c a (omega arith, h, one_at most_vertices (vertex_of M.corners c) (named_in M ok c h)))

  -- what a call of building for all corners leaves
  whole : 0 < n → Wrote M (output_of M 0 n)
  unfolding nets
  whole some = record {
    links = link_table M;
    old = nets M 0 n;
    call = ranges M ok 0 n some (omega arith) (nets M 0 n) (values_length (number_at rounded M 0) 0 (per_corner * n));
  }

  module _ (axis : ℕ) (small : axis < 3) where
    abbrev K : RefinedMesh rounded
    K = refined_of rounded M axis

    abbrev L : RefinedMesh rounded
    L = drawn n table points axis

    alike : (c : ℕ) → c < n → (e : End) (j : ℕ) → K.point (ring K.corners c e j) ≡ L.point (ring K.corners c e j)
    alike c here e j = point_is axis (ring K.corners c e j) small (ring_in K.corners (corners_sound M ok) c here e j)

    -- the numbers written, and the points of the nets that are drawn
    point_same : (c : ℕ) → c < n → (k : ℕ) → k < 41 → net_point L c k ≡ written (output_of M 0 n) axis c k
    point_same c here k l =
        sym (written_is M (output_of M 0 n) (whole (omega arith)) c (omega arith, omega arith) axis small k l
        ∙ ap (λ (p : List ℤ). get_or p k (pos 0)) (net_same K L agree (corners_sound M ok) c here (alike c here)))

    miss_same : (j c : ℕ) → j < conditions → c < n → (s : Side) → net_miss L j c s ≡ miss_on M j c s axis
    unfolding net_miss
    miss_same j c few here s =
        let d = beside M c s in
        let there = neighbour_in (corners_of M) (corners_sound M ok) c here s in
        let side : neighbour L.corners c s ≡ beside M c s = sym (neighbour_same (corners_of M) told agree (corners_sound M ok) c here s) in
        let O : Output = output_of M 0 n in
        condition_same j _ _ _ _ _ _ _ _ _ _ _ _ _ _ _ _
        (sym (H-same K L agree (corners_sound M ok) c here (alike c here) s))
        (sym (T-same K L agree (corners_sound M ok) c here (alike c here) s))
        (sym (X-same K L agree (corners_sound M ok) c here (alike c here) s))
        (sym (Y-same K L agree (corners_sound M ok) c here (alike c here) s))
        (sym (C-same K L agree (corners_sound M ok) c here (alike c here) s))
        (same_outer (net_point L c) (written O axis c) (point_same c here) s j (omega arith))
        (same_a (net_point L c) (written O axis c) (point_same c here) s j few)
        (ap (λ (e : ℕ). a_row (net_point L e) (across s) j) side ∙ same_a (net_point L d) (written O axis d) (point_same d there) (across s) j few)

  corner_same : (j c : ℕ) → j < conditions → c < n → corner_miss (drawn n table points) j c ≡ max (miss_at M j c side0) (miss_at M j c side1)
  unfolding corner_miss miss_at
  corner_same j c few here =
      largest_same 3 _ (λ axis. max (miss_on M j c side0 axis) (miss_on M j c side1 axis))
      (λ axis small. rw (miss_same axis small j c few here side0, miss_same axis small j c few here side1))
      ∙ largest_split 3 (miss_on M j c side0) (miss_on M j c side1)

  pub largest_is : (j : ℕ) → j < conditions → largest_below n (corner_miss (drawn n table points) j) ≡ largest_miss M j
  unfolding largest_miss
  largest_is j few = largest_same n _ _ (λ c here. corner_same j c few here)
