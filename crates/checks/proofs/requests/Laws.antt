-- What each test of the code says of its fault.
use mathlib.Core.Path.{◌≡◌, ap, ◌∙◌, sym}
use mathlib.Core.Bool.{true, false, not, ◌||◌}
use mathlib.Core.List.{List}
use Prim.Native.Nat.{ℕ, ◌+◌, ◌*◌, ◌<◌, ◌≤◌}
use native.Mathlib.Omega.{arith}
use lib.Dec.{eqb, ltb}
use lib.ListN.{get_or}
use borrow.Author.Tests.{eqb-true, eqb-false, eq-eqb, ne_eqb, lt-ltb, le-ltb, ltb-false, not-false}
use Rattle.paper.specs.Mesh.{Mesh, corner_count}
use Rattle.paper.specs.Links.{link}
use Rattle.paper.specs.Faults.{Verdict, sound, ◌or_else◌, single, verdict, link_verdict}
use Rattle.paper.specs.Calls.{per_corner, fault15, fault16, fault17, build_verdict}
use Rattle.walk.specs.Table.{to_link, entry, Column}
use Rattle.mesh.proofs.Ranges.{or_left, or_right, or_none, none_left, none_right}
use Rattle.mesh.proofs.Verdicts.{single_sound, sound_left, sound_right, or_else_assoc}
use Rattle.checks.specs.Request.{links_faults, range_faults}

-- 15, by the table of the mesh's links
module _ (M : Mesh) (table links : List ℕ) (t : Column table to_link (link M.sides M.corners) (corner_count M)) (c : ℕ) (h : c < corner_count M)
  where
    pub links_differ : (get_or links c 0 ≡ entry table to_link c → ⊥) → fault15 M links c ≡ true
    unfolding fault15
    links_differ n = ap not (ne_eqb _ _ (λ q. n (q ∙ sym (t c h))))

    pub links_agree : get_or links c 0 ≡ entry table to_link c → fault15 M links c ≡ false
    unfolding fault15
    links_agree e = ap not (eq-eqb _ _ (e ∙ t c h))

-- 16
module _ (corners first count : ℕ) where
  pub range_empty : count ≡ 0 → eqb count 0 || ltb corners (first + count) ≡ true
  range_empty e = or_left _ _ (eq-eqb count 0 e)

  pub range_past : corners < first + count → eqb count 0 || ltb corners (first + count) ≡ true
  range_past h = or_right (eqb count 0) _ (lt-ltb _ _ h)

  pub range_fits : (count ≡ 0 → ⊥) → first + count ≤ corners → eqb count 0 || ltb corners (first + count) ≡ false
  range_fits n h = or_none _ _ (ne_eqb count 0 n) (le-ltb _ _ h)

  pub range_of : single 16 (eqb count 0 || ltb corners (first + count)) first ≡ sound → (0 < count) × (first + count ≤ corners)
  range_of e =
      let b = single_sound 16 _ _ e in
      (positive (eqb-false count 0 (none_left (eqb count 0) _ b)), ltb-false corners (first + count) (none_right (eqb count 0) _ b))
    where
      positive : (count ≡ 0 → ⊥) → 0 < count
      positive n = omega (arith, n)

-- 17
module _ (count room : ℕ) where
  pub room_differs : (room ≡ per_corner * count → ⊥) → fault17 count room ≡ true
  unfolding fault17
  room_differs n = ap not (ne_eqb room (per_corner * count) n)

  pub room_fits : room ≡ per_corner * count → fault17 count room ≡ false
  unfolding fault17
  room_fits e = ap not (eq-eqb room (per_corner * count) e)

-- 14
pub length_of : (links corners : ℕ) → single 14 (not (eqb links corners)) links ≡ sound → links ≡ corners
length_of links corners e = eqb-true _ _ (not-false _ (single_sound 14 _ _ e))

-- a check by the corner count is one of the mesh
module _ (M : Mesh) (corners : ℕ) (e : corner_count M ≡ corners) where
  pub as_14 : {v : Verdict} (links : ℕ) → v ≡ single 14 (not (eqb links corners)) links → v ≡ single 14 (not (eqb links (corner_count M))) links
  as_14 links h = rw e h

  pub as_16 : {v : Verdict} (first count : ℕ) → v ≡ single 16 (eqb count 0 || ltb corners (first + count)) first → v ≡ single 16 (fault16 M first count) first
  unfolding fault16
  as_16 first count h = rw e h

-- building's verdict is that of the mesh, then that of the links, then that of the range
pub verdict_is : (M : Mesh) (links : List ℕ) (first count n : ℕ)
    → build_verdict M links first count n ≡ verdict M or_else links_faults M links or_else range_faults M first count n
unfolding build_verdict link_verdict links_faults range_faults
verdict_is M links first count n = simp or_else_assoc

-- a range with no fault
pub record Granted (M : Mesh) (first count n : ℕ) : Type 0 where
  pub some : 0 < count
  pub within : first + count ≤ corner_count M
  pub room : n ≡ per_corner * count

pub granted : (M : Mesh) (first count n : ℕ) → range_faults M first count n ≡ sound → Granted M first count n
unfolding range_faults fault16 fault17
granted M first count n e =
    record {
      some = (range_of (corner_count M) first count (sound_left _ _ e)).0;
      within = (range_of (corner_count M) first count (sound_left _ _ e)).1;
      room = eqb-true _ _ (not-false _ (single_sound 17 _ _ (sound_right _ _ e)));
    }
