-- Demand 3 speaks of every border of every accepted mesh: with the link table that linking writes and an output of the right length,
-- no range of its corners is refused.
use mathlib.Core.Path.{◌≡◌, refl, sym, ap, ◌∙◌}
use mathlib.Core.Bool.{false, not}
use Prim.Native.Nat.{ℕ, ◌+◌, ◌*◌, ◌≤◌, ◌<◌}
use native.Mathlib.Omega.{arith}
use borrow.Author.Tests.{le-ltb, eq-eqb, ne_eqb}
use lib.Dec.{eqb}
use lib.ListN.{length, get_or}
use Rattle.paper.specs.Mesh.{Mesh, corner_count}
use Rattle.paper.specs.Links.{link, link_table}
use Rattle.paper.specs.Faults.{sound, link_verdict, Accepted}
use Rattle.paper.specs.Numbers.{rounded}
use Rattle.paper.specs.Refined.{corners_of}
use Rattle.paper.specs.Calls.{per_corner, number_at, nets, fault15, fault16, fault17, build_verdict}
use Rattle.paper.specs.Borders.{Output, Wrote, output_of}
use Rattle.paper.specs.Claims.{EveryRange, EveryBorder}
use Rattle.mesh.proofs.Verdicts.{or_else_sound, single_miss, lowest_none}
use Rattle.mesh.proofs.Links.{values_length, length_link_table, link_table_at}
use Rattle.surface.proofs.Rings.{neighbour_in}
use Rattle.surface.proofs.Hull.{corners_sound}
use Rattle.borders.proofs.Theorem.{demand3}

equal : (m n : ℕ) → m ≡ n → not (eqb m n) ≡ false
equal m n e = ap not (eq-eqb m n e)

length_nets : (M : Mesh) (first count : ℕ) → length (nets M first count) ≡ per_corner * count
unfolding nets
length_nets M first count = values_length (number_at rounded M first) 0 (per_corner * count)

module _ (M : Mesh) (ok : Accepted M) (first count : ℕ) (some : 0 < count) (fits : first + count ≤ corner_count M) where
  no15 : (c : ℕ) → c < corner_count M → fault15 M (link_table M) c ≡ false
  unfolding fault15
  no15 c l = equal (get_or (link_table M) c 0) (link M.sides M.corners c) (link_table_at M c l)

  no16 : fault16 M first count ≡ false
  unfolding fault16
  no16 = rw (ne_eqb count 0 (λ e. omega arith), le-ltb (corner_count M) (first + count) fits)

  no17 : (n : ℕ) → n ≡ per_corner * count → fault17 count n ≡ false
  unfolding fault17
  no17 n e = equal n (per_corner * count) e

  not_refused : (n : ℕ) → n ≡ per_corner * count → build_verdict M (link_table M) first count n ≡ sound
  unfolding build_verdict link_verdict
  not_refused n e =
      or_else_sound _ (or_else_sound _ ok ∙ single_miss 14 (length (link_table M)) (equal (length (link_table M)) (corner_count M) (length_link_table M)))
      ∙ or_else_sound _ (lowest_none 15 (corner_count M) (fault15 M (link_table M)) no15)
      ∙ or_else_sound _ (single_miss 16 first no16)
      ∙ single_miss 17 n (no17 n e)

pub ranges : EveryRange
ranges M ok first count some fits old e = record { answers = sym (not_refused M ok first count some fits (length old) e); holds = refl }

-- every border of an accepted mesh, as one call for all corners leaves it
pub every_border : EveryBorder
every_border M ok c here s axis small =
    let whole : Output = output_of M 0 (corner_count M) in
    let old = nets M 0 (corner_count M) in
    let call = ranges M ok 0 (corner_count M) (omega arith) (omega arith) old (length_nets M 0 (corner_count M)) in
    let w : Wrote M (output_of M 0 (corner_count M)) = record { links = link_table M; old = old; call = call } in
    let d = neighbour_in (corners_of M) (corners_sound M ok) c here s in
    demand3 M whole whole w w c s (omega arith, omega arith) (omega arith, omega (arith, d)) axis small
