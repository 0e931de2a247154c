-- Laws of a call for tangents: what a corner's net gives is what the list of tangents has there, and what the call answers and leaves.
use mathlib.Core.Path.{◌≡◌, refl, sym, ap, ◌∙◌, subst}
use mathlib.Core.List.{List}
use Rattle.std.specs.Prelude.{Ok, Err}
use Prim.Native.Nat.{ℕ, zero, suc, ◌+◌, ◌-◌, ◌*◌, ◌/◌, ◌%◌, ◌≤◌, ◌<◌}
use native.Mathlib.Omega.{arith}
use lib.Dec.{ltb}
use borrow.Author.Tests.{lt-ltb, le-ltb, ne_eqb}
use lib.ListN.{length, get_or}
use lib.IntN.{ℤ, pos}
use Rattle.paper.specs.Mesh.{Mesh, corner_count}
use Rattle.paper.specs.Scan.{values_from}
use Rattle.paper.specs.Corners.{start_of, first_of, position_of}
use Rattle.paper.specs.Net.{Side, side0, side1, side2}
use Rattle.paper.specs.Faults.{sound, fault, single, Accepted, Told}
use Rattle.paper.specs.Calls.{nets}
use Rattle.paper.specs.declared.Refusal.{Refusal}
use Rattle.paper.specs.File.{no_room, begins}
use Rattle.paper.specs.Sampling.{side_at}
use Rattle.paper.specs.Triangles.{groups, level, segments, point_groups, turn_weights, owned, points_before, level_verdict}
use Rattle.paper.specs.Tangents.{tangent_pair, tangent_number, own_tangent, tangent_at, tangent_list, tangent_verdict, TangentsFilled}
use Rattle.mesh.proofs.Links.{values_length}
use Rattle.mesh.proofs.Verdicts.{single_hit, single_miss, past, or_else_fault, refusing}
use Rattle.closing.proofs.Partners.{Leveled}
use Rattle.closing.proofs.Numbered.{In, group_is, number_is}
use Rattle.closing.proofs.Calls.{points_between}
use Rattle.net_points.specs.declared.writing.Shape.{Shape}
use Rattle.strips.specs.PointRows.{Fills}
use Rattle.triangles.specs.Owned.{ShapeOf}
use Rattle.net_points.specs.writing.Shapes.{shape_start, shape_size}
use Rattle.net_tangents.specs.Paired.{shape_pair, PairAim, NetPaired}
use Rattle.triangles.specs.tangent_filling.Paired.{tangents_before, TangentsPut, PairsFilled}
use Rattle.triangles.proofs.Own.{in_group, all_is, place_below}
use Rattle.strips.proofs.Stood.{filled_list}

-- ---- the list
module _ (M : Mesh) (levels : List ℕ) where
  pub tangents_between : (c d : ℕ) → c ≤ d → d ≤ corner_count M → tangents_before M levels c ≤ tangents_before M levels d
  tangents_between c d h l = omega (arith, points_between M levels c d h l)

  module _ (n c g p : ℕ) (i : In M levels n c g p) where
    position_is : position_of (point_groups M levels) n ≡ p
    unfolding first_of
    position_is = rw (group_is M levels n c g p i) (let z : n - start_of (point_groups M levels) (groups * c + g) ≡ p = omega (arith, number_is M levels n c g p i) in z)

    tangent_is : (e : ℕ) → e < 6 → tangent_at M levels (6 * n + e) ≡ own_tangent M levels c g p e
    unfolding tangent_at
    tangent_is e l =
        let q : (6 * n + e) / 6 ≡ n = omega arith in let f : (6 * n + e) % 6 ≡ e = omega arith in
        let u : (groups * c + g) / groups ≡ c = omega (arith, i.group) in let v : (groups * c + g) % groups ≡ g = omega (arith, i.group) in
        rw (q, f, group_is M levels n c g p i, position_is, u, v)

-- ---- a corner
module _ (M : Mesh) (levels : List ℕ) (ok : Accepted M) (leveled : Leveled M levels) (c : ℕ) (h : c < corner_count M) (s : Shape) (is : ShapeOf M levels c s)
    (third : ℕ) (third-is : third ≡ segments M levels c side2) where
  abbrev net : List ℤ
  net = nets M c 1

  tangent_inner : (t : Side) (k j e : ℕ) → tangent_number M levels c t (suc k) j e ≡ get_or (tangent_pair net t (turn_weights t (level levels c) (suc k) j)) e (pos 0)
  unfolding tangent_number
  tangent_inner t k j e = ap (λ (N : ℕ). get_or (tangent_pair net t (turn_weights t N (suc k) j)) e (pos 0)) (rw (ne_eqb (suc k) 0 (λ q. omega arith)))

  pair_is : (g place e : ℕ) → own_tangent M levels c g place e ≡ get_or (shape_pair net s third g place) e (pos 0)
  unfolding own_tangent owned shape_pair tangent_number
  pair_is zero place e = ap (λ (x : ℕ). get_or (tangent_pair net side0 (turn_weights side0 x 0 0)) e (pos 0)) (sym is.first)
  pair_is (suc zero) place e = ap (λ (x : ℕ). get_or (tangent_pair net side1 (turn_weights side1 x 0 0)) e (pos 0)) (sym is.second)
  pair_is (suc (suc zero)) place e = ap (λ (x : ℕ). get_or (tangent_pair net side2 (turn_weights side2 x 0 0)) e (pos 0)) (sym third-is)
  pair_is (suc (suc (suc zero))) place e = ap (λ (x : ℕ). get_or (tangent_pair net side0 (turn_weights side0 x 0 (place + 1))) e (pos 0)) (sym is.first)
  pair_is (suc (suc (suc (suc zero)))) place e = ap (λ (x : ℕ). get_or (tangent_pair net side1 (turn_weights side1 x 0 (place + 1))) e (pos 0)) (sym is.second)
  pair_is (suc (suc (suc (suc (suc k))))) place e =
      tangent_inner (side_at (place / (level levels c - suc k))) k (place % (level levels c - suc k)) e
      ∙ ap (λ (n : ℕ). get_or (tangent_pair net (side_at (place / (n - suc k))) (turn_weights (side_at (place / (n - suc k))) n (suc k) (place % (n - suc k)))) e (pos 0)) (sym is.levelled)

  pair_aim : (at : ℕ) (f : ℕ → ℤ) → ((x : ℕ) → x < 6 * shape_size s → f (at + x) ≡ tangent_at M levels (3 * tangents_before M levels c + x)) → PairAim net s third at f
  pair_aim at f values g place e l b a =
      let i = in_group M levels ok leveled c h s is g place l b in
      ap f (let z : at + 6 * (shape_start s g + place) + e ≡ at + (6 * (shape_start s g + place) + e) = omega arith in z)
      ∙ values (6 * (shape_start s g + place) + e) (omega (arith, place_below M levels ok leveled c h s is g place l b))
      ∙ ap (tangent_at M levels) (let z : 3 * (2 * points_before M levels c) + (6 * (shape_start s g + place) + e) ≡ 6 * (points_before M levels c + (shape_start s g + place)) + e = omega arith in z)
      ∙ tangent_is M levels (points_before M levels c + (shape_start s g + place)) c g place i e a ∙ pair_is g place e

  pub paired : (numbers : List ℤ) → numbers ≡ net → (at to : ℕ) (old out : List ℤ) → to ≡ at + 6 * shape_size s → NetPaired numbers s third at old out
      → TangentsPut M levels (tangents_before M levels c) (tangents_before M levels (c + 1)) at to old out
  paired numbers as-net at to old out e r =
      let q = all_is M levels ok leveled c h s is in
      let n : 6 * shape_size s ≡ 3 * (2 * points_before M levels (c + 1) - 2 * points_before M levels c) = omega arith in
      record {
        ends = omega arith;
        fills = subst (λ (x : ℕ). Fills (λ y. tangent_at M levels (3 * tangents_before M levels c + y)) at x old out) n
            (λ f before k values. subst (λ (l : List ℤ). NetPaired l s third at old out) as-net r f before k (pair_aim at f values));
      }

-- ---- what the call answers and leaves
module _ (M : Mesh) (levels : List ℕ) (first count : ℕ) where
  pub tangents_many : length (tangent_list M levels first count) ≡ 6 * (points_before M levels (first + count) - points_before M levels first)
  unfolding tangent_list
  tangents_many = values_length (tangent_at M levels) _ _

  -- all corners of the range
  pub tangents_filled : (c to : ℕ) (old out : List ℤ) → c ≡ count
      → TangentsPut M levels (tangents_before M levels first) (tangents_before M levels (first + c)) 0 to old out → out ≡ begins (tangent_list M levels first count) old
  unfolding tangent_list
  tangents_filled c to old out e p =
      subst (λ (l : List ℤ). out ≡ begins l old) (same c e)
      (filled_list (tangent_at M levels) (tangents_before M levels first) (tangents_before M levels (first + c)) to old out p)
    where
      same : (c : ℕ) → c ≡ count
          → values_from (tangent_at M levels) (3 * (2 * points_before M levels first)) (3 * (2 * points_before M levels (first + c) - 2 * points_before M levels first))
          ≡ values_from (tangent_at M levels) (6 * points_before M levels first) (6 * (points_before M levels (first + count) - points_before M levels first))
      same c e =
          ap (λ (x : ℕ). values_from (tangent_at M levels) (3 * (2 * points_before M levels first)) (3 * (2 * points_before M levels (first + x) - 2 * points_before M levels first))) e
          ∙ (let p : 3 * (2 * points_before M levels first) ≡ 6 * points_before M levels first = omega arith in
          let q : 3 * (2 * points_before M levels (first + count) - 2 * points_before M levels first) ≡ 6 * (points_before M levels (first + count) - points_before M levels first) = omega arith in
          λ z. values_from (tangent_at M levels) (p z) (q z))

  module _ (old : List ℤ) (points : ℕ) (counted : points ≡ points_before M levels (first + count) - points_before M levels first) where
    needed : 6 * points ≡ length (tangent_list M levels first count)
    needed = ap (λ (x : ℕ). 6 * x) counted ∙ sym tangents_many

    pub pairs_short : length old < 6 * points → PairsFilled M levels first count old (refusing no_room (6 * points)) old
    pairs_short h = record {
      answers = sym (single_hit no_room (6 * points) (lt-ltb (length old) (6 * points) h)) ∙ ap (λ (x : ℕ). single no_room (ltb (length old) x) x) needed;
      numbers_are = tt;
      holds = refl;
    }

    pub pairs_done : 6 * points ≤ length old → (out : List ℤ) → out ≡ begins (tangent_list M levels first count) old
        → PairsFilled M levels first count old (Ok (6 * points)) out
    pairs_done h out e = record {
      answers = subst (λ (x : ℕ). sound ≡ single no_room (ltb (length old) x) x) needed (sym (single_miss no_room (6 * points) (le-ltb (length old) (6 * points) h)));
      numbers_are = needed;
      holds = e;
    }

module _ (M : Mesh) (links levels : List ℕ) (first count : ℕ) (old : List ℤ) where
  -- one of the checks before 255 refuses; or they pass, and the rest is as above
  pub tangents_refused : (r : Refusal) → fault r.number r.place ≡ level_verdict M links first count levels
      → TangentsFilled M links levels first count old (Err r) old
  unfolding tangent_verdict
  tangents_refused r e = record { answers = sym (or_else_fault r.number r.place _ (sym e)); numbers_are = tt; holds = refl }

  pub tangents_told : (r : Told ℕ) (out : List ℤ) → level_verdict M links first count levels ≡ sound → PairsFilled M levels first count old r out
      → TangentsFilled M links levels first count old r out
  unfolding tangent_verdict
  tangents_told r out s f = record { answers = past s _ f.answers; numbers_are = f.numbers_are; holds = f.holds }
