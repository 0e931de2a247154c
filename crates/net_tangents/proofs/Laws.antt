-- Laws of tangents that are written point by point: stores and copies, the table's lanes one after the other, the rings, and all groups of a corner.
use mathlib.Core.Path.{◌≡◌, refl, sym, ap, ◌∙◌, subst}
use mathlib.Core.Bool.{Bool}
use mathlib.Core.Logic.{⊎_elim}
use mathlib.Core.List.{List}
use Prim.Native.Nat.{ℕ, suc, ◌+◌, ◌-◌, ◌*◌, ◌/◌, ◌%◌, ◌^◌, ◌≤◌, ◌<◌}
use native.Mathlib.Omega.{arith}
use lib.Dec.{eqb, ltb, lit≤}
use borrow.Author.Tests.{eqb-true, eqb-false, ltb-true, ltb-false}
use lib.ListN.{length, get_or, set, length-set}
use lib.Seq.{get_or-set_same, get_or-set_other}
use lib.IntN.{ℤ, pos, nat_abs, ◌+ℤ◌, ◌-ℤ◌}
use mir.Syntax.{w64}
use mir.Val.{SFits}
use mir.Facts.{to_z-of_z}
use Rattle.paper.specs.Faults.{sound}
use Rattle.paper.specs.Net.{side0}
use Rattle.paper.specs.Floats.{net_verdict}
use Rattle.paper.specs.Sampling.{side_at}
use Rattle.paper.specs.Triangles.{turn_weights}
use Rattle.paper.specs.Tangents.{tangent_pair}
use Rattle.mesh.proofs.Fills.{filled_none, filled_step}
use Rattle.mesh.proofs.Scans.{ways}
use Rattle.bernstein.specs.declared.Matrix5.{Matrix5}
use Rattle.bernstein.specs.declared.Vector5.{Vector5}
use Rattle.bernstein.specs.Sums.{polynomial_of, polynomial_at, states_of}
use Rattle.numbers.proofs.Laws.{abs_add_le}
use Rattle.bernstein.proofs.Laws.{bits, size_fits, sized_bits}
use Rattle.strips.specs.PointRows.{FilledTo, Fills}
use Rattle.net_points.specs.writing.Laid.{pick_matrix, turned_of, ring_at}
use Rattle.net_points.proofs.writing.Fill.{filled_at}
use Rattle.net_points.proofs.writing.Laws.{ring_room, rings_last}
use Rattle.net_tangents.specs.Lanes.{tailward_of, centreward_of, lane_of, forward_of, lane_number, LanePut, Lanes, LanesFilled}
use Rattle.net_tangents.specs.Lanes.{AxisFilled, Added, SixStates, rows_at, value_number, axis_of}
use Rattle.net_tangents.specs.Paired.{part_number, RingAim, RingPairs, CentrePair}
use Rattle.strips.proofs.Rowed.{fills_more}
use Rattle.net_tangents.proofs.Cubic.{less_size}
use Rattle.net_tangents.proofs.Lanes.{lanes_start, states_value}
use Rattle.net_tangents.proofs.Values.{lane_is, lane_smooth, values_part}

-- one more number of a copy
pub copy_step : (g : ℕ → ℤ) (at e : ℕ) (first mid : List ℤ) (x : ℤ) → at + e < length mid → x ≡ g e → Fills g at e first mid → Fills g at (e + 1) first (set mid (at + e) x)
copy_step g at e first mid x h v a f old filled values =
    let q = a f old filled (λ y l. values y (omega arith)) in
    subst (λ (n : ℕ). FilledTo f old n (set mid (at + e) x)) (let z : at + e + 1 ≡ at + (e + 1) = omega arith in z) (record {
      long = simp length-set q.long;
      holds = filled_step f old (at + e) mid x (pos 0) (omega (arith, q.long)) q.holds (v ∙ sym (values e (omega arith)));
    })

-- four copies of six
module _ (table : List ℤ) (lane : ℕ) (old a b c d : List ℤ) (n : length old ≡ 24) (f0 : Fills (λ e. get_or table (lane + e) (pos 0)) 0 6 old a)
    (f1 : Fills (λ e. get_or table (lane + 24 + e) (pos 0)) 6 6 a b) (f2 : Fills (λ e. get_or table (lane + 48 + e) (pos 0)) 12 6 b c)
    (f3 : Fills (λ e. get_or table (lane + 72 + e) (pos 0)) 18 6 c d) where
  abbrev copied : ℕ → ℤ
  copied y = get_or table (lane + 24 * (y / 6) + y % 6) (pos 0)

  spot : (x y : ℕ) → x ≡ y → get_or table x (pos 0) ≡ get_or table y (pos 0)
  spot x y e = ap (λ (i : ℕ). get_or table i (pos 0)) e

  filled : FilledTo copied old 24 d
  filled =
      let r0 = f0 copied old (record { long = refl; holds = filled_none copied old }) (λ x b. spot _ _ (omega arith)) in
      let r1 = f1 copied old r0 (λ x b. spot _ _ (omega arith)) in
      f3 copied old (f2 copied old r1 (λ x b. spot _ _ (omega arith))) (λ x b. spot _ _ (omega arith))

  pub copies_states : (F : ℕ → Matrix5) (k : ℕ) → Lanes F lane (lane + 6) k table → SixStates (rows_at F lane k) 0 d
  copies_states F k l =
      lanes_start F lane k table d l (filled.long ∙ n) (λ p e a b.
      ap (λ (x : List ℤ). get_or x (6 * p + e) (pos 0)) filled.holds ∙ filled_at copied old 24 (6 * p + e) (omega arith) ∙ spot _ _ (omega arith))

-- at the same row, and at the same place
pub lanes_at : (F : ℕ → Matrix5) (from to i k : ℕ) (table : List ℤ) → i ≡ k → Lanes F from to i table → Lanes F from to k table
lanes_at F from to i k table e l = subst (λ (x : ℕ). Lanes F from to x table) e l

pub states_at : (g : ℕ → Vector5) (i j : ℕ) (states : List ℤ) → i ≡ j → SixStates g i states → SixStates g j states
states_at g i j states e r = subst (λ (x : ℕ). SixStates g x states) e r

-- ---- the places of a row
pub places_step : (g : ℕ → Vector5) (first j at to : ℕ) (states old mid out : List ℤ) → SixStates g (first + j) states → to ≡ at + 6 * j
    → Fills (value_number g first) at (6 * j) old mid → Fills (λ e. get_or states (0 + e) (pos 0)) to 6 mid out → Fills (value_number g first) at (6 * (j + 1)) old out
places_step g first j at to states old mid out r q a b =
    subst (λ (x : ℕ). Fills (value_number g first) at x old out) (let z : 6 * j + 6 ≡ 6 * (j + 1) = omega arith in z)
    (fills_more (value_number g first) (λ e. get_or states (0 + e) (pos 0)) at (6 * j) to 6 old mid out q a b (λ x l. states_value g (first + j) states r x l ∙ same x l))
  where
    same : (x : ℕ) → x < 6 → polynomial_at (g x) (first + j) ≡ value_number g first (6 * j + x)
    same x l =
        let d : j ≡ (6 * j + x) / 6 = omega arith in let m : x ≡ (6 * j + x) % 6 = omega arith in
        λ z. polynomial_at (g (m z)) (first + d z)

pub values_fill : (numbers : List ℤ) (n k side first count at : ℕ) (old out : List ℤ) → side ≤ 3 → k + first + count ≤ n + 1
    → Fills (value_number (rows_at (lane_of numbers n) (6 * side) k) first) at (6 * count) old out → Fills (part_number numbers side n k first) at (6 * count) old out
values_fill numbers n k side first count at old out h l a f before e values = a f before e (λ x b. values x b ∙ sym (values_part numbers n k side first count h l x b))

-- ---- sums and differences that are stored: they fit, and keep their values
abbrev Stored : ℤ → ℤ → Type 0
Stored z w = SFits w64 z × (bits z ≡ w)

stored : (op : ℤ → ℤ → ℤ) (x y : ℤ) (A : ℕ) → nat_abs x ≤ A → nat_abs y ≤ A → A ≤ 2 ^ 62 → nat_abs (op x y) ≤ 2 ^ 62 → Stored (op (bits x) (bits y)) (op x y)
stored op x y A f g few h = let fit = size_fits (op x y) h in rw (sized_bits x A f few, sized_bits y A g few) (fit, to_z-of_z fit)

pub sum_stored : (x y : ℤ) → nat_abs x ≤ 2 ^ 60 → nat_abs y ≤ 2 ^ 60 → Stored (bits x +ℤ bits y) (x +ℤ y)
sum_stored x y f g = stored ◌+ℤ◌ x y (2 ^ 60) f g (lit≤ tt) (let h = abs_add_le x y (2 ^ 60) (2 ^ 60) f g in omega arith)

pub difference_stored : (x y : ℤ) → nat_abs x ≤ 2 ^ 54 → nat_abs y ≤ 2 ^ 54 → Stored (bits x -ℤ bits y) (x -ℤ y)
difference_stored x y f g = stored ◌-ℤ◌ x y (2 ^ 54) f g (lit≤ tt) (less_size x y (2 ^ 54) (2 ^ 62) (lit≤ tt) f g)

pub added_step : (at i gap : ℕ) (old list : List ℤ) (v : ℤ) → at ≤ i → 0 < gap → i < length list → Added at i gap old list
    → v ≡ get_or list i (pos 0) +ℤ get_or list (i + gap) (pos 0) → Added at (i + 1) gap old (set list i v)
added_step at i gap old list v h g l a e = record {
  sums = λ x b c. ⊎_elim
      (λ t. let z : x ≡ i = eqb-true x i t in
      rw z (get_or-set_same list i v (pos 0) l ∙ e ∙ (λ w. a.after i (omega arith) w +ℤ a.after (i + gap) (omega arith) w)))
      (λ t. let o = eqb-false x i t in get_or-set_other list i x v (pos 0) o ∙ a.sums x b (omega (arith, o))) (ways (eqb x i));
  before = λ x b. get_or-set_other list i x v (pos 0) (λ z. omega arith) ∙ a.before x b;
  after = λ x b. get_or-set_other list i x v (pos 0) (λ z. omega arith) ∙ a.after x (omega arith);
}

-- ---- a lane's ten numbers, one after the other: the first s of them stand there
pub record LaneTo (ten : List ℤ) (lane s : ℕ) (old mid : List ℤ) : Type 0 where
  pub long : length mid ≡ 240
  pub there : (r : ℕ) → r < s → get_or mid (24 * r + lane) (pos 0) ≡ get_or ten r (pos 0)
  pub others : (r z : ℕ) → z < 24 → (z ≡ lane → ⊥) → get_or mid (24 * r + z) (pos 0) ≡ get_or old (24 * r + z) (pos 0)

-- both lanes of an axis, out of its polynomial
module _ (numbers : List ℤ) (n axis : ℕ) (few : axis < 12) (old mid new : List ℤ) (c a b : Matrix5) where
  abbrev side : ℕ
  side = axis / 3

  abbrev lane : ℕ
  lane = 6 * side + axis % 3

  module _ (is_c : c ≡ polynomial_of (turned_of numbers side (axis % 3)) (pos n)) (is-a : a ≡ states_of (forward_of (tailward_of side c)) 0)
      (is_b : b ≡ states_of (forward_of (centreward_of side c)) 0) (p : LanePut lane a old mid) (q : LanePut (lane + 3) b mid new) where
    lane_of_lem : (y : ℕ) → axis_of y ≡ axis → y < 24 → lane_of numbers n y ≡ pick_matrix (ltb (y % 6) 3) (tailward_of side c) (centreward_of side c)
    lane_of_lem y e h =
        lane_is numbers n y side (axis % 3) (y % 6) (omega (arith, e)) (omega (arith, e)) refl
        ∙ (λ z. pick_matrix (ltb (y % 6) 3) (tailward_of side (sym is_c z)) (centreward_of side (sym is_c z)))

    by : (s y : ℕ) (m d : Matrix5) → lane_of numbers n y ≡ d → m ≡ states_of (forward_of d) 0 → lane_number m s ≡ lane_number (states_of (forward_of (lane_of numbers n y)) 0) s
    by s y m d e f = ap (λ (x : Matrix5). lane_number x s) (f ∙ ap (λ (x : Matrix5). states_of (forward_of x) 0) (sym e))

    abbrev picked : Bool → Matrix5
    picked x = pick_matrix x (tailward_of side c) (centreward_of side c)

    there : (s y : ℕ) → s < 10 → y < 24 → axis_of y ≡ axis → get_or new (24 * s + y) (pos 0) ≡ lane_number (states_of (forward_of (lane_of numbers n y)) 0) s
    there s y h i e =
        ⊎_elim
        (λ t.
        let z : y ≡ lane = omega (arith, e, ltb-true (y % 6) 3 t) in
        q.others s y i (λ w. omega arith) ∙ ap (λ (x : ℕ). get_or mid (24 * s + x) (pos 0)) z ∙ p.there s h ∙ by s y a (tailward_of side c) (lane_of_lem y e i ∙ ap picked t) is-a)
        (λ t.
        let z : y ≡ lane + 3 = omega (arith, e, ltb-false (y % 6) 3 t) in
        ap (λ (x : ℕ). get_or new (24 * s + x) (pos 0)) z ∙ q.there s h ∙ by s y b (centreward_of side c) (lane_of_lem y e i ∙ ap picked t) is_b) (ways (ltb (y % 6) 3))

    pub axis_filled : AxisFilled (lane_of numbers n) axis old new
    axis_filled = record {
      there = record { filled = λ s y h i a b. there s y h i (omega arith) };
      others = λ s y i o. q.others s y i (λ w. o (omega (arith, w))) ∙ p.others s y i (λ w. o (omega (arith, w)));
    }

lanes_filled : (numbers : List ℤ) → net_verdict numbers ≡ sound → (n from to first last : ℕ) (table : List ℤ) → n ≤ 16 → last ≤ 24
    → ((y : ℕ) → first ≤ y → y < last → (from ≤ axis_of y) × (axis_of y < to)) → LanesFilled (lane_of numbers n) from to table → length table ≡ 240
    → Lanes (lane_of numbers n) first last 0 table
lanes_filled numbers e n from to first last table few most in-axes l long = record {
  long = long;
  few = omega arith;
  smooth = λ y a b. lane_smooth numbers e n few y (omega arith);
  holds = λ s y h a b. l.filled s y h (omega arith) (in-axes y a b).0 (in-axes y a b).1;
}

pub side_lanes : (numbers : List ℤ) → net_verdict numbers ≡ sound → (n side from to : ℕ) (table : List ℤ) → n ≤ 16 → side ≤ 3 → from ≤ 3 * side → 3 * side + 3 ≤ to
    → LanesFilled (lane_of numbers n) from to table → length table ≡ 240 → Lanes (lane_of numbers n) (6 * side) (6 * side + 6) 0 table
side_lanes numbers e n side from to table few h a b l long =
    lanes_filled numbers e n from to (6 * side) (6 * side + 6) table few (omega arith) (λ y c d. (omega arith, omega arith)) l long

pub all_lanes : (numbers : List ℤ) → net_verdict numbers ≡ sound → (n : ℕ) (table : List ℤ) → n ≤ 16 → LanesFilled (lane_of numbers n) 0 12 table → length table ≡ 240
    → Lanes (lane_of numbers n) 0 24 0 table
all_lanes numbers e n table few l long = lanes_filled numbers e n 0 12 0 24 table few (omega arith) (λ y a b. (omega arith, omega arith)) l long

-- ---- a part, for a list that is to hold certain numbers
pub part_filled : (numbers : List ℤ) (side n k first count at : ℕ) (old out before : List ℤ) (f : ℕ → ℤ) → Fills (part_number numbers side n k first) at (6 * count) old out
    → FilledTo f before at old
    → ((j e : ℕ) → j < count → e < 6 → f (at + 6 * j + e) ≡ get_or (tangent_pair numbers (side_at side) (turn_weights (side_at side) n k (first + j))) e (pos 0))
    → FilledTo f before (at + 6 * count) out
unfolding part_number
part_filled numbers side n k first count at old out before f a e values =
    a f before e (λ x l.
    ap f (let z : at + x ≡ at + 6 * (x / 6) + x % 6 = omega arith in z) ∙ values (x / 6) (x % 6) (omega arith) (omega arith))

-- ---- one more side of a ring
pub side_step : (numbers : List ℤ) (n k w at side to : ℕ) (f : ℕ → ℤ) (old mid out : List ℤ) → side < 4 → to ≡ at + 6 * (side * w) → RingAim numbers n k w at f
    → FilledTo f old to mid → Fills (part_number numbers side n k 0) to (6 * w) mid out → FilledTo f old (to + 6 * w) out
side_step numbers n k w at side to f old mid out h q aim e a =
    part_filled numbers side n k 0 w to mid out old f a e
    (λ j x l b. ap f (let z : to + 6 * j + x ≡ at + 6 * (side * w) + 6 * j + x = omega arith in z) ∙ aim side j x h l b)

-- ---- one more ring
pub ring_aim : (numbers : List ℤ) (n at k w to : ℕ) → k + 1 < n → w ≡ n - k - 1 → (f : ℕ → ℤ) → RingPairs numbers n at f → to ≡ at + 6 * (2 * (k * (2 * n - k - 1)))
    → RingAim numbers n (k + 1) w to f
ring_aim numbers n at k w to h w-is f aim there side j e s l b =
    ap f (spot side j e) ∙ aim side k j e s (omega arith) b
    ∙ (let p : suc k ≡ k + 1 = omega arith in let q : j ≡ 0 + j = omega arith in λ z. get_or (tangent_pair numbers (side_at side) (turn_weights (side_at side) n (p z) (q z))) e (pos 0))
  where
    line : (side j e r : ℕ) → to ≡ at + 6 * r → to + 6 * (side * w) + 6 * j + e ≡ at + 6 * (r + side * w + j) + e
    line side j e r q = omega arith

    spot : (side j e : ℕ) → to + 6 * (side * w) + 6 * j + e ≡ at + 6 * ring_at n side k j + e
    spot side j e =
        line side j e (2 * (k * (2 * n - k - 1))) there
        ∙ ap (λ (x : ℕ). at + 6 * (2 * (k * (2 * n - k - 1)) + side * x + j) + e) (let z : w ≡ n - suc k = omega arith in z)

-- a ring stays within the room
pub ring_fits : (n k w to at len : ℕ) → k + 1 < n → w ≡ n - k - 1 → to ≡ at + 6 * (2 * (k * (2 * n - k - 1))) → at + 6 * (2 * (n * (n - 1)) + 1) ≤ len
    → to + 24 * w + 6 ≤ len
ring_fits n k w to at len h e q l = line (2 * (k * (2 * n - k - 1))) (2 * (n * (n - 1))) (ring_room n k 3 h (omega arith)) q l
  where
    line : (r s : ℕ) → r + 3 * (n - k - 1) + (n - k - 1) ≤ s → to ≡ at + 6 * r → at + 6 * (s + 1) ≤ len → to + 24 * w + 6 ≤ len
    line r s a b c = omega arith

-- where the next one begins
pub ring_next : (n k w to at : ℕ) → k + 1 < n → w ≡ n - k - 1 → to ≡ at + 6 * (2 * (k * (2 * n - k - 1)))
    → to + 24 * w ≡ at + 6 * (2 * ((k + 1) * (2 * n - (k + 1) - 1)))
ring_next n k w to at h e q = line (2 * (k * (2 * n - k - 1))) q ∙ ap (λ (x : ℕ). at + 6 * x) (go (n - k - 2) (omega arith))
  where
    line : (r : ℕ) → to ≡ at + 6 * r → to + 24 * w ≡ at + 6 * (r + 4 * w)
    line r b = omega arith

    go : (v : ℕ) → n ≡ k + 2 + v → 2 * (k * (2 * n - k - 1)) + 4 * w ≡ 2 * ((k + 1) * (2 * n - (k + 1) - 1))
    go v f =
        let a : 2 * n - k - 1 ≡ k + 3 + 2 * v = omega arith in
        let b : 2 * n - (k + 1) - 1 ≡ k + 2 + 2 * v = omega arith in
        let c : w ≡ v + 1 = omega arith in
        rw (a, b, c) (let z : 2 * (k * (k + 3 + 2 * v)) + 4 * (v + 1) ≡ 2 * ((k + 1) * (k + 2 + 2 * v)) = omega arith in z)

-- ---- the centre after the last ring
module _ (n k to at : ℕ) (e : k + 1 ≡ n) (there : to ≡ at + 6 * (2 * (k * (2 * n - k - 1)))) where
  centre_at : to ≡ at + 6 * (2 * (n * (n - 1)))
  centre_at = there ∙ ap (λ (x : ℕ). at + 6 * x) (rings_last n k e)

  centre_end : (r : ℕ) → to ≡ at + 6 * r → at + 6 * (r + 1) ≡ to + 6
  centre_end r q = omega arith

  -- its room
  pub last_fits : (len : ℕ) → at + 6 * (2 * (n * (n - 1)) + 1) ≤ len → to + 6 ≤ len
  last_fits len l = subst (λ (x : ℕ). x ≤ len) (centre_end (2 * (n * (n - 1))) centre_at) l

  pub rings_end : (numbers : List ℤ) (f : ℕ → ℤ) (before mid out : List ℤ) → CentrePair numbers n at f → FilledTo f before to mid
      → Fills (part_number numbers 0 n n 0) to 6 mid out → FilledTo f before (at + 6 * (2 * (n * (n - 1)) + 1)) out
  rings_end numbers f before mid out aim q p =
      subst (λ (i : ℕ). FilledTo f before i out) (sym (centre_end (2 * (n * (n - 1))) centre_at))
      (part_filled numbers 0 n n 0 1 to mid out before f p q (λ j x b m.
      let z : j ≡ 0 = omega arith in
      ap f (ap (λ (i : ℕ). i + 6 * j + x) centre_at ∙ ap (λ (i : ℕ). at + 6 * (2 * (n * (n - 1))) + 6 * i + x) z ∙ none (at + 6 * (2 * (n * (n - 1)))) x) ∙ aim x m
      ∙ ap (λ (i : ℕ). get_or (tangent_pair numbers side0 (turn_weights side0 n n i)) x (pos 0)) (let w : 0 ≡ 0 + j = omega arith in w)))
    where
      none : (r x : ℕ) → r + 6 * 0 + x ≡ r + x
      none r x = omega arith
