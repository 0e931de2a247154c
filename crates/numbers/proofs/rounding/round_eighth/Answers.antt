-- `rounding::round_eighth` meets its contract: the sums fit, and what is shifted is what `eighth_is` tells of.
use mathlib.Core.Path.{◌≡◌}
use Prim.Native.Nat.{ℕ, ◌+◌, ◌-◌, ◌*◌, ◌/◌, ◌%◌, ◌^◌, ◌≤◌, ◌<◌}
use native.Mathlib.Nat.{mul-le-mul}
use native.Mathlib.Omega.{arith}
use borrow.Author.Rules.{rules}
use lib.Dec.{lit<}
use lib.IntN.{ℤ, pos, neg_ℤ, nat_abs, ◌+ℤ◌, ◌-ℤ◌}
use lib.Signed.{◌≤ℤ◌, shr_z}
use mir.Syntax.{w32, w64}
use mir.Val.{SFits}
use mir.Facts.{to_z-of_z}
use Rattle.numbers.proofs.Machine.{abs_fits}
use Rattle.numbers.proofs.Poly.{over, poly}
use Rattle.numbers.specs.Sign.{tie as tied}
use Rattle.numbers.proofs.Lift.{unsigned}
use Rattle.numbers.proofs.Nearest.{IsSign, shift_size, tie_bounds}
use Rattle.numbers.proofs.Small.{at_least, eighth_is}
use Rattle.numbers.proofs.rounding.round_eighth.Goals as goal

abbrev up : ℤ → ℤ
up z = z +ℤ pos (2 ^ 30)

factors : (c d : ℤ) → (neg_ℤ (pos (2 ^ 29)) ≤ℤ c) × (c ≤ℤ pos (2 ^ 30)) → nat_abs d ≤ 2 ^ 28
    → (SFits w64 (up c) × (pos 0 ≤ℤ up c) × (nat_abs (up c) ≤ 2 ^ 31))
    × (SFits w32 (up d) × (pos 0 ≤ℤ up d) × (nat_abs (up d) ≤ 5 * 2 ^ 28) × (pos (3 * 2 ^ 28) ≤ℤ up d))
factors = over 2 _ λ ρ. simp (poly, ρ) (omega arith)

-- u times v, where v is about 2^30
product : (u v : ℕ) → u ≤ 2 ^ 31 → 3 * 2 ^ 28 ≤ v → v ≤ 5 * 2 ^ 28 → (2 ^ 29 * u ≤ u * v) × (u * v ≤ 5 * 2 ^ 28 * u) × (u * v < 2 ^ 64)
product u v h l k =
    let a : u * 2 ^ 29 ≤ u * v = mul-le-mul (omega arith) (omega arith) in
    let b : u * v ≤ u * (5 * 2 ^ 28) = mul-le-mul (omega arith) k in
    (omega (arith, a), omega (arith, b), omega (arith, b))

sums : (w b t : ℤ) → nat_abs w ≤ 2 ^ 30 + 2 ^ 29 → nat_abs b ≤ 2 ^ 28 → IsSign t
    → SFits w32 (w +ℤ b) × SFits w32 (w +ℤ b +ℤ pos 4) × SFits w32 (w +ℤ b +ℤ pos 4 +ℤ t) × (nat_abs (w +ℤ b +ℤ pos 4 +ℤ t) ≤ 2 ^ 31 - 1) × SFits w32 t
sums = over 3 _ λ ρ. simp (poly, ρ) (omega arith)

module _ (s : goal.Start) where
  abbrev u : ℕ
  u = nat_abs (up s.args.c)

  abbrev v : ℕ
  v = nat_abs (up s.args.d)

  fine : (SFits w64 (up s.args.c) × (pos 0 ≤ℤ up s.args.c) × (u ≤ 2 ^ 31))
      × (SFits w32 (up s.args.d) × (pos 0 ≤ℤ up s.args.d) × (v ≤ 5 * 2 ^ 28) × (pos (3 * 2 ^ 28) ≤ℤ up s.args.d))
  fine = factors s.args.c s.args.d s.requires.0 s.requires.1

  known : (2 ^ 29 * u ≤ u * v) × (u * v ≤ 5 * 2 ^ 28 * u) × (u * v < 2 ^ 64)
  known = product u v fine.0.2 (at_least _ (3 * 2 ^ 28) fine.1.3) fine.1.2

pub overflow_cast-u : goal.overflow_cast-u
overflow_cast-u c = let f = (fine c).0 in simp (to_z-of_z, c.ranges.c, f.0) ((unsigned _ f.1).0, record { fits = omega (arith, f.2) })

pub overflow_cast-v : goal.overflow_cast-v
overflow_cast-v c = let f = (fine c).1 in simp (to_z-of_z, c.ranges.d, f.0) ((unsigned _ f.1).0, record { fits = omega (arith, f.2) })

pub overflow_mul-p : goal.overflow_mul-p
overflow_mul-p c = let f = fine c in simp (to_z-of_z, c.ranges.c, c.ranges.d, f.0.0, f.1.0) (record { fits = (known c).2 })

pub whole_part-requires : goal.whole_part-requires
whole_part-requires c = let f = fine c in simp (to_z-of_z, c.ranges.c, c.ranges.d, f.0.0, f.1.0) (f.0.2, c.requires.1, (known c).0, (known c).1)

module _ (c : goal.After-whole_part) where
  abbrev m : ℤ
  m = c.whole_part.result +ℤ c.args.b

  abbrev t : ℤ
  t = tied (u (search) * v (search) % 2 ^ 30) m

  whole : let s = c in c.whole_part.result ≡ pos (u (search) * v (search) / 2 ^ 30) -ℤ pos (u (search)) -ℤ s.args.d
  whole = let s = c in simp (to_z-of_z, s.ranges.c, s.ranges.d, (fine (search)).0.0, (fine (search)).1.0) at c.whole_part.ensures.0

  fits : SFits w32 c.whole_part.result
  fits = search rules

  size : SFits w32 m × SFits w32 (m +ℤ pos 4) × SFits w32 (m +ℤ pos 4 +ℤ t) × (nat_abs (m +ℤ pos 4 +ℤ t) ≤ 2 ^ 31 - 1) × SFits w32 t
  size = sums c.whole_part.result c.args.b t c.whole_part.ensures.1 c.requires.2 (tie_bounds (u (search) * v (search) % 2 ^ 30) m)

is-tie : (c : goal.After-tie) → c.tie.result ≡ t (search)
is-tie c =
    let w = c in
    let s = w in
    simp (to_z-of_z, fits (search), s.ranges.b, s.ranges.c, s.ranges.d, (fine (search)).0.0, (fine (search)).1.0, (size (search)).0) at c.tie.ensures

pub overflow_add-result-2 : goal.overflow_add-result-2
overflow_add-result-2 c =
    let w = c in
    let k = size (search) in
    simp (to_z-of_z, fits (search), w.ranges.b, is-tie c, k.0, k.1, k.4) k.2

pub returns : goal.returns
returns c =
    let w = c in
    let s = w in
    let k = size (search) in
    let z = m (search) +ℤ pos 4 +ℤ t (search) in
    let last = abs_fits w32 (shr_z z 8) (2 ^ 31 - 1) (shift_size z 8 (2 ^ 31 - 1) k.3) (lit< tt) in
    simp (to_z-of_z, fits (search), s.ranges.b, is-tie c, k.0, k.1, k.4, k.2, last)
    (rw (whole (search)) (eighth_is s.args.c s.args.d s.args.b (u (search)) (v (search)) (unsigned _ (fine (search)).0.1).1 (unsigned _ (fine (search)).1.1).1))

pub overflow_add-u : goal.overflow_add-u
overflow_add-u c = search (rules, fine c)

pub overflow_add-v : goal.overflow_add-v
overflow_add-v c = search (rules, fine c)

pub overflow_cast-p : goal.overflow_cast-p
overflow_cast-p c = let f = (fine c).0 in simp (to_z-of_z, c.ranges.c, f.0) (record { fits = omega (arith, f.2) })

pub overflow_cast-p-2 : goal.overflow_cast-p-2
overflow_cast-p-2 c = let f = (fine c).1 in simp (to_z-of_z, c.ranges.d, f.0) (record { fits = omega (arith, f.2) })

pub overflow_add-m : goal.overflow_add-m
overflow_add-m c = simp (to_z-of_z, fits c, c.ranges.b) (size c).0

pub overflow_add-result : goal.overflow_add-result
overflow_add-result c = simp (to_z-of_z, fits c, c.ranges.b, (size c).0) (size c).1
