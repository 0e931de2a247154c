-- `bernstein::rounded` meets its contract: the quotient is no larger than the control points.
use mathlib.Core.Path.{◌≡◌, ◌∙◌, ap}
use Prim.Native.Nat.{ℕ, ◌*◌, ◌^◌, ◌≤◌}
use native.Mathlib.Nat.{pow-le-pow_left, mul-le-mul_left, le_trans, one-le-pow}
use native.Mathlib.Omega.{arith}
use lib.Dec.{lit<}
use lib.IntN.{ℤ, pos, nat_abs}
use mir.Syntax.{w32}
use mir.Facts.{to_z-of_z}
use Rattle.paper.specs.Numbers.{round}
use Rattle.numbers.proofs.Diff.{diff}
use Rattle.numbers.proofs.Machine.{abs_fits}
use Rattle.bernstein.proofs.Laws.{bits, round_size, size_fits}
use Rattle.bernstein.proofs.rounded.Goals as goal

small : (s : ℤ) (n : ℕ) → n ≤ 16 → nat_abs s ≤ 2 ^ 27 * n ^ 4 → nat_abs s ≤ 2 ^ 43
small s n l h = le_trans h (mul-le-mul_left (2 ^ 27) (pow-le-pow_left l 4))

module _ (c : goal.After-quotient) where
  abbrev d : ℕ
  d = c.args.n ^ 4

  is : c.quotient.result ≡ round c.args.s (pos d)
  is = c.quotient.ensures ∙ ap (λ (z : ℤ). round z (pos d)) (to_z-of_z c.ranges.s)

  size : nat_abs c.quotient.result ≤ 2 ^ 27
  size =
      let one = one-le-pow 4 c.args.n c.requires.0 in
      rw is (round_size c.args.s d (2 ^ 27) (simp diff (omega (arith, one))) c.requires.2)

  wide : bits c.quotient.result ≡ c.quotient.result
  wide = to_z-of_z (size_fits _ (omega (arith, size)))

pub overflow_cast-result : goal.overflow_cast-result
overflow_cast-result c = rw (wide c) (abs_fits w32 _ (2 ^ 27) (size c) (lit< tt))

pub returns : goal.returns
returns c = rw (wide c) (to_z-of_z (abs_fits w32 _ (2 ^ 27) (size c) (lit< tt)) ∙ is c)

pub quotient-requires : goal.quotient-requires
quotient-requires c = (c.requires.0, c.requires.1, rw (to_z-of_z c.ranges.s) (small c.args.s c.args.n c.requires.1 c.requires.2))
