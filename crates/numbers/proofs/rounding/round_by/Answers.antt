-- `rounding::round_by` meets its contract, by `round_raised`.
use mathlib.Core.Path.{◌≡◌, ◌∙◌}
use Prim.Native.Nat.{◌*◌, ◌^◌, ◌≤◌}
use native.Mathlib.Omega.{arith}
use borrow.Author.Rules.{rules}
use lib.IntN.{ℤ, pos, nat_abs, ◌+ℤ◌, ◌-ℤ◌}
use lib.Signed.{◌≤ℤ◌, ◌<ℤ◌}
use mir.Syntax.{w32}
use mir.Val.{SFits}
use mir.Facts.{to_z-of_z}
use Rattle.numbers.proofs.Poly.{over, poly}
use Rattle.numbers.specs.Sign.{raised}
use Rattle.numbers.specs.Units.{Bounded, Lifted}
use Rattle.numbers.proofs.Nearest.{round_raised, raised_bounds}
use Rattle.numbers.proofs.rounding.round_by.Goals as goal

small : (n d : ℤ) → Bounded (2 ^ 24) n d → (pos 0 <ℤ d) × (nat_abs n ≤ 7 * 2 ^ 27)
small = over 2 _ λ ρ. simp (poly, ρ) (omega arith)

sized : (n d t : ℤ) → Bounded (2 ^ 24) n d → ((n -ℤ pos 1) ≤ℤ t) × (t ≤ℤ (n +ℤ pos 24)) → SFits w32 t × Lifted t d
sized = over 3 _ λ ρ. simp (poly, ρ) (omega arith)

known : (s : goal.Start) → (pos 0 <ℤ s.args.d) × (nat_abs s.args.n ≤ 7 * 2 ^ 27)
known s = small s.args.n s.args.d s.requires.0

pub raised-requires : goal.raised-requires
raised-requires c = rw (to_z-of_z c.ranges.n, to_z-of_z c.ranges.d) ((known c).0, c.requires.0.1, (known c).1)

module _ (s : goal.Start) where
  fine : SFits w32 (raised s.args.n s.args.d) × Lifted (raised s.args.n s.args.d) s.args.d
  fine = sized s.args.n s.args.d _ s.requires.0 (raised_bounds s.args.n s.args.d (known s).0 s.requires.0.1)

is-raised : (c : goal.After-raised) → c.raised.result ≡ raised c.args.n c.args.d
is-raised c = simp (to_z-of_z, c.ranges.n, c.ranges.d) at c.raised.ensures

pub floor_by-requires : goal.floor_by-requires
floor_by-requires c = let s = c in simp (to_z-of_z, (fine search).0, is-raised c, s.ranges.d) ((fine search).1, s.requires.1)

pub returns : goal.returns
returns c =
    let s = c in
    let f : SFits w32 c.floor_by.result = search rules in
    rw (to_z-of_z f)
    (simp (to_z-of_z, (fine search).0, is-raised search, s.ranges.d) at c.floor_by.ensures ∙ round_raised s.args.n s.args.d (known search).0)
