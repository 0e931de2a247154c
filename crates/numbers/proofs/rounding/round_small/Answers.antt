-- `rounding::round_small` meets its contract, by `round_raised`.
use mathlib.Core.Path.{◌≡◌, ◌∙◌}
use Prim.Native.Nat.{◌*◌, ◌^◌, ◌≤◌}
use native.Mathlib.Omega.{arith}
use borrow.Author.Rules.{rules}
use lib.IntN.{ℤ, pos, nat_abs, ◌+ℤ◌, ◌-ℤ◌}
use lib.Signed.{◌≤ℤ◌, ◌<ℤ◌}
use mir.Syntax.{w32}
use mir.Val.{SFits}
use mir.Facts.{to_z-of_z}
use Rattle.numbers.proofs.Poly.{over, poly}
use Rattle.numbers.specs.Sign.{raised}
use Rattle.numbers.specs.Lift.{Liftable}
use Rattle.numbers.proofs.Nearest.{round_raised, raised_bounds}
use Rattle.numbers.proofs.rounding.round_small.Goals as goal

wider : (d : ℤ) → d ≤ℤ pos 16 → d ≤ℤ pos 48
wider = over 1 _ λ ρ. simp (poly, ρ) (omega arith)

sized : (n d t : ℤ) → (pos 0 <ℤ d) × (d ≤ℤ pos 16) × (nat_abs n ≤ 7 * 2 ^ 27) → ((n -ℤ pos 1) ≤ℤ t) × (t ≤ℤ (n +ℤ pos 24)) → SFits w32 t × Liftable (pos (2 ^ 30)) t d
sized = over 3 _ λ ρ. simp (poly, ρ) (omega arith)

pub raised-requires : goal.raised-requires
raised-requires c = rw (to_z-of_z c.ranges.n, to_z-of_z c.ranges.d) (c.requires.0, wider c.args.d c.requires.1, c.requires.2)

module _ (s : goal.Start) where
  fine : SFits w32 (raised s.args.n s.args.d) × Liftable (pos (2 ^ 30)) (raised s.args.n s.args.d) s.args.d
  fine = sized s.args.n s.args.d _ s.requires (raised_bounds s.args.n s.args.d s.requires.0 (wider s.args.d s.requires.1))

is-raised : (c : goal.After-raised) → c.raised.result ≡ raised c.args.n c.args.d
is-raised c = simp (to_z-of_z, c.ranges.n, c.ranges.d) at c.raised.ensures

pub returns : goal.returns
returns c =
    let s = c in
    let f : SFits w32 c.floor_small.result = search rules in
    rw (to_z-of_z f)
    (simp (to_z-of_z, (fine search).0, is-raised search, s.ranges.d) at c.floor_small.ensures ∙ round_raised s.args.n s.args.d s.requires.0)

pub floor_small-requires : goal.floor_small-requires
floor_small-requires c = let s = c in simp (to_z-of_z, (fine search).0, is-raised c, s.ranges.d) (fine search).1
