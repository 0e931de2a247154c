-- `faces::quotient` meets its contract: 2^30 times 3m is what the weights sum to.
use mathlib.Core.Path.{◌≡◌, ap, ◌∙◌}
use Prim.Native.Nat.{ℕ, ◌*◌, ◌^◌, ◌≤◌}
use native.Mathlib.Omega.{arith}
use borrow.Author.Rules.{rules}
use lib.IntN.{ℤ, pos, ◌*ℤ◌}
use mir.Syntax.{w32}
use mir.Val.{SFits, to_z}
use mir.Facts.{to_z-of_z, to_z_pos}
use Rattle.paper.specs.Mesh.{most_sides}
use Rattle.paper.specs.Numbers.{round}
use Rattle.paper.specs.Cosines.{unit}
use Rattle.faces.proofs.quotient.Goals as goal

-- m in 32 bits
counts : (m : ℕ) → m ≤ most_sides → (to_z w32 m ≡ pos m) × SFits w32 (pos (3 * m))
counts m h = (to_z_pos w32 {n = m} (omega arith), record { sfits = omega arith })

by_weights : (n : ℤ) (m : ℕ) → round n (pos (2 ^ 30) *ℤ pos (3 * m)) ≡ round n (pos (3 * unit) *ℤ pos m)
by_weights n m = ap (λ (k : ℕ). round n (pos k)) (same m)
  where
    same : (m : ℕ) → 2 ^ 30 * (3 * m) ≡ 3 * unit * m
    same m = omega arith

pub round_units-requires-2 : goal.round_units-requires-2
round_units-requires-2 c =
    rw ((counts _ c.requires.count.1).0, to_z-of_z (counts _ c.requires.count.1).1, to_z-of_z c.ranges.y) (c.requires.sums.1, c.requires.count.2)

pub round_units-requires-3 : goal.round_units-requires-3
round_units-requires-3 c =
    rw ((counts _ c.requires.count.1).0, to_z-of_z (counts _ c.requires.count.1).1, to_z-of_z c.ranges.z) (c.requires.sums.2, c.requires.count.2)

pub returns : goal.returns
returns c =
    let e : SFits w32 c.round_units.result = search rules in
    let f : SFits w32 c.round_units-2.result = search rules in
    let g : SFits w32 c.round_units-3.result = search rules in (
      to_z-of_z e ∙ (rw ((counts _ c.requires.count.1).0, to_z-of_z (counts _ c.requires.count.1).1, to_z-of_z c.ranges.x) at c.round_units.ensures) ∙ by_weights c.args.x c.args.m,
      to_z-of_z f ∙ (rw ((counts _ c.requires.count.1).0, to_z-of_z (counts _ c.requires.count.1).1, to_z-of_z c.ranges.y) at c.round_units-2.ensures) ∙ by_weights c.args.y c.args.m,
      to_z-of_z g ∙ (rw ((counts _ c.requires.count.1).0, to_z-of_z (counts _ c.requires.count.1).1, to_z-of_z c.ranges.z) at c.round_units-3.ensures) ∙ by_weights c.args.z c.args.m,
    )
