-- The first list decides, or the second does.
use Prim.Native.Nat.{◌+◌}
use native.Mathlib.Omega.{arith}
use borrow.Author.Tests.{lt-ltb, le-ltb}
use Rattle.paper.specs.Mesh.{most_sides}
use Rattle.mahunopi.proofs.too_short.Goals as goal

pub returns-then-cornered-lt-NUMBERS : goal.returns-then-cornered-lt-NUMBERS
returns-then-cornered-lt-NUMBERS c = rw (lt-ltb c.args.cornered (most_sides + 1) (omega (arith, c.if-cornered-lt-NUMBERS.true)))

pub returns-else-cornered-lt-NUMBERS : goal.returns-else-cornered-lt-NUMBERS
returns-else-cornered-lt-NUMBERS c = rw (le-ltb c.args.cornered (most_sides + 1) (omega (arith, c.if-cornered-lt-NUMBERS.false)))
