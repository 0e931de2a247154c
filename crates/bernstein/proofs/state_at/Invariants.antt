-- `bernstein::state_at` meets its contract: after x turns the state is that at x.
use mathlib.Core.Path.{◌≡◌}
use Rattle.bernstein.specs.declared.Vector5.{Vector5}
use Rattle.bernstein.specs.Sums.{state_of}
use Rattle.bernstein.proofs.state_at.Given as goal

abbrev pub invariant-loop-x : goal.invariant-loop-x
invariant-loop-x l = (e : Vector5) → l.initial.g ≡ state_of e 0 → l.g ≡ state_of e l.x
