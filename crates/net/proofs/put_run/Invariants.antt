-- `net::put_run` meets its contract. The invariant: the numbers of the first r corners are put, and the rows of the face are as they were taken.
use mathlib.Core.Path.{◌≡◌}
use Prim.Native.Nat.{ℕ, ◌+◌}
use mathlib.Core.List.{List}
use lib.ListN.{length}
use lib.IntN.{ℤ}
use Rattle.net.specs.Drawn.{drawn}
use Rattle.net.specs.stencil.Taken.{Quiet, FaceTaken}
use Rattle.net.specs.Put.{RunPut}
use Rattle.net.proofs.put_run.Given as goal

-- what the lent spaces hold
pub record Kept (count : ℕ) (table : List ℕ) (points : List ℤ) (c run : ℕ) (stencil lanes : List ℤ) : Type 0 where
  pub long : length stencil ≡ 128
  pub wide : length lanes ≡ 164
  pub quiet : Quiet stencil
  pub face : FaceTaken (drawn count table points) c (run + 1) stencil stencil

abbrev pub invariant-loop-r : goal.invariant-loop-r
invariant-loop-r l =
    Kept l.count l.table l.points l.c l.run l.stencil l.lanes × RunPut (drawn l.count l.table l.points) l.c l.r l.at l.initial.out l.out
