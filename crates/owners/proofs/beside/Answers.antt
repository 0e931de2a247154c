-- `beside` meets its contract, side by side.
use mathlib.Core.Path.{◌≡◌, sym, ap, ◌∙◌}
use native.Mathlib.Omega.{arith}
use Prim.Native.Nat.{ℕ}
use lib.Dec.{lit<}
use Rattle.paper.specs.Borders.{beside}
use Rattle.paper.specs.Sampling.{side_at}
use Rattle.owners.proofs.Walked.{row_in, here_previous, here_link, to_across}
use Rattle.owners.proofs.beside.Goals as goal

pub linked-there-requires : goal.linked-there-requires
linked-there-requires c = row_in _ _ _ (here_previous _ _ _ c.requires.0.here _ c.previous-back.ensures) 2 (lit< tt)

pub previous-to-requires : goal.previous-to-requires
previous-to-requires c =
    row_in _ _ _ (here_link _ _ _ (here_previous _ _ _ c.requires.0.here _ c.previous-back.ensures) _ c.linked-there.ensures) 1 (lit< tt)

pub returns : goal.returns
returns c =
    let e : c.args.side ≡ 3 = omega arith in
    λ M h. to_across M _ _ _ _ _ h c.previous-back.ensures c.linked-there.ensures c.previous-to.ensures
    ∙ ap (λ (x : ℕ). beside M c.args.c (side_at x)) (sym e)
