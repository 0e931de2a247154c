-- `sampling::value_in` meets its contract: the row tapers.
use mathlib.Core.Path.{sym, ap, ◌∙◌, subst}
use Prim.Native.Nat.{◌*◌, ◌^◌}
use borrow.Author.Rules.{rules}
use Rattle.bernstein.specs.declared.Vector5.{Vector5}
use Rattle.bernstein.specs.Sums.{Tapered, polynomial_at}
use Rattle.bernstein.proofs.Laws.{row_tapers}
use Rattle.sampling.proofs.value_in.Goals as goal

pub value_at-requires : goal.value_at-requires
value_at-requires c =
    let s = c in (
      subst (λ (e : Vector5). Tapered (5 * 2 ^ 34) e) (sym c.row_in-e.ensures) (row_tapers s.args.c s.args.k s.requires.2 s.requires.0),
      s.requires.1,
    )

pub returns : goal.returns
returns c = search rules ∙ ap (λ (e : Vector5). polynomial_at e c.args.j) c.row_in-e.ensures
