-- `cosines::cosine` meets its contract: the array holds the rows of the table with zeros after them.
use mathlib.Core.Path.{ap, ◌∙◌}
use mathlib.Core.List.{List, []}
use Prim.Native.Nat.{◌-◌}
use lib.ListN.{get_or}
use lib.IntN.{ℤ, pos}
use mir.Syntax.{w64}
use mir.ValLaws.{to_z-of_z}
use Rattle.numbers.proofs.Rules.{stored_is}
use Rattle.numbers.proofs.cosines.cosine.Goals as goal

pub returns : goal.returns
returns c =
    let s = c in
    let m = s.args.m in
    let k = s.args.k in
    to_z-of_z w64 (get_or (get_or s.args.rows.now (m - 3) []) k (pos 0)) (record { sfits = c.result-1.given })
    ∙ ap (λ (t : List (List ℤ)). get_or (get_or t (m - 3) []) k (pos 0)) s.requires.0
    ∙ stored_is m s.requires.1 s.requires.2 k s.requires.3
