-- `copy_moved` meets its contract: three stores to the copy of the list are those to the list.
use mathlib.Core.Path.{◌≡◌, ap, ◌∙◌}
use mathlib.Core.List.{List}
use Prim.Native.Nat.{◌+◌, ◌*◌}
use lib.ListN.{set}
use lib.IntN.{ℤ}
use mir.Syntax.{w32}
use mir.Val.{to_z, of_z}
use Rattle.preview.proofs.Laws.{moved_begins}
use borrow.Author.Rules.{rules}
use Rattle.preview.proofs.copy_moved.Goals as goal

pub returns : goal.returns
returns c =
    let m = c.args.to in
    let old = c.args.copy.now in
    let l = c.args.coordinates.now in
    let i = 3 * m.vertex in
    let x : to_z w32 (of_z w32 m.x) ≡ m.x = search rules in
    let y : to_z w32 (of_z w32 m.y) ≡ m.y = search rules in
    let z : to_z w32 (of_z w32 m.z) ≡ m.z = search rules in
    rw (x, y, z)
    (ap (λ (k : List ℤ). set (set (set k i m.x) (i + 1) m.y) (i + 2) m.z) c.copy.ensures ∙ moved_begins l m c.requires.vertex old)
