-- `mahunopi::mahunopi_preview` meets its contract: it tells what `preview::preview` answers.
use mathlib.Core.Path.{◌≡◌}
use mir.Syntax.{w32}
use mir.Val.{to_z, of_z}
use borrow.Author.Rules.{rules}
use Rattle.mahunopi.proofs.Laws.{preview_call}
use Rattle.mahunopi.proofs.mahunopi_preview.Goals as goal

pub returns : goal.returns
returns c =
    let x : to_z w32 (of_z w32 c.args.x) ≡ c.args.x = search rules in
    let y : to_z w32 (of_z w32 c.args.y) ≡ c.args.y = search rules in
    let z : to_z w32 (of_z w32 c.args.z) ≡ c.args.z = search rules in
    preview_call _ c.args.vertex c.args.x c.args.y c.args.z _ _ _ x y z _ _ _ _ _ _ _ _ _ c.preview.ensures c.tell.ensures
