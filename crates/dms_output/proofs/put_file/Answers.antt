-- The lists, and in version 2 the sharpness after them.
use mathlib.Core.Path.{sym, ap}
use mathlib.Core.Bool.{Bool}
use Rattle.paper.specs.Mesh.{of_lists}
use Rattle.dms_output.specs.Bytes.{file_bytes}
use Rattle.streams.proofs.text.Putting.{put_then, put_same}
use Rattle.dms_output.proofs.put_file.Goals as goal

pub returns-then-sharp : goal.returns-then-sharp
unfolding file_bytes
returns-then-sharp c =
    let a = c.args in
    let M = of_lists a.lists in
    put_same (ap (λ (b : Bool). file_bytes b M) (sym c.if-sharp.true))
    (put_then c.put_lists-end.auto.file c.put_lists-end.ensures c.put_word.ensures)

pub returns : goal.returns
unfolding file_bytes
returns c =
    let a = c.args in
    let M = of_lists a.lists in
    put_same (ap (λ (b : Bool). file_bytes b M) (sym c.if-sharp.false)) c.put_lists.ensures
