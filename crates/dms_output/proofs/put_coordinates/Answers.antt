-- After as many turns the first coordinates were put.
use mathlib.Core.Path.{ap}
use lib.IntN.{pos}
use lib.ListN.{get_or}
use mir.Syntax.{w32}
use mir.Val.{SFits}
use mir.ValLaws.{to_z-of_z}
use borrow.Author.Rules.{rules}
use Rattle.streams.proofs.text.Putting.{put_none, put_then, put_same}
use Rattle.dms_output.specs.Bytes.{word_bytes}
use Rattle.dms_output.proofs.Steps.{no_coordinates, next_coordinate}
use Rattle.dms_output.proofs.put_coordinates.Goals as goal

pub loop-z-init : goal.loop-z-init
loop-z-init c = put_same (no_coordinates _) (put_none _ _)

pub loop-z-preserved : goal.loop-z-preserved
loop-z-preserved c =
    let l = c.loop-z in
    let list = c.args.coordinates.now in
    let fits : SFits w32 (get_or list l.z-index (pos 0)) = search rules in
    put_same (next_coordinate list l.z-index) (put_then l.auto.file l.invariant
    (put_same (ap word_bytes (to_z-of_z w32 (get_or list l.z-index (pos 0)) fits)) c.put_coordinate-at.ensures))
