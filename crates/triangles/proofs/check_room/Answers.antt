-- `check_room` meets its contract.
use mathlib.Core.Path.{sym, ◌∙◌}
use Rattle.paper.specs.File.{no_room}
use borrow.Author.Tests.{lt-ltb, le-ltb}
use Rattle.mesh.proofs.Verdicts.{or_else_fault, or_else_sound, single_hit, single_miss}
use Rattle.triangles.proofs.check_room.Goals as goal

pub returns-then-room-points : goal.returns-then-room-points
returns-then-room-points c =
    let s = c.args in
    sym (or_else_fault no_room s.points _ (single_hit no_room s.points (lt-ltb s.room s.points c.if-room-points.true)))

pub returns-then-space-triangles : goal.returns-then-space-triangles
returns-then-space-triangles c =
    sym (or_else_sound _ (single_miss no_room c.args.points (le-ltb c.args.room c.args.points c.if-room-points.false))
    ∙ single_hit no_room c.args.triangles (lt-ltb c.args.space c.args.triangles c.if-space-triangles.true))

pub returns : goal.returns
returns c =
    sym (or_else_sound _ (single_miss no_room c.args.points (le-ltb c.args.room c.args.points c.if-room-points.false))
    ∙ single_miss no_room c.args.triangles (le-ltb c.args.space c.args.triangles c.if-space-triangles.false))
