-- No line where the sum of the two numbers is zero, else their line.
use mathlib.Core.Path.{ap, ◌∙◌}
use Rattle.streams.proofs.text.Putting.{put_none, put_same}
use Rattle.lines.specs.Lines.{count_line}
use Rattle.lines.proofs.Rooms.{no_line, a_line}
use Rattle.lines.proofs.put_count.Goals as goal

pub returns-then-v-f-eq0 : goal.returns-then-v-f-eq0
returns-then-v-f-eq0 c =
    put_same (no_line c.args.m _ _ c.if-v-f-eq0.true ∙ ap (λ v. count_line c.args.m v c.from-f.result) c.from-v.ensures ∙ ap (λ f. count_line c.args.m c.args.vertices f) c.from-f.ensures)
    (put_none _ _)

pub returns : goal.returns
returns c =
    put_same (a_line c.args.m _ _ c.if-v-f-eq0.false ∙ ap (λ v. count_line c.args.m v c.from-f.result) c.from-v.ensures ∙ ap (λ f. count_line c.args.m c.args.vertices f) c.from-f.ensures)
    c.put_three.ensures
