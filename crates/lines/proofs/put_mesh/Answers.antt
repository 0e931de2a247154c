-- The word, after it the line of the three counts, and then the lines of all m.
use Prim.Native.Nat.{◌+◌}
use Rattle.paper.specs.Mesh.{most_sides}
use Rattle.lines.specs.Lines.{three_line, count_lines, mesh_word}
use Rattle.streams.proofs.text.Putting.{put_three}
use Rattle.lines.proofs.put_mesh.Goals as goal

pub returns : goal.returns
returns c =
    let n = c.args.counts in
    put_three mesh_word (three_line n.vertices n.faces n.corners) (count_lines n.cornered n.sided (most_sides + 1)) c.put_word-word.auto.buffer
    c.put_three-first.auto.lines c.put_word-word.ensures c.put_three-first.ensures c.put_counts.ensures
