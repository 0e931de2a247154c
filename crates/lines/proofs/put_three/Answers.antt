-- Three numbers, each with the byte that ends it.
use Rattle.lines.specs.Lines.{ended, space, feed}
use Rattle.streams.proofs.text.Putting.{put_three}
use Rattle.lines.proofs.put_three.Goals as goal

pub returns : goal.returns
returns c =
    put_three (ended c.args.a space) (ended c.args.b space) (ended c.args.c feed) c.put_ended-first.auto.lines c.put_ended-second.auto.lines
    c.put_ended-first.ensures c.put_ended-second.ensures c.put_ended.ensures
