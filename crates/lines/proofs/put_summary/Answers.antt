-- The lines of the summary, which have room in the buffer.
use Rattle.lines.proofs.Rooms.{summary_put}
use Rattle.lines.proofs.put_summary.Goals as goal

pub returns-in-Err : goal.returns-in-Err
returns-in-Err c =
    let p = summary_put c.args.summary _ c.in-Err.is c.told-lines c.put_refusal.ensures in record { within = p.0; lines_after = p.1 }

pub returns-in-Ok : goal.returns-in-Ok
returns-in-Ok c =
    let p = summary_put c.args.summary _ c.in-Ok.is c.told-lines c.put_mesh.ensures in record { within = p.0; lines_after = p.1 }
