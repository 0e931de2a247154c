-- `put_three` meets its contract: three stores.
use Rattle.strips.proofs.Rowed.{fills_three}
use Rattle.strips.proofs.put_three.Goals as goal

pub returns : goal.returns
returns c = fills_three c.args.at c.args.a c.args.b c.args.c c.args.out.now c.requires
