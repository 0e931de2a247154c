-- `across` meets its contract: it goes by the test.
use Rattle.reversing.proofs.states.across.Goals as goal

pub returns-then-same : goal.returns-then-same
returns-then-same c = rw c.if-same.true

pub returns-else-same : goal.returns-else-same
returns-else-same c = rw c.if-same.false
