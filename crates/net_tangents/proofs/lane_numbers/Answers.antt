-- `lane_numbers` meets its contract: the polynomials in k taper.
use mathlib.Core.Path.{◌≡◌, ap, ◌∙◌}
use lib.Dec.{lit≤}
use Rattle.bernstein.specs.declared.Matrix5.{Matrix5}
use Rattle.bernstein.specs.Sums.{states_of}
use Rattle.net_tangents.specs.Lanes.{forward_of}
use Rattle.net_tangents.proofs.Lanes.{forward_size, lane_sizes}
use Rattle.net_tangents.proofs.lane_numbers.Goals as goal
use Rattle.net_tangents.proofs.lane_numbers.Goals.{After-states}

pub states-requires : goal.states-requires
states-requires c = rw c.forward.ensures (forward_size c.args.c c.requires)

module _ (t : After-states) where
  is : t.states.result ≡ states_of (forward_of t.args.c) 0
  is = t.states.ensures ∙ ap (λ (m : Matrix5). states_of m 0) t.forward.ensures

pub returns : goal.returns
returns c = (is (search), rw (is (search)) (lane_sizes c.args.c c.requires 0 (lit≤ tt)))
