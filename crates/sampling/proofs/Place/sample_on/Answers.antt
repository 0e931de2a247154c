-- `sampling::Place::sample_on` meets its contract: the value of the row at j is the Bernstein sum.
use borrow.Author.Rules.{rules}
use native.Mathlib.Omega.{arith}
use Rattle.sampling.proofs.Laws.{p_sized, r_tapers, v_small, v_sample}
use Rattle.sampling.proofs.Place.sample_on.Goals as goal

pub row_at-e-requires : goal.row_at-e-requires
row_at-e-requires c = (
  p_sized c.args.self.now.numbers.now c.args.self.now.net.0 c.args.self.now.side c.args.axis c.requires c.args.self.now.j c.args.self.now.k c.args.self.now.n c.args.self.now.parts.0
      c.args.self.now.parts.1 (omega (arith, c.args.self.now.parts.2)) _ c.control_points-p.ensures,
  omega (arith, c.args.self.now.parts.1, c.args.self.now.parts.2),
  c.args.self.now.parts.1,
)

pub value_at-v-requires : goal.value_at-v-requires
value_at-v-requires c = (
  r_tapers c.args.self.now.numbers.now c.args.self.now.net.0 c.args.self.now.side c.args.axis c.requires c.args.self.now.j c.args.self.now.k c.args.self.now.n c.args.self.now.parts.0
      c.args.self.now.parts.1 (omega (arith, c.args.self.now.parts.2)) _ c.control_points-p.ensures _ c.row_at-e.ensures,
  omega (arith, c.args.self.now.parts.1, c.args.self.now.parts.2),
)

pub rounded-requires : goal.rounded-requires
rounded-requires c = (
  c.args.self.now.parts.0,
  c.args.self.now.parts.1,
  v_small c.args.self.now.numbers.now c.args.self.now.net.0 c.args.self.now.side c.args.axis c.requires c.args.self.now.j c.args.self.now.k c.args.self.now.n c.args.self.now.parts.0
      c.args.self.now.parts.1 (omega (arith, c.args.self.now.parts.2)) _ c.control_points-p.ensures _ c.row_at-e.ensures _ c.value_at-v.ensures,
)

pub returns : goal.returns
returns c =
    v_sample c.args.self.now.numbers.now c.args.self.now.net.0 c.args.self.now.side c.args.axis c.requires c.args.self.now.j c.args.self.now.k c.args.self.now.n c.args.self.now.parts.0
    c.args.self.now.parts.1 (omega (arith, c.args.self.now.parts.2)) _ c.control_points-p.ensures _ c.row_at-e.ensures _
    c.value_at-v.ensures c.rounded.result (search rules) c.rounded.ensures c.args.self.now.i c.args.self.now.parts.2
