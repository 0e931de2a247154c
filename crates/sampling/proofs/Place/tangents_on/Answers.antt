-- `sampling::Place::tangents_on` meets its contract: the values of the two derivatives at j and k are the tangents.
use mathlib.Core.Path.{sym, subst}
use native.Mathlib.Omega.{arith}
use Rattle.bernstein.specs.declared.Matrix5.{Matrix5}
use Rattle.bernstein.specs.Sums.{AllTapered}
use Rattle.bernstein.proofs.Tapering.{along_tapers, inward_tapers, tapered_sized}
use Rattle.sampling.proofs.TangentLaws.{points_fit, tapers, tangent_on}
use Rattle.sampling.proofs.Place.tangents_on.Goals as goal
use Rattle.sampling.proofs.Place.tangents_on.Goals.{After-polynomial-c}

pub polynomial-c-requires : goal.polynomial-c-requires
polynomial-c-requires c = (
  points_fit c.args.self.now.numbers.now c.args.self.now.net.0 c.args.self.now.side c.args.axis c.requires c.args.self.now.j c.args.self.now.k c.args.self.now.n c.args.self.now.parts.1
      (omega (arith, c.args.self.now.parts.2)) _ c.control_points-points.ensures,
  c.args.self.now.parts.1,
)

module _ (c : After-polynomial-c) where
  tapering : AllTapered c.polynomial-c.result
  tapering =
      tapers c.args.self.now.numbers.now c.args.self.now.net.0 c.args.self.now.side c.args.axis c.requires c.args.self.now.j c.args.self.now.k c.args.self.now.n c.args.self.now.parts.1
      (omega (arith, c.args.self.now.parts.2)) _ c.control_points-points.ensures _ c.polynomial-c.ensures

pub along-requires : goal.along-requires
along-requires c =
    tapered_sized _ (tapering (goal.at.along-requires c).After-polynomial-c)

pub value_in-requires : goal.value_in-requires
value_in-requires c = (
  subst (λ (q : Matrix5). AllTapered q) (sym c.along.ensures) (along_tapers _ (tapering (goal.at.value_in-requires c).After-polynomial-c)),
  omega (arith, c.args.self.now.parts.1, c.args.self.now.parts.2),
  omega (arith, c.args.self.now.parts.1, c.args.self.now.parts.2),
)

pub inward-requires : goal.inward-requires
inward-requires c =
    tapered_sized _ (tapering (goal.at.inward-requires c).After-polynomial-c)

pub value_in-requires-2 : goal.value_in-requires-2
value_in-requires-2 c = (
  subst (λ (q : Matrix5). AllTapered q) (sym c.inward.ensures) (inward_tapers _ (tapering (goal.at.value_in-requires-2 c).After-polynomial-c)),
  omega (arith, c.args.self.now.parts.1, c.args.self.now.parts.2),
  omega (arith, c.args.self.now.parts.1, c.args.self.now.parts.2),
)

pub returns : goal.returns
returns c =
    tangent_on c.args.self.now.numbers.now c.args.self.now.net.0 c.args.self.now.side c.args.axis c.requires c.args.self.now.j c.args.self.now.k c.args.self.now.n c.args.self.now.parts.1
    (omega (arith, c.args.self.now.parts.2)) _ c.control_points-points.ensures _ c.polynomial-c.ensures _ _ c.along.ensures c.inward.ensures _ _
    c.value_in.ensures c.value_in-2.ensures
