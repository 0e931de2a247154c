-- `turn` meets its contract: 36, then 4 to 9, then 34 and 35, and only then it writes.
use mathlib.Core.Path.{◌≡◌, ap, ◌∙◌}
use Rattle.std.proofs.lemmas.Result.{err_from_is_err_and}
use native.Mathlib.Omega.{arith}
use lib.ListN.{length}
use Rattle.paper.specs.Mesh.{Mesh, mesh_of, vertex_count}
use Rattle.paper.specs.Faults.{sound, list_faults, stated, done}
use Rattle.partners.specs.Lists.{ListsPass}
use Rattle.walk.proofs.Table.{blank}
use Rattle.turning.proofs.Theorems.{long_of}
use Rattle.turning.proofs.Laws.{lists_pass, turned_refused, length_refused, verdict_is, passes, turned_done}
use Rattle.turning.proofs.turn.Goals as goal
use Rattle.turning.proofs.turn.Goals.{After-choose}

pub returns-then-listing-sides : goal.returns-then-listing-sides
returns-then-listing-sides c =
    let m = mesh_of c.args.coordinates.now c.args.sides.now c.args.corners.now c.args.sharpness.now in
    turned_refused m c.args.listing.now _
    (length_refused m c.args.listing.now c.if-listing-sides.true)

pub choose-requires : goal.choose-requires
choose-requires c = (omega arith, blank 4096)

-- After the choice: the listing is as long as the sides, and what was chosen.
module _ (a : After-choose) where
  -- the mesh of the call
  abbrev mesh : Mesh
  mesh = mesh_of a.args.coordinates.now a.args.sides.now a.args.corners.now a.args.sharpness.now

  same : length a.args.listing.now ≡ length a.args.sides.now
  same = a.if-listing-sides.false

  -- where it is done, the lists pass 4 to 9
  module _ (d : a.choose.result ≡ done) where
    sound-lists : list_faults mesh ≡ sound
    sound-lists = passes mesh a.args.listing.now same a.choose.ensures d

    passed : ListsPass (vertex_count mesh) a.args.sides.now a.args.corners.now
    passed = lists_pass mesh sound-lists

pub returns-in_err-choose : goal.returns-in_err-choose
returns-in_err-choose c =
    let m = mesh_of c.args.coordinates.now c.args.sides.now c.args.corners.now c.args.sharpness.now in
    let a = (goal.at.returns-in_err-choose c).After-choose in
    let p = err_from_is_err_and c.from_residual.result c.from_residual.ensures.1 in
    rw (p.1, p.2) (turned_refused m c.args.listing.now _ (verdict_is m c.args.listing.now (same a) a.choose.ensures ∙ ap stated c.in_err-choose.was))

pub turn_sharpness-requires : goal.turn_sharpness-requires
turn_sharpness-requires c =
    let m = mesh_of c.args.coordinates.now c.args.sides.now c.args.corners.now c.args.sharpness.now in
    let a = (goal.at.turn_sharpness-requires c).After-choose in
    let d = c.in_ok-choose.was in
    let z = passed a d in
    record {
      few_faces = z.few_faces;
      few_corners = omega (arith, z.few_corners, z.listed.sums);
      least = z.listed.least;
      sums = omega (arith, long_of m (sound-lists a d), z.listed.sums);
      states_long = omega (arith, c.choose.auto.states, z.few_faces);
    }

pub turn_faces-requires : goal.turn_faces-requires
turn_faces-requires c =
    let a = (goal.at.turn_faces-requires c).After-choose in
    let z = passed a c.in_ok-choose.was in
    record {
      few_faces = z.few_faces;
      few_corners = z.few_corners;
      least = z.listed.least;
      sums = z.listed.sums;
      states_long = omega (arith, a.choose.auto.states, z.few_faces);
      listing_long = same a;
    }

pub returns : goal.returns
returns c =
    let m = mesh_of c.args.coordinates.now c.args.sides.now c.args.corners.now c.args.sharpness.now in
    let a = (goal.at.returns c).After-choose in
    turned_done m _ (same a) a.choose.ensures c.in_ok-choose.was c.turn_sharpness.ensures c.turn_faces.ensures
