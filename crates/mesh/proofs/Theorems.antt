-- Each corner of an accepted mesh has what `Manifold` says: next and previous from the faces, links from the absence of 10 and 11,
-- rings from that of 13.
use mathlib.Core.Path.{ap}
use Prim.Native.Nat.{◌<◌}
use native.Mathlib.Omega.{arith}
use Rattle.paper.specs.Mesh.{vertex_count}
use Rattle.paper.specs.Corners.{sum_of, face_of, sides_of}
use Rattle.paper.specs.Links.{vertex_of, valence}
use Rattle.paper.specs.Claims.{Manifolds}
use Rattle.mesh.proofs.Faces.{held, face_next, face_previous, sides_next, sides_previous}
use Rattle.mesh.proofs.Links.{next_in, previous_in, there, back, reverse_reverse, link_in, link_vertex, link_previous_link, unlink_link, link_unlink}
use Rattle.mesh.proofs.Links.{link_injective}
use Rattle.mesh.proofs.Accepted.{sound_of, closed_of, named_of, sides_within, valence_within, links_return, next_turn}

pub manifold : Manifolds
unfolding sides_of
manifold M a c h =
    let sides = M.sides in
    let corners = M.corners in
    let s = sound_of M a in
    let k = closed_of M s in
    let b : c < sum_of sides = omega (arith, k.sums) in
    let v : vertex_of corners c < vertex_count M = named_of (vertex_count M) corners c (s.eight c h) in
    let u = valence_within corners (vertex_of corners c) (s.twelve (vertex_of corners c) v) in
    let f = sides_within sides (face_of sides c) (s.five (face_of sides c) (held sides c b).exists) in
    record {
      named = v;
      next_below = next_in sides corners k c h;
      previous_below = previous_in sides corners k c h;
      link_below = link_in sides corners k c h;
      next_previous = there sides corners k c h;
      previous_next = back sides corners k c h;
      face_next = face_next sides c b;
      face_previous = face_previous sides c b;
      sides_next = sides_next sides c b;
      sides_previous = sides_previous sides c b;
      face_turn = next_turn sides c b;
      link_vertex = link_vertex sides corners k c h;
      link_valence = ap (valence corners) (link_vertex sides corners k c h);
      injective = λ d l e. link_injective sides corners k c d h l e;
      unlinked = unlink_link sides corners k c h;
      relinked = link_unlink sides corners k c h;
      vertex_turn = links_return M a c h;
      across = link_previous_link sides corners k c h;
      twice_reversed = reverse_reverse sides corners k c h;
      sides_from_lem = f.0;
      sides_to = f.1;
      valence_from = u.0;
      valence_to = u.1;
    }
