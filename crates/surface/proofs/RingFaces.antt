-- The rings of a corner of an accepted mesh lie in the faces at its vertex (`ring_beside`), and each of their corners is at a vertex of its own face
-- (`ring_seen`), so its net looks at the refined points of these corners only.
use mathlib.Core.Path.{◌≡◌, refl, sym, ap, ◌∙◌}
use Prim.Native.Nat.{ℕ, zero, suc, ◌%◌, ◌<◌}
use Rattle.paper.specs.Scan.{iterate}
use Rattle.paper.specs.Mesh.{Mesh, corner_count}
use Rattle.paper.specs.Corners.{face_of, next, previous}
use Rattle.paper.specs.Links.{vertex_of, link}
use Rattle.paper.specs.Faults.{Accepted}
use Rattle.paper.specs.Refined.{corners_of}
use Rattle.paper.specs.Net.{End, vertex, leaving, face, arriving, quad, ring}
use Rattle.mesh.proofs.Theorems.{manifold}
use Rattle.surface.proofs.Rings.{iterate_in, pick_one}

-- the face of d has a corner, `at`, that is at the vertex of c
pub record Beside (M : Mesh) (c d : ℕ) : Type 0 where
  pub at : ℕ
  pub at_in : at < corner_count M
  pub at_vertex : vertex_of M.corners at ≡ vertex_of M.corners c
  pub in_face_lem : face_of M.sides d ≡ face_of M.sides at

-- d is at a vertex of the face of c: at that of its corner `at`
pub record MeetsFace (M : Mesh) (c d : ℕ) : Type 0 where
  pub at : ℕ
  pub at_in : at < corner_count M
  pub at_face : face_of M.sides at ≡ face_of M.sides c
  pub same_vertex : vertex_of M.corners d ≡ vertex_of M.corners at

module _ (M : Mesh) (a : Accepted M) where
  abbrev next_of : ℕ → ℕ
  next_of = next M.sides

  abbrev previous_of : ℕ → ℕ
  previous_of = previous M.sides

  abbrev link_of : ℕ → ℕ
  link_of = link M.sides M.corners

  links_vertex : (c : ℕ) → c < corner_count M → (j : ℕ) → vertex_of M.corners (iterate j link_of c) ≡ vertex_of M.corners c
  unfolding iterate
  links_vertex c h zero = refl
  links_vertex c h (suc j) =
      (manifold M a (iterate j link_of c) (iterate_in link_of (corner_count M) (λ d l. (manifold M a d l).link_below) j c h)).link_vertex ∙ links_vertex c h j

  nexts_face : (c : ℕ) → c < corner_count M → (j : ℕ) → face_of M.sides (iterate j next_of c) ≡ face_of M.sides c
  unfolding iterate
  nexts_face c h zero = refl
  nexts_face c h (suc j) =
      (manifold M a (iterate j next_of c) (iterate_in next_of (corner_count M) (λ d l. (manifold M a d l).next_below) j c h)).face_next ∙ nexts_face c h j

  module _ (c : ℕ) (h : c < corner_count M) where
    -- in c's own face
    own : (d : ℕ) → face_of M.sides d ≡ face_of M.sides c → Beside M c d
    own d e = record { at = c; at_in = h; at_vertex = refl; in_face_lem = e }

    quad_leaving : (j : ℕ) → Beside M c (quad (corners_of M) c j)
    unfolding quad
    quad_leaving j =
        let m = manifold M a c h in
        let l = manifold M a (link_of c) m.link_below in
        pick_one (Beside M c) c (next_of c) (previous_of (link_of c)) (link_of c)
        (own c refl)
        (own (next_of c) m.face_next)
        (record { at = link_of c; at_in = m.link_below; at_vertex = m.link_vertex; in_face_lem = l.face_previous })
        (record { at = link_of c; at_in = m.link_below; at_vertex = m.link_vertex; in_face_lem = refl })
        (j % 4)

    -- the corner across the arriving edge has c as its link
    quad_arriving : (j : ℕ) → Beside M c (quad (corners_of M) (previous_of c) j)
    unfolding quad
    quad_arriving j =
        let m = manifold M a c h in
        let p = manifold M a (previous_of c) m.previous_below in
        let l = manifold M a (link_of (previous_of c)) p.link_below in
        let x = previous_of (link_of (previous_of c)) in
        let v = sym (manifold M a x l.previous_below).link_vertex ∙ ap (vertex_of M.corners) m.relinked in
        pick_one (Beside M c) (previous_of c) (next_of (previous_of c)) x (link_of (previous_of c))
        (own (previous_of c) m.face_previous)
        (own (next_of (previous_of c)) (ap (face_of M.sides) m.next_previous))
        (record { at = x; at_in = l.previous_below; at_vertex = v; in_face_lem = refl })
        (record { at = x; at_in = l.previous_below; at_vertex = v; in_face_lem = sym l.face_previous })
        (j % 4)

    pub ring_beside : (e : End) (j : ℕ) → Beside M c (ring (corners_of M) c e j)
    ring_beside vertex j =
        record {
          at = iterate j link_of c;
          at_in = iterate_in link_of (corner_count M) (λ d l. (manifold M a d l).link_below) j c h;
          at_vertex = links_vertex c h j;
          in_face_lem = refl;
        }
    ring_beside leaving j = quad_leaving j
    ring_beside face j = own (iterate j next_of c) (nexts_face c h j)
    ring_beside arriving j = quad_arriving j

    -- a corner at the vertex of c, and a corner of c's own face
    turned : (d : ℕ) → vertex_of M.corners d ≡ vertex_of M.corners c → MeetsFace M c d
    turned d e = record { at = c; at_in = h; at_face = refl; same_vertex = e }

    inside : (d : ℕ) → d < corner_count M → face_of M.sides d ≡ face_of M.sides c → MeetsFace M c d
    inside d l e = record { at = d; at_in = l; at_face = e; same_vertex = refl }

    seen_leaving : (j : ℕ) → MeetsFace M c (quad (corners_of M) c j)
    unfolding quad
    seen_leaving j =
        let m = manifold M a c h in
        let l = manifold M a (link_of c) m.link_below in
        let x = manifold M a (previous_of (link_of c)) l.previous_below in
        pick_one (MeetsFace M c) c (next_of c) (previous_of (link_of c)) (link_of c)
        (turned c refl)
        (inside (next_of c) m.next_below m.face_next)
        (record {
          at = next_of c;
          at_in = m.next_below;
          at_face = m.face_next;
          same_vertex = sym x.link_vertex ∙ ap (vertex_of M.corners) m.across;
        })
        (turned (link_of c) m.link_vertex)
        (j % 4)

    seen_arriving : (j : ℕ) → MeetsFace M c (quad (corners_of M) (previous_of c) j)
    unfolding quad
    seen_arriving j =
        let m = manifold M a c h in
        let p = manifold M a (previous_of c) m.previous_below in
        let l = manifold M a (link_of (previous_of c)) p.link_below in
        let x = previous_of (link_of (previous_of c)) in
        pick_one (MeetsFace M c) (previous_of c) (next_of (previous_of c)) x (link_of (previous_of c))
        (inside (previous_of c) m.previous_below m.face_previous)
        (turned (next_of (previous_of c)) (ap (vertex_of M.corners) m.next_previous))
        (turned x (sym (manifold M a x l.previous_below).link_vertex ∙ ap (vertex_of M.corners) m.relinked))
        (record { at = previous_of c; at_in = m.previous_below; at_face = m.face_previous; same_vertex = p.link_vertex })
        (j % 4)

    pub ring_seen : (e : End) (j : ℕ) → MeetsFace M c (ring (corners_of M) c e j)
    ring_seen vertex j = turned (iterate j link_of c) (links_vertex c h j)
    ring_seen leaving j = seen_leaving j
    ring_seen face j =
        inside (iterate j next_of c) (iterate_in next_of (corner_count M) (λ d l. (manifold M a d l).next_below) j c h) (nexts_face c h j)
    ring_seen arriving j = seen_arriving j
