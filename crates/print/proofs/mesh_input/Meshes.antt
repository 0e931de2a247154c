-- A file that is decoded leaves its lists, within the limits, and one that is refused leaves nothing.
use mathlib.Core.Path.{◌≡◌, refl, sym, ap, subst, ◌∙◌}
use mathlib.Core.List.{List, []}
use Prim.Native.Nat.{ℕ, ◌*◌}
use native.Mathlib.Omega.{arith}
use lib.ListN.{length}
use lib.IntN.{ℤ}
use Rattle.paper.specs.Mesh.{Mesh, mesh_of, most_vertices, most_faces, most_corners}
use Rattle.paper.specs.Faults.{Accepted}
use Rattle.paper.specs.File.{file_of, file_mesh, header_verdict, file_verdict, decode_verdict, DecodedTo}
use Rattle.paper.specs.declared.Lengths.{Lengths}
use Rattle.paper.specs.declared.Refusal.{Refusal}
use Rattle.mesh.proofs.Verdicts.{sound_left, sound_right}
use Rattle.surveying.proofs.Surveys.{limits}
use Rattle.dms_lists.proofs.lists.Lists.{file_coordinates, file_corners, file_sharpness}
use Rattle.std.specs.Prelude.{Ok, Err, min}
use Rattle.print.specs.mesh_input.Fitting.{FileRead, MeshRead}
use Rattle.std.specs.declared.result.Result.{Result}
use Rattle.print.specs.declared.mesh_input.MeshLengths.{MeshLengths}
use Rattle.print.specs.declared.mesh_input.NoMesh.{NoMesh}
use Rattle.print.specs.declared.mesh_input.NoMesh.TheVariants.{Unread, Refused}

same_lists : (M N : Mesh) → M.coordinates ≡ N.coordinates → M.sides ≡ N.sides → M.corners ≡ N.corners → M.sharpness ≡ N.sharpness → M ≡ N
same_lists M N a b c d =
    ap (λ (l : List ℤ). mesh_of l M.sides M.corners M.sharpness) a
    ∙ ap (λ (l : List ℕ). mesh_of N.coordinates l M.corners M.sharpness) b
    ∙ ap (λ (l : List ℕ). mesh_of N.coordinates N.sides l M.sharpness) c
    ∙ ap (λ (l : List ℕ). mesh_of N.coordinates N.sides N.corners l) d

not_refused : (r : MeshLengths) (e : NoMesh) → ◌≡◌ {A = Result MeshLengths NoMesh} (Ok r) (Err e) → ⊥
not_refused r e q = cc

not_unread : (y : Refusal) → ◌≡◌ {A = Result MeshLengths NoMesh} (Err Unread) (Err (Refused y)) → ⊥
not_unread y q = cc

module _ (bytes : List ℕ) (counted : ℕ) (lent : Mesh) (left : Mesh) where
  mesh : Mesh
  mesh = file_mesh (file_of bytes counted)

  pub mesh_refused : (x : Refusal) → DecodedTo (file_of bytes counted) counted lent (Err x) left → FileRead bytes counted lent (Err (Refused x)) left
  unfolding mesh
  mesh_refused x reads =
      record {
        fits = tt;
        found = tt;
        none = same_lists left lent reads.coordinates_hold reads.sides_hold reads.corners_hold reads.sharpness_hold;
        refused = λ y e. let q : x ≡ y = cc in subst (λ z. DecodedTo (file_of bytes counted) counted lent (Err z) left) q reads;
      }

  module _ (d : Lengths) (reads : DecodedTo (file_of bytes counted) counted lent (Ok d) left) where
    accepted : Accepted mesh
    unfolding mesh decode_verdict file_verdict
    accepted =
        sound_right (header_verdict (file_of bytes counted) counted) _ (sound_left (file_verdict (file_of bytes counted) counted) _
        (sym reads.answers))

    pub mesh_found : (r : MeshLengths) → r.numbers ≡ min d.coordinates (3 * most_vertices) → r.faces ≡ min d.sides most_faces
        → r.corners ≡ min d.corners most_corners → r.pairs ≡ min d.sharpness (2 * most_corners) → FileRead bytes counted lent (Ok r) left
    unfolding mesh
    mesh_found r a b c e =
        let file = file_of bytes counted in
        let l = limits mesh accepted in
        let vs : d.coordinates ≡ length mesh.coordinates = ap (λ z. z.coordinates) reads.lengths in
        let fs : d.sides ≡ length mesh.sides = ap (λ z. z.sides) reads.lengths in
        let cs : d.corners ≡ length mesh.corners = ap (λ z. z.corners) reads.lengths in
        let hs : d.sharpness ≡ length mesh.sharpness = ap (λ z. z.sharpness) reads.lengths in
        record {
          fits = record { coordinates_fit = omega (arith, a); sides_fit = omega (arith, b); corners_fit = omega (arith, c); sharpness_fit = omega (arith, e) };
          found = record {
            decoded = d;
            reads = reads;
            numbers_are = omega (arith, a, vs, file_coordinates file, l.0);
            faces_are = omega (arith, b, fs, l.1.0);
            corners_are = omega (arith, c, cs, l.1.1);
            pairs_are = omega (arith, e, hs, file_sharpness file, file_corners file, l.1.1);
          };
          none = tt;
          refused = λ y e. absurd (not_refused r (Refused y) e);
        }

-- nothing was read
pub mesh_none : (lent : Mesh) → MeshRead lent (Err Unread) lent
mesh_none lent = record {
  bytes = [];
  counted = 0;
  read = record { fits = tt; found = tt; none = refl; refused = λ y e. absurd (not_unread y e) };
}
