-- The faults of the lists' own numbers begin those of the lists, and what lists without one have.
use mathlib.Core.Path.{◌≡◌}
use mathlib.Core.Bool.{false}
use lib.ListN.{length}
use Rattle.paper.specs.Mesh.{Mesh, vertex_count, face_count, corner_count}
use Rattle.paper.specs.Faults.{sound, ◌or_else◌, lowest_of, fault4, fault5, fault8, fault9, list_faults}
use Rattle.mesh.proofs.Verdicts.{sound_left, sound_right, single_sound, lowest_sound, or_else_assoc}
use Rattle.mesh.proofs.Accepted.{few_vertices, few_corners, sides_within, sums_of, named_of}
use Rattle.list_checks.specs.Entries.{entry_faults, Listed}

pub then_nine : (M : Mesh) → entry_faults M or_else lowest_of 9 (corner_count M) (fault9 M.sides M.corners) ≡ list_faults M
unfolding entry_faults list_faults
then_nine M = simp or_else_assoc

pub listed : (M : Mesh) → entry_faults M ≡ sound → Listed M
unfolding entry_faults
listed M e4 =
    let e5 = sound_right _ _ (sound_right _ _ e4) in
    let e6 = sound_right _ _ e5 in
    let e8 = sound_right _ _ (sound_right _ _ e6) in
    let b : fault4 (length M.coordinates) (face_count M) (corner_count M) ≡ false = single_sound _ _ _ (sound_left _ _ e4) in
    record {
      few = few_vertices (length M.coordinates) (face_count M) (corner_count M) b;
      small = few_corners (length M.coordinates) (face_count M) (corner_count M) b;
      sums = sums_of M.sides (corner_count M) (single_sound _ _ _ (sound_left _ _ e6));
      sided = λ f l. (sides_within M.sides f (lowest_sound 5 (face_count M) (fault5 M.sides) (sound_left _ _ e5) f l)).0;
      named = λ c l. named_of (vertex_count M) M.corners c (lowest_sound 8 (corner_count M) (fault8 (vertex_count M) M.corners) (sound_left _ _ e8) c l);
    }
