-- The ways out of surveying, as laws: what each answers.
use mathlib.Core.Path.{◌≡◌}
use Prim.Native.Nat.{◌≤◌}
use Rattle.paper.specs.Mesh.{most_vertices, most_faces, most_corners, Mesh, vertex_count, face_count, corner_count}
use Rattle.paper.specs.Faults.{Verdict, sound, fault, Accepted}
use Rattle.paper.specs.Counts.{Counted}
use Rattle.paper.specs.File.{Surveyed}
use Rattle.paper.specs.declared.Counts.{Counts}
use Rattle.mesh.proofs.Accepted.{sound_of, few_vertices, few_faces, few_corners}
use Rattle.paper.specs.declared.Refusal.{Refusal}
use Rattle.std.specs.Prelude.{Ok, Err}

module _ (M : Mesh) (v : Verdict) where
  pub refused_survey : (r : Refusal) → fault r.number r.place ≡ v → Surveyed M v (Err r)
  refused_survey r e = record { answers = e; counts = tt }

  pub done_survey : (counts : Counts) → sound ≡ v → Counted M counts → Surveyed M v (Ok counts)
  done_survey counts e h = record { answers = e; counts = h }

-- an accepted mesh is within the limits
pub limits : (M : Mesh) → Accepted M → (vertex_count M ≤ most_vertices) × ((face_count M ≤ most_faces) × (corner_count M ≤ most_corners))
limits M e =
    let four = (sound_of M e).four in
    (few_vertices _ _ _ four, (few_faces _ _ _ four, few_corners _ _ _ four))
