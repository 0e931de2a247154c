-- An accepted mesh gives what refined points are computed from, and its table of corners is sound.
use mathlib.Core.Path.{refl, sym}
use mathlib.Core.List.{List}
use Prim.Native.Nat.{ℕ, ◌<◌}
use native.Mathlib.Omega.{arith}
use lib.ListN.{length}
use Rattle.paper.specs.Mesh.{Mesh, vertex_count, face_count, corner_count}
use Rattle.paper.specs.Links.{vertex_of}
use Rattle.paper.specs.Faults.{Accepted}
use Rattle.paper.specs.Refined.{corners_of}
use Rattle.mesh.proofs.Accepted.{sound_of, few_corners, sides_within, sums_of, named_of, sharp_length, sharp_within}
use Rattle.surface.specs.Sound.{Sound, Agree}
use Rattle.surface.proofs.Hull.{coordinate_size, corners_sound}
use Rattle.surface.proofs.Agree.{sound_same}
use Rattle.walk.specs.Table.{Tabled, tabled}
use Rattle.face_sums.specs.Sums.{FacesWithin}
use Rattle.refine.specs.Sources.{Refinable}

module _ (M : Mesh) (a : Accepted M) where
  pub faces_of_lem : FacesWithin M.sides
  faces_of_lem =
      let s = sound_of M a in
      record {
        few = omega (arith, few_corners (length M.coordinates) (face_count M) (corner_count M) s.four, sums_of M.sides (corner_count M) s.six);
        least = λ f h. (sides_within M.sides f (s.five f h)).0;
        most = λ f h. (sides_within M.sides f (s.five f h)).1;
      }

  pub vertex_in : (c : ℕ) → c < corner_count M → vertex_of M.corners c < vertex_count M
  vertex_in c h = named_of (vertex_count M) M.corners c ((sound_of M a).eight c h)

  pub refinable_of : Refinable M
  refinable_of =
      record {
        faces = faces_of_lem;
        sums = sums_of M.sides (corner_count M) (sound_of M a).six;
        placed = record { named = vertex_in; within = λ i h. coordinate_size M a i };
        sharp = record {
          pairs = omega (arith, sharp_length (length M.sharpness) (corner_count M) (sound_of M a).twenty_seven);
          sixteenths = sharp_within M a;
        };
      }

module _ (M : Mesh) (table : List ℕ) (t : Tabled (corners_of M) table) where
  pub table_agrees : Agree (corners_of M) (tabled (corner_count M) table)
  table_agrees = record {
    count = refl;
    next = λ c h. sym (t.nexts c h);
    previous = λ c h. sym (t.previouses c h);
    link = λ c h. sym (t.links c h);
    sides = λ c h. sym (t.sides c h);
    valence = λ c h. sym (t.valences c h);
  }

  pub table_sound : Accepted M → Sound (tabled (corner_count M) table)
  table_sound accepted = sound_same (corners_of M) (tabled (corner_count M) table) table_agrees (corners_sound M accepted)
