-- The ways out of surveying and decoding, as laws over lists: what each answers, and what the spaces then hold.
use mathlib.Core.Path.{◌≡◌, refl, ap, ◌∙◌, sym, subst}
use mathlib.Core.List.{List, ◌++◌}
use Prim.Native.Nat.{ℕ, ◌*◌, ◌<◌, ◌≤◌}
use lib.ListN.{length, take, drop}
use lib.IntN.{ℤ}
use borrow.Author.Tests.{lt-ltb, le-ltb, ltb-false}
use Rattle.paper.specs.Mesh.{Mesh}
use Rattle.paper.specs.Faults.{Verdict, sound, fault, single, ◌or_else◌, verdict, Told}
use Rattle.paper.specs.File.{vertices_in, faces_in, corners_in, file_mesh, header_verdict, file_verdict, no_room, Surveyed, begins, room_verdict, decode_verdict, DecodedTo}
use Rattle.mesh.proofs.Verdicts.{or_else_fault, or_else_sound, sound_left, sound_right, single_sound}
use Rattle.dms_lists.specs.lists.Room.{Room, ListsRead}
use Rattle.dms_lists.proofs.lists.Lists.{read_back_lem, file_coordinates, file_faces, file_corners, file_sharpness}
use Rattle.paper.specs.declared.Refusal.{Refusal}
use Rattle.std.specs.Prelude.{Ok, Err}
use Rattle.paper.specs.declared.Counts.{Counts}
use Rattle.paper.specs.declared.Lengths.{Lengths}

-- ---- surveying
pub later_survey : (M : Mesh) {w : Verdict} (v : Verdict) (r : Told Counts) → w ≡ sound → Surveyed M v r → Surveyed M (w or_else v) r
later_survey M v r e s = subst (λ (x : Verdict). Surveyed M x r) (sym (or_else_sound v e)) s

-- ---- decoding
module _ (file : List ℕ) (a b c d : ℕ) where
  pub no_coordinates : (n : ℕ) → n ≡ 3 * vertices_in file → a < n → fault no_room n ≡ room_verdict file a b c d
  unfolding room_verdict single ◌or_else◌
  no_coordinates n q h = rw (← q, lt-ltb a n h)

  module _ (h : 3 * vertices_in file ≤ a) where
    pub no_sides : (n : ℕ) → n ≡ faces_in file → b < n → fault no_room n ≡ room_verdict file a b c d
    unfolding room_verdict single ◌or_else◌
    no_sides n q l = rw (le-ltb a (3 * vertices_in file) h, ← q, lt-ltb b n l)

    module _ (l : faces_in file ≤ b) where
      pub no_corners : (n : ℕ) → n ≡ corners_in file → c < n → fault no_room n ≡ room_verdict file a b c d
      unfolding room_verdict single ◌or_else◌
      no_corners n q m = rw (le-ltb a (3 * vertices_in file) h, le-ltb b (faces_in file) l, ← q, lt-ltb c n m)

      module _ (m : corners_in file ≤ c) where
        pub no_sharpness : (n : ℕ) → n ≡ 2 * corners_in file → d < n → fault no_room n ≡ room_verdict file a b c d
        unfolding room_verdict single ◌or_else◌
        no_sharpness n q k =
            rw (le-ltb a (3 * vertices_in file) h, le-ltb b (faces_in file) l, le-ltb c (corners_in file) m, ← q, lt-ltb d n k)

        pub all_room : 2 * corners_in file ≤ d → sound ≡ room_verdict file a b c d
        unfolding room_verdict single ◌or_else◌
        all_room k =
            rw (le-ltb a (3 * vertices_in file) h, le-ltb b (faces_in file) l, le-ltb c (corners_in file) m, le-ltb d (2 * corners_in file) k)

  pub room_of : room_verdict file a b c d ≡ sound → Room file a b c d
  unfolding room_verdict
  room_of e =
      let later = sound_right _ _ e in
      let last = sound_right _ _ later in
      record {
        coordinates_fit = ltb-false a _ (single_sound no_room _ _ (sound_left _ _ e));
        sides_fit = ltb-false b _ (single_sound no_room _ _ (sound_left _ _ later));
        corners_fit = ltb-false c _ (single_sound no_room _ _ (sound_left _ _ last));
        sharpness_fit = ltb-false d _ (single_sound no_room _ _ (sound_right _ _ last));
      }

-- what decoding answers, into these spaces
abbrev lent_verdict : List ℕ → ℕ → Mesh → Verdict
lent_verdict file counted lent =
    decode_verdict file counted (length lent.coordinates) (length lent.sides) (length lent.corners) (length lent.sharpness)

-- and after the mesh, for room
abbrev lent_room : List ℕ → Mesh → Verdict
lent_room file lent = room_verdict file (length lent.coordinates) (length lent.sides) (length lent.corners) (length lent.sharpness)

pub header_decides : (file : List ℕ) (counted : ℕ) (lent : Mesh) (k p : ℕ) → fault k p ≡ header_verdict file counted → fault k p ≡ lent_verdict file counted lent
unfolding decode_verdict file_verdict
header_decides file counted lent k p e = sym (or_else_fault k p _ (or_else_fault k p _ (sym e)))

pub lists_decide : (file : List ℕ) (counted : ℕ) (lent : Mesh) {v : Verdict} → header_verdict file counted ≡ sound
    → v ≡ verdict (file_mesh file) or_else lent_room file lent → v ≡ lent_verdict file counted lent
unfolding decode_verdict file_verdict
lists_decide file counted lent h e = e ∙ ap (λ (w : Verdict). w or_else lent_room file lent) (sym (or_else_sound (verdict (file_mesh file)) h))

-- the first n of a list, copied into the beginning of a lent space
pub begun : {A : Type 0} (n : ℕ) (own new lent : List A) → n ≡ length (take n own) → new ≡ take n own → new ++ drop n lent ≡ begins (take n own) lent
begun n own new lent l e = rw (e, ← l)

-- the lists that were read, copied to the lent spaces
pub lists_copied : (file : List ℕ) (n f k p : ℕ) (old own lent left : Mesh) → n ≡ 3 * vertices_in file → f ≡ faces_in file → k ≡ corners_in file
    → p ≡ 2 * corners_in file → ListsRead file old own → left.coordinates ≡ begins (take n own.coordinates) lent.coordinates
    → left.sides ≡ begins (take f own.sides) lent.sides → left.corners ≡ begins (take k own.corners) lent.corners
    → left.sharpness ≡ begins (take p own.sharpness) lent.sharpness → ListsRead file lent left
lists_copied file n f k p old own lent left q r s t h a b c d =
    record {
      coordinates_hold = a ∙ ap (λ (l : List ℤ). begins l lent.coordinates)
          (read_back_lem n (file_mesh file).coordinates old.coordinates own.coordinates (q ∙ file_coordinates file) h.coordinates_hold);
      sides_hold = b ∙ ap (λ (l : List ℕ). begins l lent.sides)
          (read_back_lem f (file_mesh file).sides old.sides own.sides (r ∙ file_faces file) h.sides_hold);
      corners_hold = c ∙ ap (λ (l : List ℕ). begins l lent.corners)
          (read_back_lem k (file_mesh file).corners old.corners own.corners (s ∙ file_corners file) h.corners_hold);
      sharpness_hold = d ∙ ap (λ (l : List ℕ). begins l lent.sharpness)
          (read_back_lem p (file_mesh file).sharpness old.sharpness own.sharpness (t ∙ file_sharpness file) h.sharpness_hold);
    }

module _ (file : List ℕ) (counted : ℕ) (lent : Mesh) where
  pub refused_decode : (r : Refusal) → fault r.number r.place ≡ lent_verdict file counted lent → DecodedTo file counted lent (Err r) lent
  refused_decode r e = record { answers = e; lengths = tt; coordinates_hold = refl; sides_hold = refl; corners_hold = refl; sharpness_hold = refl }

  pub done_decode : (n f k p : ℕ) (left : Mesh) → n ≡ 3 * vertices_in file → f ≡ faces_in file → k ≡ corners_in file → p ≡ 2 * corners_in file
      → sound ≡ lent_verdict file counted lent → ListsRead file lent left
      → DecodedTo file counted lent (Ok (record { coordinates = n; sides = f; corners = k; sharpness = p })) left
  done_decode n f k p left q r s t e h =
      search (q ∙ file_coordinates file, r ∙ file_faces file, s ∙ file_corners file, t ∙ file_sharpness file)

-- the bytes held are the file
pub decode_held : (held file : List ℕ) (counted : ℕ) (lent : Mesh) (r : Told Lengths) (left : Mesh) → held ≡ file
    → DecodedTo held counted lent r left → DecodedTo file counted lent r left
decode_held held file counted lent r left e d = subst (λ (l : List ℕ). DecodedTo l counted lent r left) e d
