-- The ways out of the header's check, and what a header that passes says of the file.
use mathlib.Core.Path.{◌≡◌, sym}
use mathlib.Core.Bool.{true, false, not}
use mathlib.Core.List.{List, [], ◌∷◌}
use Rattle.std.specs.List.{starts_with}
use Rattle.std.specs.Cmp.{nat_eq_equiv}
use Rattle.std.proofs.Math.Bool.{and-true}
use Prim.Native.Nat.{ℕ, ◌*◌, ◌<◌, ◌≤◌}
use native.Mathlib.Omega.{arith}
use lib.Dec.{ltb, eqb}
use lib.ListN.{length}
use borrow.Author.Tests.{lt-ltb, le-ltb, eq-eqb, ne_eqb, ltb-false, eqb-true, not-false}
use Rattle.paper.specs.Faults.{sound, fault, single, ◌or_else◌, fault4}
use Rattle.paper.specs.File.{header_length, marked, version_in, known, sharp, vertices_in, faces_in, corners_in, sharpness_bytes, expected_length}
use Rattle.paper.specs.File.{length_verdict, header_verdict}
use Rattle.mesh.proofs.Ranges.{none_left}
use Rattle.mesh.proofs.Accepted.{few_vertices, few_faces, few_corners}
use Rattle.mesh.proofs.Verdicts.{sound_left, sound_right, single_sound, single_hit, single_miss}
use Rattle.dms_lists.specs.header.ListsWithin.{ListsWithin}

-- the first three bytes are those of the mark
pub mark_first : (file : List ℕ) → header_length ≤ length file → starts_with eqb file (68 ∷ 77 ∷ 83 ∷ []) ≡ marked file
unfolding marked
mark_first [] h = absurd (omega arith)
mark_first (a ∷ []) h = absurd (omega arith)
mark_first (a ∷ (b ∷ [])) h = absurd (omega arith)
mark_first (a ∷ (b ∷ (c ∷ rest))) h = rw (nat_eq_equiv.symm 68 a, nat_eq_equiv.symm 77 b, nat_eq_equiv.symm 83 c, and-true (eqb c 83))

-- the version read, first or second
module _ (file : List ℕ) (v : ℕ) (e : v ≡ version_in file) where
  pub first_version : v ≡ 1 → eqb v 1 ≡ known file
  unfolding known
  first_version q = rw (← e, eq-eqb v 1 q)

  pub other_version : (v ≡ 1 → ⊥) → eqb v 2 ≡ known file
  unfolding known
  other_version q = rw (← e, ne_eqb v 1 q)

-- the bytes of the sharpness list
pub sharp_bytes : (file : List ℕ) → sharp file ≡ true → sharpness_bytes file ≡ 2 * corners_in file
unfolding sharpness_bytes
sharp_bytes file e = rw e

pub plain_bytes : (file : List ℕ) → sharp file ≡ false → sharpness_bytes file ≡ 0
unfolding sharpness_bytes
plain_bytes file e = rw e

module _ (file : List ℕ) (counted : ℕ) where
  pub too_short : length file < header_length → fault 1 0 ≡ length_verdict file counted
  unfolding length_verdict single ◌or_else◌
  too_short h = rw (lt-ltb (length file) header_length h)

  module _ (h : header_length ≤ length file) where
    pub no_mark : marked file ≡ false → fault 1 0 ≡ length_verdict file counted
    unfolding length_verdict single ◌or_else◌
    no_mark m = rw (le-ltb (length file) header_length h, m)

    module _ (m : marked file ≡ true) where
      pub no_version : known file ≡ false → fault 2 0 ≡ length_verdict file counted
      unfolding length_verdict single ◌or_else◌
      no_version k = rw (le-ltb (length file) header_length h, m, k)

      module _ (k : known file ≡ true) where
        pub no_length : (counted ≡ expected_length file → ⊥) → fault 3 0 ≡ length_verdict file counted
        unfolding length_verdict single ◌or_else◌
        no_length e = rw (le-ltb (length file) header_length h, m, k, ne_eqb counted (expected_length file) e)

        pub length_fits : counted ≡ expected_length file → sound ≡ length_verdict file counted
        unfolding length_verdict single ◌or_else◌
        length_fits e = rw (le-ltb (length file) header_length h, m, k, eq-eqb counted (expected_length file) e)

  module _ (e : length_verdict file counted ≡ sound) where
    pub has_header : header_length ≤ length file
    unfolding length_verdict
    has_header =
        ltb-false (length file) header_length (none_left (ltb (length file) header_length) (not (marked file)) (single_sound 1 _ 0 (sound_left _ _ e)))

    pub counted_is : counted ≡ expected_length file
    unfolding length_verdict
    counted_is = eqb-true counted (expected_length file) (not-false _ (single_sound 3 _ 0 (sound_right _ _ (sound_right _ _ e))))

  -- the last check: whether all bytes counted are held
  pub not_held : length file < counted → fault 3 0 ≡ single 3 (ltb (length file) counted) 0
  not_held l = sym (single_hit 3 0 (lt-ltb (length file) counted l))

  pub all_held : counted ≤ length file → sound ≡ single 3 (ltb (length file) counted) 0
  all_held l = sym (single_miss 3 0 (le-ltb (length file) counted l))

pub header_within : (file : List ℕ) (counted : ℕ) → header_verdict file counted ≡ sound → ListsWithin file
unfolding header_verdict
header_within file counted e =
    let front = sound_left (length_verdict file counted) _ e in
    let later = sound_right (length_verdict file counted) _ e in
    let four : fault4 (3 * vertices_in file) (faces_in file) (corners_in file) ≡ false = single_sound 4 _ 0 (sound_left _ _ later) in
    let held = ltb-false (length file) counted (single_sound 3 _ 0 (sound_right _ _ later)) in
    record {
      header = has_header file counted front;
      body = omega (arith, counted_is file counted front);
      vertices = omega (arith, few_vertices _ _ _ four);
      faces = few_faces _ _ _ four;
      corners = few_corners _ _ _ four;
    }
