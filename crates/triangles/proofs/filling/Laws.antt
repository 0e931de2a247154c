-- Laws of a call for triangles: what it answers and leaves.
use mathlib.Core.Path.{◌≡◌, refl, sym, ◌∙◌}
use mathlib.Core.List.{List}
use Rattle.std.specs.Prelude.{Ok, Err}
use Prim.Native.Nat.{ℕ, ◌+◌, ◌-◌, ◌*◌, ◌≤◌, ◌<◌}
use native.Mathlib.Omega.{arith}
use lib.Dec.{eqb, ltb}
use borrow.Author.Tests.{eqb-false, ltb-false}
use lib.ListN.{length}
use lib.IntN.{ℤ}
use Rattle.paper.specs.Mesh.{Mesh}
use Rattle.paper.specs.Faults.{sound, fault, ◌or_else◌, single, Told}
use Rattle.paper.specs.Calls.{fault16}
use Rattle.paper.specs.File.{no_room, begins}
use Rattle.paper.specs.Triangles.{point_list, triangle_list, coordinate_at, index_at, points_before, triangles_before, level_verdict, triangle_room, Triangulated}
use Rattle.mesh.proofs.Links.{values_length}
use Rattle.mesh.proofs.Ranges.{none_left}
use Rattle.mesh.proofs.Verdicts.{sound_left, sound_right, single_sound, past, or_else_fault}
use Rattle.triangles.specs.Checks.{CountedAs}
use Rattle.triangles.specs.filling.Filled.{TrianglesFilled}
use Rattle.triangles.specs.Owned.{Pointed}
use Rattle.strips.proofs.Stood.{filled_list}
use Rattle.paper.specs.declared.Triangles.{Triangles}
use Rattle.paper.specs.declared.Refusal.{Refusal}

-- ---- what the call answers and leaves
module _ (M : Mesh) (links levels : List ℕ) (first count : ℕ) where
  pub range_some : level_verdict M links first count levels ≡ sound → 0 < count
  unfolding level_verdict fault16
  range_some s =
      let e = single_sound 16 (fault16 M first count) first (sound_left _ _ (sound_right _ _ (sound_right _ _ s))) in
      omega (arith, eqb-false count 0 (none_left (eqb count 0) _ e))

module _ (M : Mesh) (levels : List ℕ) (first count : ℕ) where
  pub points_many : length (point_list M levels first count) ≡ 3 * (points_before M levels (first + count) - points_before M levels first)
  unfolding point_list
  points_many = values_length (coordinate_at M levels) _ _

  pub triangles_many : length (triangle_list M levels first count) ≡ 3 * (triangles_before M levels (first + count) - triangles_before M levels first)
  unfolding triangle_list
  triangles_many = values_length (index_at M levels) _ _

  -- all corners of the range
  pub points_filled : (c to : ℕ) (old out : List ℤ) → c ≡ count
      → Pointed M levels (points_before M levels first) (points_before M levels (first + c)) 0 to old out → out ≡ begins (point_list M levels first count) old
  unfolding point_list
  points_filled c to old out e p = rw e at (filled_list (coordinate_at M levels) (points_before M levels first) (points_before M levels (first + c)) to old out p)

  -- the answer of the check, from the counts
  pub room_as : (points triangles room space : ℕ) → CountedAs M levels first count points triangles
      → single no_room (ltb room points) points or_else single no_room (ltb space triangles) triangles ≡ triangle_room M levels first count room space
  unfolding triangle_room
  room_as points triangles room space c =
      let p : points ≡ length (point_list M levels first count) = c.points_are ∙ sym points_many in
      let q : triangles ≡ length (triangle_list M levels first count) = c.triangles_are ∙ sym triangles_many in
      λ z. single no_room (ltb room (p z)) (p z) or_else single no_room (ltb space (q z)) (q z)

  -- where it passes, both lists have room
  pub roomy : (points triangles room space : ℕ) → single no_room (ltb room points) points or_else single no_room (ltb space triangles) triangles ≡ sound
      → (points ≤ room) × (triangles ≤ space)
  roomy points triangles room space e = (
    ltb-false room points (single_sound no_room _ points (sound_left _ _ e)),
    ltb-false space triangles (single_sound no_room _ triangles (sound_right _ _ e)),
  )

  module _ (old : List ℤ) (old' : List ℕ) where
    pub filled_refused : (r : Refusal) → fault r.number r.place ≡ triangle_room M levels first count (length old) (length old')
        → TrianglesFilled M levels first count old old' (Err r) old old'
    filled_refused r e = record { answers = e; lengths = tt; points_hold = refl; triangles_hold = refl }

    pub filled : (n : Triangles) (points : List ℤ) (triangles : List ℕ) → triangle_room M levels first count (length old) (length old') ≡ sound
        → CountedAs M levels first count n.points n.triangles → points ≡ begins (point_list M levels first count) old
        → triangles ≡ begins (triangle_list M levels first count) old' → TrianglesFilled M levels first count old old' (Ok n) points triangles
    filled n points triangles s c p t = record {
      answers = sym s;
      lengths = (c.points_are ∙ sym points_many, c.triangles_are ∙ sym triangles_many);
      points_hold = p;
      triangles_hold = t;
    }

module _ (M : Mesh) (links levels : List ℕ) (first count : ℕ) (old : List ℤ) (old' : List ℕ) where
  -- one of the checks before 255 refuses; or they pass, and the rest is as above
  pub triangles_refused : (r : Refusal) → fault r.number r.place ≡ level_verdict M links first count levels
      → Triangulated M links levels first count old old' (Err r) old old'
  triangles_refused r e = record { answers = sym (or_else_fault r.number r.place _ (sym e)); lengths = tt; points_hold = refl; triangles_hold = refl }

  pub triangulated : (r : Told Triangles) (points : List ℤ) (triangles : List ℕ) → level_verdict M links first count levels ≡ sound
      → TrianglesFilled M levels first count old old' r points triangles → Triangulated M links levels first count old old' r points triangles
  triangulated r points triangles s f = record {
    answers = past s _ f.answers;
    lengths = f.lengths;
    points_hold = f.points_hold;
    triangles_hold = f.triangles_hold;
  }
