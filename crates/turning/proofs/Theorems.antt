-- The theorems of L13, over the call's record: they follow from which models can be turned, and hold of every call whatever its code.
use mathlib.Core.Path.{◌≡◌, refl, ap, ◌∙◌, sym, subst}
use mathlib.Core.Bool.{Bool, true, false, not}
use mathlib.Core.List.{List}
use Rattle.std.specs.Prelude.{Ok, Err}
use Prim.Native.Nat.{ℕ, ◌*◌, ◌<◌}
use native.Mathlib.Omega.{arith}
use lib.ListN.{length}
use borrow.Author.Tests.{not-true, eq-eqb}
use Rattle.paper.specs.Mesh.{Mesh, face_count, corner_count}
use Rattle.paper.specs.Faults.{sound, fault10, list_faults, stated, Told}
use Rattle.paper.specs.Turning.{turned_corners, turned_mesh, edge_faults, faulty, serves, keeps_lowest, turns_of, turned_faces}
use Rattle.paper.specs.Turning.{fault36, turn_faults, turn_verdict, TurnedTo}
use Rattle.paper.specs.File.{begins}
use Rattle.paper.specs.Claims.{TurnedPasses, TurnsDecide, OneChoice, TurnedTwice, TurnedBack, NothingTurned, NoneFarther}
use Rattle.mesh.proofs.Ranges.{or_none, none_left, none_right}
use Rattle.mesh.proofs.Scans.{some_false, none}
use Rattle.mesh.proofs.Verdicts.{sound_left, sound_right, single_sound, single_miss, lowest_sound, lowest_none, or_else_sound, unsound}
use Rattle.mesh.proofs.Accepted.{sharp_length}
use Rattle.reversing.proofs.TurnedFace.{length_turned}
use Rattle.reversing.proofs.Models.{corners_twice, pairs_twice, corners_same, pairs_same, no_face, corners_untouched, pairs_untouched, faces_same}
use Rattle.reversing.proofs.Models.{no_faces}
use Rattle.turning.proofs.Steps.{none_later}
use Rattle.turning.proofs.Theorem.{listed_of, complete}

-- ---- lists that pass 27
pub long_of : (M : Mesh) → list_faults M ≡ sound → length M.sharpness ≡ 2 * corner_count M
unfolding list_faults
long_of M e = sharp_length _ _ (single_sound _ _ _ (sound_left _ _ (sound_right _ _ e)))

-- ---- a choice serves exactly when the turned model passes 10 and 11
module _ (M : Mesh) (e : list_faults M ≡ sound) (t : ℕ → Bool) where
  same_length : length (turned_corners M.sides M.corners t) ≡ corner_count M
  same_length = length_turned M.sides M.corners (listed_of M e).sums t

  pub serves_of : edge_faults (turned_mesh M t) ≡ sound → serves M.sides M.corners t ≡ true
  unfolding edge_faults serves faulty
  serves_of s =
      ap not (some_false (corner_count M) _ (λ c h.
      let l : c < length (turned_corners M.sides M.corners t) = omega (arith, same_length) in
      or_none _ _ (lowest_sound _ _ _ (sound_left _ _ s) c l) (lowest_sound _ _ _ (sound_right _ _ s) c l)))

  pub passes_of : serves M.sides M.corners t ≡ true → edge_faults (turned_mesh M t) ≡ sound
  unfolding edge_faults serves faulty
  passes_of s =
      let each : (c : ℕ) → c < corner_count M → faulty M.sides M.corners t c ≡ false = none (corner_count M) _ (not-true _ s) in
      or_else_sound _ (lowest_none 10 _ _ (λ c l. none_left _ _ (each c (omega (arith, same_length)))))
      ∙ lowest_none 11 _ _ (λ c l. none_right (fault10 M.sides (turned_corners M.sides M.corners t) c) _ (each c (omega (arith, same_length))))

-- ---- a call that is done
stated_done : (a : Told ℕ) → stated a ≡ sound → (n : ℕ) × (a ≡ Ok n)
stated_done (Ok n) e = (n, refl)
stated_done (Err x) e = unsound x.number x.place e

module _ {M lists : Mesh} {old out : List ℕ} {n : ℕ} (T : TurnedTo M old (Ok n) lists out) where
  all_sound : turn_verdict M (length old) ≡ sound
  all_sound = sym T.answers

  lists_sound : list_faults M ≡ sound
  lists_sound = unfold turn_verdict in sound_left _ _ (sound_right _ _ all_sound)

  turns_sound : turn_faults M ≡ sound
  turns_sound = unfold turn_verdict in sound_right (list_faults M) _ (sound_right _ _ all_sound)

-- and one whose lists pass 36 and 4 to 9 is done where 34 and 35 find nothing
module _ {M lists : Mesh} {old out : List ℕ} {r : Told ℕ} (T : TurnedTo M old r lists out) (n : length old ≡ face_count M) (e : list_faults M ≡ sound) where
  rest_is : turn_verdict M (length old) ≡ turn_faults M
  unfolding turn_verdict fault36
  rest_is = or_else_sound _ (single_miss 36 (length old) (ap not (eq-eqb (length old) (face_count M) n))) ∙ or_else_sound (turn_faults M) e

  done_of : turn_faults M ≡ sound → (n : ℕ) × (r ≡ Ok n)
  done_of s = stated_done r (T.answers ∙ rest_is ∙ s)

pub turned_passes : TurnedPasses
turned_passes M lists old out n T =
    let e = lists_sound T in
    rw T.holds (passes_of M e (turns_of M) ((complete M e).made_serves (turns_sound T)))

pub turns_decide : TurnsDecide
turns_decide M lists old out r T n e = (
  (λ refused t s. refused (ap stated (done_of T n e ((complete M e).unrefused t (serves_of M e t s))).1)),
  (λ never z.
      let d = stated_done r z in
      let D : TurnedTo M old (Ok d.0) lists out = subst (λ (x : Told ℕ). TurnedTo M old x lists out) d.1 T in
      never (turns_of M) (passes_of M e (turns_of M) ((complete M e).made_serves (turns_sound D)))),
)

pub one_choice : OneChoice
one_choice M lists old out n T =
    let e = lists_sound T in
    ((complete M e).made_keeps (turns_sound T), (λ t s q f h. (complete M e).only t (serves_of M e t s) q f h))

pub turned_twice : TurnedTwice
turned_twice M e t =
    let sums = (listed_of M e).sums in
    let long = long_of M e in
    rw (corners_twice M.sides M.corners M.sharpness sums long t, pairs_twice M.sides M.corners M.sharpness sums long t)

pub turned_back : TurnedBack
turned_back M lists old out n T =
    rw T.holds (turned_twice M (lists_sound T) (turns_of M))

-- ---- a model that passes needs no turn
module _ (M : Mesh) (e : list_faults M ≡ sound) where
  untouched : turned_mesh M no_face ≡ M
  untouched =
      let sums = (listed_of M e).sums in
      let long = long_of M e in
      rw (corners_untouched M.sides M.corners M.sharpness sums long, pairs_untouched M.sides M.corners M.sharpness sums long)

  module _ (s : edge_faults M ≡ sound) where
    none_serves : serves M.sides M.corners no_face ≡ true
    none_serves = serves_of M e no_face (subst (λ (L : Mesh). edge_faults L ≡ sound) (sym untouched) s)

    none_keeps : keeps_lowest M.sides M.corners no_face ≡ true
    unfolding keeps_lowest
    none_keeps = ap not (some_false (face_count M) _ (λ f h. refl))

    none_made : (f : ℕ) → f < face_count M → turns_of M f ≡ no_face f
    none_made f h = sym ((complete M e).only no_face none_serves none_keeps f h)

    mesh_same : turned_mesh M (turns_of M) ≡ M
    mesh_same =
        let sums = (listed_of M e).sums in
        let long = long_of M e in
        rw (
          corners_same M.sides M.corners M.sharpness sums long (turns_of M) no_face none_made,
          pairs_same M.sides M.corners M.sharpness sums long (turns_of M) no_face none_made,
        ) untouched

    faces_empty : turned_faces M ≡ List.[]
    faces_empty = faces_same (turns_of M) no_face 0 (face_count M) (λ f a b. none_made f (omega arith)) ∙ no_faces 0 (face_count M)

pub nothing_turned : NothingTurned
nothing_turned M lists old out r T n e s =
    let d = done_of T n e ((complete M e).unrefused no_face (none_serves M e s)) in
    let D : TurnedTo M old (Ok d.0) lists out = subst (λ (x : Told ℕ). TurnedTo M old x lists out) d.1 T in
    let none : d.0 ≡ 0 = D.counts ∙ ap length (faces_empty M e s) in
    (d.1 ∙ ap (λ (x : ℕ). Ok x) none, D.holds ∙ mesh_same M e s, D.listing_holds ∙ ap (λ (l : List ℕ). begins l old) (faces_empty M e s))

pub none_farther : NoneFarther
none_farther M k f g h e = none_later M.sides M.corners f k g h e
