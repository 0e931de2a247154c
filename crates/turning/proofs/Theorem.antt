-- Which models can be turned. Lists that pass 4 to 9 have a choice of turns that serves exactly when no corner has fault 34 and no face
-- fault 35; then the choice that keeps the lowest face of each part is the only one.
use mathlib.Core.Path.{◌≡◌, refl, ap, ◌∙◌, sym, subst}
use mathlib.Core.Bool.{Bool, true, false, not, ◌&&◌}
use mathlib.Core.Logic.{⊎_elim}
use mathlib.Core.List.{List}
use Prim.Native.Nat.{ℕ, zero, suc, ◌<◌, ◌≤◌}
use native.Mathlib.Omega.{arith}
use lib.ListN.{length}
use borrow.Author.Tests.{eqb-true, eq-eqb, not-true, not-false}
use Rattle.paper.specs.Scan.{some_below}
use Rattle.paper.specs.Corners.{face_of}
use Rattle.paper.specs.Links.{same_edge, reverse_edge}
use Rattle.paper.specs.Mesh.{Mesh, face_count, corner_count}
use Rattle.paper.specs.Faults.{sound, list_faults, fault10, fault11}
use Rattle.mesh.proofs.Verdicts.{sound_left, sound_right, single_sound, lowest_sound, lowest_none, or_else_sound}
use Rattle.mesh.proofs.Accepted.{sides_within, sums_of}
use Rattle.mesh.proofs.Scans.{clash, and_true, and_left, and_right, first_le, first_at, first_passes, first_fails, some_false, none}
use Rattle.paper.specs.Turning.{says, first_choice, turned_corners, shares_edge, fault34, connected, lowest_of_part, faulty, serves, serves_part}
use Rattle.paper.specs.Turning.{fault35, keeps_lowest, chosen, turns_of, turn_faults, in_steps}
use Rattle.partners.specs.Lists.{FacesListed}
use Rattle.partners.specs.Partner.{partner}
use Rattle.turning.specs.Constraints.{label, MeetsAt, ClosedIn, JoinedIn, MeetsPart}
use Rattle.mesh.proofs.Ranges.{or_none, none_left, none_right}
use Rattle.mesh.proofs.ByCases.{true_of, false_of, true_both}
use Rattle.turning.proofs.Steps.{sharing, Stepped, from_face, last_step, adjoins, here, still_joins}
use Rattle.turning.proofs.Choices.{some_choice_lem, first_choice_lem, choice_of, choice_long, choice_says}
use Rattle.turning.proofs.Parts.{joined_across, joined_back, choices_same, glued, glued_meets, glued_keeps}
use Rattle.partners.proofs.Pairs.{Paired, paired, counted}
use Rattle.turning.proofs.Edges.{alike, met_of_reverse, reverse_of_met, unrepeated_of_met, paired_of_served}
use Rattle.partners.proofs.SharedEdges.{reverses_same, same_back, shares_self, shares_back}
use Rattle.reversing.proofs.TurnedFace.{moved, length_turned, moved_in, moved_twice, face_moved}
use Rattle.turning.proofs.TurnedEdges.{face_in, sided, moves}

and_false : (a b : Bool) → (a ≡ true → b ≡ true → ⊥) → a && b ≡ false
and_false true true n = absurd (n refl refl)
and_false true false n = refl
and_false false b n = refl

module _ {sides corners : List ℕ} (k : FacesListed sides corners) where
  -- a choice that serves leaves every edge in two faces
  module _ (t : ℕ → Bool) (s : serves sides corners t ≡ true) where
    served : (c : ℕ) → c < length corners → faulty sides corners t c ≡ false
    unfolding serves
    served c h = none (length corners) (faulty sides corners t) (not-true _ s) c h

    ten : (c : ℕ) → c < length corners → some_below c (same_edge sides (turned_corners sides corners t) c) ≡ false
    unfolding faulty fault10
    ten c h = none_left _ _ (served c h)

    eleven : (c : ℕ) → c < length corners → some_below (length corners) (reverse_edge sides (turned_corners sides corners t) c) ≡ true
    unfolding faulty fault11
    eleven c h =
        subst (λ (n : ℕ). some_below n (reverse_edge sides (turned_corners sides corners t) c) ≡ true) (length_turned sides corners k.sums t)
        (not-false _ (none_right (fault10 sides (turned_corners sides corners t) c) _ (served c h)))

    pub two_of_served : (c : ℕ) → c < length corners → fault34 sides corners c ≡ false
    unfolding fault34 shares_edge
    two_of_served c h =
        ap not (eq-eqb _ 2 (counted (length corners) (alike (same_edge sides corners) (reverse_edge sides corners) c) c h (shares_self sides corners c) _
        (paired_of_served (sided k) (moves k t) ten eleven
        (reverses_same sides (turned_corners sides corners t)) (same_back sides (turned_corners sides corners t)) c h)))

  -- from here on every edge is in two faces
  module _ (two : (c : ℕ) → c < length corners → fault34 sides corners c ≡ false) where
    pub partnered : (c : ℕ) → c < length corners → Paired (length corners) (shares_edge sides corners c) c (partner sides corners c)
    unfolding fault34 partner
    partnered c h = paired (length corners) (shares_edge sides corners c) c h (shares_self sides corners c) (eqb-true _ _ (not-false _ (two c h)))

    pub partner_in : (c : ℕ) → c < length corners → partner sides corners c < length corners
    partner_in c h = (partnered c h).inside

    pub partner_partner : (c : ℕ) → c < length corners → partner sides corners (partner sides corners c) ≡ c
    partner_partner c h =
        ⊎_elim (λ z. absurd ((partnered c h).apart (sym z))) sym
        ((partnered (partner sides corners c) (partner_in c h)).only c h (shares_back sides corners c (partner sides corners c) (partnered c h).passes))

    -- a corner of the turned lists has no fault of 10 and 11 exactly when the constraint of its edge is met
    module _ (t : ℕ → Bool) (c : ℕ) (h : c < length corners) where
      as_alike : Paired (length corners) (alike (same_edge sides corners) (reverse_edge sides corners) c) c (partner sides corners c)
      unfolding shares_edge
      as_alike = partnered c h

      pub meets_of_faultless : faulty sides corners t (moved sides t c) ≡ false → MeetsAt sides corners t c
      unfolding faulty fault11 label
      meets_of_faultless e =
          met_of_reverse (sided k) (moves k t) h as_alike
          (subst (λ (n : ℕ). some_below n (reverse_edge sides (turned_corners sides corners t) (moved sides t c)) ≡ true) (length_turned sides corners k.sums t)
          (not-false _ (none_right (fault10 sides (turned_corners sides corners t) (moved sides t c)) _ e)))

      pub faultless_of_meets : MeetsAt sides corners t c → faulty sides corners t (moved sides t c) ≡ false
      unfolding faulty fault10 fault11 label
      faultless_of_meets e =
          or_none _ _
          (unrepeated_of_met (sided k) (moves k t) h as_alike e)
          (ap not (subst (λ (n : ℕ). some_below n (reverse_edge sides (turned_corners sides corners t) (moved sides t c)) ≡ true)
          (sym (length_turned sides corners k.sums t)) (reverse_of_met (sided k) (moves k t) h as_alike e)))

    -- over all corners
    pub meets_of_serves : (t : ℕ → Bool) → serves sides corners t ≡ true → (c : ℕ) → c < length corners → MeetsAt sides corners t c
    meets_of_serves t s c h = meets_of_faultless t c h (served t s (moved sides t c) (moved_in sides corners k.sums t c h))

    back_to : (t : ℕ → Bool) (c : ℕ) → c < length corners → MeetsAt sides corners t (moved sides t c) → faulty sides corners t c ≡ false
    back_to t c h e =
        subst (λ (x : ℕ). faulty sides corners t x ≡ false) (moved_twice sides corners k.sums t c h)
        (faultless_of_meets t (moved sides t c) (moved_in sides corners k.sums t c h) e)

    pub serves_of_meets : (t : ℕ → Bool) → ((c : ℕ) → c < length corners → MeetsAt sides corners t c) → serves sides corners t ≡ true
    unfolding serves
    serves_of_meets t e =
        ap not (some_false (length corners) (faulty sides corners t) (λ c h. back_to t c h (e (moved sides t c) (moved_in sides corners k.sums t c h))))

    -- steps over shared edges stay in every closed set
    within_joined : (k f g : ℕ) → in_steps sides corners k f g ≡ true → JoinedIn sides corners f g
    within_joined zero f g e = unfold in_steps in
        subst (JoinedIn sides corners f) (eqb-true f g e) (λ set c i. i)
    within_joined (suc k) f g e =
        ⊎_elim (within_joined k f g)
        (λ (r : Stepped sides corners f k g (from_face sides corners f k g)).
        let s = sharing sides corners _ g r.over in
        let j = subst (JoinedIn sides corners f) (sym s.first_of_lem) (within_joined k f _ r.from) in
        ⊎_elim
        (λ z. subst (JoinedIn sides corners f) (ap (face_of sides) (sym z) ∙ s.second_of) j)
        (λ z. subst (JoinedIn sides corners f) (ap (face_of sides) (sym z) ∙ s.second_of) (joined_across sides corners f _ s.first_in j))
        ((partnered _ s.first_in).only _ s.second_in s.shares))
        (last_step sides corners f k g e)

    pub connected_joined : (f g : ℕ) → connected sides corners f g ≡ true → JoinedIn sides corners f g
    unfolding connected
    connected_joined f g e = within_joined (length sides) f g e

    -- and the connected faces are a closed set
    connected_closed : (f : ℕ) → ClosedIn sides corners (connected sides corners f)
    connected_closed f c h =
        let l = partner_in c h in
        let p = (partnered c h).passes in
        true_both _ _
        (λ e. still_joins sides corners f _ _ (face_in k c h) (face_in k _ l) e (adjoins sides corners c _ h l p))
        (λ e. still_joins sides corners f _ _ (face_in k _ l) (face_in k c h) e (adjoins sides corners _ c l h (shares_back sides corners c _ p)))

    pub joined_connected : (f g : ℕ) → JoinedIn sides corners f g → connected sides corners f g ≡ true
    joined_connected f g j = j (connected sides corners f) (connected_closed f) (unfold connected in here sides corners f (length sides))

    -- the lowest face of a part
    pub low_le : (f : ℕ) → lowest_of_part sides corners f ≤ f
    unfolding lowest_of_part
    low_le f = first_le (length sides) (connected sides corners f) f (joined_connected f f (λ set c e. e))

    pub low_in : (f : ℕ) → f < length sides → lowest_of_part sides corners f < length sides
    low_in f h = omega (arith, low_le f)

    low_connected : (f : ℕ) → f < length sides → connected sides corners f (lowest_of_part sides corners f) ≡ true
    unfolding lowest_of_part
    low_connected f h = first_passes (length sides) (connected sides corners f) (low_in f h)

    pub low_joined : (f : ℕ) → f < length sides → JoinedIn sides corners f (lowest_of_part sides corners f)
    low_joined f h = connected_joined f (lowest_of_part sides corners f) (low_connected f h)

    -- joined faces have it in common
    pub low_same : (f g : ℕ) → f < length sides → g < length sides → JoinedIn sides corners f g → lowest_of_part sides corners f ≡ lowest_of_part sides corners g
    unfolding lowest_of_part
    low_same f g hf hg j =
        first_at (length sides) (connected sides corners f) (lowest_of_part sides corners g) (low_in g hg)
        (joined_connected f (lowest_of_part sides corners g) (λ set s p. low_joined g hg set s (j set s p)))
        (λ x l. false_of _ (λ z. clash
        (joined_connected g x (λ set s p. connected_joined f x z set s (joined_back sides corners f g j set s p)))
        (first_fails (length sides) (connected sides corners g) x l)))

    pub low_low : (f : ℕ) → f < length sides → lowest_of_part sides corners (lowest_of_part sides corners f) ≡ lowest_of_part sides corners f
    low_low f h = sym (low_same f (lowest_of_part sides corners f) h (low_in f h) (low_joined f h))

    pub low_across : (c : ℕ) → c < length corners → lowest_of_part sides corners (face_of sides c) ≡ lowest_of_part sides corners
        (face_of sides (partner sides corners c))
    low_across c h =
        low_same (face_of sides c) (face_of sides (partner sides corners c)) (face_in k c h) (face_in k _ (partner_in c h))
        (joined_across sides corners (face_of sides c) c h (λ set s e. e))

    -- a choice serves a part exactly when it meets the part's constraints
    pub meets_of_part : (t : ℕ → Bool) (f : ℕ) → serves_part sides corners t f ≡ true → MeetsPart sides corners t f
    unfolding serves_part
    meets_of_part t f s c h j =
        meets_of_faultless t c h (false_of _ (λ z. clash
        (and_true _ _ (ap (connected sides corners f) (face_moved sides corners k.sums t c h) ∙ joined_connected f (face_of sides c) j) z)
        (none (length corners) _ (not-true _ s) (moved sides t c) (moved_in sides corners k.sums t c h))))

    pub part_of_meets : (t : ℕ → Bool) (f : ℕ) → f < length sides → MeetsPart sides corners t f → serves_part sides corners t f ≡ true
    unfolding serves_part
    part_of_meets t f hf e =
        ap not (some_false (length corners) _ (λ c h. and_false _ _ (λ p q.
        let i = face_moved sides corners k.sums t c h in
        clash q (back_to t c h (e (moved sides t c) (moved_in sides corners k.sums t c h)
        (connected_joined f (face_of sides (moved sides t c)) (ap (connected sides corners f) i ∙ p)))))))

    -- as a choice below the face count
    meets_as_choice : (t : ℕ → Bool) (c : ℕ) → c < length corners → MeetsAt sides corners t c → MeetsAt sides corners (says (choice_of t (length sides))) c
    meets_as_choice t c h e =
        rw (
          choice_says t (length sides) (face_of sides c) (face_in k c h),
          choice_says t (length sides) (face_of sides (partner sides corners c)) (face_in k _ (partner_in c h)),
        ) e

    -- a face has no fault of 35 exactly when the constraints of its part can be met
    pub no_35_of_meets : (t : ℕ → Bool) (f : ℕ) → f < length sides → MeetsPart sides corners t f → fault35 sides corners f ≡ false
    unfolding fault35
    no_35_of_meets t f hf e =
        ap not (some_choice_lem (length sides) _ (choice_of t (length sides)) (choice_long t (length sides))
        (part_of_meets (says (choice_of t (length sides))) f hf (λ c h j. meets_as_choice t c h (e c h j))))

    part_choice : ℕ → List Bool
    part_choice f = first_choice (length sides) (λ t. serves_part sides corners (says t) f)

    meets_of_no_35 : (f : ℕ) → fault35 sides corners f ≡ false → MeetsPart sides corners (says (part_choice f)) f
    unfolding fault35 part_choice
    meets_of_no_35 f e = meets_of_part _ f (first_choice_lem (length sides) (λ t. serves_part sides corners (says t) f) (not-false _ e)).passes

    pub is_35 : (f : ℕ) → f < length sides → ((t : ℕ → Bool) → MeetsPart sides corners t f → ⊥) → fault35 sides corners f ≡ true
    is_35 f hf n = true_of _ (λ z. n (says (part_choice f)) (meets_of_no_35 f z))

    -- the lowest faces are kept
    pub keeps_of : (t : ℕ → Bool) → ((f : ℕ) → f < length sides → t (lowest_of_part sides corners f) ≡ false) → keeps_lowest sides corners t ≡ true
    unfolding keeps_lowest
    keeps_of t e = ap not (some_false (length sides) _ e)

    pub kept_of : (t : ℕ → Bool) → keeps_lowest sides corners t ≡ true → (f : ℕ) → f < length sides → t (lowest_of_part sides corners f) ≡ false
    unfolding keeps_lowest
    kept_of t e = none (length sides) _ (not-true _ e)

    -- two choices that meet all constraints and keep the lowest faces are the same
    pub only_choice : (t u : ℕ → Bool) → ((c : ℕ) → c < length corners → MeetsAt sides corners t c) → ((c : ℕ) → c < length corners → MeetsAt sides corners u c)
        → keeps_lowest sides corners t ≡ true → keeps_lowest sides corners u ≡ true → (f : ℕ) → f < length sides → t f ≡ u f
    only_choice t u a b p q f h =
        choices_same sides corners t u a b f (lowest_of_part sides corners f) (low_joined f h) (kept_of t p f h ∙ sym (kept_of u q f h))

    -- where no face has fault 35, choices for the parts join
    module _ (none35 : (f : ℕ) → f < length sides → fault35 sides corners f ≡ false) where
      each : (c : ℕ) → c < length corners → MeetsAt sides corners (says (part_choice (lowest_of_part sides corners (face_of sides c)))) c
      each c h =
          let i = face_in k c h in
          let l = lowest_of_part sides corners (face_of sides c) in
          meets_of_no_35 l (none35 l (low_in _ i)) c h (joined_back sides corners (face_of sides c) l (low_joined _ i))

      pub all_choice : ℕ → Bool
      all_choice = glued (lowest_of_part sides corners) (λ f. says (part_choice f))

      pub all_meets : (c : ℕ) → c < length corners → MeetsAt sides corners all_choice c
      unfolding all_choice
      all_meets = glued_meets sides corners (lowest_of_part sides corners) (λ f. says (part_choice f)) low_across each

      pub all_keeps : (f : ℕ) → f < length sides → all_choice (lowest_of_part sides corners f) ≡ false
      unfolding all_choice
      all_keeps f h = glued_keeps (lowest_of_part sides corners) (λ f. says (part_choice f)) f (low_low f h)

    -- whoever has a choice that meets all constraints and keeps the lowest faces has the chosen one
    module _ (t : ℕ → Bool) (e : (c : ℕ) → c < length corners → MeetsAt sides corners t c)
        (q : (f : ℕ) → f < length sides → t (lowest_of_part sides corners f) ≡ false) where
      pub chosen_passes : (serves sides corners (says (chosen sides corners)) ≡ true) × (keeps_lowest sides corners (says (chosen sides corners)) ≡ true)
      unfolding chosen
      chosen_passes =
          let test : List Bool → Bool = λ s. serves sides corners (says s) && keeps_lowest sides corners (says s) in
          let u = choice_of t (length sides) in
          let p = (first_choice_lem (length sides) test (some_choice_lem (length sides) test u (choice_long t (length sides)) (and_true _ _
          (serves_of_meets (says u) (λ c h. meets_as_choice t c h (e c h)))
          (keeps_of (says u) (λ f h. choice_says t (length sides) (lowest_of_part sides corners f) (low_in f h) ∙ q f h))))).passes in
          (and_left _ _ p, and_right (serves sides corners (says (chosen sides corners))) _ p)

      pub chosen_is : (f : ℕ) → f < length sides → t f ≡ says (chosen sides corners) f
      chosen_is =
          only_choice t (says (chosen sides corners)) e (meets_of_serves (says (chosen sides corners)) chosen_passes.0) (keeps_of t q) chosen_passes.1

-- ---- which models can be turned
pub record Turnable (M : Mesh) : Type 0 where
  -- a model that some choice of turns serves is not refused by 34 and 35
  pub unrefused : (t : ℕ → Bool) → serves M.sides M.corners t ≡ true → turn_faults M ≡ sound
  -- where it is not refused, the choice that is made serves and keeps the lowest face of each part
  pub made_serves : turn_faults M ≡ sound → serves M.sides M.corners (turns_of M) ≡ true
  pub made_keeps : turn_faults M ≡ sound → keeps_lowest M.sides M.corners (turns_of M) ≡ true
  -- and is the only one that does
  pub only : (t : ℕ → Bool) → serves M.sides M.corners t ≡ true → keeps_lowest M.sides M.corners t ≡ true
      → (f : ℕ) → f < face_count M → t f ≡ turns_of M f

-- the theorem, for lists that pass 4 to 9
pub listed_of : (M : Mesh) → list_faults M ≡ sound → FacesListed M.sides M.corners
unfolding list_faults
listed_of M e =
    let e5 = sound_right _ _ (sound_right _ _ e) in
    let e6 = sound_right _ _ e5 in
    let e7 = sound_right _ _ e6 in
    let e8 = sound_right _ _ e7 in
    let e28 = sound_right _ _ e8 in
    record {
      sums = sums_of M.sides (corner_count M) (single_sound _ _ _ (sound_left _ _ e6));
      least = λ f h. (sides_within M.sides f (lowest_sound _ _ _ (sound_left _ _ e5) f h)).0;
      nine = lowest_sound _ _ _ (sound_right _ _ e28);
    }

module _ (M : Mesh) (e : list_faults M ≡ sound) where
  -- where 34 and 35 find nothing, the choice that is made passes its test
  made : turn_faults M ≡ sound → (serves M.sides M.corners (turns_of M) ≡ true) × (keeps_lowest M.sides M.corners (turns_of M) ≡ true)
  unfolding turn_faults
  made s =
      let k = listed_of M e in
      let two = lowest_sound 34 (corner_count M) (fault34 M.sides M.corners) (sound_left _ _ s) in
      let none35 = lowest_sound 35 (face_count M) (fault35 M.sides M.corners) (sound_right _ _ s) in
      chosen_passes k two (all_choice k two none35) (all_meets k two none35) (all_keeps k two none35)

  pub complete : Turnable M
  unfolding turn_faults
  complete =
      let k = listed_of M e in
      record {
        unrefused = λ t s.
            let two = two_of_served k t s in
            or_else_sound _ (lowest_none 34 (corner_count M) _ two)
            ∙ lowest_none 35 (face_count M) _ (λ f h. no_35_of_meets k two t f h (λ c l j. meets_of_serves k two t s c l));
        made_serves = λ s. (made s).0;
        made_keeps = λ s. (made s).1;
        only = λ t s q f h. let two = two_of_served k t s in chosen_is k two t (meets_of_serves k two t s) (kept_of k two t q) f h;
      }
