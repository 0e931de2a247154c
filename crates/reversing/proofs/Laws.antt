-- Turned faces, written in place: the turns of the loops.
use mathlib.Core.Path.{◌≡◌, refl, ap, ◌∙◌, sym}
use mathlib.Core.Bool.{Bool, true, false}
use mathlib.Core.List.{List, [], ◌∷◌, ◌++◌, append_assoc, append-nil}
use Prim.Native.Nat.{ℕ, zero, suc, ◌+◌, ◌-◌, ◌*◌, ◌/◌, ◌%◌, ◌<◌, ◌≤◌}
use native.Mathlib.Omega.{arith}
use native.Mathlib.Numerals.{add-one}
use Rattle.std.proofs.lemmas.Grind.{common_steps}
use Rattle.std.specs.List.{ReversedBelow}
use borrow.Rule.Slice.PartMut.{put_mid}
use Rattle.std.proofs.lemmas.List.{get_or-append_right, get_or_append_left, get_or-take, get_or-drop}
use lib.ListN.{length, get_or, set, take, drop, length-set, length-append, length-take, length-drop}
use lib.Seq.{drop-cons, set-append_seam}
use Rattle.paper.specs.Corners.{sum_of, face_of, start_of, first_of, sides_of}
use Rattle.paper.specs.File.{begins}
use Rattle.paper.specs.Turning.{counterpart, corner_from, turned_corners, pair_from, turned_pairs, faces_of}
use Rattle.mesh.proofs.Faces.{face_at, start_zero, start_next, start_all}
use Rattle.mesh.proofs.ByCases.{by_test, by_equal, beyond}
use Rattle.reversing.proofs.Rearranged.{RearrangedTo, Part, part_none, part_written, all_written}
use Rattle.reversing.proofs.TurnedFace.{counterpart_first, counterpart_later, from_kept, from_turned}
use Rattle.reversing.proofs.Models.{pair_kept, pair_turned, faces_hit, faces_miss, faces_none}
use Rattle.reversing.specs.Written.{Reversed, PairsTurned, FaceTurned, Written}

-- a part that is reversed and put back in its place
pub part_reversed : (from n to : ℕ) (old part : List ℕ) → from + n ≡ to → to ≤ length old → length part ≡ length (take n (drop from old))
    → ReversedBelow (take n (drop from old)) part (length (take n (drop from old)))
    → Reversed from to old (put_mid from n old part) × (length (put_mid from n old part) ≡ length old)
part_reversed from n to old part q l e r =
    let m : length (take n (drop from old)) ≡ n = simp (length-take, length-drop) (omega arith) in (
      record {
        inner = λ d a b.
            get_or-append_right (take from old) (part ++ drop n (drop from old)) from d 0 (simp length-take (omega arith)) a
            ∙ get_or_append_left part (drop n (drop from old)) 0 (d - from) (omega arith)
            ∙ r (d - from) 0 (omega arith)
            ∙ get_or-take n (drop from old) (length (take n (drop from old)) - 1 - (d - from)) 0 (omega arith)
            ∙ get_or-drop from old (length (take n (drop from old)) - 1 - (d - from)) 0
            ∙ ap (λ (x : ℕ). get_or old x 0) (omega arith);
        before = λ d a. grind (arith, common_steps);
        after = λ d a. grind (arith, common_steps);
      },
      simp (length-append, length-take, length-drop) (omega arith),
    )

-- one face: all its corners but the first
pub face_turned : (start end : ℕ) (old new : List ℕ) → start < end → Reversed (start + 1) end old new → FaceTurned start end old new
face_turned start end old new h r =
    record {
      turned = λ d a b. r.inner d (omega arith) b ∙ ap (λ (x : ℕ). get_or old x 0) (omega arith);
      before = λ d a. r.before d (omega arith);
      after = r.after;
    }

-- its pairs: those of the first corner, and the others
pub pairs_turned : (start end : ℕ) (old mid new : List ℕ) → start < end → Reversed (2 * start) (2 * start + 2) old mid
    → Reversed (2 * start + 2) (2 * end) mid new → PairsTurned start end old new
pairs_turned start end old mid new h p q =
    record {
      first = λ j l. q.before (2 * start + j) (omega arith) ∙ p.inner (2 * start + j) (omega arith) (omega arith)
          ∙ ap (λ (x : ℕ). get_or old x 0) (omega arith);
      later = λ d j a b l.
          q.inner (2 * d + j) (omega arith) (omega arith) ∙ p.after (2 * start + 2 + 2 * end - 1 - (2 * d + j)) (omega arith)
          ∙ ap (λ (x : ℕ). get_or old x 0) (omega arith);
      before = λ i l. q.before i (omega arith) ∙ p.before i l;
      after = λ i l. q.after i l ∙ p.after i (omega arith);
    }

-- the listing
module _ (t : ℕ → Bool) where
  -- one face more, at the end
  faces_more : (at left : ℕ) (rest : List ℕ) → faces_of t (at + left) 1 ≡ rest → faces_of t at (suc left) ≡ faces_of t at left ++ rest
  faces_more at zero rest e =
      ap (λ (x : ℕ). faces_of t x 1) (let q : at ≡ at + zero = omega arith in q) ∙ e ∙ ap (λ (l : List ℕ). l ++ rest) (sym (faces_none t at))
  faces_more at (suc left) rest e =
      let r : faces_of t (suc at) (suc left) ≡ faces_of t (suc at) left ++ rest =
      faces_more (suc at) left rest (ap (λ (x : ℕ). faces_of t x 1) (let q : suc at + left ≡ at + suc left = omega arith in q) ∙ e) in
      by_test (t at)
      (λ b. faces_hit t at (suc left) b ∙ ap (λ (l : List ℕ). at ∷ l) r ∙ ap (λ (l : List ℕ). l ++ rest) (sym (faces_hit t at left b)))
      (λ b. faces_miss t at (suc left) b ∙ r ∙ ap (λ (l : List ℕ). l ++ rest) (sym (faces_miss t at left b)))

  pub faces_kept : (f : ℕ) → t f ≡ false → faces_of t 0 (f + 1) ≡ faces_of t 0 f
  faces_kept f e =
      ap (faces_of t 0) (add-one f)
      ∙ faces_more 0 f [] (ap (λ (x : ℕ). faces_of t x 1) (let q : 0 + f ≡ f = omega arith in q) ∙ faces_miss t f 0 e ∙ faces_none t (suc f))
      ∙ append-nil (faces_of t 0 f)

  pub faces_turned : (f : ℕ) → t f ≡ true → faces_of t 0 (f + 1) ≡ faces_of t 0 f ++ (f ∷ [])
  faces_turned f e =
      ap (faces_of t 0) (add-one f)
      ∙ faces_more 0 f (f ∷ []) (ap (λ (x : ℕ). faces_of t x 1) (let q : 0 + f ≡ f = omega arith in q) ∙ faces_hit t f 0 e
      ∙ ap (λ (l : List ℕ). f ∷ l) (faces_none t (suc f)))

-- one more entry at the beginning of the listing
pub listed_more : (faces listing : List ℕ) (f : ℕ) → length faces < length listing
    → set (begins faces listing) (length faces) f ≡ begins (faces ++ (f ∷ [])) listing
listed_more faces listing f h =
    ap (λ (l : List ℕ). set (faces ++ l) (length faces) f) (drop-cons listing (length faces) 0 h)
    ∙ set-append_seam faces (get_or listing (length faces) 0) (drop (suc (length faces)) listing) f
    ∙ sym (append_assoc faces (f ∷ []) (drop (length (faces ++ (f ∷ []))) listing)
    ∙ ap (λ (n : ℕ). faces ++ (f ∷ drop n listing)) (length-append faces (f ∷ []) ∙ add-one (length faces)))

-- in a turned face f the first corner stays, and the others come from the other side
module _ (sides : List ℕ) (f : ℕ) (h : f < length sides) where
  module _ (c : ℕ) (a : start_of sides f ≤ c) (b : c < start_of sides f + get_or sides f 0) where
    face_is : face_of sides c ≡ f
    face_is = face_at sides f c a b h

    first_is : first_of sides c ≡ start_of sides f
    unfolding first_of
    first_is = ap (start_of sides) face_is

    sides_is : sides_of sides c ≡ get_or sides f 0
    unfolding sides_of
    sides_is = ap (λ (x : ℕ). get_or sides x 0) face_is

    first_stays : c ≡ start_of sides f → counterpart sides c ≡ c
    first_stays q = counterpart_first sides c (omega (arith, first_is))

    others_turn : start_of sides f < c → counterpart sides c ≡ start_of sides f + (start_of sides f + get_or sides f 0) - c
    others_turn q = counterpart_later sides c (λ z. omega (arith, first_is)) ∙ omega (arith, first_is, sides_is)

  module _ (t : ℕ → Bool) (old new : List ℕ) (same : length new ≡ length old) where
    corners_part : t f ≡ true → FaceTurned (start_of sides f) (start_of sides f + get_or sides f 0) old new
        → Part (corner_from sides t) old new (start_of sides f) (start_of sides f + get_or sides f 0)
    corners_part e d =
        record {
          same_length = same;
          before = λ c l. d.before c (omega arith);
          inner = λ c a b.
              let w = from_turned sides t c (ap t (face_is c a b) ∙ e) in
              by_equal c (start_of sides f)
              (λ q. let z = first_stays c a b q in
              (omega (arith, w, z), d.before c (omega arith) ∙ ap (λ (x : ℕ). get_or old x 0) (sym (w ∙ z))))
              (λ q. let r = beyond c (start_of sides f) a q in
              let z = others_turn c a b r in
              (omega (arith, w, z), d.turned c r b ∙ ap (λ (x : ℕ). get_or old x 0) (sym (w ∙ z))));
          after = d.after;
        }

    pairs_part : t f ≡ true → PairsTurned (start_of sides f) (start_of sides f + get_or sides f 0) old new
        → Part (pair_from sides t) old new (2 * start_of sides f) (2 * (start_of sides f + get_or sides f 0))
    pairs_part e d =
        record {
          same_length = same;
          before = d.before;
          inner = λ i a b.
              let c : start_of sides f ≤ i / 2 = omega arith in
              let l : i / 2 < start_of sides f + get_or sides f 0 = omega arith in
              let w = pair_turned sides t i (ap t (face_is (i / 2) c l) ∙ e) in
              by_equal (i / 2) (start_of sides f)
              (λ q. let z = first_stays (i / 2) c l q in (
                omega (arith, w, z),
                ap (λ (x : ℕ). get_or new x 0) (let y : i ≡ 2 * start_of sides f + i % 2 = omega arith in y)
                    ∙ d.first (i % 2) (omega arith) ∙ ap (λ (x : ℕ). get_or old x 0) (omega (arith, w, z)),
              ))
              (λ q. let r = beyond (i / 2) (start_of sides f) c q in
              let z = others_turn (i / 2) c l r in (
                omega (arith, w, z),
                ap (λ (x : ℕ). get_or new x 0) (let y : i ≡ 2 * (i / 2) + i % 2 = omega arith in y)
                    ∙ d.later (i / 2) (i % 2) r l (omega arith) ∙ ap (λ (x : ℕ). get_or old x 0) (omega (arith, w, z)),
              ));
          after = d.after;
        }

-- the faces below f are written
pub record WrittenTo (t : ℕ → Bool) (sides corners listing : List ℕ) (f count : ℕ) (corners' listing' : List ℕ) : Type 0 where
  pub counts : count ≡ length (faces_of t 0 f)
  pub few : count ≤ f
  pub corners_to : RearrangedTo (corner_from sides t) corners corners' (start_of sides f)
  pub same_listing : length listing' ≡ length listing
  pub listing_is : listing' ≡ begins (faces_of t 0 f) listing

nothing_written : (from : ℕ → ℕ) (list : List ℕ) (end : ℕ) → end ≡ 0 → RearrangedTo from list list end
nothing_written from list end e = record { same_length = refl; done = λ i l. absurd (omega arith); rest = λ i l. refl }

module _ (t : ℕ → Bool) (sides corners listing : List ℕ) where
  pub written_none : WrittenTo t sides corners listing 0 0 corners listing
  written_none =
      record {
        counts = sym (ap length (faces_none t 0));
        few = omega arith;
        corners_to = nothing_written (corner_from sides t) corners (start_of sides 0) (start_zero sides);
        same_listing = refl;
        listing_is = sym (ap (λ (l : List ℕ). begins l listing) (faces_none t 0));
      }

module _ {t : ℕ → Bool} {sides corners listing : List ℕ} {f count : ℕ} {corners' listing' : List ℕ}
    (h : f < length sides) (w : WrittenTo t sides corners listing f count corners' listing') where
  -- one face more, written or kept
  more : (corners'' : List ℕ) → Part (corner_from sides t) corners' corners'' (start_of sides f) (start_of sides f + get_or sides f 0)
      → RearrangedTo (corner_from sides t) corners corners'' (start_of sides (f + 1))
  more corners'' p = rw (start_next sides f h) (part_written (omega arith) w.corners_to p)

  pub written_kept : t f ≡ false → WrittenTo t sides corners listing (f + 1) count corners' listing'
  written_kept e =
      record {
        counts = w.counts ∙ ap length (sym (faces_kept t f e));
        few = omega (arith, w.few);
        corners_to = more corners' (part_none _ _ _ _ (λ c a b. from_kept sides t c (ap t (face_is sides f h c a b) ∙ e)));
        same_listing = w.same_listing;
        listing_is = w.listing_is ∙ ap (λ (l : List ℕ). begins l listing) (sym (faces_kept t f e));
      }

  pub written_turned : t f ≡ true → (corners'' : List ℕ) → length corners'' ≡ length corners' → f < length listing
      → FaceTurned (start_of sides f) (start_of sides f + get_or sides f 0) corners' corners''
      → WrittenTo t sides corners listing (f + 1) (count + 1) corners'' (set listing' count f)
  written_turned e corners'' same room d =
      record {
        counts = ap (λ (x : ℕ). x + 1) w.counts ∙ sym (ap length (faces_turned t f e) ∙ length-append (faces_of t 0 f) (f ∷ []));
        few = omega (arith, w.few);
        corners_to = more corners'' (corners_part sides f h t corners' corners'' same e d);
        same_listing = length-set listing' count f ∙ w.same_listing;
        listing_is =
            ap (λ (l : List ℕ). set l count f) w.listing_is
            ∙ ap (λ (x : ℕ). set (begins (faces_of t 0 f) listing) x f) w.counts
            ∙ listed_more (faces_of t 0 f) listing f (omega (arith, w.counts, w.few))
            ∙ ap (λ (l : List ℕ). begins l listing) (sym (faces_turned t f e));
      }

pub written_all : {t : ℕ → Bool} {sides corners listing : List ℕ} {f count : ℕ} {corners' listing' : List ℕ} → sum_of sides ≡ length corners
    → f ≡ length sides → WrittenTo t sides corners listing f count corners' listing' → Written t sides corners listing count corners' listing'
unfolding turned_corners
written_all {t} {sides} {corners} {listing} {f} sums e w =
    record {
      counts = w.counts ∙ ap (λ (x : ℕ). length (faces_of t 0 x)) e;
      corners_are = all_written (omega (arith, sums, start_all sides f (omega arith))) w.corners_to;
      listing_is = w.listing_is ∙ ap (λ (x : ℕ). begins (faces_of t 0 x) listing) e;
    }

-- the sharpness pairs of the faces below f are written
abbrev pub PairsTo : (ℕ → Bool) → List ℕ → List ℕ → ℕ → List ℕ → Type 0
PairsTo t sides pairs f pairs' = RearrangedTo (pair_from sides t) pairs pairs' (2 * start_of sides f)

module _ (t : ℕ → Bool) (sides pairs : List ℕ) where
  pub pairs_none : PairsTo t sides pairs 0 pairs
  pairs_none = nothing_written (pair_from sides t) pairs (2 * start_of sides 0) (omega (arith, start_zero sides))

  module _ (f : ℕ) (pairs' : List ℕ) (h : f < length sides) (w : PairsTo t sides pairs f pairs') where
    pub pairs_kept : t f ≡ false → PairsTo t sides pairs (f + 1) pairs'
    pairs_kept e =
        rw (start_next sides f h) (part_written (omega arith) w (part_none _ _ _ _ (λ i a b.
        pair_kept sides t i (ap t (face_is sides f h (i / 2) (omega arith) (omega arith)) ∙ e))))

    pub pairs_step : t f ≡ true → (new : List ℕ) → length new ≡ length pairs'
        → PairsTurned (start_of sides f) (start_of sides f + get_or sides f 0) pairs' new → PairsTo t sides pairs (f + 1) new
    pairs_step e new same d = rw (start_next sides f h) (part_written (omega arith) w (pairs_part sides f h t pairs' new same e d))

  pub pairs_all : 2 * sum_of sides ≡ length pairs → (f : ℕ) (pairs' : List ℕ) → f ≡ length sides → PairsTo t sides pairs f pairs'
      → pairs' ≡ turned_pairs sides pairs t
  unfolding turned_pairs
  pairs_all sums f pairs' e w = all_written (omega (arith, start_all sides f (omega arith))) w
