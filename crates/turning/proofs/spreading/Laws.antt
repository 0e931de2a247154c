-- Turns spread over the faces: what a corner, a visit and a round add. A face that a round reaches is forced: every choice that meets the
-- constraints of the part turns it as its state says, or turns the whole part the other way. So a face asked for both states shows that no
-- choice meets them, and a round that ends has met all constraints of its part.
use mathlib.Core.Path.{◌≡◌, ap, ◌∙◌, sym, subst}
use mathlib.Core.Bool.{false, not}
use mathlib.Core.List.{List}
use Prim.Native.Nat.{ℕ, ◌+◌, ◌<◌, ◌≤◌}
use native.Mathlib.Omega.{arith}
use lib.ListN.{length, get_or, set}
use lib.Seq.{get_or-set_same, get_or-set_other}
use borrow.Author.Tests.{eq-eqb}
use Rattle.paper.specs.Corners.{face_of}
use Rattle.mesh.proofs.Scans.{first_le}
use Rattle.paper.specs.Faults.{sound, fault, lowest_of}
use Rattle.mesh.proofs.Verdicts.{lowest_hit, lowest_none}
use Rattle.mesh.proofs.Rings.{count_le, count_none}
use Rattle.walk.specs.Table.{Blank}
use Rattle.paper.specs.Turning.{says, fault34, connected, lowest_of_part, fault35, chosen}
use Rattle.mesh.proofs.ByCases.{by_equal, by_less, by_order, true_both}
use Rattle.partners.proofs.Stores.{put}
use Rattle.partners.specs.Lists.{FacesListed}
use Rattle.partners.specs.Partner.{partner}
use Rattle.turning.specs.Constraints.{JoinedIn, MeetsPart, ClosedIn}
use Rattle.turning.proofs.Parts.{joined_back}
use Rattle.turning.proofs.TurnedEdges.{face_in}
use Rattle.turning.proofs.Theorem.{partner_in, partner_partner, no_35_of_meets, is_35, chosen_is, low_in, low_joined, joined_connected}
use Rattle.turning.specs.visiting.Visit.{Seen, seen, Settled, AllSettled, Round, Queued, Visiting, Unturnable}
use Rattle.turning.proofs.visiting.Laws.{seen_grown, grown_set, unseen_before, seen_of, of_seen, tail_below, queued_more, settled_grown, forced_self}
use Rattle.turning.proofs.visiting.Laws.{round_none, round_more}
use Rattle.turning.specs.spreading.Spread.{RoundDone}
use Rattle.reversing.specs.States.{turns_by}

-- a round from r: the faces of the queue before `head` are settled
pub record Rounding (sides corners : List ℕ) (r from : ℕ) (old states queue : List ℕ) (head tail : ℕ) : Type 0 where
  pub round : Round sides corners r old states
  pub kept : get_or states r 0 ≡ 1
  pub queued : Queued (length sides) states queue tail
  pub later : from ≤ head
  pub ordered : head ≤ tail
  pub fresh : (i : ℕ) → from ≤ i → i < tail → get_or old (get_or queue i 0) 0 ≡ 0
  pub settled : (i : ℕ) → i < head → (c : ℕ) → c < length corners → face_of sides c ≡ get_or queue i 0 → Settled sides corners states c

pub tail_most : {n : ℕ} {states queue : List ℕ} {tail : ℕ} → Queued n states queue tail → tail ≤ n
tail_most {n} {states} k = omega (arith, k.counted, count_le (seen states) n)

module _ {sides corners : List ℕ} (k : FacesListed sides corners) (two : (c : ℕ) → c < length corners → fault34 sides corners c ≡ false) {r : ℕ} where
  pub rounding_none : {states queue : List ℕ} {from : ℕ} → r < length sides → get_or states r 0 ≡ 0 → AllSettled sides corners states
      → Queued (length sides) states queue from → Rounding sides corners r from states (set states r 1) (set queue from r) from (from + 1)
  rounding_none {states} {queue} {from} h z a q =
      let rs : r < length states = omega (arith, q.states_long) in
      let t : from < length queue = omega (arith, tail_below q r 1 h z (λ e. omega arith), q.queue_long) in
      record {
        round = round_more k two 1 rs z (forced_self k two r) (round_none k two r states);
        kept = get_or-set_same states r 1 0 rs;
        queued = queued_more q r 1 h z (λ e. omega arith) (omega arith);
        later = omega arith;
        ordered = omega arith;
        fresh = λ i l b. put (λ x. get_or states x 0 ≡ 0) queue from i r t (λ e. z) (λ e. absurd (omega (arith, e)));
        settled = λ i l c b e.
            let s : Seen states (face_of sides c) = rw (e, get_or-set_other queue from i r 0 (λ y. omega arith)) (q.reached i l) in
            settled_grown k two (grown_set states r 1 z) c s (a c b s);
      }

  module _ {from : ℕ} {old states queue : List ℕ} {head tail : ℕ} (d : Rounding sides corners r from old states queue head tail) where
    pub rounding_step : {states' queue' : List ℕ} {tail' : ℕ} → head < tail
        → Visiting sides corners (get_or queue head 0) states queue tail states' queue' tail' (length corners)
        → Rounding sides corners r from old states' queue' (head + 1) tail'
    rounding_step {states'} {queue'} l v =
        record {
          round = v.rounds r old d.round (d.fresh head d.later l);
          kept = v.grown.keeps r (λ z. omega (arith, d.kept)) ∙ d.kept;
          queued = v.queued;
          later = omega (arith, d.later);
          ordered = omega (arith, v.rises);
          fresh = λ i a b. by_less i tail
              (λ e. rw (v.kept i e) (d.fresh i a e))
              (λ e. unseen_before d.round.grown (get_or queue' i 0) (v.fresh i e b));
          settled = λ i a c b e.
              let lt : i < tail = omega arith in
              let e' : face_of sides c ≡ get_or queue i 0 = e ∙ v.kept i lt in
              by_equal i head
              (λ q. v.settled c b b (e' ∙ ap (λ (x : ℕ). get_or queue x 0) q))
              (λ q. settled_grown k two v.grown c (rw e' (d.queued.reached i lt)) (d.settled i (omega (arith, q)) c b e'));
        }

    pub rounding_all : tail ≤ head → RoundDone sides corners r old states queue tail
    rounding_all l =
        record {
          round = d.round;
          kept = d.kept;
          settled = λ c h s.
              let p = d.queued.listed (face_of sides c) (face_in k c h) s in
              let b : p.0 < tail = p.1 in
              d.settled p.0 (omega arith) c h (sym p.2);
          queued = d.queued;
        }

-- all rounds: the faces below r are reached
pub record Spreading (sides corners : List ℕ) (r : ℕ) (states queue : List ℕ) (tail : ℕ) : Type 0 where
  pub settled : AllSettled sides corners states
  pub queued : Queued (length sides) states queue tail
  pub below : (f : ℕ) → f < r → Seen states f
  pub lowest : (f : ℕ) → Seen states f → ((g : ℕ) → g < f → JoinedIn sides corners f g → ⊥) → turns_by states f ≡ false

module _ {sides corners : List ℕ} (k : FacesListed sides corners) (two : (c : ℕ) → c < length corners → fault34 sides corners c ≡ false) where
  pub spreading_none : {states queue : List ℕ} → length sides ≤ length states → length sides ≤ length queue → Blank states
      → Spreading sides corners 0 states queue 0
  spreading_none {states} a b z =
      record {
        settled = λ c h s. absurd (s (z (face_of sides c)));
        queued =
            record {
              states_long = a;
              queue_long = b;
              small = λ f. omega (arith, z f);
              inside = λ i l. absurd (omega arith);
              reached = λ i l. absurd (omega arith);
              listed = λ f l s. absurd (s (z f));
              counted = sym (count_none (seen states) (length sides) (λ j l. ap not (eq-eqb (get_or states j 0) 0 (z j))));
            };
        below = λ f l. absurd (omega arith);
        lowest = λ f s n. absurd (s (z f));
      }

  module _ {r : ℕ} {states queue : List ℕ} {tail : ℕ} (h : r < length sides) (d : Spreading sides corners r states queue tail) where
    -- r was reached before
    pub spreading_old : Seen states r → Spreading sides corners (r + 1) states queue tail
    spreading_old s =
        record {
          settled = d.settled;
          queued = d.queued;
          below = λ f l. by_equal f r (λ e. rw e s) (λ e. d.below f (omega (arith, e)));
          lowest = d.lowest;
        }

    -- r is the lowest face of a new part
    pub spreading_new : {states' queue' : List ℕ} {tail' : ℕ} → get_or states r 0 ≡ 0 → RoundDone sides corners r states states' queue' tail'
        → Spreading sides corners (r + 1) states' queue' tail'
    spreading_new {states'} z w =
        record {
          settled = w.settled;
          queued = w.queued;
          below = λ f l. by_equal f r
              (λ e y. omega (arith, w.kept, ap (λ (x : ℕ). get_or states' x 0) e))
              (λ e. seen_grown w.round.grown f (d.below f (omega (arith, e))));
          lowest = λ f s n. by_equal (get_or states f 0) 0
              (λ y. by_order f r
              (λ q. rw (q, w.kept))
              (λ q. absurd (d.below f q y))
              (λ q. absurd (n r q (joined_back sides corners r f (w.round.fresh f s y).joined))))
              (λ y. rw (w.round.grown.keeps f y) (d.lowest f y n));
        }

  -- the faces that were reached are closed, so the part of each has met its constraints
  module _ (states : List ℕ) (a : AllSettled sides corners states) where
    seen_closed : ClosedIn sides corners (seen states)
    seen_closed c h =
        true_both (seen states (face_of sides c)) (seen states (face_of sides (partner sides corners c)))
        (λ e. of_seen states _ (a c h (seen_of states _ e)).0)
        (λ e. of_seen states _ (subst (λ (x : ℕ). Seen states (face_of sides x)) (partner_partner k two c h)
        (a (partner sides corners c) (partner_in k two c h) (seen_of states _ e)).0))

    part_met : (f : ℕ) → Seen states f → MeetsPart sides corners (turns_by states) f
    part_met f s c h j = (a c h (seen_of states _ (j (seen states) seen_closed (of_seen states f s)))).1

  module _ {r : ℕ} {states queue : List ℕ} {tail : ℕ} (d : Spreading sides corners r states queue tail) where
    lower_sound : r ≤ length sides → (f : ℕ) → f < r → fault35 sides corners f ≡ false
    lower_sound l f b = no_35_of_meets k two (turns_by states) f (omega arith) (part_met states d.settled f (d.below f b))

    pub spreading_clash : r < length sides → Unturnable sides corners r → lowest_of 35 (length sides) (fault35 sides corners) ≡ fault 35 r
    spreading_clash l u = lowest_hit 35 (length sides) (fault35 sides corners) r l (is_35 k two r l u) (lower_sound (omega arith))

    pub spreading_sound : r ≡ length sides → lowest_of 35 (length sides) (fault35 sides corners) ≡ sound
    spreading_sound e = lowest_none 35 (length sides) (fault35 sides corners) (λ f b. lower_sound (omega arith) f (omega arith))

    pub spreading_chosen : r ≡ length sides → (f : ℕ) → f < length sides → turns_by states f ≡ says (chosen sides corners) f
    spreading_chosen e =
        chosen_is k two (turns_by states)
        (λ c h. let i = face_in k c h in
        part_met states d.settled (face_of sides c) (d.below _ (omega arith)) c h (λ set s e. e))
        (λ f h. let i = low_in k two f h in
        d.lowest (lowest_of_part sides corners f) (d.below _ (omega arith)) (λ g l j.
        omega (arith, lowest_of_lem f g (λ set s p. j set s (low_joined k two f h set s p)))))
      where
        lowest_of_lem : (f g : ℕ) → JoinedIn sides corners f g → lowest_of_part sides corners f ≤ g
        lowest_of_lem f g j = unfold lowest_of_part in first_le (length sides) (connected sides corners f) g (joined_connected k two f g j)
