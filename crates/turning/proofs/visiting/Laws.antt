-- Turns spread over the faces: what a corner, a visit and a round add. A face that a round reaches is forced: every choice that meets the
-- constraints of the part turns it as its state says, or turns the whole part the other way. So a face asked for both states shows that no
-- choice meets them, and a round that ends has met all constraints of its part.
use mathlib.Core.Path.{◌≡◌, refl, ap, ◌∙◌, sym, subst}
use mathlib.Core.Bool.{Bool, true, false, not, xor, ◌||◌}
use mathlib.Core.Logic.{◌⊎◌, inl, inr, ⊎_elim}
use mathlib.Core.List.{List}
use Prim.Native.Nat.{ℕ, zero, suc, ◌+◌, ◌-◌, ◌<◌, ◌≤◌}
use native.Mathlib.Omega.{arith}
use lib.Dec.{eqb}
use lib.ListN.{length, get_or, set, length-set}
use lib.Seq.{get_or-set_same, get_or-set_other}
use borrow.Author.Tests.{eqb-true, eqb-false, eq-eqb, ne_eqb}
use Rattle.paper.specs.Scan.{count_below}
use Rattle.paper.specs.Corners.{face_of, start_of}
use Rattle.paper.specs.Links.{vertex_of, same_edge, reverse_edge}
use Rattle.mesh.proofs.Scans.{clash}
use Rattle.mesh.proofs.Faces.{held, face_at, start_ends}
use Rattle.mesh.proofs.Rings.{count_less, count_le}
use Rattle.paper.specs.Turning.{shares_edge, fault34}
use Rattle.mesh.proofs.ByCases.{by_equal, less_one, true_both}
use Rattle.partners.proofs.Stores.{put}
use Rattle.partners.proofs.SharedEdges.{either, same_ends, reverse_ends}
use Rattle.partners.specs.Lists.{FacesListed}
use Rattle.partners.specs.Partner.{partner}
use Rattle.turning.specs.Constraints.{label}
use Rattle.turning.proofs.Parts.{xor_none, xor_undo, xor_move, xor_assoc, xor_cancel, joined_across}
use Rattle.turning.proofs.TurnedEdges.{ends_apart, face_in}
use Rattle.turning.proofs.Theorem.{partnered, partner_in, partner_partner}
use Rattle.reversing.specs.States.{turns_by, state_across}
use Rattle.turning.specs.visiting.Visit.{Seen, seen, Spreadable, Grown, Settled, AllSettled, Forced, Round, Queued, Visiting, Unturnable}

-- states: 1 and 2
pub two_ways : (s : ℕ) → (s ≡ 0 → ⊥) → s ≤ 2 → (s ≡ 1) ⊎ (s ≡ 2)
two_ways zero n h = absurd (n refl)
two_ways (suc zero) n h = inl refl
two_ways (suc (suc zero)) n h = inr refl
two_ways (suc (suc (suc s))) n h = absurd (omega arith)

pub record Right (s w : ℕ) (same : Bool) : Type 0 where
  pub some : w ≡ 0 → ⊥
  pub most : w ≤ 2
  pub says : eqb w 2 ≡ xor (eqb s 2) same

pub across_right : (s : ℕ) (same : Bool) → (s ≡ 0 → ⊥) → s ≤ 2 → Right s (state_across s same) same
across_right s same n h =
    ⊎_elim (λ q. rw q (one same)) (λ q. rw q (two same)) (two_ways s n h)
  where
    one : (same : Bool) → Right 1 (state_across 1 same) same
    one true = record { some = λ q. omega arith; most = omega arith; says = unfold xor in refl }
    one false = record { some = λ q. omega arith; most = omega arith; says = unfold xor in refl }

    two : (same : Bool) → Right 2 (state_across 2 same) same
    two true = record { some = λ q. omega arith; most = omega arith; says = unfold xor in refl }
    two false = record { some = λ q. omega arith; most = omega arith; says = unfold xor in refl }

same_state : (a b : ℕ) → (a ≡ 0 → ⊥) → a ≤ 2 → (b ≡ 0 → ⊥) → b ≤ 2 → eqb a 2 ≡ eqb b 2 → a ≡ b
same_state a b na ha nb hb e =
    by_equal a 2
    (λ p. p ∙ sym (eqb-true b 2 (sym e ∙ eq-eqb a 2 p)))
    (λ p. omega (arith, eqb-false b 2 (sym e ∙ ne_eqb a 2 p)))

-- states that grow
pub seen_grown : {a b : List ℕ} → Grown a b → (f : ℕ) → Seen a f → Seen b f
seen_grown g f s z = s (sym (g.keeps f s) ∙ z)

pub grown_then : {a b c : List ℕ} → Grown a b → Grown b c → Grown a c
grown_then p q = record { keeps = λ f s. q.keeps f (seen_grown p f s) ∙ p.keeps f s }

pub grown_set : (a : List ℕ) (g w : ℕ) → get_or a g 0 ≡ 0 → Grown a (set a g w)
grown_set a g w z = record { keeps = λ f s. get_or-set_other a g f w 0 (λ q. s (ap (λ (x : ℕ). get_or a x 0) q ∙ z)) }

pub grown_none : (a : List ℕ) → Grown a a
grown_none a = record { keeps = λ f s. refl }

pub unseen_before : {a b : List ℕ} → Grown a b → (f : ℕ) → get_or b f 0 ≡ 0 → get_or a f 0 ≡ 0
unseen_before {a} g f z = by_equal (get_or a f 0) 0 (λ e. e) (λ e. absurd (seen_grown g f e z))

pub seen_of : (a : List ℕ) (f : ℕ) → seen a f ≡ true → Seen a f
seen_of a f e z = clash e (ap not (eq-eqb (get_or a f 0) 0 z))

pub of_seen : (a : List ℕ) (f : ℕ) → Seen a f → seen a f ≡ true
of_seen a f n = ap not (ne_eqb (get_or a f 0) 0 n)

-- the queue
module _ {n : ℕ} {states queue : List ℕ} {tail : ℕ} (k : Queued n states queue tail) (g w : ℕ) (h : g < n) (z : get_or states g 0 ≡ 0) (nw : w ≡ 0 → ⊥) where
  g_in : g < length states
  g_in = omega (arith, k.states_long)

  counted_more : count_below n (seen (set states g w)) ≡ suc (count_below n (seen states))
  counted_more =
      count_less (seen (set states g w)) (seen states) n g h
      (of_seen (set states g w) g (λ q. nw (sym (get_or-set_same states g w 0 g_in) ∙ q)))
      (ap not (eq-eqb (get_or states g 0) 0 z))
      (λ j q. ap (λ (x : ℕ). not (eqb x 0)) (get_or-set_other states g j w 0 q))

  pub tail_below : tail < n
  tail_below = omega (arith, count_le (seen (set states g w)) n, counted_more, k.counted)

  pub queued_more : w ≤ 2 → Queued n (set states g w) (set queue tail g) (tail + 1)
  queued_more hw =
      let tq : tail < length queue = omega (arith, tail_below, k.queue_long) in
      record {
        states_long = simp length-set k.states_long;
        queue_long = simp length-set k.queue_long;
        small = λ f. put (λ x. x ≤ 2) states g f w g_in (λ q. hw) (λ q. k.small f);
        inside = λ i l. put (λ x. x < n) queue tail i g tq (λ q. h) (λ q. k.inside i (omega (arith, q)));
        reached = λ i l. put (Seen (set states g w)) queue tail i g tq
            (λ q e. nw (sym (get_or-set_same states g w 0 g_in) ∙ e))
            (λ q. seen_grown (grown_set states g w z) (get_or queue i 0) (k.reached i (omega (arith, q))));
        listed = λ f l s. by_equal f g
            (λ q. (tail, omega arith, get_or-set_same queue tail g 0 tq ∙ sym q))
            (λ q. let r = k.listed f l (λ y. s (get_or-set_other states g f w 0 q ∙ y)) in
            let b : r.0 < tail = r.1 in
            (r.0, omega arith, get_or-set_other queue tail r.0 g 0 (λ y. omega arith) ∙ r.2));
        counted = omega (arith, counted_more, k.counted);
      }

module _ {sides corners : List ℕ} (k : FacesListed sides corners) (two : (c : ℕ) → c < length corners → fault34 sides corners c ≡ false) where
  -- the direction of the other corner, by its vertex
  pub label_is : (c : ℕ) → c < length corners → eqb (vertex_of corners c) (vertex_of corners (partner sides corners c)) ≡ label sides corners c
  unfolding label
  label_is c h =
      true_both _ _
      (λ e. ⊎_elim (λ p. p) (λ p. absurd (ends_apart k c h (eqb-true _ _ e ∙ (reverse_ends sides corners c (partner sides corners c) p).0)))
      (either (same_edge sides corners c (partner sides corners c)) _ (shared c h)))
      (λ e. eq-eqb _ _ (sym (same_ends sides corners c (partner sides corners c) e).0))
    where
      shared : (c : ℕ) → c < length corners → same_edge sides corners c (partner sides corners c) || reverse_edge sides corners c (partner sides corners c) ≡ true
      shared c h = unfold shares_edge in (partnered k two c h).passes

  -- what is settled stays so
  pub settled_grown : {a b : List ℕ} → Grown a b → (c : ℕ) → Seen a (face_of sides c) → Settled sides corners a c → Settled sides corners b c
  settled_grown g c s t = (
    seen_grown g (face_of sides (partner sides corners c)) t.0,
    rw (g.keeps (face_of sides c) s, g.keeps (face_of sides (partner sides corners c)) t.0) t.1,
  )

  -- forced faces
  pub forced_self : (r : ℕ) → Forced sides corners r r false
  forced_self r = record { joined = λ set s e. e; forced = λ t m. sym (xor_none (t r)) }

  pub forced_across : (r c : ℕ) (b : Bool) → c < length corners → Forced sides corners r (face_of sides c) b
      → Forced sides corners r (face_of sides (partner sides corners c)) (xor b (label sides corners c))
  forced_across r c b h p =
      record {
        joined = joined_across sides corners r c h p.joined;
        forced = λ t m.
            xor_move (t (face_of sides c)) (t (face_of sides (partner sides corners c))) (label sides corners c) (m c h p.joined)
            ∙ ap (λ (x : Bool). xor x (label sides corners c)) (p.forced t m)
            ∙ xor_assoc (t r) b (label sides corners c);
      }

  unturnable : {r g : ℕ} {b b' : Bool} → Forced sides corners r g b → Forced sides corners r g b' → (b ≡ b' → ⊥) → Unturnable sides corners r
  unturnable {r} p q n t m = n (xor_cancel (t r) _ _ (sym (p.forced t m) ∙ q.forced t m))

  -- rounds
  pub round_none : (r : ℕ) (states : List ℕ) → Round sides corners r states states
  round_none r states = record { grown = grown_none states; fresh = λ f s z. absurd (s z) }

  pub round_more : {r : ℕ} {old states : List ℕ} {g : ℕ} (w : ℕ) → g < length states → get_or states g 0 ≡ 0 → Forced sides corners r g (eqb w 2)
      → Round sides corners r old states → Round sides corners r old (set states g w)
  round_more {r} {old} {states} {g} w h z p k =
      record {
        grown = grown_then k.grown (grown_set states g w z);
        fresh = λ f s y. by_equal f g
            (λ q. rw q (rw (get_or-set_same states g w 0 h) p))
            (λ q. let i = get_or-set_other states g f w 0 q in rw i (k.fresh f (λ x. s (i ∙ x)) y));
      }

  -- more corners are settled, and nothing else has changed
  settled_to : {f : ℕ} {old queue : List ℕ} {tail : ℕ} {states queue' : List ℕ} {tail' c : ℕ} (end : ℕ)
      → ((x : ℕ) → x < end → x < length corners → face_of sides x ≡ f → Settled sides corners states x)
      → Visiting sides corners f old queue tail states queue' tail' c → Visiting sides corners f old queue tail states queue' tail' end
  settled_to end s v =
      record { grown = v.grown; rounds = v.rounds; queued = v.queued; rises = v.rises; kept = v.kept; fresh = v.fresh; settled = s }

  -- a visit of f, at its corner c, across which lies the face g
  module _ {f : ℕ} {old queue : List ℕ} {tail : ℕ} {states queue' : List ℕ} {tail' c g w : ℕ} (so : Seen old f)
      (v : Visiting sides corners f old queue tail states queue' tail' c) (h : c < length corners) (own : face_of sides c ≡ f)
      (is-g : face_of sides (partner sides corners c) ≡ g) (rt : Right (get_or states f 0) w (label sides corners c)) where
    g_below : g < length sides
    g_below = rw is-g at (face_in k _ (partner_in k two c h))

    sf : Seen states f
    sf = seen_grown v.grown f so

    -- where a round reached f, it reaches g
    across_forced : {r : ℕ} {before : List ℕ} → Round sides corners r before states → get_or before f 0 ≡ 0
        → Forced sides corners r g (xor (turns_by states f) (label sides corners c))
    across_forced {r} d z =
        rw is-g at (forced_across r c (turns_by states f) h (rw own (d.fresh f sf z)))

    pub visiting_new : get_or states g 0 ≡ 0
        → Visiting sides corners f old queue tail (set states g w) (set queue' tail' g) (tail' + 1) (c + 1)
    visiting_new z =
        let gr = grown_set states g w z in
        let gs : g < length states = omega (arith, g_below, v.queued.states_long) in
        let tq : tail' < length queue' = omega (arith, tail_below v.queued g w g_below z rt.some, v.queued.queue_long) in
        record {
          grown = grown_then v.grown gr;
          rounds = λ r before d y.
              let e = v.rounds r before d y in
              round_more w gs z (subst (Forced sides corners r g) (sym rt.says) (across_forced e y)) e;
          queued = queued_more v.queued g w g_below z rt.some rt.most;
          rises = omega (arith, v.rises);
          kept = λ i l. get_or-set_other queue' tail' i g 0 (λ q. omega (arith, v.rises)) ∙ v.kept i l;
          fresh = λ i a b. put (λ x. get_or old x 0 ≡ 0) queue' tail' i g tq (λ q. unseen_before v.grown g z) (λ q. v.fresh i a (omega (arith, q)));
          settled = λ x l m o. by_equal x c
              (λ q. rw q (
                rw is-g (λ y. rt.some (sym (get_or-set_same states g w 0 gs) ∙ y)),
                rw (is-g, get_or-set_same states g w 0 gs, own, gr.keeps f sf, rt.says) (xor_undo (turns_by states f) (label sides corners c)),
              ))
              (λ q. settled_grown gr x (subst (Seen states) (sym o) sf) (v.settled x (less_one x c l q) m o));
        }

    pub visiting_old : get_or states g 0 ≡ w → Visiting sides corners f old queue tail states queue' tail' (c + 1)
    visiting_old z =
        settled_to (c + 1) (λ x l m o. by_equal x c
        (λ q. rw q (rw is-g (λ y. rt.some (sym z ∙ y)), rw (is-g, z, own, rt.says) (xor_undo (turns_by states f) (label sides corners c))))
        (λ q. v.settled x (less_one x c l q) m o)) v

    -- g has the other state: no choice serves
    pub visiting_clash : Seen states g → (get_or states g 0 ≡ w → ⊥)
        → (r : ℕ) (before : List ℕ) → Round sides corners r before old → get_or before f 0 ≡ 0 → AllSettled sides corners before → Unturnable sides corners r
    visiting_clash s n r before d y a =
        let e = v.rounds r before d y in
        -- g was not reached before, or f had been
        let unseen : get_or before g 0 ≡ 0 = by_equal (get_or before g 0) 0 (λ p. p)
        (λ p. absurd ((a (partner sides corners c) (partner_in k two c h) (subst (Seen before) (sym is-g) p)).0
        (ap (λ (x : ℕ). get_or before (face_of sides x) 0) (partner_partner k two c h) ∙ ap (λ (x : ℕ). get_or before x 0) own ∙ y))) in
        unturnable (e.fresh g s unseen) (across_forced e y)
        (λ q. n (same_state (get_or states g 0) w s (v.queued.small g) rt.some rt.most (q ∙ sym rt.says)))

  -- a visit begins and ends
  pub visiting_none : (f : ℕ) {states queue : List ℕ} {tail : ℕ} → Queued (length sides) states queue tail
      → Visiting sides corners f states queue tail states queue tail (start_of sides f)
  visiting_none f {states} q =
      record {
        grown = grown_none states;
        rounds = λ r before d z. d;
        queued = q;
        rises = omega arith;
        kept = λ i l. refl;
        fresh = λ i a b. absurd (omega arith);
        settled = λ c l m o.
            let e : start_of sides (face_of sides c) ≤ c = (held sides c (omega (arith, k.sums))).from in
            absurd (omega (arith, ap (start_of sides) o));
      }

  pub visiting_all : {f : ℕ} {old queue : List ℕ} {tail : ℕ} {states queue' : List ℕ} {tail' c : ℕ} → start_of sides f + get_or sides f 0 ≤ c
      → Visiting sides corners f old queue tail states queue' tail' c → Visiting sides corners f old queue tail states queue' tail' (length corners)
  visiting_all l v =
      settled_to (length corners) (λ x b m o.
      let e : x < start_of sides (face_of sides x) + get_or sides (face_of sides x) 0 = (held sides x (omega (arith, k.sums))).to in
      v.settled x (omega (arith, ap (start_of sides) o, ap (λ (y : ℕ). get_or sides y 0) o)) m o) v

-- a corner of face f, by the tables
pub record Corner (sides corners partners faces : List ℕ) (f c : ℕ) : Type 0 where
  pub inside : c < length corners
  pub own : face_of sides c ≡ f
  pub across_in : get_or partners c 0 - 1 < length corners
  pub some : get_or partners c 0 ≡ 0 → ⊥
  pub face : face_of sides (partner sides corners c) ≡ get_or faces (get_or partners c 0 - 1) 0
  pub face_below : get_or faces (get_or partners c 0 - 1) 0 < length sides
  pub same : eqb (get_or corners c 0) (get_or corners (get_or partners c 0 - 1) 0) ≡ label sides corners c

module _ {sides corners partners faces starts : List ℕ} (k : Spreadable sides corners partners faces starts) {f : ℕ} (h : f < length sides) where
  pub start_is : get_or starts f 0 ≡ start_of sides f
  start_is = k.starts_are f h

  pub corner_at_lem : (c : ℕ) → start_of sides f ≤ c → c < get_or starts f 0 + get_or sides f 0 → Corner sides corners partners faces f c
  corner_at_lem c a b =
      let i : c < length corners = omega (arith, start_is, start_ends sides f h, k.listed.sums) in
      let p = partner_in k.listed k.two c i in
      let e₁ = k.partners_are c i in
      let e : get_or partners c 0 - 1 ≡ partner sides corners c = omega (arith, e₁) in
      let g : get_or faces (get_or partners c 0 - 1) 0 ≡ face_of sides (partner sides corners c) = rw e (k.faces_are (partner sides corners c) p) in
      record {
        inside = i;
        own = face_at sides f c a (omega (arith, start_is)) h;
        across_in = omega (arith, p, e);
        some = λ z. omega (arith, e₁);
        face = sym g;
        face_below = omega (arith, g, face_in k.listed (partner sides corners c) p);
        same = ap (λ (x : ℕ). eqb (get_or corners c 0) (get_or corners x 0)) e ∙ label_is k.listed k.two c i;
      }

-- a turn of the loop over the corners of f
module _ {sides corners partners faces starts : List ℕ} (k : Spreadable sides corners partners faces starts)
    {f : ℕ} {old queue : List ℕ} {tail : ℕ} {states queue' : List ℕ} {next c : ℕ} (so : Seen old f) (qo : Queued (length sides) old queue tail)
    (v : Visiting sides corners f old queue tail states queue' next c) (at_c : Corner sides corners partners faces f c)
    {w : ℕ} (e : w ≡ state_across (get_or old f 0) (eqb (get_or corners c 0) (get_or corners (get_or partners c 0 - 1) 0))) where
  right : Right (get_or states f 0) w (label sides corners c)
  right = rw (v.grown.keeps f so, e, at_c.same) (across_right (get_or old f 0) (label sides corners c) so (qo.small f))

  pub turn_new : get_or states (get_or faces (get_or partners c 0 - 1) 0) 0 ≡ 0
      → Visiting sides corners f old queue tail (set states (get_or faces (get_or partners c 0 - 1) 0) w)
      (set queue' next (get_or faces (get_or partners c 0 - 1) 0)) (next + 1) (c + 1)
  turn_new = visiting_new k.listed k.two so v at_c.inside at_c.own at_c.face right

  pub turn_old : get_or states (get_or faces (get_or partners c 0 - 1) 0) 0 ≡ w → Visiting sides corners f old queue tail states queue' next (c + 1)
  turn_old = visiting_old k.listed k.two so v at_c.inside at_c.own at_c.face right

  pub turn_clash : Seen states (get_or faces (get_or partners c 0 - 1) 0) → (get_or states (get_or faces (get_or partners c 0 - 1) 0) 0 ≡ w → ⊥)
      → (r : ℕ) (before : List ℕ) → Round sides corners r before old → get_or before f 0 ≡ 0 → AllSettled sides corners before → Unturnable sides corners r
  turn_clash = visiting_clash k.listed k.two so v at_c.inside at_c.own at_c.face right
