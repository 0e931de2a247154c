-- The turns of the loops over the ends of edges, and the pairs that come out of them.
use mathlib.Core.Path.{◌≡◌, ap, ◌∙◌, sym}
use mathlib.Core.Bool.{true, false, not}
use mathlib.Core.Logic.{◌⊎◌, inl, inr, ⊎_elim}
use mathlib.Core.List.{List}
use Prim.Native.Nat.{ℕ, ◌+◌, ◌-◌, ◌<◌, ◌≤◌, min, max}
use native.Mathlib.Omega.{arith}
use lib.ListN.{length, get_or, set, length-set}
use lib.Seq.{get_or-set_same, get_or-set_other}
use borrow.Author.Tests.{eqb-true, eq-eqb, ne_eqb, not-false}
use Rattle.paper.specs.Links.{vertex_of, leaves_to, same_edge, reverse_edge}
use Rattle.paper.specs.Faults.{sound, fault, lowest_of}
use Rattle.mesh.proofs.Verdicts.{lowest_hit, lowest_none}
use Rattle.walk.specs.Table.{to_next, entry, Blank}
use Rattle.checks.proofs.columns.Chains.{On, above_head, at_in, at_vertex, on_falls, on_from}
use Rattle.mesh.proofs.ByCases.{by_equal, by_order, true_of, less_one}
use Rattle.partners.proofs.Stores.{put}
use Rattle.paper.specs.Turning.{shares_edge, fault34}
use Rattle.partners.specs.Partner.{partner}
use Rattle.mesh.proofs.Ranges.{or_left, or_right}
use Rattle.partners.proofs.Pairs.{Paired, paired, counted}
use Rattle.partners.proofs.SharedEdges.{either, same_ends, reverse_ends, same_of, reverse_of, shares_self, shares_back}
use Rattle.partners.specs.Keys.{KeysTo, Keyed, Key, own_entry, AfterIs, Afters, Followable, Latest, LatestBelow, AftersBelow, AftersTo}

-- the ends
pub keys_none : (corners table lows highs : List ℕ) → Keyed corners table lows highs 0
keys_none corners table lows highs sides n = record { low = λ c l. absurd (omega arith); high = λ c l. absurd (omega arith) }

pub keys_step : (corners table : List ℕ) {lows highs : List ℕ} {c a b : ℕ} → c < length corners → c < length lows → c < length highs
    → a ≡ min (get_or corners c 0) (get_or corners (entry table to_next c) 0) → b ≡ max (get_or corners c 0) (get_or corners (entry table to_next c) 0)
    → Keyed corners table lows highs c → Keyed corners table (set lows c a) (set highs c b) (c + 1)
unfolding leaves_to
keys_step corners table {lows} {highs} {c} {a} {b} h hl hh ea eb k sides n =
    record {
      low = λ d l. put (λ x. x ≡ min (vertex_of corners d) (leaves_to sides corners d)) lows c d a hl
          (λ q. ea ∙ rw (q, n c h)) (λ q. (k sides n).low d (omega (arith, q)));
      high = λ d l. put (λ x. x ≡ max (vertex_of corners d) (leaves_to sides corners d)) highs c d b hh
          (λ q. eb ∙ rw (q, n c h)) (λ q. (k sides n).high d (omega (arith, q)));
    }

key_then : {lows highs : List ℕ} {c d e : ℕ} → Key lows highs c d → Key lows highs d e → Key lows highs c e
key_then p q = record { low = q.low ∙ p.low; high = q.high ∙ p.high }

key_back : {lows highs : List ℕ} {c d : ℕ} → Key lows highs c d → Key lows highs d c
key_back p = record { low = sym p.low; high = sym p.high }

-- a walk over the corners with lower end u
module _ {vertices : ℕ} {lows highs earliers heads : List ℕ} (k : Followable vertices lows highs earliers heads) (u : ℕ) where
  pub latest_none : {table : List ℕ} → LatestBelow vertices lows highs table u → Latest vertices lows highs table u (get_or heads u 0)
  latest_none t =
      record {
        room = t.room;
        inside = t.inside;
        key = t.key;
        low = λ w n. let z = t.low w n in omega arith;
        later = λ w n e. absurd (let z = t.low w n in omega arith);
        met = λ d a b e. absurd (above_head _ _ _ k.chained u d a b e);
      }

  pub afters_none : (afters : List ℕ) → AftersBelow lows highs afters u → AftersTo lows highs afters u (get_or heads u 0)
  afters_none afters b c h l a =
      by_equal (get_or lows c 0) u (λ q. absurd (above_head _ _ _ k.chained u c (a q) h q)) (λ q. b c h (omega (arith, q)))

  module _ {at : ℕ} (o : On lows u at) (n : at ≡ 0 → ⊥) {table : List ℕ} (t : Latest vertices lows highs table u at) where
    -- the corner here is at - 1; its higher end, and the table's entry there
    abbrev high : ℕ
    high = get_or highs (at - 1) 0

    abbrev entry_here : ℕ
    entry_here = get_or table high 0

    c_low : get_or lows (at - 1) 0 ≡ u
    c_low = at_vertex _ _ _ k.chained u at o n

    w_in : high < length table
    w_in = omega (arith, k.highs_in (at - 1) (at_in _ _ _ k.chained u at o n), t.room)

    -- the entry of the corner here
    module _ {x : ℕ} (ex : x ≡ own_entry lows u (get_or table (get_or highs (at - 1) 0) 0)) where
      own_entry_lem : (entry_here ≡ 0 → ⊥) → get_or lows (entry_here - 1) 0 ≡ u → x ≡ entry_here
      own_entry_lem m v = ex ∙ rw (ne_eqb entry_here 0 m, eq-eqb (get_or lows (entry_here - 1) 0) u v)

      some_entry : (x ≡ 0 → ⊥) → (entry_here ≡ 0 → ⊥) × (get_or lows (entry_here - 1) 0 ≡ u) × (x ≡ entry_here)
      some_entry s =
          by_equal entry_here 0 (λ z. absurd (s (ex ∙ rw (eq-eqb entry_here 0 z))))
          (λ m. by_equal (get_or lows (entry_here - 1) 0) u (λ v. (m, v, own_entry_lem m v))
          (λ v. absurd (s (ex ∙ rw (ne_eqb entry_here 0 m, ne_eqb (get_or lows (entry_here - 1) 0) u v)))))

      -- a higher corner with the same ends was met
      met_here : (d : ℕ) → at - 1 < d → d < length lows → Key lows highs (at - 1) d
          → (entry_here ≤ d + 1) × ((entry_here ≡ 0 → ⊥) × (get_or lows (entry_here - 1) 0 ≡ u))
      met_here d a b q = rw q.high at (t.met d (omega arith) b (q.low ∙ c_low))

      after_here : AfterIs lows highs (at - 1) x
      after_here =
          record {
            none = λ z d a b q. let m = met_here d a b q in m.1.0 (sym (own_entry_lem m.1.0 m.1.1) ∙ z);
            above = λ s. let p = some_entry s in omega (arith, t.later _ p.0 p.1, p.2, p.0);
            inside = by_equal x 0 (λ e. omega arith) (λ e. omega (arith, (some_entry e).2, t.inside high));
            same = λ s. let p = some_entry s in
                record {
                  low = ap (λ (y : ℕ). get_or lows (y - 1) 0) p.2 ∙ p.1 ∙ sym c_low;
                  high = ap (λ (y : ℕ). get_or highs (y - 1) 0) p.2 ∙ t.key _ p.0;
                };
            lowest = λ d a b q.
                let p = some_entry (λ z. omega arith) in
                omega (arith, (met_here d a (omega (arith, p.2, t.inside high)) q).0, p.2);
          }

      pub afters_step : (afters : List ℕ) → at - 1 < length afters → AftersTo lows highs afters u at
          → AftersTo lows highs (set afters (at - 1) x) u (get_or earliers (at - 1) 0)
      afters_step afters h a c l m b =
          put (AfterIs lows highs c) afters (at - 1) c x h (λ q. rw q after_here)
          (λ q. a c l m (λ e. omega (arith, on_from _ _ _ k.chained u at o n c (b e) e, q)))

    pub latest_step : Latest vertices lows highs (set table (get_or highs (at - 1) 0) at) u (get_or earliers (at - 1) 0)
    latest_step =
        let f = on_falls _ _ _ k.chained u at o n in
        record {
          room = simp length-set t.room;
          inside = λ y. put (λ z. z ≤ length lows) table high y at w_in (λ q. o.inside) (λ q. t.inside y);
          key = λ y. put (λ z. (z ≡ 0 → ⊥) → get_or highs (z - 1) 0 ≡ y) table high y at w_in (λ q s. sym q) (λ q. t.key y);
          low = λ y. put (λ z. (z ≡ 0 → ⊥) → get_or lows (z - 1) 0 ≤ u) table high y at w_in (λ q s. omega (arith, c_low)) (λ q. t.low y);
          later = λ y. put (λ z. (z ≡ 0 → ⊥) → get_or lows (z - 1) 0 ≡ u → get_or earliers (at - 1) 0 ≤ z - 1) table high y at w_in
              (λ q s e. omega (arith, f)) (λ q s e. omega (arith, f, t.later y s e));
          met = λ d a b e.
              let g = on_from _ _ _ k.chained u at o n d a e in
              put (λ z. (z ≤ d + 1) × ((z ≡ 0 → ⊥) × (get_or lows (z - 1) 0 ≡ u))) table high (get_or highs d 0) at w_in
              (λ q. (g, (n, c_low)))
              (λ q. let other : d ≡ at - 1 → ⊥ = λ z. q (ap (λ (y : ℕ). get_or highs y 0) z) in t.met d (omega (arith, g, other)) b e);
        }

  pub latest_all : {table : List ℕ} → Latest vertices lows highs table u 0 → LatestBelow vertices lows highs table (u + 1)
  latest_all t = record { room = t.room; inside = t.inside; key = t.key; low = λ w n. let z = t.low w n in omega arith }

  pub afters_all : (afters : List ℕ) → AftersTo lows highs afters u 0 → AftersBelow lows highs afters (u + 1)
  afters_all afters a c h l = a c h (omega arith) (λ e. omega arith)

pub below_none : (vertices : ℕ) (lows highs table : List ℕ) → vertices ≤ length table → Blank table → LatestBelow vertices lows highs table 0
below_none vertices lows highs table r z =
    record {
      room = r;
      inside = λ w. omega (arith, z w);
      key = λ w n. absurd (n (z w));
      low = λ w n. absurd (n (z w));
    }

-- edges that are shared have the same ends, and the other way round
module _ {sides corners lows highs : List ℕ} (t : KeysTo sides corners lows highs (length corners)) {c d : ℕ} (hc : c < length corners)
    (hd : d < length corners) where
  ends : (a b a' b' : ℕ) → min a' b' ≡ min a b → max a' b' ≡ max a b → ((a' ≡ a) × (b' ≡ b)) ⊎ ((a' ≡ b) × (b' ≡ a))
  ends a b a' b' p q = by_equal a' a (λ z. inl (z, omega arith)) (λ z. inr (omega (arith, z), omega (arith, z)))

  key_shares : Key lows highs c d → shares_edge sides corners c d ≡ true
  unfolding shares_edge
  key_shares p =
      ⊎_elim
      (λ q. or_left _ _ (same_of sides corners c d q.0 q.1))
      (λ q. or_right (same_edge sides corners c d) _ (reverse_of sides corners c d q.0 q.1))
      (ends (vertex_of corners c) (leaves_to sides corners c) (vertex_of corners d) (leaves_to sides corners d)
      (sym (t.low d hd) ∙ p.low ∙ t.low c hc) (sym (t.high d hd) ∙ p.high ∙ t.high c hc))

  shares_key : shares_edge sides corners c d ≡ true → Key lows highs c d
  unfolding shares_edge
  shares_key e =
      ⊎_elim
      (λ p. let q = same_ends sides corners c d p in record {
        low = omega (arith, t.low d hd, t.low c hc, q.0, q.1);
        high = omega (arith, t.high d hd, t.high c hc, q.0, q.1);
      })
      (λ p. let q = reverse_ends sides corners c d p in record {
        low = omega (arith, t.low d hd, t.low c hc, q.0, q.1);
        high = omega (arith, t.high d hd, t.high c hc, q.0, q.1);
      })
      (either (same_edge sides corners c d) (reverse_edge sides corners c d) e)

some_more : (c x : ℕ) → x ≡ c + 1 → x ≡ 0 → ⊥
some_more c x p q = omega arith

-- the pairs that are found while the corners are passed in rising order
pub record Pairing (sides corners partners : List ℕ) (c : ℕ) : Type 0 where
  pub done : (x : ℕ) → x < c → get_or partners x 0 ≡ 0 → ⊥
  pub right : (x : ℕ) → x < length corners → (get_or partners x 0 ≡ 0 → ⊥) → (fault34 sides corners x ≡ false) × (get_or partners x 0 ≡ partner sides corners x + 1)
  pub both : (x : ℕ) → x < length corners → (get_or partners x 0 ≡ 0 → ⊥) → get_or partners (partner sides corners x) 0 ≡ 0 → ⊥
  pub apart : (x : ℕ) → x < length corners → get_or partners x 0 ≡ 0 → (y : ℕ) → y < c → shares_edge sides corners x y ≡ true → ⊥

pub pairing_none : (sides corners partners : List ℕ) → Blank partners → Pairing sides corners partners 0
pairing_none sides corners partners z =
    record {
      done = λ x l. absurd (omega arith);
      right = λ x l n. absurd (n (z x));
      both = λ x l n. absurd (n (z x));
      apart = λ x l e y b. absurd (omega arith);
    }

module _ (sides corners : List ℕ) where
  pair_of : (c : ℕ) → c < length corners → fault34 sides corners c ≡ false → Paired (length corners) (shares_edge sides corners c) c (partner sides corners c)
  unfolding fault34 partner
  pair_of c h e = paired (length corners) (shares_edge sides corners c) c h (shares_self sides corners c) (eqb-true _ _ (not-false _ e))

  sound_of_pair : {c d : ℕ} → c < length corners → Paired (length corners) (shares_edge sides corners c) c d → fault34 sides corners c ≡ false
  unfolding fault34
  sound_of_pair {c} {d} h p = ap not (eq-eqb _ 2 (counted (length corners) (shares_edge sides corners c) c h (shares_self sides corners c) d p))

  partner_is : {c d : ℕ} → c < length corners → Paired (length corners) (shares_edge sides corners c) c d → partner sides corners c ≡ d
  partner_is {c} h p =
      let q = pair_of c h (sound_of_pair h p) in
      ⊎_elim (λ z. absurd (q.apart z)) (λ z. z) (p.only (partner sides corners c) q.inside q.passes)

  module _ {partners : List ℕ} {c : ℕ} (h : c < length corners) (p : Pairing sides corners partners c) where
    -- c has its partner already
    pub pairing_old : (get_or partners c 0 ≡ 0 → ⊥) → Pairing sides corners partners (c + 1)
    pairing_old n =
        record {
          done = λ x l z. by_equal x c (λ q. n (rw q at z)) (λ q. p.done x (omega (arith, q)) z);
          right = p.right;
          both = p.both;
          apart = λ x l z y b s. by_equal y c
              (λ q. ⊎_elim (λ w. n (rw w at z)) (λ w. p.both c h n (rw w at z))
              ((pair_of c h (p.right c h n).0).only x l (shares_back sides corners x c (rw q at s))))
              (λ q. p.apart x l z y (omega (arith, q)) s);
        }

    -- c is the first corner with the fault
    refused : (fault34 sides corners c ≡ false → ⊥) → lowest_of 34 (length corners) (fault34 sides corners) ≡ fault 34 c
    refused n =
        lowest_hit 34 (length corners) (fault34 sides corners) c h (true_of _ n) (λ j l. (p.right j (omega arith) (p.done j l)).0)

    module _ (z₀ : get_or partners c 0 ≡ 0) {lows highs : List ℕ} (afters : List ℕ) (same : length lows ≡ length corners)
        (t : KeysTo sides corners lows highs (length corners)) (a : Afters lows highs afters) where
      ac : AfterIs lows highs c (get_or afters c 0)
      ac = a c (omega (arith, same))

      -- no other corner shares the edge
      pub pairing_alone : get_or afters c 0 ≡ 0 → lowest_of 34 (length corners) (fault34 sides corners) ≡ fault 34 c
      pairing_alone z =
          refused (λ e.
          let q = pair_of c h e in
          let i = q.inside in
          by_order (partner sides corners c) c q.apart
          (λ l. p.apart c h z₀ (partner sides corners c) l q.passes)
          (λ l. ac.none z (partner sides corners c) l (omega (arith, same)) (shares_key t h i q.passes)))

      module _ (n : get_or afters c 0 ≡ 0 → ⊥) where
        -- the next corner with the same ends, and the one after it
        abbrev second : ℕ
        second = get_or afters c 0 - 1

        abbrev third : ℕ
        third = get_or afters second 0 - 1

        d_in : second < length corners
        d_in = omega (arith, ac.inside, ac.above n, same)

        c_d : c < second
        c_d = omega (arith, ac.above n)

        ad : AfterIs lows highs second (get_or afters second 0)
        ad = a second (omega (arith, same, d_in))

        shares_d : shares_edge sides corners c second ≡ true
        shares_d = key_shares t h d_in (ac.same n)

        -- a third corner shares the edge
        pub pairing_third : (get_or afters (get_or afters c 0 - 1) 0 ≡ 0 → ⊥) → lowest_of 34 (length corners) (fault34 sides corners) ≡ fault 34 c
        pairing_third m =
            let above : second < third = omega (arith, ad.above m) in
            let g_in : third < length corners = omega (arith, ad.inside, ad.above m, same) in
            let s = key_shares t h g_in (key_then (ac.same n) (ad.same m)) in
            refused (λ e.
            let q = pair_of c h e in
            ⊎_elim (λ w. omega (arith, c_d))
            (λ w. ⊎_elim (λ y. omega (arith, c_d)) (λ y. omega arith) (q.only third g_in s))
            (q.only second d_in shares_d))

        -- the two are partners
        module _ (z : get_or afters (get_or afters c 0 - 1) 0 ≡ 0) where
          d_of : (e : ℕ) → e < length corners → shares_edge sides corners c e ≡ true → (e ≡ c) ⊎ (e ≡ second)
          d_of e l s =
              let q = shares_key t h l s in
              by_order e c inl
              (λ b. absurd (p.apart c h z₀ e b s))
              (λ b. by_order e second inr
              (λ y. absurd (ac.lowest e b (omega arith) q))
              (λ y. absurd (ad.none z e y (omega (arith, same)) (key_then (key_back (ac.same n)) q))))

          pair_c : Paired (length corners) (shares_edge sides corners c) c second
          pair_c = record { inside = d_in; apart = λ w. omega (arith, c_d); passes = shares_d; only = d_of }

          pair_d : Paired (length corners) (shares_edge sides corners second) second c
          pair_d =
              record {
                inside = h;
                apart = λ w. omega (arith, c_d);
                passes = shares_back sides corners c second shares_d;
                only = λ e l s. ⊎_elim inr inl (d_of e l (key_shares t h l (key_then (ac.same n) (shares_key t d_in l s))));
              }

          module _ (room : length corners ≤ length partners) where
            abbrev new : List ℕ
            new = set (set partners c (get_or afters c 0)) second (c + 1)

            at_d : get_or new second 0 ≡ c + 1
            at_d = get_or-set_same (set partners c (get_or afters c 0)) second (c + 1) 0 (omega (arith, length-set partners c (get_or afters c 0), d_in))

            at_c : get_or new c 0 ≡ get_or afters c 0
            at_c =
                get_or-set_other (set partners c (get_or afters c 0)) second c (c + 1) 0 (λ w. omega (arith, c_d))
                ∙ get_or-set_same partners c (get_or afters c 0) 0 (omega arith)

            c_some : get_or new c 0 ≡ 0 → ⊥
            c_some y = n (sym at_c ∙ y)

            d_some : get_or new second 0 ≡ 0 → ⊥
            d_some y = some_more c _ at_d y

            by_place : {A : Type 0} (x : ℕ) → (x ≡ c → A) → (x ≡ second → A) → (get_or new x 0 ≡ get_or partners x 0 → A) → A
            by_place x f g e =
                by_equal x c f (λ nc. by_equal x second g (λ nd. e (get_or-set_other (set partners c (get_or afters c 0)) second x (c + 1) 0 nd
                ∙ get_or-set_other partners c x (get_or afters c 0) 0 nc)))

            grown : (x : ℕ) → (get_or partners x 0 ≡ 0 → ⊥) → get_or new x 0 ≡ 0 → ⊥
            grown x m y = by_place x (λ q. c_some (rw q at y)) (λ q. d_some (rw q at y)) (λ e. m (sym e ∙ y))

            pub pairing_new : Pairing sides corners (set (set partners c (get_or afters c 0)) (get_or afters c 0 - 1) (c + 1)) (c + 1)
            pairing_new =
                let pc = partner_is h pair_c in
                let pd = partner_is d_in pair_d in
                record {
                  done = λ x l y. by_equal x c (λ q. c_some (rw q at y)) (λ q. grown x (p.done x (less_one x c l q)) y);
                  right = λ x l m. by_place x
                      (λ q. rw q (sound_of_pair h pair_c, at_c ∙ omega (arith, n, pc)))
                      (λ q. rw q (sound_of_pair d_in pair_d, at_d ∙ omega (arith, pd)))
                      (λ i. let r = p.right x l (λ y. m (i ∙ y)) in (r.0, i ∙ r.1));
                  both = λ x l m. by_place x
                      (λ q. rw (q, pc) d_some)
                      (λ q. rw (q, pd) c_some)
                      (λ i. grown (partner sides corners x) (p.both x l (λ y. m (i ∙ y))));
                  apart = λ x l y b j s. by_place x (λ q. c_some (rw q at y)) (λ q. d_some (rw q at y)) (λ i. by_equal b c
                      (λ q. ⊎_elim (λ w. c_some (rw w at y)) (λ w. d_some (rw w at y)) (d_of x l (shares_back sides corners x c (rw q at s))))
                      (λ q. p.apart x l (sym i ∙ y) b (less_one b c j q) s));
                }

  -- all corners are passed
  pub pairing_all : {partners : List ℕ} {c : ℕ} → length corners ≤ c → Pairing sides corners partners c
      → (lowest_of 34 (length corners) (fault34 sides corners) ≡ sound) × ((x : ℕ) → x < length corners → get_or partners x 0 ≡ partner sides corners x + 1)
  pairing_all l p = (
    lowest_none 34 (length corners) (fault34 sides corners) (λ x h. (p.right x h (p.done x (omega arith))).0),
    λ x h. (p.right x h (p.done x (omega arith))).1,
  )
