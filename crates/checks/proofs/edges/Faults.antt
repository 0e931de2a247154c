-- What a corner of a marked vertex finds is the entry that the definitions ask for; what entries say of faults 10 and 11, and of links.
use mathlib.Core.Path.{◌≡◌, refl, ap, ◌∙◌, sym, subst}
use mathlib.Core.Bool.{Bool, true, false, not}
use mathlib.Core.Logic.{⊎_elim}
use mathlib.Core.List.{List}
use Prim.Native.Nat.{ℕ, ◌+◌, ◌-◌, ◌<◌, ◌≤◌}
use native.Mathlib.Omega.{arith}
use lib.Dec.{eqb}
use lib.ListN.{length}
use borrow.Author.Tests.{eq-eqb, ne_eqb, eqb-true}
use Rattle.paper.specs.Scan.{some_below, first_below}
use Rattle.paper.specs.Mesh.{most_corners}
use Rattle.paper.specs.Corners.{sum_of, next, previous}
use Rattle.paper.specs.Links.{vertex_of, leaves_to, arrives_from, same_edge, reverse_edge, linked, link, reverse}
use Rattle.paper.specs.Faults.{sound, fault, lowest_of, fault10, fault11, stated, Answer, done}
use Rattle.mesh.specs.Closed.{Closed}
use Rattle.mesh.proofs.Scans.{ways, clash, and_true, and_left, and_right, first_fails, some_true, some_false, some_below_lem, some_passes, none}
use Rattle.mesh.proofs.Faces.{next_below, previous_below, next_previous, previous_next}
use Rattle.mesh.proofs.Links.{unique, reverse_in, reverse_vertex, reverse_to, link_is}
use Rattle.mesh.proofs.Verdicts.{lowest_hit, lowest_none, lowest_sound, or_else_sound, unsound}
use Rattle.list_checks.proofs.Laws.{stops}
use Rattle.walk.specs.Table.{to_link, entry, Column}
use Rattle.checks.specs.columns.Vertices.{leaving_here, arriving_here, noted}
use Rattle.checks.specs.edges.Entries.{repeated, alone, Entry, again, single, joined, Entries, has, to, from, Hit, InColumn, MarkedFrom, StepsBelong}
use Rattle.checks.specs.edges.Entries.{EdgesChecked}

-- ---- the entry that a corner finds
-- the corner of an edge's reverse is the one before the corner where the reverse arrives
module _ (sides corners : List ℕ) (s : sum_of sides ≡ length corners) (c : ℕ) where
  linked_reverse : (d : ℕ) → d < length corners → linked sides corners c d ≡ true → reverse_edge sides corners c (previous sides d) ≡ true
  unfolding linked reverse_edge arrives_from leaves_to
  linked_reverse d l e =
      and_true _ _ (and_right (eqb (vertex_of corners d) (vertex_of corners c)) _ e)
      (eq-eqb _ _ (ap (vertex_of corners) (next_previous sides d (omega arith)) ∙ eqb-true _ _ (and_left _ _ e)))

  reverse_linked : (p : ℕ) → p < length corners → reverse_edge sides corners c p ≡ true → linked sides corners c (next sides p) ≡ true
  unfolding linked reverse_edge arrives_from leaves_to
  reverse_linked p l e =
      and_true _ _ (and_right (eqb (vertex_of corners p) (vertex_of corners (next sides c))) _ e)
      (eq-eqb _ _ (ap (vertex_of corners) (previous_next sides p (omega arith)) ∙ eqb-true _ _ (and_left _ _ e)))

  unlinked : ((d : ℕ) → d < length corners → linked sides corners c d ≡ false) → fault11 sides corners c ≡ true
  unfolding fault11
  unlinked none =
      ap not (some_false (length corners) (reverse_edge sides corners c) (λ p l.
      ⊎_elim
      (λ e. absurd (clash (reverse_linked p l e) (none (next sides p) (omega (arith, next_below sides p (omega arith))))))
      (λ e. e)
      (ways (reverse_edge sides corners c p))))

  reversed : (d : ℕ) → d < length corners → linked sides corners c d ≡ true → fault11 sides corners c ≡ false
  unfolding fault11
  reversed d l e =
      let b = previous_below sides d (omega arith) in
      ap not (some_true (length corners) (reverse_edge sides corners c) (previous sides d) (omega (arith, b)) (linked_reverse d l e))

-- the entry of a corner whose vertex is marked
module _ (corners table vertices : List ℕ) (u c : ℕ) (h : c < length corners) (v : u ≡ vertex_of corners c) (marked : MarkedFrom corners table vertices u 0)
    (sides : List ℕ) (e : StepsBelong sides corners table) where
  m : MarkedFrom corners table vertices (vertex_of corners c) 0
  m = subst (λ (x : ℕ). MarkedFrom corners table vertices x 0) v marked

  leaves : (d : ℕ) → d < length corners → to corners table d ≡ leaves_to sides corners d
  unfolding leaves_to
  leaves d l = ap (vertex_of corners) (e.nexts d l)

  arrives : (d : ℕ) → d < length corners → from corners table d ≡ arrives_from sides corners d
  unfolding arrives_from
  arrives d l = ap (vertex_of corners) (e.previouses d l)

  first : Hit corners (vertex_of corners c) c (noted vertices leaving_here (to corners table c))
  unfolding InColumn
  first = m.left_from c (omega arith) h refl

  pub entry_again : (noted vertices leaving_here (to corners table c) ≡ c + 1 → ⊥) → Entry sides corners c repeated
  unfolding fault10 same_edge
  entry_again ne =
      let x = noted vertices leaving_here (to corners table c) in
      let k = m.keyed.left.inside (to corners table c) first.some in
      let l : x - 1 < c = omega (arith, ne, first.some, first.low) in
      again
      (some_true c (same_edge sides corners c) (x - 1) l
      (and_true _ _ (eq-eqb (vertex_of corners (x - 1)) (vertex_of corners c) first.own)
      (eq-eqb (leaves_to sides corners (x - 1)) (leaves_to sides corners c)
      (sym (leaves (x - 1) (omega arith)) ∙ m.keyed.left.key_is (to corners table c) first.some ∙ leaves c h))))

  once : noted vertices leaving_here (to corners table c) ≡ c + 1 → fault10 sides corners c ≡ false
  unfolding fault10 same_edge InColumn
  once q =
      some_false c (same_edge sides corners c) (λ j l.
      ⊎_elim
      (λ b.
      let w : vertex_of corners j ≡ vertex_of corners c = eqb-true _ _ (and_left _ _ b) in
      let t : leaves_to sides corners j ≡ leaves_to sides corners c =
      eqb-true _ _ (and_right (eqb (vertex_of corners j) (vertex_of corners c)) _ b) in
      let r : to corners table j ≡ to corners table c = leaves j (omega arith) ∙ t ∙ sym (leaves c h) in
      absurd (omega (arith, (m.left_from j (omega arith) (omega arith) w).low, ap (noted vertices leaving_here) r)))
      (λ b. b)
      (ways (same_edge sides corners c j)))

  pub entry_single : noted vertices leaving_here (to corners table c) ≡ c + 1
      → ((noted vertices arriving_here (to corners table c) ≡ 0 → ⊥)
      → vertex_of corners (noted vertices arriving_here (to corners table c) - 1) ≡ u → ⊥) → Entry sides corners c alone
  unfolding linked InColumn
  entry_single q ne =
      single (once q)
      (unlinked sides corners e.sums c (λ d l.
      ⊎_elim
      (λ b.
      let w : vertex_of corners d ≡ vertex_of corners c = eqb-true _ _ (and_left _ _ b) in
      let t : arrives_from sides corners d ≡ leaves_to sides corners c =
      eqb-true _ _ (and_right (eqb (vertex_of corners d) (vertex_of corners c)) _ b) in
      let r : from corners table d ≡ to corners table c = arrives d l ∙ t ∙ sym (leaves c h) in
      let k = subst (λ (x : ℕ). Hit corners (vertex_of corners c) d (noted vertices arriving_here x)) r (m.arrived_from d (omega arith) l w) in
      absurd (ne k.some (k.own ∙ sym v)))
      (λ b. b)
      (ways (linked sides corners c d))))

  pub entry_joined : noted vertices leaving_here (to corners table c) ≡ c + 1 → (noted vertices arriving_here (to corners table c) ≡ 0 → ⊥)
      → vertex_of corners (noted vertices arriving_here (to corners table c) - 1) ≡ u
      → Entry sides corners c (noted vertices arriving_here (to corners table c) - 1)
  unfolding linked
  entry_joined q n w =
      let x = noted vertices arriving_here (to corners table c) in
      let l : x - 1 < length corners = omega (arith, n, m.keyed.arrived.inside (to corners table c) n) in
      joined (once q) (x - 1) l
      (and_true _ _ (eq-eqb (vertex_of corners (x - 1)) (vertex_of corners c) (w ∙ v))
      (eq-eqb (arrives_from sides corners (x - 1)) (leaves_to sides corners c)
      (sym (arrives (x - 1) l) ∙ m.keyed.arrived.key_is (to corners table c) n ∙ leaves c h)))

-- ---- what the entries say
-- two tests that agree have their lowest place in common
lowest_same : (k n : ℕ) (f g : ℕ → Bool) → ((j : ℕ) → j < n → f j ≡ g j) → lowest_of k n f ≡ lowest_of k n g
lowest_same k n f g s =
    ⊎_elim
    (λ e. let l = some_below_lem n g e in
    lowest_hit k n f (first_below n g) l (s (first_below n g) l ∙ some_passes n g e) (λ j b. s j (omega arith) ∙ first_fails n g j b)
    ∙ sym (lowest_hit k n g (first_below n g) l (some_passes n g e) (first_fails n g)))
    (λ e. lowest_none k n f (λ j b. s j b ∙ none n g e j b) ∙ sym (lowest_none k n g (none n g e)))
    (ways (some_below n g))

-- of closed tables, the corner where the reverse arrives is the link
link_only : (sides corners : List ℕ) → Closed sides corners → (c d : ℕ) → c < length corners → d < length corners → linked sides corners c d ≡ true
    → d ≡ link sides corners c
unfolding reverse_edge
link_only sides corners k c d h l p =
    let b = linked_reverse sides corners k.sums c d l p in
    let i : previous sides d < length corners = omega (arith, k.sums, previous_below sides d (omega (arith, k.sums))) in
    let q : previous sides d ≡ reverse sides corners c =
    unique sides corners k (previous sides d) (reverse sides corners c) i (reverse_in sides corners k c h)
    (eqb-true _ _ (and_left _ _ b) ∙ sym (reverse_vertex sides corners k c h))
    (eqb-true _ _ (and_right (eqb (vertex_of corners (previous sides d)) (leaves_to sides corners c)) _ b) ∙ sym (reverse_to sides corners k c h)) in
    sym (next_previous sides d (omega (arith, k.sums))) ∙ ap (next sides) q ∙ sym (link_is sides corners k c h)

-- what the entries say of faults and links
module _ (sides corners table : List ℕ) (small : length corners ≤ most_corners) (t : Entries sides corners table) where
  pub ten_found : lowest_of 10 (length corners) (has table repeated) ≡ lowest_of 10 (length corners) (fault10 sides corners)
  unfolding Entries
  ten_found = lowest_same 10 (length corners) (has table repeated) (fault10 sides corners) (λ c h. told c (entry table to_link c) (t c h))
    where
      told : (c x : ℕ) → Entry sides corners c x → eqb x repeated ≡ fault10 sides corners c
      told c x (again f) = sym f
      told c x (single f g) = sym f
      told c x (joined f d l p) = ne_eqb d repeated (λ q. omega arith) ∙ sym f

  module _ (ten : lowest_of 10 (length corners) (fault10 sides corners) ≡ sound) where
    pub eleven_found : sum_of sides ≡ length corners
        → lowest_of 11 (length corners) (has table alone) ≡ lowest_of 11 (length corners) (fault11 sides corners)
    unfolding Entries
    eleven_found s = lowest_same 11 (length corners) (has table alone) (fault11 sides corners) (λ c h. told c (entry table to_link c) h (t c h))
      where
        told : (c x : ℕ) → c < length corners → Entry sides corners c x → eqb x alone ≡ fault11 sides corners c
        told c x h (again f) = absurd (clash f (lowest_sound 10 (length corners) (fault10 sides corners) ten c h))
        told c x h (single f g) = sym g
        told c x h (joined f d l p) = ne_eqb d alone (λ q. omega arith) ∙ sym (reversed sides corners s c d l p)

  pub links_found : Closed sides corners → Column table to_link (link sides corners) (length corners)
  unfolding Entries
  links_found k c h = told (entry table to_link c) (t c h)
    where
      told : (x : ℕ) → Entry sides corners c x → x ≡ link sides corners c
      told x (again f) = absurd (clash f (k.ten c h))
      told x (single f g) = absurd (clash g (k.eleven c h))
      told x (joined f d l p) = link_only sides corners k c d h l p

-- ---- the ways out of 10 and 11
module _ (corners table : List ℕ) (small : length corners ≤ most_corners) where
  pub repeats_refused : (r : Answer) (k p : ℕ) → stated r ≡ fault k p → fault k p ≡ lowest_of 10 (length corners) (has table repeated)
      → EdgesChecked corners table r
  repeats_refused r k p q e =
      record {
        answers = λ sides s t. q ∙ stops k p _ (e ∙ ten_found sides corners table small t);
        links = λ sides s t z. unsound k p (sym q ∙ z);
      }

  pub edges_checked : (r : Answer) → sound ≡ lowest_of 10 (length corners) (has table repeated)
      → stated r ≡ lowest_of 11 (length corners) (has table alone) → EdgesChecked corners table r
  edges_checked r a b =
      record {
        answers = λ sides s t. eleven sides s t ∙ sym (or_else_sound _ (ten sides t));
        links = λ sides s t e.
            links_found sides corners table small t
            (record { sums = s; ten = lowest_sound _ _ _ (ten sides t); eleven = lowest_sound _ _ _ (sym (eleven sides s t) ∙ e) });
      }
    where
      ten : (sides : List ℕ) → Entries sides corners table → lowest_of 10 (length corners) (fault10 sides corners) ≡ sound
      ten sides t = sym (a ∙ ten_found sides corners table small t)

      eleven : (sides : List ℕ) → sum_of sides ≡ length corners → Entries sides corners table
          → stated r ≡ lowest_of 11 (length corners) (fault11 sides corners)
      eleven sides s t = b ∙ eleven_found sides corners table small t (ten sides t) s

  -- no entry is as high as one of a corner at fault
  pub edges_passed : (most : ℕ) → most < alone → ((c : ℕ) → c < length corners → entry table to_link c ≤ most) → EdgesChecked corners table done
  edges_passed most l h = edges_checked done (sym (lowest_none 10 _ _ (other repeated (omega arith)))) (sym (lowest_none 11 _ _ (other alone (omega arith))))
    where
      other : (x : ℕ) → most < x → (c : ℕ) → c < length corners → has table x c ≡ false
      other x m c b = ne_eqb (entry table to_link c) x (λ q. omega (arith, h c b))
