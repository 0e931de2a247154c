-- Links of closed tables, those with no fault of 6, 10 and 11: since an edge leaves one corner, the link is the next corner of the
-- reverse, and links are a permutation. At the end, the link table entry by entry.
use mathlib.Core.Path.{◌≡◌, refl, ap, ◌∙◌, sym}
use mathlib.Core.Bool.{true}
use mathlib.Core.Logic.{⊎_elim}
use mathlib.Core.List.{List}
use Prim.Native.Nat.{ℕ, zero, suc, ◌+◌, ◌<◌}
use native.Mathlib.Omega.{arith}
use lib.Dec.{eqb}
use lib.ListN.{length, get_or}
use lib.Seq.{ext_get_or}
use borrow.Author.Tests.{eqb-true, eq-eqb, not-false}
use Rattle.paper.specs.Scan.{some_below, values_from}
use Rattle.paper.specs.Mesh.{Mesh}
use Rattle.paper.specs.Corners.{next, previous}
use Rattle.paper.specs.Links.{vertex_of, leaves_to, arrives_from, same_edge, reverse_edge, linked, link, reverse, link_table}
use Rattle.paper.specs.Faults.{fault10, fault11}
use Rattle.mesh.specs.Closed.{Closed}
use Rattle.mesh.proofs.Scans.{clash, compared, and_true, and_left, and_right, first_le, first_passes, some_below_lem, some_passes, none}
use Rattle.mesh.proofs.Faces.{next_below, previous_below, next_previous, previous_next}

module _ (sides corners : List ℕ) (k : Closed sides corners) where
  pub next_in : (c : ℕ) → c < length corners → next sides c < length corners
  next_in c h = omega (arith, k.sums, next_below sides c (omega (arith, k.sums)))

  pub previous_in : (c : ℕ) → c < length corners → previous sides c < length corners
  previous_in c h = omega (arith, k.sums, previous_below sides c (omega (arith, k.sums)))

  pub there : (c : ℕ) → c < length corners → next sides (previous sides c) ≡ c
  there c h = next_previous sides c (omega (arith, k.sums))

  pub back : (c : ℕ) → c < length corners → previous sides (next sides c) ≡ c
  back c h = previous_next sides c (omega (arith, k.sums))

  later : (c d : ℕ) → c < d → d < length corners → vertex_of corners c ≡ vertex_of corners d → leaves_to sides corners c ≡ leaves_to sides corners d → ⊥
  unfolding fault10 same_edge
  later c d l h v t =
      clash (and_true _ _ (eq-eqb (vertex_of corners c) (vertex_of corners d) v) (eq-eqb (leaves_to sides corners c) (leaves_to sides corners d) t))
      (none d (same_edge sides corners d) (k.ten d h) c l)

  -- a leaving edge leaves one corner
  pub unique : (c d : ℕ) → c < length corners → d < length corners → vertex_of corners c ≡ vertex_of corners d
      → leaves_to sides corners c ≡ leaves_to sides corners d → c ≡ d
  unique c d hc hd v t =
      ⊎_elim (λ e. e) (λ o. absurd (⊎_elim (λ l. later c d l hd v t) (λ l. later d c l hc (sym v) (sym t)) o)) (compared c d)

  has_reverse : (c : ℕ) → c < length corners → some_below (length corners) (reverse_edge sides corners c) ≡ true
  unfolding fault11
  has_reverse c h = not-false _ (k.eleven c h)

  pub reverse_in : (c : ℕ) → c < length corners → reverse sides corners c < length corners
  unfolding reverse
  reverse_in c h = some_below_lem (length corners) (reverse_edge sides corners c) (has_reverse c h)

  reverse_passes : (c : ℕ) → c < length corners → reverse_edge sides corners c (reverse sides corners c) ≡ true
  unfolding reverse
  reverse_passes c h = some_passes (length corners) (reverse_edge sides corners c) (has_reverse c h)

  pub reverse_vertex : (c : ℕ) → c < length corners → vertex_of corners (reverse sides corners c) ≡ leaves_to sides corners c
  unfolding reverse_edge
  reverse_vertex c h = eqb-true _ _ (and_left _ _ (reverse_passes c h))

  pub reverse_to : (c : ℕ) → c < length corners → leaves_to sides corners (reverse sides corners c) ≡ vertex_of corners c
  unfolding reverse_edge
  reverse_to c h = eqb-true _ _ (and_right (eqb (vertex_of corners (reverse sides corners c)) (leaves_to sides corners c)) _ (reverse_passes c h))

  pub reverse_reverse : (c : ℕ) → c < length corners → reverse sides corners (reverse sides corners c) ≡ c
  reverse_reverse c h =
      let r = reverse_in c h in
      unique _ _ (reverse_in _ r) h (reverse_vertex _ r ∙ reverse_to c h) (reverse_to _ r ∙ reverse_vertex c h)

  -- the arriving edge of d is the leaving edge of the previous corner
  leaves_previous : (d : ℕ) → d < length corners → leaves_to sides corners (previous sides d) ≡ vertex_of corners d
  unfolding leaves_to
  leaves_previous d h = ap (vertex_of corners) (there d h)

  arrives_next : (d : ℕ) → d < length corners → arrives_from sides corners (next sides d) ≡ vertex_of corners d
  unfolding arrives_from
  arrives_next d h = ap (vertex_of corners) (back d h)

  candidate : (c : ℕ) → c < length corners → linked sides corners c (next sides (reverse sides corners c)) ≡ true
  unfolding linked leaves_to
  candidate c h = and_true _ _ (eq-eqb _ _ (reverse_to c h)) (eq-eqb _ _ (arrives_next _ (reverse_in c h) ∙ reverse_vertex c h))

  pub link_in : (c : ℕ) → c < length corners → link sides corners c < length corners
  unfolding link
  link_in c h = omega (
    arith,
    first_le (length corners) (linked sides corners c) (next sides (reverse sides corners c)) (candidate c h),
    next_in _
        (reverse_in c h),
  )

  link_passes : (c : ℕ) → c < length corners → linked sides corners c (link sides corners c) ≡ true
  unfolding link
  link_passes c h = first_passes (length corners) (linked sides corners c) (link_in c h)

  pub link_vertex : (c : ℕ) → c < length corners → vertex_of corners (link sides corners c) ≡ vertex_of corners c
  unfolding linked
  link_vertex c h = eqb-true _ _ (and_left _ _ (link_passes c h))

  pub link_arrives : (c : ℕ) → c < length corners → arrives_from sides corners (link sides corners c) ≡ leaves_to sides corners c
  unfolding linked
  link_arrives c h = eqb-true _ _ (and_right (eqb (vertex_of corners (link sides corners c)) (vertex_of corners c)) _ (link_passes c h))

  pub previous_link : (c : ℕ) → c < length corners → previous sides (link sides corners c) ≡ reverse sides corners c
  unfolding arrives_from
  previous_link c h =
      let l = link_in c h in
      unique _ _ (previous_in _ l) (reverse_in c h)
      (link_arrives c h ∙ sym (reverse_vertex c h))
      (leaves_previous _ l ∙ link_vertex c h ∙ sym (reverse_to c h))

  pub link_is : (c : ℕ) → c < length corners → link sides corners c ≡ next sides (reverse sides corners c)
  link_is c h = sym (there _ (link_in c h)) ∙ ap (next sides) (previous_link c h)

  pub link_previous_link : (c : ℕ) → c < length corners → link sides corners (previous sides (link sides corners c)) ≡ next sides c
  link_previous_link c h =
      ap (link sides corners) (previous_link c h) ∙ link_is _ (reverse_in c h) ∙ ap (next sides) (reverse_reverse c h)

  -- the inverse of link, on both sides
  pub unlink_link : (c : ℕ) → c < length corners → previous sides (link sides corners (previous sides (link sides corners c))) ≡ c
  unlink_link c h = ap (previous sides) (link_previous_link c h) ∙ back c h

  pub link_unlink : (c : ℕ) → c < length corners → link sides corners (previous sides (link sides corners (previous sides c))) ≡ c
  link_unlink c h = link_previous_link _ (previous_in c h) ∙ there c h

  pub link_injective : (c d : ℕ) → c < length corners → d < length corners → link sides corners c ≡ link sides corners d → c ≡ d
  link_injective c d hc hd e = sym (unlink_link c hc) ∙ ap (λ (x : ℕ). previous sides (link sides corners (previous sides x))) e ∙ unlink_link d hd

-- the values of a function, one by one
module _ {A : Type 0} (f : ℕ → A) where
  pub values_length : (at n : ℕ) → length (values_from f at n) ≡ n
  unfolding values_from
  values_length at zero = refl
  values_length at (suc n) = ap suc (values_length (suc at) n)

  pub values_at : (z : A) (at n i : ℕ) → i < n → get_or (values_from f at n) i z ≡ f (at + i)
  unfolding values_from
  values_at z at zero i l = absurd (omega arith)
  values_at z at (suc n) zero l = ap f (let q : at ≡ at + 0 = omega arith in q)
  values_at z at (suc n) (suc i) l = values_at z (suc at) n i (omega arith) ∙ ap f (let q : suc at + i ≡ at + suc i = omega arith in q)

-- the link table, entry by entry
module _ (M : Mesh) where
  pub length_link_table : length (link_table M) ≡ length M.corners
  unfolding link_table
  length_link_table = values_length (link M.sides M.corners) 0 (length M.corners)

  pub link_table_at : (c : ℕ) → c < length M.corners → get_or (link_table M) c 0 ≡ link M.sides M.corners c
  unfolding link_table
  link_table_at c h =
      values_at (link M.sides M.corners) 0 0 (length M.corners) c h
      ∙ ap (link M.sides M.corners) (let q : 0 + c ≡ c = omega arith in q)

  pub link_table_is : (table : List ℕ) → length table ≡ length M.corners
      → ((c : ℕ) → c < length M.corners → get_or table c 0 ≡ link M.sides M.corners c)
      → table ≡ link_table M
  link_table_is table l e =
      ext_get_or 0 table (link_table M) (l ∙ sym length_link_table)
      (λ c h. let b : c < length M.corners = omega arith in
      e c b ∙ sym (link_table_at c b))
