-- A corner's face, and its next and previous corner: both stay in the face and undo each other; where the faces start.
use mathlib.Core.Path.{◌≡◌, refl, ap, ◌∙◌, sym, subst}
use mathlib.Core.Logic.{⊎_elim}
use mathlib.Core.List.{List, [], ◌∷◌}
use Prim.Native.Nat.{ℕ, zero, suc, ◌+◌, ◌-◌, ◌<◌, ◌≤◌}
use native.Mathlib.Omega.{arith}
use lib.Dec.{ltb, eqb}
use lib.ListN.{length, get_or}
use lib.Seq.{take_all}
use borrow.Author.Tests.{ltb-true, ltb-false, lt-ltb, le-ltb, eqb-true, eqb-false, eq-eqb, ne_eqb}
use Rattle.paper.specs.Corners.{sum_of, face_of, start_of, first_of, sides_of, position_of, next, previous}
use Rattle.mesh.proofs.Scans.{ways}

module _ (s : ℕ) (rest : List ℕ) where
  face_here : (c : ℕ) → c < s → face_of (s ∷ rest) c ≡ 0
  unfolding face_of
  face_here c h = rw (lt-ltb c s h)

  face_later : (c : ℕ) → s ≤ c → face_of (s ∷ rest) c ≡ suc (face_of rest (c - s))
  unfolding face_of
  face_later c h = rw (le-ltb c s h)

  start_suc : (f : ℕ) → start_of (s ∷ rest) (suc f) ≡ s + start_of rest f
  unfolding start_of sum_of
  start_suc f = refl

  sum_cons : sum_of (s ∷ rest) ≡ s + sum_of rest
  unfolding sum_of
  sum_cons = refl

pub start_zero : (sides : List ℕ) → start_of sides 0 ≡ 0
unfolding start_of sum_of
start_zero sides = refl

-- the face whose corners have d among them is d's
pub face_at : (sides : List ℕ) (f d : ℕ) → start_of sides f ≤ d → d < start_of sides f + get_or sides f 0 → f < length sides → face_of sides d ≡ f
face_at [] f d a b h = absurd (omega arith)
face_at (s ∷ rest) zero d a b h = face_here s rest d (omega (arith, start_zero (s ∷ rest)))
face_at (s ∷ rest) (suc f) d a b h =
    face_later s rest d (omega (arith, start_suc s rest f))
    ∙ ap suc (face_at rest f (d - s) (omega (arith, start_suc s rest f)) (omega (arith, start_suc s rest f)) (omega arith))

-- corner c is among those of face f
pub record OfFace (sides : List ℕ) (c f : ℕ) : Type 0 where
  pub exists : f < length sides
  pub from : start_of sides f ≤ c
  pub to : c < start_of sides f + get_or sides f 0
  pub ends : start_of sides f + get_or sides f 0 ≤ sum_of sides

pub held : (sides : List ℕ) (c : ℕ) → c < sum_of sides → OfFace sides c (face_of sides c)
unfolding sum_of
held [] c h = absurd (omega arith)
held (s ∷ rest) c h =
    ⊎_elim
    (λ l. let k : c < s = ltb-true c s l in
    subst (λ (f : ℕ). OfFace (s ∷ rest) c f) (sym (face_here s rest c k))
    (record {
      exists = omega arith;
      from = omega (arith, start_zero (s ∷ rest));
      to = omega (arith, start_zero (s ∷ rest));
      ends = omega (arith, start_zero (s ∷ rest), sum_cons s rest);
    }))
    (λ l. let k : s ≤ c = ltb-false c s l in
    let g = face_of rest (c - s) in
    let r : OfFace rest (c - s) (face_of rest (c - s)) = held rest (c - s) (omega (arith, sum_cons s rest)) in
    subst (λ (f : ℕ). OfFace (s ∷ rest) c f) (sym (face_later s rest c k))
    (record {
      exists = omega (arith, r.exists);
      from = omega (arith, r.from, start_suc s rest (face_of rest (c - s)));
      to = omega (arith, r.to, start_suc s rest (face_of rest (c - s)));
      ends = omega (arith, r.ends, start_suc s rest (face_of rest (c - s)), sum_cons s rest);
    }))
    (ways (ltb c s))

-- the first corner of c's face and its side count are those of each corner of the face
module _ (sides : List ℕ) (c : ℕ) (h : c < sum_of sides) where
  pub first_from_lem : first_of sides c ≤ c
  unfolding first_of
  first_from_lem = (held sides c h).from

  pub first_to : c < first_of sides c + sides_of sides c
  unfolding first_of sides_of
  first_to = (held sides c h).to

  pub first_ends : first_of sides c + sides_of sides c ≤ sum_of sides
  unfolding first_of sides_of
  first_ends = (held sides c h).ends

  pub face_same : (d : ℕ) → first_of sides c ≤ d → d < first_of sides c + sides_of sides c → face_of sides d ≡ face_of sides c
  unfolding first_of sides_of
  face_same d a b = face_at sides (face_of sides c) d a b (held sides c h).exists

  pub first_same : (d : ℕ) → first_of sides c ≤ d → d < first_of sides c + sides_of sides c → first_of sides d ≡ first_of sides c
  unfolding first_of
  first_same d a b = ap (start_of sides) (face_same d a b)

  pub sides_same : (d : ℕ) → first_of sides c ≤ d → d < first_of sides c + sides_of sides c → sides_of sides d ≡ sides_of sides c
  unfolding sides_of
  sides_same d a b = ap (λ (f : ℕ). get_or sides f 0) (face_same d a b)

-- next and previous, by their cases
module _ (sides : List ℕ) (c : ℕ) where
  pub next_inner : position_of sides c + 1 < sides_of sides c → next sides c ≡ c + 1
  unfolding next
  next_inner h = rw (lt-ltb (position_of sides c + 1) (sides_of sides c) h)

  pub next_last : sides_of sides c ≤ position_of sides c + 1 → next sides c ≡ first_of sides c
  unfolding next
  next_last h = rw (le-ltb (position_of sides c + 1) (sides_of sides c) h)

  pub previous_first : position_of sides c ≡ 0 → previous sides c ≡ first_of sides c + sides_of sides c - 1
  unfolding previous
  previous_first e = rw (eq-eqb (position_of sides c) 0 e)

  pub previous_inner : (position_of sides c ≡ 0 → ⊥) → previous sides c ≡ c - 1
  unfolding previous
  previous_inner n = rw (ne_eqb (position_of sides c) 0 n)

module _ {G : Type 0} (sides : List ℕ) (c : ℕ) where
  by_next : (position_of sides c + 1 < sides_of sides c → next sides c ≡ c + 1 → G) → (sides_of sides c ≤ position_of sides c + 1 → next sides c ≡ first_of sides c → G) → G
  by_next f g =
      ⊎_elim (λ l. let b = ltb-true _ _ l in f b (next_inner sides c b)) (λ l. let b = ltb-false _ _ l in g b (next_last sides c b))
      (ways (ltb (position_of sides c + 1) (sides_of sides c)))

  by_previous : (position_of sides c ≡ 0 → previous sides c ≡ first_of sides c + sides_of sides c - 1 → G) → ((position_of sides c ≡ 0 → ⊥) → previous sides c ≡ c - 1 → G) → G
  by_previous f g =
      ⊎_elim (λ l. let b = eqb-true _ _ l in f b (previous_first sides c b)) (λ l. let b = eqb-false _ _ l in g b (previous_inner sides c b))
      (ways (eqb (position_of sides c) 0))

-- they stay in the face and undo each other: in each case, in numbers that omega reads
module _ (sides : List ℕ) (c : ℕ) (h : c < sum_of sides) where
  low : first_of sides c ≤ c
  low = first_from_lem sides c h

  high : c < first_of sides c + sides_of sides c
  high = first_to sides c h

  next_within : (first_of sides c ≤ next sides c) × (next sides c < first_of sides c + sides_of sides c)
  next_within = by_next sides c (λ l e. omega (arith, low, high)) (λ l e. omega (arith, low, high))

  previous_within : (first_of sides c ≤ previous sides c) × (previous sides c < first_of sides c + sides_of sides c)
  previous_within = by_previous sides c (λ z e. omega (arith, low, high)) (λ n e. omega (arith, low, high, n))

  pub next_below : next sides c < sum_of sides
  next_below = omega (arith, next_within, first_ends sides c h)

  pub previous_below : previous sides c < sum_of sides
  previous_below = omega (arith, previous_within, first_ends sides c h)

  pub face_next : face_of sides (next sides c) ≡ face_of sides c
  face_next = face_same sides c h (next sides c) next_within.0 next_within.1

  pub face_previous : face_of sides (previous sides c) ≡ face_of sides c
  face_previous = face_same sides c h (previous sides c) previous_within.0 previous_within.1

  pub first_next : first_of sides (next sides c) ≡ first_of sides c
  first_next = first_same sides c h (next sides c) next_within.0 next_within.1

  pub sides_next : sides_of sides (next sides c) ≡ sides_of sides c
  sides_next = sides_same sides c h (next sides c) next_within.0 next_within.1

  pub first_previous : first_of sides (previous sides c) ≡ first_of sides c
  first_previous = first_same sides c h (previous sides c) previous_within.0 previous_within.1

  -- the previous corner is not lower only at the first
  pub first_here : c ≤ previous sides c → c ≡ first_of sides c
  first_here l = by_previous sides c (λ z e. omega (arith, low, z)) (λ n e. absurd (omega (arith, low, n)))

  pub sides_previous : sides_of sides (previous sides c) ≡ sides_of sides c
  sides_previous = sides_same sides c h (previous sides c) previous_within.0 previous_within.1

  pub previous_next : previous sides (next sides c) ≡ c
  previous_next =
      by_next sides c (λ l e. previous_inner sides (next sides c) (λ q. omega (arith, first_next, low)) ∙ omega arith)
      (λ l e. previous_first sides (next sides c) (omega (arith, first_next)) ∙ omega (arith, first_next, sides_next, low, high))

  pub next_previous : next sides (previous sides c) ≡ c
  next_previous =
      by_previous sides c
      (λ z e. next_last sides (previous sides c) (omega (arith, first_previous, sides_previous, low, high)) ∙ omega (arith, first_previous, low))
      (λ n e. next_inner sides (previous sides c) (omega (arith, first_previous, sides_previous, low, high, n)) ∙ omega (arith, low, n))

-- where the faces start
pub start_next : (sides : List ℕ) (f : ℕ) → f < length sides → start_of sides (f + 1) ≡ start_of sides f + get_or sides f 0
start_next [] f h = absurd (omega arith)
start_next (s ∷ rest) zero h = start_suc s rest 0 ∙ omega (arith, start_zero rest, start_zero (s ∷ rest))
start_next (s ∷ rest) (suc f) h =
    ap (λ (x : ℕ). start_of (s ∷ rest) x) (let q : suc f + 1 ≡ suc (f + 1) = omega arith in q)
    ∙ start_suc s rest (f + 1) ∙ omega (arith, start_next rest f (omega arith), start_suc s rest f)

pub start_all : (sides : List ℕ) (f : ℕ) → length sides ≤ f → start_of sides f ≡ sum_of sides
unfolding start_of
start_all sides f h = ap sum_of (take_all f sides h)

pub start_ends : (sides : List ℕ) (f : ℕ) → f < length sides → start_of sides f + get_or sides f 0 ≤ sum_of sides
start_ends [] f h = absurd (omega arith)
start_ends (s ∷ rest) zero h = omega (arith, start_zero (s ∷ rest), sum_cons s rest)
start_ends (s ∷ rest) (suc f) h = omega (arith, start_ends rest f (omega arith), start_suc s rest f, sum_cons s rest)
