-- Edges and turned edges, as tests on two corners: d's edge is c's, and d's edge is the reverse of c's. Where each edge, direction
-- ignored, has two corners, a corner's turned edge has a reverse exactly when the two corners are turned unlike if and only if they had
-- the same direction; and then it is not repeated. Where all turned edges are unrepeated and reversed, each edge has two corners.
use mathlib.Core.Path.{◌≡◌, refl, ap, ◌∙◌, sym, subst}
use mathlib.Core.Bool.{Bool, true, false, cond, ◌||◌}
use mathlib.Core.Logic.{◌⊎◌, inl, inr, ⊎_elim}
use Prim.Native.Nat.{ℕ, ◌<◌}
use native.Mathlib.Omega.{arith}
use Rattle.paper.specs.Scan.{first_below, some_below}
use Rattle.mesh.proofs.Scans.{clash, some_true, some_false, some_below_lem, some_passes, none}
use Rattle.mesh.proofs.Ranges.{or_left, or_right}
use Rattle.mesh.proofs.ByCases.{by_order, false_of}
use Rattle.partners.proofs.Pairs.{Paired}

abbrev pub alike : (ℕ → ℕ → Bool) → (ℕ → ℕ → Bool) → ℕ → ℕ → Bool
alike same rev c d = same c d || rev c d

pub record Sided (m : ℕ) (same rev : ℕ → ℕ → Bool) : Type 0 where
  pub self : (c : ℕ) → same c c ≡ true
  pub exclusive : (c d : ℕ) → c < m → d < m → same c d ≡ true → rev c d ≡ true → ⊥

pub record Moved (m : ℕ) (same rev same' rev' : ℕ → ℕ → Bool) (move : ℕ → ℕ) (unlike : ℕ → ℕ → Bool) : Type 0 where
  pub inside : (c : ℕ) → c < m → move c < m
  pub twice : (c : ℕ) → c < m → move (move c) ≡ c
  pub unlike_self : (c : ℕ) → unlike c c ≡ false
  pub same_moved : (c d : ℕ) → c < m → d < m → same' (move c) (move d) ≡ cond (unlike c d) (rev c d) (same c d)
  pub rev_moved : (c d : ℕ) → c < m → d < m → rev' (move c) (move d) ≡ cond (unlike c d) (same c d) (rev c d)

-- one of two is what a choice of them is, and the other what the opposite choice is
cond_left : (x a b : Bool) → cond x a b ≡ true → a || b ≡ true
cond_left true a b e = or_left a b e
cond_left false a b e = or_right a b e

cond_right : (x a b : Bool) → cond x b a ≡ true → a || b ≡ true
cond_right true a b e = or_right a b e
cond_right false a b e = or_left a b e

cond_either : (x a b : Bool) → a || b ≡ true → (cond x b a ≡ true) ⊎ (cond x a b ≡ true)
cond_either true true b e = inr refl
cond_either true false b e = inl e
cond_either false true b e = inl refl
cond_either false false b e = inr e

-- the choice by a itself
cond_self : (a b : Bool) → a || b ≡ true → cond a a b ≡ true
cond_self true b e = refl
cond_self false b e = e

cond_unlike : (x a b : Bool) → (a ≡ true → b ≡ true → ⊥) → cond x a b ≡ true → x ≡ a
cond_unlike true a b n e = sym e
cond_unlike false true b n e = absurd (n refl e)
cond_unlike false false b n e = refl

cond_clash : (a b : Bool) → (a ≡ true → b ≡ true → ⊥) → cond a b a ≡ true → ⊥
cond_clash true b n e = n refl e
cond_clash false b n e = clash e refl

module _ {m : ℕ} {same rev same' rev' : ℕ → ℕ → Bool} {move : ℕ → ℕ} {unlike : ℕ → ℕ → Bool}
    (s : Sided m same rev) (v : Moved m same rev same' rev' move unlike) where
  rev_alike : (c e : ℕ) → c < m → e < m → rev' (move c) (move e) ≡ true → alike same rev c e ≡ true
  rev_alike c e h l p = cond_left (unlike c e) (same c e) (rev c e) (sym (v.rev_moved c e h l) ∙ p)

  same_alike : (c e : ℕ) → c < m → e < m → same' (move c) (move e) ≡ true → alike same rev c e ≡ true
  same_alike c e h l p = cond_right (unlike c e) (same c e) (rev c e) (sym (v.same_moved c e h l) ∙ p)

  -- an edge is not its own reverse
  rev_self : (c : ℕ) → c < m → rev' (move c) (move c) ≡ true → ⊥
  rev_self c h p =
      s.exclusive c c h h (s.self c) (sym (ap (λ (x : Bool). cond x (same c c) (rev c c)) (v.unlike_self c)) ∙ sym (v.rev_moved c c h h) ∙ p)

  -- the first reverse of a turned edge is the turned edge of a corner
  record Reversing (c d : ℕ) : Type 0 where
    inside : d < m
    back : move d < m
    is : rev' (move c) d ≡ true
    moved : rev' (move c) (move (move d)) ≡ true

  reversing : (c : ℕ) → some_below m (rev' (move c)) ≡ true → Reversing c (first_below m (rev' (move c)))
  reversing c e =
      let i = some_below_lem m (rev' (move c)) e in
      let q = some_passes m (rev' (move c)) e in
      record { inside = i; back = v.inside _ i; is = q; moved = ap (rev' (move c)) (v.twice _ i) ∙ q }

  module _ {c d : ℕ} (h : c < m) (p : Paired m (alike same rev c) c d) where
    apart : same c d ≡ true → rev c d ≡ true → ⊥
    apart = s.exclusive c d h p.inside

    -- a corner whose turned edge has a reverse meets its constraint
    pub met_of_reverse : some_below m (rev' (move c)) ≡ true → unlike c d ≡ same c d
    met_of_reverse e =
        let r = reversing c e in
        ⊎_elim
        (λ z. absurd (rev_self c h (subst (λ (x : ℕ). rev' (move c) (move x) ≡ true) z r.moved)))
        (λ z. cond_unlike (unlike c d) (same c d) (rev c d) apart
        (sym (v.rev_moved c d h p.inside) ∙ subst (λ (x : ℕ). rev' (move c) (move x) ≡ true) z r.moved))
        (p.only _ r.back (rev_alike c _ h r.back r.moved))

    pub reverse_of_met : unlike c d ≡ same c d → some_below m (rev' (move c)) ≡ true
    reverse_of_met e =
        some_true m (rev' (move c)) (move d) (v.inside d p.inside)
        (v.rev_moved c d h p.inside ∙ ap (λ (x : Bool). cond x (same c d) (rev c d)) e ∙ cond_self (same c d) (rev c d) p.passes)

    pub unrepeated_of_met : unlike c d ≡ same c d → some_below (move c) (same' (move c)) ≡ false
    unrepeated_of_met e =
        some_false (move c) (same' (move c)) (λ j l. false_of (same' (move c) j) (λ q.
        let i : j < m = omega (arith, v.inside c h) in
        let k : move j < m = v.inside j i in
        let q' : same' (move c) (move (move j)) ≡ true = ap (same' (move c)) (v.twice j i) ∙ q in
        ⊎_elim
        (λ (z : move j ≡ c). omega (arith, sym (v.twice j i) ∙ ap move z))
        (λ (z : move j ≡ d). cond_clash (same c d) (rev c d) apart
        (sym (ap (λ (x : Bool). cond x (rev c d) (same c d)) e) ∙ sym (v.same_moved c d h p.inside)
        ∙ subst (λ (x : ℕ). same' (move c) (move x) ≡ true) z q'))
        (p.only (move j) k (same_alike c (move j) h k q'))))

  -- where all turned edges are unrepeated and reversed, an edge has two corners
  module _ (ten : (c : ℕ) → c < m → some_below c (same' c) ≡ false) (eleven : (c : ℕ) → c < m → some_below m (rev' c) ≡ true)
      (both : (c d e : ℕ) → rev' c d ≡ true → rev' c e ≡ true → same' d e ≡ true) (back : (c d : ℕ) → same' c d ≡ true → same' d c ≡ true) where
    one : (c d : ℕ) → c < m → d < m → same' c d ≡ true → c ≡ d
    one c d h l p =
        by_order c d (λ e. e)
        (λ z. absurd (clash (back c d p) (none d (same' d) (ten d l) c z)))
        (λ z. absurd (clash p (none c (same' c) (ten c h) d z)))

    pub paired_of_served : (c : ℕ) → c < m → Paired m (alike same rev c) c (move (first_below m (rev' (move c))))
    paired_of_served c h =
        let n = v.inside c h in
        let r = reversing c (eleven (move c) n) in
        record {
          inside = r.back;
          apart = λ z. rev_self c h (subst (λ (x : ℕ). rev' (move c) (move x) ≡ true) z r.moved);
          passes = rev_alike c _ h r.back r.moved;
          only = λ e l a.
              let k = v.inside e l in
              ⊎_elim
              (λ z. inl (sym (v.twice e l) ∙ ap move (sym (one (move c) (move e) n k (v.same_moved c e h l ∙ z))) ∙ v.twice c h))
              (λ z. inr (sym (v.twice e l) ∙ ap move (sym (one _ (move e) r.inside k (both (move c) _ (move e) r.is (v.rev_moved c e h l ∙ z))))))
              (cond_either (unlike c e) (same c e) (rev c e) a);
        }
