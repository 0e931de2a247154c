-- Numbers that are written here and there fill a list, where all places of the part are written.
use mathlib.Core.Path.{◌≡◌, sym, ap, ◌∙◌}
use mathlib.Core.Bool.{cond}
use mathlib.Core.Logic.{⊎_elim}
use mathlib.Core.List.{List, ◌++◌}
use Prim.Native.Nat.{ℕ, ◌+◌, ◌-◌, ◌≤◌, ◌<◌}
use native.Mathlib.Omega.{arith}
use lib.Dec.{ltb}
use borrow.Author.Tests.{ltb-true, ltb-false, lt-ltb, le-ltb}
use lib.ListN.{length, get_or, drop, length-append, length-drop, get_or-append}
use lib.Seq.{get_or-append-add, get_or-drop, ext_get_or}
use lib.IntN.{ℤ, pos}
use Rattle.paper.specs.Scan.{values_from}
use Rattle.mesh.proofs.Scans.{ways}
use Rattle.mesh.proofs.Links.{values_length, values_at}
use Rattle.strips.specs.PointRows.{Fills}
use Rattle.net_points.specs.writing.Laid.{Reaches}

-- ---- a list that is filled, number by number
module _ (f : ℕ → ℤ) (old : List ℤ) (i : ℕ) where
  pub filled_at : (t : ℕ) → t < i → get_or (values_from f 0 i ++ drop i old) t (pos 0) ≡ f t
  filled_at t h =
      get_or-append (values_from f 0 i) (drop i old) (pos 0) t (omega (arith, values_length f 0 i))
      ∙ values_at f (pos 0) 0 i t h ∙ ap f (let z : 0 + t ≡ t = omega arith in z)

  kept_at : (t : ℕ) → i ≤ t → get_or (values_from f 0 i ++ drop i old) t (pos 0) ≡ get_or old t (pos 0)
  kept_at t h =
      ap (λ (x : ℕ). get_or (values_from f 0 i ++ drop i old) x (pos 0)) (let e = values_length f 0 i in let z : t ≡ length (values_from f 0 i) + (t - i) = omega arith in z)
      ∙ get_or-append-add (values_from f 0 i) (drop i old) (t - i) (pos 0) ∙ get_or-drop i old (t - i) (pos 0)
      ∙ ap (λ (x : ℕ). get_or old x (pos 0)) (let z : i + (t - i) ≡ t = omega arith in z)

  filled_length : i ≤ length old → length (values_from f 0 i ++ drop i old) ≡ length old
  filled_length h = length-append (values_from f 0 i) (drop i old) ∙ omega (arith, values_length f 0 i, length-drop i old)

-- the values of f below i, and else what the list has
picked : (ℕ → ℤ) → List ℤ → ℕ → ℕ → ℤ
picked f l i t = cond (ltb t i) (f t) (get_or l t (pos 0))

module _ (g : ℕ → ℤ) (at n : ℕ) (before after : List ℤ) (room : at + n ≤ length before)
    (r : (f : ℕ → ℤ) → ((x : ℕ) → x < n → f (at + x) ≡ g x) → Reaches f (λ t. (at ≤ t) × (t < at + n)) before after) where
  pub fills_of : Fills g at n before after
  unfolding picked
  fills_of f old e values = record { long = R.same ∙ e.long; holds = ext_get_or (pos 0) after (values_from f 0 (at + n) ++ drop (at + n) old) lengths each }
    where
      F : ℕ → ℤ
      F = picked f before (at + n)

      F-in : (t : ℕ) → t < at + n → F t ≡ f t
      F-in t h = rw (lt-ltb t (at + n) h)

      F-out : (t : ℕ) → at + n ≤ t → F t ≡ get_or before t (pos 0)
      F-out t h = rw (le-ltb t (at + n) h)

      R : Reaches F (λ t. (at ≤ t) × (t < at + n)) before after
      R = r F (λ x h. F-in (at + x) (omega arith) ∙ values x h)

      lengths : length after ≡ length (values_from f 0 (at + n) ++ drop (at + n) old)
      lengths = R.same ∙ e.long ∙ sym (filled_length f old (at + n) (omega (arith, e.long)))

      held : (t : ℕ) → get_or before t (pos 0) ≡ get_or (values_from f 0 at ++ drop at old) t (pos 0)
      held t = ap (λ (l : List ℤ). get_or l t (pos 0)) e.holds

      inside : (t : ℕ) → t < at + n → get_or after t (pos 0) ≡ f t
      inside t h =
          ⊎_elim
          (λ l. let b : t < at = ltb-true t at l in
          ⊎_elim (λ q. q ∙ F-in t h) (λ q. q ∙ held t ∙ filled_at f old at t b) (R.each t))
          (λ l. R.there t (ltb-false t at l, h) ∙ F-in t h)
          (ways (ltb t at))

      outside : (t : ℕ) → at + n ≤ t → get_or after t (pos 0) ≡ get_or old t (pos 0)
      outside t h = ⊎_elim (λ q. q ∙ F-out t h ∙ held t ∙ kept_at f old at t (omega arith)) (λ q. q ∙ held t ∙ kept_at f old at t (omega arith)) (R.each t)

      each : (t : ℕ) → t < length after → get_or after t (pos 0) ≡ get_or (values_from f 0 (at + n) ++ drop (at + n) old) t (pos 0)
      each t h =
          ⊎_elim
          (λ l. let b : t < at + n = ltb-true t (at + n) l in inside t b ∙ sym (filled_at f old (at + n) t b))
          (λ l. let b : at + n ≤ t = ltb-false t (at + n) l in outside t b ∙ sym (kept_at f old (at + n) t b))
          (ways (ltb t (at + n)))
