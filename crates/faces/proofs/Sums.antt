-- A sum with small coefficients, as the machine forms it: every step fits, and the sum is the number that it stands for. One law for all formulas, over
-- the width.
use mathlib.Core.Path.{◌≡◌, refl, ap, ◌∙◌}
use Prim.Native.Nat.{ℕ, ◌+◌, ◌*◌, ◌^◌, ◌≤◌, ◌<◌}
use native.Mathlib.Omega.{arith}
use lib.Dec.{T}
use lib.IntN.{ℤ, pos, nat_abs, ◌+ℤ◌, ◌-ℤ◌, ◌*ℤ◌}
use lib.Signed.{lt_z}
use mir.Syntax.{Width, w32}
use mir.Val.{SFits, to_z, of_z, hbits}
use mir.Facts.{to_z-of_z}
use Rattle.paper.specs.Numbers.{round}
use Rattle.numbers.specs.WithinHalf.{WithinHalf}
use Rattle.numbers.proofs.Nearest.{within_half_is}
use Rattle.numbers.proofs.Diff.{as_diff, diff}
use Rattle.numbers.proofs.Laws.{abs_mul_le, abs_add_le}
use Rattle.numbers.proofs.Machine.{abs_fits}

infixl 6 ◌⊕◌ ◌⊖◌
infixl 7 ◌⊗◌
pub data Sum : Type 0 where
  arg : ℤ → Sum
  ◌⊕◌ ◌⊖◌ : Sum → Sum → Sum
  ◌⊗◌ : ℕ → Sum → Sum

-- the number
abbrev pub value : Sum → ℤ
value (arg z) = z
value (s ⊕ t) = value s +ℤ value t
value (s ⊖ t) = value s -ℤ value t
value (k ⊗ s) = pos k *ℤ value s

-- what the machine holds
abbrev pub held : Width → Sum → ℤ
held w (arg z) = to_z w (of_z w z)
held w (s ⊕ t) = to_z w (of_z w (held w s +ℤ held w t))
held w (s ⊖ t) = to_z w (of_z w (held w s -ℤ held w t))
held w (k ⊗ s) = to_z w (of_z w (pos k *ℤ held w s))

-- what each step asks
abbrev pub Fits : Width → Sum → Type 0
Fits w (arg z) = SFits w z
Fits w (s ⊕ t) = Fits w s × Fits w t × SFits w (held w s +ℤ held w t)
Fits w (s ⊖ t) = Fits w s × Fits w t × SFits w (held w s -ℤ held w t)
Fits w (k ⊗ s) = Fits w s × SFits w (pos k *ℤ held w s)

-- the size of the sum, where no number is above b
abbrev pub ArgumentsWithin : ℕ → Sum → Type 0
ArgumentsWithin b (arg z) = nat_abs z ≤ b
ArgumentsWithin b (s ⊕ t) = ArgumentsWithin b s × ArgumentsWithin b t
ArgumentsWithin b (s ⊖ t) = ArgumentsWithin b s × ArgumentsWithin b t
ArgumentsWithin b (k ⊗ s) = ArgumentsWithin b s

abbrev pub size : ℕ → Sum → ℕ
size b (arg z) = b
size b (s ⊕ t) = size b s + size b t
size b (s ⊖ t) = size b s + size b t
size b (k ⊗ s) = k * size b s

abbrev pub SmallSum : Width → ℕ → Sum → Type 0
SmallSum w b (arg z) = b < 2 ^ hbits w
SmallSum w b (s ⊕ t) = SmallSum w b s × SmallSum w b t × (size b s + size b t < 2 ^ hbits w)
SmallSum w b (s ⊖ t) = SmallSum w b s × SmallSum w b t × (size b s + size b t < 2 ^ hbits w)
SmallSum w b (k ⊗ s) = SmallSum w b s × (k * size b s < 2 ^ hbits w)

pub record SumHeld (w : Width) (b : ℕ) (s : Sum) : Type 0 where
  pub is : held w s ≡ value s
  pub fits : Fits w s
  pub sized : nat_abs (held w s) ≤ size b s

abs_sub_le : (x y : ℤ) (j k : ℕ) → nat_abs x ≤ j → nat_abs y ≤ k → nat_abs (x -ℤ y) ≤ j + k
abs_sub_le x y j k = as_diff x λ p n ex. as_diff y λ q m ey. simp (diff, ex, ey) (omega arith)

-- one step: z fits, so that it is held as it is
step : (w : Width) (z v : ℤ) (k : ℕ) → z ≡ v → nat_abs z ≤ k → k < 2 ^ hbits w → (to_z w (of_z w z) ≡ v) × SFits w z × (nat_abs (to_z w (of_z w z)) ≤ k)
step w z v k e h l = let f = abs_fits w z k h l in rw (to_z-of_z f) (e, f, h)

pub holds : (w : Width) (b : ℕ) (s : Sum) → ArgumentsWithin b s → SmallSum w b s → SumHeld w b s
holds w b (arg z) h l = let k = step w z z b refl h l in record { is = k.0; fits = k.1; sized = k.2 }
holds w b (s ⊕ t) h l =
    let p = holds w b s h.0 l.0 in
    let q = holds w b t h.1 l.1 in
    let e : held w s +ℤ held w t ≡ value s +ℤ value t = rw (p.is, q.is) in
    let k = step w (held w s +ℤ held w t) _ (size b s + size b t) e (abs_add_le (held w s) (held w t) (size b s) (size b t) p.sized q.sized) l.2 in
    record { is = k.0; fits = (p.fits, q.fits, k.1); sized = k.2 }
holds w b (s ⊖ t) h l =
    let p = holds w b s h.0 l.0 in
    let q = holds w b t h.1 l.1 in
    let e : held w s -ℤ held w t ≡ value s -ℤ value t = rw (p.is, q.is) in
    let k = step w (held w s -ℤ held w t) _ (size b s + size b t) e (abs_sub_le (held w s) (held w t) (size b s) (size b t) p.sized q.sized) l.2 in
    record { is = k.0; fits = (p.fits, q.fits, k.1); sized = k.2 }
holds w b (n ⊗ s) h l =
    let p = holds w b s h l.0 in
    let e : pos n *ℤ held w s ≡ pos n *ℤ value s = rw p.is in
    let k = step w (pos n *ℤ held w s) _ (n * size b s) e (abs_mul_le (pos n) (held w s) n (size b s) (omega arith) p.sized) l.1 in
    record { is = k.0; fits = (p.fits, k.1); sized = k.2 }

-- what a formula answers: the rounded quotient, as large as a number near that may be
pub answers : (n d q : ℤ) (P : ℤ → Type 0) → T (lt_z (pos 0) d) → (WithinHalf n d q → P q) → SFits w32 q → q ≡ round n d
    → (to_z w32 (of_z w32 q) ≡ round n d) × P (to_z w32 (of_z w32 q))
answers n d q P t size f e = rw (to_z-of_z f) (e, size (within_half_is n d q t e))

-- of one sum by `round_small`, and of two by `round_eighth`
module _ (b : ℕ) (n q : ℤ) (P : ℤ → Type 0) (f : SFits w32 q) where
  pub small_answers : (s : Sum) (d : ℤ) → SumHeld w32 b s → value s ≡ n → T (lt_z (pos 0) d) → (WithinHalf n d q → P q) → q ≡ round (held w32 s) d
      → (to_z w32 (of_z w32 q) ≡ round n d) × P (to_z w32 (of_z w32 q))
  small_answers s d h e t size r = answers n d q P t size f (r ∙ ap (λ (z : ℤ). round z d) (h.is ∙ e))

  pub eighth_answers : (s t : Sum) (c c' : ℤ) → SumHeld w32 b s → SumHeld w32 b t → c' ≡ c → pos (2 ^ 30) *ℤ value t +ℤ c *ℤ value s ≡ n
      → (WithinHalf n (pos (8 * 2 ^ 30)) q → P q) → q ≡ round (pos (2 ^ 30) *ℤ held w32 t +ℤ c' *ℤ held w32 s) (pos (8 * 2 ^ 30))
      → (to_z w32 (of_z w32 q) ≡ round n (pos (8 * 2 ^ 30))) × P (to_z w32 (of_z w32 q))
  eighth_answers s t c c' h k e same size r = answers n _ q P tt size f (r ∙ ap (λ (z : ℤ). round z (pos (8 * 2 ^ 30))) (terms ∙ same))
    where
      terms : pos (2 ^ 30) *ℤ held w32 t +ℤ c' *ℤ held w32 s ≡ pos (2 ^ 30) *ℤ value t +ℤ c *ℤ value s
      terms = rw (h.is, k.is, e)
