-- Polynomials with integer coefficients in any number of unknowns, as expressions that antt computes with. `simp (poly, ρ)` turns a statement about ℤ into
-- one about the natural parts of its monomials, which `omega` proves.
-- Against `diff` (Diff.antt): a monomial is two numbers here whatever its degree, and what cancels is gone before `omega` looks. So identities of any
-- degree, and inequalities with many products, stay within `omega`'s 64 unknowns.
use mathlib.Core.Path.{◌≡◌, refl, sym, ap, ◌∙◌, subst}
use mathlib.Core.Logic.{◌↔◌}
use mathlib.Core.Bool.{Bool, true, false, not, cond}
use mathlib.Core.List.{List, [], ◌∷◌}
use Prim.Native.Nat.{ℕ, zero, suc, ◌+◌, ◌*◌, ◌^◌, ◌≤◌, ◌<◌}
use native.Mathlib.Omega.{arith}
use lib.Dec.{T, ltb, ltb→lt, nltb→le}
use lib.IntN.{ℤ, pos, negsuc, neg_ℤ, ◌+ℤ◌, ◌*ℤ◌, nat_abs}
use lib.Signed.{◌≤ℤ◌, ◌<ℤ◌}
use mir.Syntax.{Width}
use mir.Val.{SFits, hbits}
use Rattle.numbers.proofs.Diff.{◌⊖◌, up, dn, is_diff, any, each, diff, add_diff, abs_diff, fits_diff}

-- ---- expressions
pub data Env : Type 0 where
  env : (ℕ → ℤ) → Env

pub at : Env → ℕ → ℤ
at (env f) i = f i

pub data Expr : Type 0 where
  var nat below : ℕ → Expr
  plus times : Expr → Expr → Expr
  minus : Expr → Expr

pub ev : Expr → Env → ℤ
ev (var i) ρ = at ρ i
ev (nat n) ρ = pos n
ev (below n) ρ = negsuc n
ev (plus e f) ρ = ev e ρ +ℤ ev f ρ
ev (times e f) ρ = ev e ρ *ℤ ev f ρ
ev (minus e) ρ = neg_ℤ (ev e ρ)

-- ---- monomials: unknowns in order
abbrev pub mono : List ℕ → Env → ℤ
mono [] ρ = pos 1
mono (i ∷ m) ρ = at ρ i *ℤ mono m ρ

abbrev pub put_in : ℕ → List ℕ → List ℕ
put_in i [] = i ∷ []
put_in i (j ∷ m) = cond (ltb j i) (j ∷ put_in i m) (i ∷ j ∷ m)

abbrev pub mono_mul : List ℕ → List ℕ → List ℕ
mono_mul [] n = n
mono_mul (i ∷ m) n = put_in i (mono_mul m n)

pub data Cmp : Type 0 where
  less same more : Cmp

abbrev pub cmp : List ℕ → List ℕ → Cmp
cmp [] [] = same
cmp [] (j ∷ n) = less
cmp (i ∷ m) [] = more
cmp (i ∷ m) (j ∷ n) = cond (ltb i j) less (cond (ltb j i) more (cmp m n))

-- ---- polynomials: terms in the monomials' order
pub data Poly : Type 0 where
  nil : Poly
  term : ℤ → List ℕ → Poly → Poly

abbrev pub pev : Poly → Env → ℤ
pev nil ρ = pos 0
pev (term c m p) ρ = c *ℤ mono m ρ +ℤ pev p ρ

abbrev pub put : ℤ → List ℕ → Poly → Poly
put (pos zero) m p = p
put (pos (suc k)) m p = term (pos (suc k)) m p
put (negsuc k) m p = term (negsuc k) m p

abbrev pub place : Cmp → ℤ → List ℕ → ℤ → List ℕ → Poly → Poly → Poly
place less c m d n p r = term c m (term d n p)
place same c m d n p r = put (c +ℤ d) m p
place more c m d n p r = term d n r

abbrev pub ins : ℤ → List ℕ → Poly → Poly
ins c m nil = put c m nil
ins c m (term d n p) = let r = ins c m p in place (cmp m n) c m d n p r

abbrev pub poly_add : Poly → Poly → Poly
poly_add nil q = q
poly_add (term c m p) q = ins c m (poly_add p q)

abbrev pub term_mul : ℤ → List ℕ → Poly → Poly
term_mul c m nil = nil
term_mul c m (term d n p) = ins (c *ℤ d) (mono_mul m n) (term_mul c m p)

abbrev pub poly_mul : Poly → Poly → Poly
poly_mul nil q = nil
poly_mul (term c m p) q = poly_add (term_mul c m q) (poly_mul p q)

abbrev pub poly_neg : Poly → Poly
poly_neg nil = nil
poly_neg (term c m p) = term (neg_ℤ c) m (poly_neg p)

abbrev pub norm : Expr → Poly
norm (var i) = term (pos 1) (i ∷ []) nil
norm (nat n) = put (pos n) [] nil
norm (below n) = term (negsuc n) [] nil
norm (plus e f) = poly_add (norm f) (norm e)
norm (times e f) = poly_mul (norm e) (norm f)
norm (minus e) = poly_neg (norm e)

-- ---- that is right
by_cases : (b : Bool) {A : Type 0} (P : A → Type 0) (x y : A) → (T b → P x) → (T (not b) → P y) → P (cond b x y)
by_cases true P x y f g = f tt
by_cases false P x y f g = g tt

swap : (a b m : ℤ) → a *ℤ (b *ℤ m) ≡ b *ℤ (a *ℤ m)
swap = each _ λ a a'. each _ λ b b'. each _ λ m m'. simp diff (omega arith)

put_in_is : (i : ℕ) (m : List ℕ) (ρ : Env) → mono (put_in i m) ρ ≡ at ρ i *ℤ mono m ρ
put_in_is i [] ρ = refl
put_in_is i (j ∷ m) ρ = by_cases (ltb j i) (λ (l : List ℕ). mono l ρ ≡ at ρ i *ℤ (at ρ j *ℤ mono m ρ)) (j ∷ put_in i m) (i ∷ j ∷ m)
    (λ t. ap (λ (z : ℤ). at ρ j *ℤ z) (put_in_is i m ρ) ∙ swap (at ρ j) (at ρ i) (mono m ρ)) (λ t. refl)

one_mul : (a : ℤ) → pos 1 *ℤ a ≡ a
one_mul = each _ λ a a'. simp diff (omega arith)

mul_assoc : (a b c : ℤ) → a *ℤ (b *ℤ c) ≡ (a *ℤ b) *ℤ c
mul_assoc = each _ λ a a'. each _ λ b b'. each _ λ c c'. simp diff (omega arith)

mono_mul_is : (m n : List ℕ) (ρ : Env) → mono (mono_mul m n) ρ ≡ mono m ρ *ℤ mono n ρ
mono_mul_is [] n ρ = sym (one_mul (mono n ρ))
mono_mul_is (i ∷ m) n ρ = put_in_is i (mono_mul m n) ρ ∙ ap (λ (z : ℤ). at ρ i *ℤ z) (mono_mul_is m n ρ) ∙ mul_assoc (at ρ i) (mono m ρ) (mono n ρ)

abbrev IsSame : Cmp → Type 0
IsSame less = ⊥
IsSame same = Unit {0}
IsSame more = ⊥

cmp_same : (m n : List ℕ) → IsSame (cmp m n) → m ≡ n
cmp_same [] [] = λ h. refl
cmp_same [] (j ∷ n) = λ h. absurd h
cmp_same (i ∷ m) [] = λ h. absurd h
cmp_same (i ∷ m) (j ∷ n) = by_cases (ltb i j) (λ (o : Cmp). IsSame o → i ∷ m ≡ j ∷ n) less (cond (ltb j i) more (cmp m n))
    (λ t h. absurd h)
    (λ t. by_cases (ltb j i) (λ (o : Cmp). IsSame o → i ∷ m ≡ j ∷ n) more (cmp m n) (λ u h. absurd h)
    (λ u h. let p = nltb→le i j t in let q = nltb→le j i u in let e : i ≡ j = omega arith in cc (e, cmp_same m n h)))

zero_mul_add : (a b : ℤ) → b ≡ pos 0 *ℤ a +ℤ b
zero_mul_add = each _ λ a a'. each _ λ b b'. simp diff (omega arith)

put_is : (c : ℤ) (m : List ℕ) (p : Poly) (ρ : Env) → pev (put c m p) ρ ≡ c *ℤ mono m ρ +ℤ pev p ρ
put_is (pos zero) m p ρ = zero_mul_add (mono m ρ) (pev p ρ)
put_is (pos (suc k)) m p ρ = refl
put_is (negsuc k) m p ρ = refl

together : (c d m p : ℤ) → (c +ℤ d) *ℤ m +ℤ p ≡ c *ℤ m +ℤ (d *ℤ m +ℤ p)
together = each _ λ c c'. each _ λ d d'. each _ λ m m'. each _ λ p p'. simp diff (omega arith)

past : (x y p : ℤ) → y +ℤ (x +ℤ p) ≡ x +ℤ (y +ℤ p)
past = each _ λ x x'. each _ λ y y'. each _ λ p p'. simp diff (omega arith)

place_is : (o : Cmp) (c : ℤ) (m : List ℕ) (d : ℤ) (n : List ℕ) (p r : Poly) (ρ : Env) → (IsSame o → m ≡ n) → pev r ρ ≡ c *ℤ mono m ρ +ℤ pev p ρ
    → pev (place o c m d n p r) ρ ≡ c *ℤ mono m ρ +ℤ (d *ℤ mono n ρ +ℤ pev p ρ)
place_is less c m d n p r ρ s h = refl
place_is same c m d n p r ρ s h = put_is (c +ℤ d) m p ρ ∙ together c d (mono m ρ) (pev p ρ) ∙ ap (λ (l : List ℕ). c *ℤ mono m ρ +ℤ (d *ℤ mono l ρ +ℤ pev p ρ))
    (s tt)
place_is more c m d n p r ρ s h = ap (λ (z : ℤ). d *ℤ mono n ρ +ℤ z) h ∙ past (c *ℤ mono m ρ) (d *ℤ mono n ρ) (pev p ρ)

ins_is : (c : ℤ) (m : List ℕ) (p : Poly) (ρ : Env) → pev (ins c m p) ρ ≡ c *ℤ mono m ρ +ℤ pev p ρ
ins_is c m nil ρ = put_is c m nil ρ
ins_is c m (term d n p) ρ = place_is (cmp m n) c m d n p (ins c m p) ρ (cmp_same m n) (ins_is c m p ρ)

add_assoc : (a b c : ℤ) → a +ℤ (b +ℤ c) ≡ (a +ℤ b) +ℤ c
add_assoc = each _ λ a a'. each _ λ b b'. each _ λ c c'. simp diff (omega arith)

poly_add_is : (p q : Poly) (ρ : Env) → pev (poly_add p q) ρ ≡ pev p ρ +ℤ pev q ρ
poly_add_is nil q ρ = each (λ z. z ≡ pos 0 +ℤ z) (λ a a'. simp diff (omega arith)) (pev q ρ)
poly_add_is (term c m p) q ρ = ins_is c m (poly_add p q) ρ ∙ ap (λ (z : ℤ). c *ℤ mono m ρ +ℤ z) (poly_add_is p q ρ) ∙ add_assoc (c *ℤ mono m ρ) (pev p ρ)
    (pev q ρ)

four : (c d m n : ℤ) → (c *ℤ d) *ℤ (m *ℤ n) ≡ (c *ℤ m) *ℤ (d *ℤ n)
four c d m n = sym (mul_assoc c d (m *ℤ n)) ∙ ap (λ (z : ℤ). c *ℤ z) (swap d m n) ∙ mul_assoc c m (d *ℤ n)

mul_add : (a b c : ℤ) → a *ℤ b +ℤ a *ℤ c ≡ a *ℤ (b +ℤ c)
mul_add = each _ λ a a'. each _ λ b b'. each _ λ c c'. simp diff (omega arith)

both : (c d m n t : ℤ) → (c *ℤ d) *ℤ (m *ℤ n) +ℤ (c *ℤ m) *ℤ t ≡ (c *ℤ m) *ℤ (d *ℤ n +ℤ t)
both c d m n t = ap (λ (z : ℤ). z +ℤ (c *ℤ m) *ℤ t) (four c d m n) ∙ mul_add (c *ℤ m) (d *ℤ n) t

term_mul_is : (c : ℤ) (m : List ℕ) (p : Poly) (ρ : Env) → pev (term_mul c m p) ρ ≡ (c *ℤ mono m ρ) *ℤ pev p ρ
term_mul_is c m nil ρ = each (λ z. pos 0 ≡ z *ℤ pos 0) (λ a a'. simp diff (omega arith)) (c *ℤ mono m ρ)
term_mul_is c m (term d n p) ρ = ins_is (c *ℤ d) (mono_mul m n) (term_mul c m p) ρ
    ∙ ap (λ (z : ℤ). (c *ℤ d) *ℤ mono (mono_mul m n) ρ +ℤ z) (term_mul_is c m p ρ)
    ∙ ap (λ (z : ℤ). (c *ℤ d) *ℤ z +ℤ (c *ℤ mono m ρ) *ℤ pev p ρ) (mono_mul_is m n ρ)
    ∙ both c d (mono m ρ) (mono n ρ) (pev p ρ)

add_mul : (a b c : ℤ) → a *ℤ c +ℤ b *ℤ c ≡ (a +ℤ b) *ℤ c
add_mul = each _ λ a a'. each _ λ b b'. each _ λ c c'. simp diff (omega arith)

poly_mul_is : (p q : Poly) (ρ : Env) → pev (poly_mul p q) ρ ≡ pev p ρ *ℤ pev q ρ
poly_mul_is nil q ρ = each (λ z. pos 0 ≡ pos 0 *ℤ z) (λ a a'. simp diff (omega arith)) (pev q ρ)
poly_mul_is (term c m p) q ρ = poly_add_is (term_mul c m q) (poly_mul p q) ρ
    ∙ ap (λ (z : ℤ). z +ℤ pev (poly_mul p q) ρ) (term_mul_is c m q ρ)
    ∙ ap (λ (z : ℤ). (c *ℤ mono m ρ) *ℤ pev q ρ +ℤ z) (poly_mul_is p q ρ)
    ∙ add_mul (c *ℤ mono m ρ) (pev p ρ) (pev q ρ)

neg_term : (c m p : ℤ) → neg_ℤ c *ℤ m +ℤ neg_ℤ p ≡ neg_ℤ (c *ℤ m +ℤ p)
neg_term = each _ λ a a'. each _ λ b b'. each _ λ c c'. simp diff (omega arith)

poly_neg_is : (p : Poly) (ρ : Env) → pev (poly_neg p) ρ ≡ neg_ℤ (pev p ρ)
poly_neg_is nil ρ = refl
poly_neg_is (term c m p) ρ = ap (λ (z : ℤ). neg_ℤ c *ℤ mono m ρ +ℤ z) (poly_neg_is p ρ) ∙ neg_term c (mono m ρ) (pev p ρ)

add_comm : (a b : ℤ) → a +ℤ b ≡ b +ℤ a
add_comm = each _ λ a a'. each _ λ b b'. simp diff (omega arith)

one_var : (a : ℤ) → a ≡ pos 1 *ℤ (a *ℤ pos 1) +ℤ pos 0
one_var = each _ λ a a'. simp diff (omega arith)

one_lit : (a : ℤ) → a ≡ a *ℤ pos 1 +ℤ pos 0
one_lit = each _ λ a a'. simp diff (omega arith)

pub norm_is : (e : Expr) (ρ : Env) → ev e ρ ≡ pev (norm e) ρ
unfolding ev
norm_is (var i) ρ = one_var (at ρ i)
norm_is (nat n) ρ = one_lit (pos n) ∙ sym (put_is (pos n) [] nil ρ)
norm_is (below n) ρ = one_lit (negsuc n)
norm_is (plus e f) ρ = cc (norm_is e ρ, norm_is f ρ, poly_add_is (norm f) (norm e) ρ, add_comm (ev e ρ) (ev f ρ))
norm_is (times e f) ρ = cc (norm_is e ρ, norm_is f ρ, poly_mul_is (norm e) (norm f) ρ)
norm_is (minus e) ρ = cc (norm_is e ρ, poly_neg_is (norm e) ρ)

-- ---- the natural parts of a polynomial, monomial by monomial
-- the product of one unknown or more
abbrev pub prod : ℕ → List ℕ → Env → ℤ
prod i [] ρ = at ρ i
prod i (j ∷ m) ρ = at ρ i *ℤ prod j m ρ

-- its two parts, sealed: to `omega` each is an unknown
pub Up : ℕ → List ℕ → Env → ℕ
Up i m ρ = up (prod i m ρ)

pub Dn : ℕ → List ℕ → Env → ℕ
Dn i m ρ = dn (prod i m ρ)

-- the same again: a rewriting from `Up` to `U` has the polynomials computed before `omega` reads them, which it does slowly
pub U : ℕ → List ℕ → Env → ℕ
U i m ρ = up (prod i m ρ)

pub D : ℕ → List ℕ → Env → ℕ
D i m ρ = dn (prod i m ρ)

pub Up-U : (i : ℕ) (m : List ℕ) (ρ : Env) → Up i m ρ ≡ U i m ρ
unfolding Up U
Up-U i m ρ = refl

pub Dn-D : (i : ℕ) (m : List ℕ) (ρ : Env) → Dn i m ρ ≡ D i m ρ
unfolding Dn D
Dn-D i m ρ = refl

abbrev pub hi : Poly → Env → ℕ
hi nil ρ = 0
hi (term (pos k) [] p) ρ = k + hi p ρ
hi (term (pos k) (i ∷ m) p) ρ = k * Up i m ρ + hi p ρ
hi (term (negsuc k) [] p) ρ = hi p ρ
hi (term (negsuc k) (i ∷ m) p) ρ = suc k * Dn i m ρ + hi p ρ

abbrev pub lo : Poly → Env → ℕ
lo nil ρ = 0
lo (term (pos k) [] p) ρ = lo p ρ
lo (term (pos k) (i ∷ m) p) ρ = k * Dn i m ρ + lo p ρ
lo (term (negsuc k) [] p) ρ = suc k + lo p ρ
lo (term (negsuc k) (i ∷ m) p) ρ = suc k * Up i m ρ + lo p ρ

prod_is : (i : ℕ) (m : List ℕ) (ρ : Env) → mono (i ∷ m) ρ ≡ prod i m ρ
prod_is i [] ρ = each (λ z. z *ℤ pos 1 ≡ z) (λ a a'. simp diff (omega arith)) (at ρ i)
prod_is i (j ∷ m) ρ = ap (λ (z : ℤ). at ρ i *ℤ z) (prod_is j m ρ)

pos_times : (k : ℕ) (z : ℤ) → pos k *ℤ z ≡ (k * up z) ⊖ (k * dn z)
pos_times k z = ap (λ (y : ℤ). pos k *ℤ y) (any z) ∙ simp diff (omega arith)

negsuc_times : (k : ℕ) (z : ℤ) → negsuc k *ℤ z ≡ (suc k * dn z) ⊖ (suc k * up z)
negsuc_times k z = ap (λ (y : ℤ). negsuc k *ℤ y) (any z) ∙ simp diff (omega arith)

const_add : (k p n : ℕ) → pos k *ℤ pos 1 +ℤ (p ⊖ n) ≡ (k + p) ⊖ n
const_add k p n = simp diff (omega arith)

const_sub : (k p n : ℕ) → negsuc k *ℤ pos 1 +ℤ (p ⊖ n) ≡ p ⊖ (suc k + n)
const_sub k p n = simp diff (omega arith)

pub parts_is : (p : Poly) (ρ : Env) → pev p ρ ≡ hi p ρ ⊖ lo p ρ
unfolding Up Dn
parts_is nil ρ = is_diff (pos 0) 0 0 refl
parts_is (term (pos k) [] p) ρ = ap (λ (z : ℤ). pos k *ℤ pos 1 +ℤ z) (parts_is p ρ) ∙ const_add k (hi p ρ) (lo p ρ)
parts_is (term (pos k) (i ∷ m) p) ρ = cc (prod_is i m ρ, pos_times k (prod i m ρ), parts_is p ρ, add_diff (k * Up i m ρ) (k * Dn i m ρ) (hi p ρ) (lo p ρ))
parts_is (term (negsuc k) [] p) ρ = ap (λ (z : ℤ). negsuc k *ℤ pos 1 +ℤ z) (parts_is p ρ) ∙ const_sub k (hi p ρ) (lo p ρ)
parts_is (term (negsuc k) (i ∷ m) p) ρ = cc
    (prod_is i m ρ, negsuc_times k (prod i m ρ), parts_is p ρ, add_diff (suc k * Dn i m ρ) (suc k * Up i m ρ) (hi p ρ) (lo p ρ))

pub ev_parts : (e : Expr) (ρ : Env) → ev e ρ ≡ hi (norm e) ρ ⊖ lo (norm e) ρ
ev_parts e ρ = norm_is e ρ ∙ parts_is (norm e) ρ

-- ---- a statement is read as one about expressions, and that as one about natural parts
pub plus_ev : (e f : Expr) (ρ : Env) → ev e ρ +ℤ ev f ρ ≡ ev (plus e f) ρ
unfolding ev
plus_ev e f ρ = refl

pub times_ev : (e f : Expr) (ρ : Env) → ev e ρ *ℤ ev f ρ ≡ ev (times e f) ρ
unfolding ev
times_ev e f ρ = refl

pub minus_ev : (e : Expr) (ρ : Env) → neg_ℤ (ev e ρ) ≡ ev (minus e) ρ
unfolding ev
minus_ev e ρ = refl

pub nat_ev : (ρ : Env) (n : ℕ) → pos n ≡ ev (nat n) ρ
unfolding ev
nat_ev ρ n = refl

pub below_ev : (ρ : Env) (n : ℕ) → negsuc n ≡ ev (below n) ρ
unfolding ev
below_ev ρ n = refl

-- f - e, in normal form
abbrev pub less_by : Expr → Expr → Poly
less_by e f = norm (plus f (minus e))

gap : (a b : ℤ) → (a ≤ℤ b) ↔ (pos 0 ≤ℤ (b +ℤ neg_ℤ a))
gap = each _ λ a a'. each _ λ b b'. simp diff (λ h. omega arith, λ h. omega arith)

gap_lt : (a b : ℤ) → (a <ℤ b) ↔ (pos 0 <ℤ (b +ℤ neg_ℤ a))
gap_lt = each _ λ a a'. each _ λ b b'. simp diff (λ h. omega arith, λ h. omega arith)

gap_eq : (a b : ℤ) → (a ≡ b) ↔ (pos 0 ≡ b +ℤ neg_ℤ a)
gap_eq = each _ λ a a'. each _ λ b b'. simp diff (λ h. omega arith, λ h. omega arith)

above : (z : ℤ) (p n : ℕ) → z ≡ p ⊖ n → (pos 0 ≤ℤ z) ↔ (n ≤ p)
above z p n e = simp (diff, e) (λ h. omega arith, λ h. omega arith)

above_lt : (z : ℤ) (p n : ℕ) → z ≡ p ⊖ n → (pos 0 <ℤ z) ↔ (n < p)
above_lt z p n e = simp (diff, e) (λ h. omega arith, λ h. omega arith)

above_eq : (z : ℤ) (p n : ℕ) → z ≡ p ⊖ n → (pos 0 ≡ z) ↔ (n ≡ p)
above_eq z p n e = simp (diff, e) (λ h. omega arith, λ h. omega arith)

through : {A B C : Type 0} → A ↔ B → B ↔ C → A ↔ C
through f g = (λ a. g.0 (f.0 a), λ c. f.1 (g.1 c))

pub le_ev : (e f : Expr) (ρ : Env) → (ev e ρ ≤ℤ ev f ρ) ↔ (lo (less_by e f) ρ ≤ hi (less_by e f) ρ)
unfolding ev
le_ev e f ρ = through (gap (ev e ρ) (ev f ρ)) (above _ _ _ (ev_parts (plus f (minus e)) ρ))

pub lt_ev : (e f : Expr) (ρ : Env) → (ev e ρ <ℤ ev f ρ) ↔ (lo (less_by e f) ρ < hi (less_by e f) ρ)
unfolding ev
lt_ev e f ρ = through (gap_lt (ev e ρ) (ev f ρ)) (above_lt _ _ _ (ev_parts (plus f (minus e)) ρ))

pub eq_ev : (e f : Expr) (ρ : Env) → (ev e ρ ≡ ev f ρ) ↔ (lo (less_by e f) ρ ≡ hi (less_by e f) ρ)
unfolding ev
eq_ev e f ρ = through (gap_eq (ev e ρ) (ev f ρ)) (above_eq _ _ _ (ev_parts (plus f (minus e)) ρ))

pub abs_ev : (e : Expr) (ρ : Env) (k : ℕ) → (nat_abs (ev e ρ) ≤ k) ↔ ((hi (norm e) ρ ≤ k + lo (norm e) ρ) × (lo (norm e) ρ ≤ k + hi (norm e) ρ))
abs_ev e ρ k = rw (ev_parts e ρ) (abs_diff (hi (norm e) ρ) (lo (norm e) ρ) k)

pub fits_ev : (w : Width) (e : Expr) (ρ : Env) → SFits w (ev e ρ) ↔
    ((hi (norm e) ρ < 2 ^ hbits w + lo (norm e) ρ) × (lo (norm e) ρ ≤ 2 ^ hbits w + hi (norm e) ρ))
fits_ev w e ρ = rw (ev_parts e ρ) (fits_diff w (hi (norm e) ρ) (lo (norm e) ρ))

pub ruleset quote = (plus_ev, times_ev, minus_ev, nat_ev, below_ev)

pub ruleset poly = (quote, le_ev, lt_ev, eq_ev, abs_ev, fits_ev, Up-U, Dn-D)

-- ---- a statement about every n integers, shown of n unknowns: `over n _ λ ρ. simp (poly, ρ) (omega arith)`
abbrev pub Pred : ℕ → Type 1
Pred zero = Type 0
Pred (suc n) = ℤ → Pred n

abbrev pub All : (n : ℕ) → Pred n → Type 0
All zero P = P
All (suc n) P = (z : ℤ) → All n (P z)

abbrev pub Vars : (n i : ℕ) → Pred n → Env → Type 0
Vars zero i P ρ = P
Vars (suc n) i P ρ = Vars n (suc i) (P (ev (var i) ρ)) ρ

extend : (ℕ → ℤ) → ℕ → ℤ → ℕ → ℤ
extend f i z j = cond (ltb j i) (f j) z

extend_at : (f : ℕ → ℤ) (i : ℕ) (z : ℤ) → extend f i z i ≡ z
unfolding extend
extend_at f i z = by_cases (ltb i i) (λ (y : ℤ). y ≡ z) (f i) z (λ t. let h = ltb→lt i i t in absurd (omega arith)) (λ t. refl)

extend_below : (f : ℕ → ℤ) (i : ℕ) (z : ℤ) (j : ℕ) → j < i → extend f i z j ≡ f j
unfolding extend
extend_below f i z j l = by_cases (ltb j i) (λ (y : ℤ). y ≡ f j) (f j) z (λ t. refl) (λ t. let h = nltb→le j i t in absurd (omega arith))

var_ev : (i : ℕ) (ρ : Env) → ev (var i) ρ ≡ at ρ i
unfolding ev
var_ev i ρ = refl

go : (n i : ℕ) (P : Pred n) (f : ℕ → ℤ) → ((ρ : Env) → ((j : ℕ) → j < i → at ρ j ≡ f j) → Vars n i P ρ) → All n P
unfolding at
go zero i P f h = h (env f) (λ j l. refl)
go (suc n) i P f h = λ z. go n (suc i) (P z) (extend f i z) (λ ρ agree.
    subst (λ (y : ℤ). Vars n (suc i) (P y) ρ) (var_ev i ρ ∙ agree i (omega arith) ∙ extend_at f i z)
    (h ρ (λ j l. agree j (omega arith) ∙ extend_below f i z j l)))

pub over : (n : ℕ) (P : Pred n) → ((ρ : Env) → Vars n 0 P ρ) → All n P
over n P k = go n 0 P (λ j. pos 0) (λ ρ agree. k ρ)
