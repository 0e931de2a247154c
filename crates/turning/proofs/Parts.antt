-- Constraints between faces: a corner has a partner in another face, and a label says whether the two faces are to be turned unlike.
-- Faces are connected where no closed set of faces parts them. A choice that meets every constraint of a part is fixed by its value at
-- one face, and choices for the parts join to one choice for all.
use mathlib.Core.Path.{◌≡◌, refl, ap, ◌∙◌, sym}
use mathlib.Core.Bool.{Bool, true, false, not, xor}
use mathlib.Core.List.{List}
use Prim.Native.Nat.{ℕ, ◌<◌}
use lib.ListN.{length}
use Rattle.paper.specs.Corners.{face_of}
use Rattle.mesh.proofs.Scans.{clash}
use Rattle.partners.specs.Partner.{partner}
use Rattle.turning.specs.Constraints.{MeetsAt, ClosedIn, JoinedIn}
use Rattle.mesh.proofs.ByCases.{true_of, true_both}

-- laws of unlike
pub xor_self : (a : Bool) → xor a a ≡ false
unfolding xor
xor_self true = refl
xor_self false = refl

pub xor_none : (a : Bool) → xor a false ≡ a
unfolding xor
xor_none true = refl
xor_none false = refl

pub xor_assoc : (a b c : Bool) → xor (xor a b) c ≡ xor a (xor b c)
unfolding xor
xor_assoc true true true = refl
xor_assoc true true false = refl
xor_assoc true false true = refl
xor_assoc true false false = refl
xor_assoc false true true = refl
xor_assoc false true false = refl
xor_assoc false false true = refl
xor_assoc false false false = refl

pub xor_undo : (a b : Bool) → xor a (xor a b) ≡ b
unfolding xor
xor_undo true true = refl
xor_undo true false = refl
xor_undo false true = refl
xor_undo false false = refl

pub xor_move : (a b c : Bool) → xor a b ≡ c → b ≡ xor a c
xor_move a b c e = sym (xor_undo a b) ∙ ap (xor a) e

pub xor_cancel : (k a b : Bool) → xor k a ≡ xor k b → a ≡ b
xor_cancel k a b e = xor_move k a _ e ∙ xor_undo k b

xor_false : (a b : Bool) → xor a b ≡ false → a ≡ b
xor_false a b e = sym (xor_move a b false e ∙ xor_none a)

-- two pairs that are equally unlike are equally like across
xor_swap : (a b c d : Bool) → xor a b ≡ xor c d → xor a c ≡ xor b d
xor_swap a b c d e = rw (xor_move a b _ e) (simp (xor_assoc, xor_self, xor_none))

xor_shift : (k a b : Bool) → xor (xor k a) (xor k b) ≡ xor a b
xor_shift k a b = xor_swap (xor k a) a (xor k b) b (simp (xor_assoc, xor_self, xor_none))

-- a choice for each part, handed out by a face of the part, as one choice that keeps that face
pub glued : (ℕ → ℕ) → (ℕ → ℕ → Bool) → ℕ → Bool
glued low pick f = xor (pick (low f) (low f)) (pick (low f) f)

pub glued_keeps : (low : ℕ → ℕ) (pick : ℕ → ℕ → Bool) (f : ℕ) → low (low f) ≡ low f → glued low pick (low f) ≡ false
unfolding glued
glued_keeps low pick f e = ap (λ (x : ℕ). xor (pick x x) (pick x (low f))) e ∙ xor_self (pick (low f) (low f))

module _ (sides corners : List ℕ) where
  pub joined_across : (f c : ℕ) → c < length corners → JoinedIn sides corners f (face_of sides c)
      → JoinedIn sides corners f (face_of sides (partner sides corners c))
  joined_across f c l j set k e = sym (k c l) ∙ j set k e

  -- the rest of a closed set is closed, so being joined goes both ways
  pub joined_back : (f g : ℕ) → JoinedIn sides corners f g → JoinedIn sides corners g f
  joined_back f g j set k e = true_of (set f) (λ p. clash (j (λ x. not (set x)) (λ c l. ap not (k c l)) (ap not p)) (ap not e))

  -- two choices that meet all constraints differ alike within a part, so one that agrees with another at a face of each part is the same
  pub choices_same : (t u : ℕ → Bool) → ((c : ℕ) → c < length corners → MeetsAt sides corners t c)
      → ((c : ℕ) → c < length corners → MeetsAt sides corners u c) → (f g : ℕ) → JoinedIn sides corners f g → t g ≡ u g → t f ≡ u f
  choices_same t u a b f g j e =
      let closed : ClosedIn sides corners (λ x. xor (t x) (u x)) = λ c l. xor_swap _ _ _ _ (a c l ∙ sym (b c l)) in
      xor_false (t f) (u f)
      (true_both (xor (t f) (u f)) (xor (t g) (u g)) (j (λ x. xor (t x) (u x)) closed) (joined_back f g j (λ x. xor (t x) (u x)) closed)
      ∙ ap (λ (x : Bool). xor x (u g)) e ∙ xor_self (u g))

  -- choices for the parts join to one for all
  pub glued_meets : (low : ℕ → ℕ) (pick : ℕ → ℕ → Bool)
      → ((c : ℕ) → c < length corners → low (face_of sides c) ≡ low (face_of sides (partner sides corners c)))
      → ((c : ℕ) → c < length corners → MeetsAt sides corners (pick (low (face_of sides c))) c)
      → (c : ℕ) → c < length corners → MeetsAt sides corners (glued low pick) c
  unfolding glued
  glued_meets low pick agrees meets c l =
      let f = low (face_of sides c) in
      rw (← agrees c l) (xor_shift (pick f f) (pick f (face_of sides c)) (pick f (face_of sides (partner sides corners c))) ∙ meets c l)
