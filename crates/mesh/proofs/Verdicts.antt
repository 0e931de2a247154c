-- Steps of a chain of checks: what a verdict says of its checks, and how the answer of one check joins the chain.
use mathlib.Core.Path.{◌≡◌, refl, ap, ◌∙◌, sym}
use Rattle.std.specs.Prelude.{Ok, Err}
use mathlib.Core.Bool.{Bool, true, false}
use Prim.Native.Nat.{ℕ, ◌<◌}
use native.Mathlib.Omega.{arith}
use Rattle.paper.specs.Scan.{first_below, some_below}
use Rattle.paper.specs.Faults.{Verdict, sound, fault, ◌or_else◌, single, lowest_of, stated, Told}
use Rattle.paper.specs.declared.Refusal.{Refusal}
use Rattle.mesh.proofs.Scans.{first_at, some_true, some_false, none}

pub sound_left : (v w : Verdict) → v or_else w ≡ sound → v ≡ sound
unfolding ◌or_else◌
sound_left sound w e = refl
sound_left (fault k p) w e = e

pub sound_right : (v w : Verdict) → v or_else w ≡ sound → w ≡ sound
unfolding ◌or_else◌
sound_right sound w e = e
sound_right (fault k p) w e = let z : ◌≡◌ {A = ℕ} 0 1 = cc in absurd (omega arith)

-- a fault is not sound
pub unsound : {A : Type 0} (k p : ℕ) → fault k p ≡ sound → A
unsound k p e = let z : ◌≡◌ {A = ℕ} 0 1 = cc in absurd (omega arith)

pub single_sound : (k : ℕ) (b : Bool) (p : ℕ) → single k b p ≡ sound → b ≡ false
unfolding single
single_sound k true p e = let z : ◌≡◌ {A = ℕ} 0 1 = cc in absurd (omega arith)
single_sound k false p e = refl

pub lowest_sound : (k n : ℕ) (f : ℕ → Bool) → lowest_of k n f ≡ sound → (j : ℕ) → j < n → f j ≡ false
unfolding lowest_of
lowest_sound k n f e = none n f (single_sound k (some_below n f) (first_below n f) e)

-- a check that finds a fault is the verdict; one that finds none leaves it to the later ones
pub or_else_fault : (k p : ℕ) {v : Verdict} (w : Verdict) → v ≡ fault k p → v or_else w ≡ fault k p
unfolding ◌or_else◌
or_else_fault k p w e = rw e

pub or_else_sound : {v : Verdict} (w : Verdict) → v ≡ sound → v or_else w ≡ w
unfolding ◌or_else◌
or_else_sound w e = rw e

pub or_else_assoc : (u v w : Verdict) → (u or_else v) or_else w ≡ u or_else v or_else w
unfolding ◌or_else◌
or_else_assoc sound v w = refl
or_else_assoc (fault k p) v w = refl

pub single_hit : (k : ℕ) {b : Bool} (p : ℕ) → b ≡ true → single k b p ≡ fault k p
unfolding single
single_hit k p e = rw e

pub single_miss : (k : ℕ) {b : Bool} (p : ℕ) → b ≡ false → single k b p ≡ sound
unfolding single
single_miss k p e = rw e

-- the two ways a scan ends
pub lowest_hit : (k n : ℕ) (f : ℕ → Bool) (i : ℕ) → i < n → f i ≡ true → ((j : ℕ) → j < i → f j ≡ false) → lowest_of k n f ≡ fault k i
unfolding lowest_of
lowest_hit k n f i l e lower = single_hit k (first_below n f) (some_true n f i l e) ∙ ap (fault k) (first_at n f i l e lower)

pub lowest_none : (k n : ℕ) (f : ℕ → Bool) → ((j : ℕ) → j < n → f j ≡ false) → lowest_of k n f ≡ sound
unfolding lowest_of
lowest_none k n f h = single_miss k (first_below n f) (some_false n f h)

-- a call that answers a refusal under a number at a place
abbrev pub refusing : {A : Type 0} → ℕ → ℕ → Told A
refusing k p = Err (record { number = k; place = p })

-- a check whose answer states a verdict, as code meets it: it stops the chain, or is passed
pub stop : {A : Type 0} {v : Verdict} (a : Told A) → stated a ≡ v → (r : Refusal) → a ≡ Err r → (rest : Verdict) → fault r.number r.place ≡ v or_else rest
stop a e r q rest = sym (or_else_fault r.number r.place rest (sym e ∙ ap stated q))

pub passed : {A : Type 0} {v : Verdict} (a : Told A) → stated a ≡ v → (x : A) → a ≡ Ok x → v ≡ sound
passed a e x q = sym e ∙ ap stated q

pub past : {v : Verdict} → v ≡ sound → {w : Verdict} (rest : Verdict) → w ≡ rest → w ≡ v or_else rest
past e rest r = r ∙ sym (or_else_sound rest e)
