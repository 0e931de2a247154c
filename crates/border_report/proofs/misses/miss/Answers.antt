-- `border_report::misses::miss` meets its contract: for each k the products fit, and so do their differences from the bend.
use Prim.Native.Nat.{ℕ, zero, suc, ◌^◌, ◌≤◌}
use native.Mathlib.Omega.{arith}
use lib.Signed.{◌≤ℤ◌}
use lib.IntN.{ℤ, pos, negsuc, nat_abs, ◌-ℤ◌, ◌*ℤ◌}
use mir.Syntax.{w64}
use mir.Val.{SFits}
use mir.Facts.{to_z-of_z}
use Rattle.std.proofs.lemmas.Int.{ints}
use Rattle.numbers.proofs.Poly.{over, poly}
use Rattle.paper.specs.Borders.{one}
use Rattle.border_report.proofs.misses.miss.Goals as goal
use Rattle.border_report.proofs.misses.miss.Goals.{Start}

abbrev total : ℤ → ℤ → ℤ → ℤ → ℤ
total k d l s = d -ℤ k *ℤ l -ℤ (pos 3 -ℤ k) *ℤ one *ℤ s

abbrev Fine : ℤ → ℤ → ℤ → ℤ → Type 0
Fine k d l s =
    SFits w64 (k *ℤ l) × SFits w64 (d -ℤ k *ℤ l) × SFits w64 (pos 3 -ℤ k) × SFits w64 ((pos 3 -ℤ k) *ℤ one) × SFits w64 ((pos 3 -ℤ k) *ℤ one *ℤ s)
    × SFits w64 (total k d l s)

sizes : (k : ℕ) → k ≤ 3 → (d l s : ℤ) → nat_abs d ≤ 2 ^ 60 → nat_abs l ≤ 2 ^ 57 → nat_abs s ≤ 2 ^ 26 → Fine (pos k) d l s
sizes zero h = over 3 _ λ ρ. simp (poly, ρ) (omega arith)
sizes (suc zero) h = over 3 _ λ ρ. simp (poly, ρ) (omega arith)
sizes (suc (suc zero)) h = over 3 _ λ ρ. simp (poly, ρ) (omega arith)
sizes (suc (suc (suc zero))) h = over 3 _ λ ρ. simp (poly, ρ) (omega arith)
sizes (suc (suc (suc (suc k)))) h = absurd (omega arith)

all : (k d l s : ℤ) → (pos 0 ≤ℤ k) × (k ≤ℤ pos 3) → nat_abs d ≤ 2 ^ 60 → nat_abs l ≤ 2 ^ 57 → nat_abs s ≤ 2 ^ 26 → Fine k d l s
all (pos k) d l s p = sizes k (omega (arith, ints)) d l s
all (negsuc k) d l s p = absurd (omega (arith, ints))

fits : (s : Start) → Fine s.args.k s.args.bent s.args.leant s.args.step
fits s = let z = s.requires.sizes in all s.args.k s.args.bent s.args.leant s.args.step s.requires.parts z.0 z.1 z.2

pub overflow_sub-whole-3 : goal.overflow_sub-whole-3
overflow_sub-whole-3 c =
    let k = fits (search) in
    let f = c.ranges in
    simp (to_z-of_z, f.bent, f.k, f.leant, f.step, k.0, k.1, k.2, k.3, k.4) k.5

pub returns : goal.returns
returns c =
    let k = fits (search) in
    let f = c.ranges in
    simp (to_z-of_z, f.bent, f.k, f.leant, f.step, k.0, k.1, k.2, k.3, k.4, k.5) at c.unsigned_abs.ensures.value
