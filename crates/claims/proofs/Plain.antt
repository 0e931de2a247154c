-- L8: with 8 and 8 throughout neither 27 nor 28 applies.
use mathlib.Core.Path.{◌≡◌, refl, ap, ◌∙◌}
use mathlib.Core.Bool.{not}
use Prim.Native.Nat.{ℕ, zero, suc, ◌*◌}
use lib.ListN.{length, get_or, replicate, length-replicate}
use borrow.Author.Tests.{eq-eqb}
use Rattle.paper.specs.Mesh.{plain, corner_count}
use Rattle.paper.specs.Faults.{fault27, fault28}
use Rattle.paper.specs.Claims.{PlainPasses}

-- a number beyond the list is read as 8 too
eights : (n i : ℕ) → get_or (replicate n plain) i plain ≡ plain
eights zero i = refl
eights (suc n) zero = refl
eights (suc n) (suc i) = eights n i

pub plain_passes : PlainPasses
unfolding fault27 fault28
plain_passes M e = (
  ap not (eq-eqb (length M.sharpness) (2 * corner_count M) (ap length e ∙ length-replicate {A = ℕ} (2 * corner_count M) plain)),
  λ i. rw (e, eights (2 * corner_count M) i) refl,
)
