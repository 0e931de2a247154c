-- Checks 18 and 19 of a list of quad-nets and the room meet their contract: each stops the chain with its fault or is passed.
use mathlib.Core.Path.{◌≡◌, sym, ap, ◌∙◌}
use mathlib.Core.Bool.{Bool, not, ◌||◌}
use Prim.Native.Nat.{ℕ, ◌*◌, ◌%◌, ◌≤◌}
use native.Mathlib.Omega.{arith}
use lib.Dec.{eqb, ltb}
use Rattle.paper.specs.Mesh.{most_corners}
use Rattle.paper.specs.Calls.{per_corner}
use Rattle.std.specs.Prelude.{Ok}
use Rattle.paper.specs.Faults.{single, stated, Answer}
use Rattle.std.proofs.lemmas.Result.{err_from_is_err_and}
use Rattle.mesh.proofs.Verdicts.{stop, passed, past}
use Rattle.floats.proofs.All.{all_chain, few_of}
use Rattle.floats.proofs.check_all.Goals as goal

-- what check 18 says
is_18 : (a : Answer) {b : Bool} (n : ℕ) → stated a ≡ single 18 b n → b ≡ (not (eqb (n % per_corner) 0) || ltb (per_corner * most_corners) n)
    → stated a ≡ single 18 (not (eqb (n % per_corner) 0) || ltb (per_corner * most_corners) n) n
is_18 a n e h = e ∙ ap (λ (b : Bool). single 18 b n) h

-- and when passed
few : (a : Answer) {u : Unit} {b : Bool} (n : ℕ) → stated a ≡ single 18 b n → b ≡ (not (eqb (n % per_corner) 0) || ltb (per_corner * most_corners) n) → a ≡ Ok u
    → n ≤ 1007616
few a n e h q = few_of n (passed a (is_18 a n e h) _ q)

pub returns-in_err-refused_if : goal.returns-in_err-refused_if
returns-in_err-refused_if c =
    let p = err_from_is_err_and c.from_residual.result c.from_residual.ensures.1 in
    rw (p.1, p.2) (stop _ (is_18 _ _ c.refused_if.ensures c.is_nets.ensures) _ c.in_err-refused_if.was _ ∙ sym (all_chain _ _))

pub returns-in_err-check_numbers : goal.returns-in_err-check_numbers
returns-in_err-check_numbers c =
    let p = err_from_is_err_and c.from_residual-in_err-check_numbers.result c.from_residual-in_err-check_numbers.ensures.1 in
    rw (p.1, p.2)
    (past (passed _ (is_18 _ _ c.refused_if.ensures c.is_nets.ensures) _ c.in_ok-refused_if.was) _
    (stop _ c.check_numbers.ensures _ c.in_err-check_numbers.was _)
    ∙ sym (all_chain _ _))

pub returns : goal.returns
returns c =
    past (passed _ (is_18 _ _ c.refused_if.ensures c.is_nets.ensures) _ c.in_ok-refused_if.was) _
    (past (passed _ c.check_numbers.ensures _ c.in_ok-check_numbers.was) _ c.refused_if-2.ensures)
    ∙ sym (all_chain _ _)

pub overflow_mul-n : goal.overflow_mul-n
overflow_mul-n c = record { fits = omega (arith, few _ _ c.refused_if.ensures c.is_nets.ensures c.in_ok-refused_if.was) }

pub overflow_mul-n-2 : goal.overflow_mul-n-2
overflow_mul-n-2 c = record { fits = omega (arith, few _ _ c.refused_if.ensures c.is_nets.ensures c.in_ok-refused_if.was) }
