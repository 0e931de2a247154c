-- A call of `mahunopi_build` that answers 0 is a call of building that is not refused: no fault of 4 to 17, nor 27 or 28, has the number 0.
use mathlib.Core.Path.{◌≡◌, refl, sym, ap, ◌∙◌}
use mathlib.Core.Bool.{Bool, true, false}
use mathlib.Core.List.{List}
use Prim.Native.Nat.{ℕ, ◌<◌}
use native.Mathlib.Omega.{arith}
use lib.ListN.{length}
use Rattle.paper.specs.Scan.{first_below, some_below}
use Rattle.paper.specs.Mesh.{Mesh}
use Rattle.paper.specs.Faults.{Verdict, sound, fault, ◌or_else◌, single, lowest_of, list_faults, link_faults, verdict, link_verdict, kept}
use Rattle.paper.specs.Calls.{nets, build_verdict}
use Rattle.paper.specs.CFace.{number_of}
use Rattle.paper.specs.Claims.{CallsFromC}

-- a verdict whose number is 0 is no fault
pub record Numbered (v : Verdict) : Type 0 where
  pub none : number_of v ≡ 0 → v ≡ sound

pub one : (k : ℕ) (b : Bool) (p : ℕ) → 0 < k → Numbered (single k b p)
unfolding single
one k true p l = record { none = λ e. absurd (omega (arith, e)) }
one k false p l = record { none = λ e. refl }

pub lowest : (k n : ℕ) (f : ℕ → Bool) → 0 < k → Numbered (lowest_of k n f)
unfolding lowest_of
lowest k n f l = one k (some_below n f) (first_below n f) l

either : (v w : Verdict) → Numbered v → Numbered w → Numbered (v or_else w)
unfolding ◌or_else◌
either sound w n m = m
either (fault k p) w n m = n

infixr 25 ◌or◌
pub ◌or◌ : {v w : Verdict} → Numbered v → Numbered w → Numbered (v or_else w)
n or m = either _ _ n m

-- the checks of a mesh and its link table
pub linked : (M : Mesh) (n : ℕ) → Numbered (link_verdict M n)
unfolding link_verdict verdict list_faults link_faults
linked M n =
    let l : (k : ℕ) → 0 < k → (m : ℕ) (f : ℕ → Bool) → Numbered (lowest_of k m f) = λ k h m f. lowest k m f h in
    let s : (k : ℕ) → 0 < k → (b : Bool) (p : ℕ) → Numbered (single k b p) = λ k h b p. one k b p h in
    let lists = s 4 (omega arith) _ _ or s 27 (omega arith) _ _ or l 5 (omega arith) _ _ or s 6 (omega arith) _ _ or l 7 (omega arith) _ _
    or l 8 (omega arith) _ _ or l 28 (omega arith) _ _ or l 9 (omega arith) _ _ in
    let edges = l 10 (omega arith) _ _ or l 11 (omega arith) _ _ or l 12 (omega arith) _ _ or l 13 (omega arith) _ _ in
    (lists or edges) or s 14 (omega arith) _ _

built : (M : Mesh) (links : List ℕ) (first count n : ℕ) → Numbered (build_verdict M links first count n)
unfolding build_verdict
built M links first count n =
    linked M (length links) or lowest 15 _ _ (omega arith) or one 16 _ _ (omega arith) or one 17 _ _ (omega arith)

pub from_c : CallsFromC
from_c M links first count old before after out call =
    let v = build_verdict M links first count (length old) in
    let e : v ≡ sound = (built M links first count (length old)).none (sym call.answers.number) in
    record { answers = sym e; holds = call.holds ∙ ap (λ (w : Verdict). kept w (nets M first count) old) e }
