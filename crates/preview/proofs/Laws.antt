-- The moved list in the beginning of a lent one; the ways out of a preview, as laws over a mesh.
use mathlib.Core.Path.{◌≡◌, refl, sym, ap, ◌∙◌}
use mathlib.Core.Bool.{Bool, true, false, not, ◌||◌, true≢false}
use mathlib.Core.Logic.{⊎_elim}
use mathlib.Core.List.{List, ◌++◌}
use Prim.Native.Nat.{ℕ, ◌+◌, ◌*◌, ◌/◌, ◌%◌, ◌<◌, ◌≤◌}
use native.Mathlib.Omega.{arith}
use lib.Dec.{eqb, ltb}
use lib.ListN.{length, take, drop, set, length-set}
use lib.Seq.{take_at, set-append_left}
use lib.IntN.{ℤ}
use borrow.Author.Tests.{eqb-true, lt-ltb, le-leb, lt-leb}
use Rattle.paper.specs.Mesh.{most_vertices, Mesh, vertex_count}
use Rattle.paper.specs.Faults.{fault, outside, fault4, list_faults, verdict, link_verdict, Answer, done}
use Rattle.paper.specs.File.{begins}
use Rattle.paper.specs.Calls.{build_verdict, Built}
use Rattle.mesh.proofs.Scans.{ways}
use Rattle.mesh.proofs.Verdicts.{or_else_fault, or_else_sound, single_hit, single_miss, sound_right, refusing}
use Rattle.paper.specs.declared.Move.{Move}
use Rattle.paper.specs.Preview.{moved_list, moved, fault29, preview_verdict, Previewed}

-- ---- the moved list
pub moved_length : (l : List ℤ) (m : Move) → length (moved_list l m) ≡ length l
unfolding moved_list
moved_length l m = simp length-set

-- three stores to a list in the beginning of a lent one
module _ (l : List ℤ) (m : Move) (h : m.vertex < length l / 3) (old : List ℤ) where
  pub moved_begins : set (set (set (begins l old) (3 * m.vertex) m.x) (3 * m.vertex + 1) m.y) (3 * m.vertex + 2) m.z ≡ begins (moved_list l m) old
  unfolding moved_list
  moved_begins =
      let i = 3 * m.vertex in
      let rest = drop (length l) old in
      let a = set l i m.x in
      let b = set a (i + 1) m.y in
      let la : length a ≡ length l = length-set l i m.x in
      let lb : length b ≡ length l = length-set a (i + 1) m.y ∙ la in
      let c = set b (i + 2) m.z in
      let lc : length c ≡ length l = length-set b (i + 2) m.z ∙ lb in
      ap (λ (k : List ℤ). set (set k (i + 1) m.y) (i + 2) m.z) (set-append_left l rest i m.x (omega arith))
      ∙ ap (λ (k : List ℤ). set k (i + 2) m.z) (set-append_left a rest (i + 1) m.y (omega (arith, la)))
      ∙ set-append_left b rest (i + 2) m.z (omega (arith, lb))
      ∙ ap (λ (k : ℕ). c ++ drop k old) (sym lc)

-- it is read back from there
module _ (l : List ℤ) (m : Move) (old copy : List ℤ) (e : copy ≡ begins (moved_list l m) old) where
  pub moved_back : take (length l) copy ≡ moved_list l m
  moved_back = rw e (take_at (moved_list l m) (drop (length (moved_list l m)) old) (length l) (moved_length l m))

  pub back_length : length l ≡ length (take (length l) copy)
  back_length = sym (moved_length l m) ∙ sym (ap length moved_back)

-- ---- 4, of a list that is longer than any mesh's
or_right : (a b : Bool) → b ≡ true → (a || b) ≡ true
or_right true b e = refl
or_right false b e = e

or_left : (a b : Bool) → a ≡ true → (a || b) ≡ true
or_left true b e = refl
or_left false b e = absurd (true≢false (sym e))

long_four : (n f c : ℕ) → 3 * most_vertices < n → fault4 n f c ≡ true
unfolding fault4
long_four n f c h =
    ⊎_elim
    (λ e. or_right (not (eqb (n % 3) 0)) _ (or_left (outside 1 most_vertices (n / 3)) _ (or_right (ltb (n / 3) 1) _
    (lt-ltb most_vertices (n / 3) (omega (arith, eqb-true (n % 3) 0 e))))))
    (λ e. or_left (not (eqb (n % 3) 0)) _ (ap not e))
    (ways (eqb (n % 3) 0))

-- ---- the ways out
module _ (M : Mesh) (m : Move) (links : List ℕ) (first count : ℕ) (old : List ℤ) where
  pub preview_none : vertex_count M ≤ m.vertex → Previewed M m links first count old (refusing 29 m.vertex) old
  unfolding preview_verdict fault29
  preview_none h = record { answers = sym (or_else_fault 29 m.vertex _ (single_hit 29 m.vertex (le-leb _ _ h))); holds = refl }

  long_verdict : 3 * most_vertices < length M.coordinates → build_verdict (moved M m) links first count (length old) ≡ fault 4 0
  unfolding build_verdict link_verdict verdict list_faults
  long_verdict k =
      or_else_fault 4 0 _ (or_else_fault 4 0 _ (or_else_fault 4 0 _ (or_else_fault 4 0 _
      (single_hit 4 0 (long_four _ _ _ (omega (arith, moved_length M.coordinates m)))))))

  module _ (h : m.vertex < vertex_count M) where
    -- 29 is passed
    preview_is : preview_verdict M m links first count (length old) ≡ build_verdict (moved M m) links first count (length old)
    unfolding preview_verdict fault29
    preview_is = or_else_sound _ (single_miss 29 m.vertex (lt-leb _ _ h))

    pub preview_built : (r : Answer) (out : List ℤ) → Built (moved M m) links first count old r out → Previewed M m links first count old r out
    preview_built r out b = record { answers = b.answers ∙ sym preview_is; holds = b.holds }

    pub preview_as : (r : Answer) (out : List ℤ) → Previewed M m links first count old r out → Built (moved M m) links first count old r out
    preview_as r out p = record { answers = p.answers ∙ preview_is; holds = p.holds }

    -- a list that is longer than any mesh's is 4
    pub preview_long : 3 * most_vertices < length M.coordinates → Previewed M m links first count old (refusing 4 0) old
    preview_long l = preview_built (refusing 4 0) old (record { answers = sym (long_verdict l); holds = refl })

  -- ---- one that is not refused has passed 29
  pub preview_done : (out : List ℤ) → Previewed M m links first count old done out → Built (moved M m) links first count old done out
  unfolding preview_verdict
  preview_done out p = record { answers = sym (sound_right _ _ (sym p.answers)); holds = p.holds }
