-- Lists whose entries stand at other places: entry i is the one that stood at `from i`. All at once, or written in place from the beginning.
use mathlib.Core.Path.{◌≡◌, refl, ap, ◌∙◌, sym}
use mathlib.Core.List.{List}
use Prim.Native.Nat.{ℕ, ◌<◌, ◌≤◌, ◌+◌}
use native.Mathlib.Omega.{arith}
use lib.ListN.{length, get_or}
use lib.Seq.{ext_get_or}
use Rattle.paper.specs.Scan.{values_from}
use Rattle.mesh.proofs.Links.{values_length, values_at}
use Rattle.mesh.proofs.ByCases.{by_less}

abbrev pub rearranged : (ℕ → ℕ) → List ℕ → List ℕ
rearranged from list = values_from (λ i. get_or list (from i) 0) 0 (length list)

module _ (from : ℕ → ℕ) (list : List ℕ) where
  pub length_rearranged : length (rearranged from list) ≡ length list
  length_rearranged = values_length (λ i. get_or list (from i) 0) 0 (length list)

  pub rearranged_at : (i : ℕ) → i < length list → get_or (rearranged from list) i 0 ≡ get_or list (from i) 0
  rearranged_at i h =
      values_at (λ i. get_or list (from i) 0) 0 0 (length list) i h ∙ ap (λ (x : ℕ). get_or list (from x) 0) (let q : 0 + i ≡ i = omega arith in q)

  -- a list with these entries
  pub rearranged_is : (new : List ℕ) → length new ≡ length list → ((i : ℕ) → i < length list → get_or new i 0 ≡ get_or list (from i) 0)
      → new ≡ rearranged from list
  rearranged_is new l e =
      ext_get_or 0 new (rearranged from list) (l ∙ sym length_rearranged) (λ i h. let b : i < length list = omega arith in e i b ∙ sym (rearranged_at i b))

  pub rearranged_same : (other : ℕ → ℕ) → ((i : ℕ) → i < length list → other i ≡ from i) → rearranged other list ≡ rearranged from list
  rearranged_same other e =
      rearranged_is (rearranged other list) (values_length (λ i. get_or list (other i) 0) 0 (length list)) (λ i h.
      values_at (λ i. get_or list (other i) 0) 0 0 (length list) i h
      ∙ ap (λ (x : ℕ). get_or list x 0) (ap other (let q : 0 + i ≡ i = omega arith in q) ∙ e i h))

  pub rearranged_none : ((i : ℕ) → i < length list → from i ≡ i) → rearranged from list ≡ list
  rearranged_none e = sym (rearranged_is list refl (λ i h. ap (λ (x : ℕ). get_or list x 0) (sym (e i h))))

pub rearranged_twice : (from : ℕ → ℕ) (list : List ℕ) → ((i : ℕ) → i < length list → from i < length list)
    → ((i : ℕ) → i < length list → from (from i) ≡ i) → rearranged from (rearranged from list) ≡ list
rearranged_twice from list below twice =
    let l = length_rearranged from list in
    sym (rearranged_is from (rearranged from list) list (sym l) (λ i h. let b : i < length list = omega arith in
    sym (rearranged_at from list (from i) (below i b) ∙ ap (λ (x : ℕ). get_or list x 0) (twice i b))))

-- the entries below `end` are written, the others stand as before
pub record RearrangedTo (from : ℕ → ℕ) (old new : List ℕ) (end : ℕ) : Type 0 where
  pub same_length : length new ≡ length old
  pub done : (i : ℕ) → i < end → get_or new i 0 ≡ get_or old (from i) 0
  pub rest : (i : ℕ) → end ≤ i → get_or new i 0 ≡ get_or old i 0

-- what writing the entries from `start` to `end` does
pub record Part (from : ℕ → ℕ) (old new : List ℕ) (start end : ℕ) : Type 0 where
  pub same_length : length new ≡ length old
  pub before : (i : ℕ) → i < start → get_or new i 0 ≡ get_or old i 0
  pub inner : (i : ℕ) → start ≤ i → i < end → (start ≤ from i) × (get_or new i 0 ≡ get_or old (from i) 0)
  pub after : (i : ℕ) → end ≤ i → get_or new i 0 ≡ get_or old i 0

-- where every entry of it stays, nothing is to be written
pub part_none : (from : ℕ → ℕ) (list : List ℕ) (start end : ℕ) → ((i : ℕ) → start ≤ i → i < end → from i ≡ i) → Part from list list start end
part_none from list start end e =
    record {
      same_length = refl;
      before = λ i l. refl;
      inner = λ i a b. (omega (arith, e i a b), ap (λ (x : ℕ). get_or list x 0) (sym (e i a b)));
      after = λ i l. refl;
    }

pub part_written : {from : ℕ → ℕ} {old mid new : List ℕ} {start end : ℕ} → start ≤ end → RearrangedTo from old mid start → Part from mid new start end
    → RearrangedTo from old new end
part_written {from} {old} {mid} {new} {start} {end} l w p =
    record {
      same_length = p.same_length ∙ w.same_length;
      done = λ i h. by_less i start
          (λ b. p.before i b ∙ w.done i b)
          (λ b. let q = p.inner i b h in q.1 ∙ w.rest (from i) q.0);
      rest = λ i h. p.after i h ∙ w.rest i (omega arith);
    }

pub all_written : {from : ℕ → ℕ} {old new : List ℕ} {end : ℕ} → length old ≤ end → RearrangedTo from old new end → new ≡ rearranged from old
all_written {from} {old} {new} l w = rearranged_is from old new w.same_length (λ i h. w.done i (omega arith))
