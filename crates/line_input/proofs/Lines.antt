-- Lines in a buffer: where a line feed was found and where none was, and a line read after bytes that were kept.
use mathlib.Core.Path.{◌≡◌, refl, sym, ap, ◌∙◌}
use mathlib.Core.Bool.{Bool, true, false, cond, true≢false}
use mathlib.Core.List.{List, ◌++◌}
use mathlib.Core.Logic.{inl, inr, ⊎_elim}
use Prim.Native.Nat.{ℕ, ◌+◌, ◌-◌, ◌<◌, ◌≤◌}
use native.Mathlib.Omega.{arith}
use borrow.Author.Tests.{ltb-true, ltb-false, eqb-true}
use lib.Dec.{ltb}
use lib.ListN.{length, take, drop, get_or, length-drop, get_or-append}
use lib.Seq.{length-take-le, get_or-take, get_or-drop}
use Rattle.std.specs.Prelude.{Ok, Err, Some, None, ◌==◌}
use Rattle.std.specs.List.{position, position_or_len}
use Rattle.std.proofs.lemmas.Option.{none-some, same_Some}
use Rattle.std.proofs.lemmas.Bool.{cases_Bool}
use Rattle.std.specs.declared.option.Option.{Option}
use Rattle.std.specs.declared.result.Result.{Result}
use Rattle.std.proofs.lemmas.List.Sums.{fails_before_first, passes_at_first}
use Rattle.line_input.specs.Places.{feed, IfLine, LineRead, NextLine}
use Rattle.line_input.specs.declared.Held.{Held}
use Rattle.line_input.specs.declared.Line.{Line}
use Rattle.line_input.specs.declared.LineError.{LineError}

abbrev pub is_feed : ℕ → Bool
is_feed byte = byte == feed

-- ---- the first line feed of some bytes
none_fed : (bytes : List ℕ) → position is_feed bytes ≡ None → length bytes ≤ position_or_len is_feed bytes
none_fed bytes e = ⊎_elim
    (λ t. absurd (none-some (position_or_len is_feed bytes)
    (sym e ∙ ap (λ b. cond b (Some (position_or_len is_feed bytes)) None) t)))
    (λ f. ltb-false (position_or_len is_feed bytes) (length bytes) f)
    (cases_Bool (ltb (position_or_len is_feed bytes) (length bytes)))

pub none_found : (bytes : List ℕ) → position is_feed bytes ≡ None → (k : ℕ) → k < length bytes → get_or bytes k 0 ≡ feed → ⊥
none_found bytes e k h q =
    let l = none_fed bytes e in
    let f = fails_before_first is_feed bytes k 0 (omega arith) in
    absurd (true≢false (sym (ap is_feed q) ∙ f))

-- the place of one
pub record Found (bytes : List ℕ) (i : ℕ) : Type 0 where
  pub inside : i < length bytes
  pub before : (k : ℕ) → k < i → get_or bytes k 0 ≡ feed → ⊥
  pub here : get_or bytes i 0 ≡ feed

pub one_found : (bytes : List ℕ) (i : ℕ) → position is_feed bytes ≡ Some i → Found bytes i
one_found bytes i e = ⊎_elim there nowhere (cases_Bool (ltb (position_or_len is_feed bytes) (length bytes)))
  where
    nowhere : ltb (position_or_len is_feed bytes) (length bytes) ≡ false → Found bytes i
    nowhere f = absurd (none-some i (sym (ap (λ b. cond b (Some (position_or_len is_feed bytes)) None) f) ∙ e))

    there : ltb (position_or_len is_feed bytes) (length bytes) ≡ true → Found bytes i
    there t =
        let p = same_Some (position_or_len is_feed bytes) i (sym (ap (λ b. cond b (Some (position_or_len is_feed bytes)) None) t) ∙ e) in
        let l = ltb-true (position_or_len is_feed bytes) (length bytes) t in
        record {
          inside = omega arith;
          before = λ k h q. absurd (true≢false (sym (ap is_feed q) ∙ fails_before_first is_feed bytes k 0 (omega arith)));
          here = ap (λ n. get_or bytes n 0) (sym p) ∙ eqb-true _ _ (passes_at_first is_feed bytes 0 l);
        }

-- ---- a line that was found, of what is held
not_none : (l : Line) → ◌≡◌ {A = Result (Option Line) LineError} (Ok (Some l)) (Ok None) → ⊥
not_none l e = none-some l (grind arith)

module _ (old : List ℕ) (held : Held) (onward : held.at ≤ held.end) (inside : held.end ≤ length old) where
  pub next_held : (i : ℕ) → Found (take (held.end - held.at) (drop held.at old)) i
      → NextLine old held (Ok (Some (record { start = held.at; end = held.at + i; held = record { at = held.at + i + 1; end = held.end } }))) old
  next_held i f =
      let l = length-drop held.at old in
      let m = length-take-le (held.end - held.at) (drop held.at old) (omega arith) in
      let h = f.inside in
      record {
        lined = record { started = omega arith; ended = omega arith; taken = omega arith; within = inside };
        same = refl;
        begins = λ k h. refl;
        all = omega arith;
        whole = record {
          plain = λ k h s q. f.before (k - held.at) (omega arith) (seen (k - held.at) (omega arith)
              ∙ ap (λ n. get_or old n 0) (omega arith) ∙ q);
          after = inl (refl, sym (seen i (omega arith)) ∙ f.here);
        };
        none = λ e. absurd (not_none _ e);
      }
    where
      seen : (k : ℕ) → k < held.end - held.at → get_or (take (held.end - held.at) (drop held.at old)) k 0 ≡ get_or old (held.at + k) 0
      seen k h = get_or-take (held.end - held.at) (drop held.at old) k 0 h ∙ get_or-drop held.at old k 0

-- ---- a line read after bytes that were kept
pub stays_front : (kept : ℕ) (old rest : List ℕ) → kept ≤ length old → (k : ℕ) → k < kept → get_or (take kept old ++ rest) k 0 ≡ get_or old k 0
stays_front kept old rest h k l = get_or-append (take kept old) rest 0 k (omega (arith, length-take-le kept old h)) ∙ get_or-take kept old k 0 l

module _ (old new : List ℕ) (kept end : ℕ) (same : length new ≡ length old) (stays : (k : ℕ) → k < kept → get_or new k 0 ≡ get_or old k 0)
    (after : kept ≤ end) (inside : end ≤ length old) where
  seen : (k : ℕ) → k < end → get_or (take end new) k 0 ≡ get_or new k 0
  seen k h = get_or-take end new k 0 h

  -- up to a line feed, or up to the end of what is held
  pub read_to_feed : (f : ℕ) → Found (take end new) f
      → LineRead old kept (Ok (Some (record { start = 0; end = f; held = record { at = f + 1; end = end } }))) new
  read_to_feed f g =
      let m = length-take-le end new (omega arith) in
      let h = g.inside in
      record {
        lined = record { started = omega arith; ended = omega arith; taken = omega arith; within = inside };
        same = same;
        stays = stays;
        first = (refl, after);
        whole = record {
          plain = λ k h s q. g.before k h (seen k (omega arith) ∙ q);
          after = inl (refl, sym (seen f (omega arith)) ∙ g.here);
        };
        none = λ e. absurd (not_none _ e);
      }

  pub read_to_end : position is_feed (take end new) ≡ None
      → LineRead old kept (Ok (Some (record { start = 0; end = end; held = record { at = end; end = end } }))) new
  read_to_end e =
      let m = length-take-le end new (omega arith) in
      record {
        lined = record { started = omega arith; ended = omega arith; taken = omega arith; within = inside };
        same = same;
        stays = stays;
        first = (refl, after);
        whole = record {
          plain = λ k h s q. none_found (take end new) e k (omega arith) (seen k h ∙ q);
          after = inr (refl, refl);
        };
        none = λ e. absurd (not_none _ e);
      }

-- ---- the next line, after more was read
if_line : (r : Result (Option Line) LineError) {P Q : Line → Type 0} → ((l : Line) → P l → Q l) → IfLine r P → IfLine r Q
if_line (Ok None) f h = h
if_line (Ok (Some l)) f h = f l h
if_line (Err e) f h = h

pub next_read : (old mid new : List ℕ) (held : Held) (kept : ℕ) (r : Result (Option Line) LineError) → held.at + kept ≡ held.end
    → length mid ≡ length old → ((k : ℕ) → k < kept → get_or mid k 0 ≡ get_or old (held.at + k) 0) → LineRead mid kept r new → NextLine old held r new
next_read old mid new held kept r q same moved l = record {
  lined = if_line r (λ x p. record { started = p.started; ended = omega (arith, p.ended); taken = p.taken; within = omega (arith, p.within) }) l.lined;
  same = l.same ∙ same;
  begins = if_line r (λ x p k h.
      let i : k < kept = omega arith in
      ap (λ n. get_or new n 0) (omega (arith, p.0)) ∙ l.stays k i ∙ moved k i) l.first;
  all = if_line r (λ x p. omega (arith, p.0, p.1)) l.first;
  whole = l.whole;
  none = λ e. omega (arith, l.none e);
}
