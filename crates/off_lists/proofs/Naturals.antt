-- A word as a number from 0 to a largest; the three counts.
use mathlib.Core.Path.{◌≡◌, refl, sym, ap, ◌∙◌, subst}
use mathlib.Core.Bool.{Bool, true, false}
use mathlib.Core.List.{List, []}
use Prim.Native.Nat.{ℕ, suc, ◌<◌, ◌≤◌}
use lib.ListN.{get_or}
use lib.IntN.{ℤ, nat_abs}
use mir.Syntax.{w32}
use mir.Val.{SFits}
use Rattle.std.specs.Prelude.{Ok, Err, Option, None, Some}
use Rattle.std.specs.Option.{ok_or}
use Rattle.std.specs.Int.{FitsUnsignedBits}
use Rattle.mesh.proofs.Verdicts.{single_hit, single_miss, single_sound, or_else_fault, or_else_sound, refusing}
use Rattle.paper.specs.Faults.{sound, single, ◌or_else◌, Told}
use Rattle.paper.specs.declared.Refusal.{Refusal}
use Rattle.paper.specs.Off.{words_of, is_number, value_of, up_to, list_count, allowed, bad, bad_from}
use Rattle.off_words.specs.Cursor.{Before, NumberThere}
use Rattle.off_words.specs.declared.Cursor.{Cursor}
use Rattle.off_words.specs.declared.Number.{Number}
use Rattle.off_lists.specs.Reading.{NaturalRead, HeaderRead}
use Rattle.off_lists.specs.declared.Natural.{Natural}
use Rattle.off_lists.proofs.Bad.{no_number, serves, not_allowed, natural_is, below_zero, too_large, within_is}

module _ (text : List ℕ) (n most : ℕ) where
  none : bad (words_of text) (up_to most) n ≡ true → NaturalRead text n most (refusing 25 n)
  none b = record { answers = sym (single_hit 25 n b); there = tt }

  pub natural_none : is_number (get_or (words_of text) n []) ≡ false → NaturalRead text n most (refusing 25 n)
  natural_none e = none (no_number (words_of text) n (up_to most) e)

  module _ (m : Number) (e : NumberThere text n m) (z : ℤ) (q : z ≡ m.value) where
    here : value_of (get_or (words_of text) n []) ≡ z
    here = sym (q ∙ e.value)

    pub natural_below : SFits w32 z → (FitsUnsignedBits 64 z → ⊥) → NaturalRead text n most (refusing 25 n)
    natural_below f h = none (not_allowed (words_of text) n (up_to most) e.is (ap (allowed (up_to most)) here ∙ below_zero most z f h))

    module _ (f : FitsUnsignedBits 64 z) (k : ℕ) (v : k ≡ nat_abs z) where
      pub natural_above : most < k → NaturalRead text n most (refusing 25 n)
      natural_above l =
          let h : most < nat_abs z = rw v at l in
          none (not_allowed (words_of text) n (up_to most) e.is (ap (allowed (up_to most)) here ∙ too_large most z f h))

      pub natural_read : k ≤ most → NaturalRead text n most (Ok (record { value = k; next = m.next }))
      natural_read l =
          let h : nat_abs z ≤ most = rw v at l in
          let b = serves (words_of text) n (up_to most) e.is (ap (allowed (up_to most)) here ∙ within_is most z f h) in
          record {
            answers = sym (single_miss 25 n b);
            there = record { value = v ∙ ap nat_abs (sym here) ∙ sym (natural_is (words_of text) n (up_to most) b); within = l; next = e.next };
          }

-- what a verdict on one word says of it
pub word_good : (n : ℕ) (b : Bool) → sound ≡ single 25 b n → b ≡ false
word_good n b e = single_sound 25 b n (sym e)

-- a word that is no number is turned down as it is said
pub turned : {A E : Type 0} (o : Option A) (b d : E) → Err d ≡ ok_or o b → (o ≡ None) × (d ≡ b)
turned None b d e = (refl, cc)
turned (Some x) b d e = absurd (cc)

-- ---- the three counts
-- a number that was read where the cursor stands
pub natural_at_lem : (text : List ℕ) (n m most : ℕ) (r : Told Natural) → m ≡ n → NaturalRead text m most r → NaturalRead text n most r
natural_at_lem text n m most r q e = subst (λ (k : ℕ). NaturalRead text k most r) q e

three : (words : List (List ℕ)) (p : ℕ)
    → bad_from words list_count p 3
    ≡ single 25 (bad words list_count p) p
    or_else single 25 (bad words list_count (suc p)) (suc p) or_else single 25 (bad words list_count (suc (suc p))) (suc (suc p)) or_else sound
unfolding bad_from
three words p = refl

module _ (text : List ℕ) (c : Cursor) (b : Before text 1 c) where
  pub header_first : (d : Refusal) → NaturalRead text c.word 65535 (Err d) → HeaderRead text (Err d)
  header_first d e =
      let one = natural_at_lem text 1 c.word 65535 (Err d) b.number e in
      record { answers = sym (three (words_of text) 1 ∙ or_else_fault _ _ _ (sym one.answers)); there = tt }

  module _ (v : Natural) (e : NaturalRead text c.word 65535 (Ok v)) where
    one : NaturalRead text 1 65535 (Ok v)
    one = natural_at_lem text 1 c.word 65535 (Ok v) b.number e

    pub header_second : (d : Refusal) → NaturalRead text v.next.word 65535 (Err d) → HeaderRead text (Err d)
    header_second d g =
        let two = natural_at_lem text 2 v.next.word 65535 (Err d) one.there.next.number g in
        record { answers = sym (three (words_of text) 1 ∙ or_else_sound _ (sym one.answers) ∙ or_else_fault _ _ _ (sym two.answers)); there = tt }

    module _ (f : Natural) (g : NaturalRead text v.next.word 65535 (Ok f)) where
      two : NaturalRead text 2 65535 (Ok f)
      two = natural_at_lem text 2 v.next.word 65535 (Ok f) one.there.next.number g

      pub header_third : (d : Refusal) → NaturalRead text f.next.word 65535 (Err d) → HeaderRead text (Err d)
      header_third d h =
          let third = natural_at_lem text 3 f.next.word 65535 (Err d) two.there.next.number h in
          record {
            answers = sym (three (words_of text) 1 ∙ or_else_sound _ (sym one.answers) ∙ or_else_sound _ (sym two.answers)
                ∙ or_else_fault _ _ _ (sym third.answers));
            there = tt;
          }

      pub header_read : (k : Natural) → NaturalRead text f.next.word 65535 (Ok k)
          → HeaderRead text (Ok (record { next = k.next; vertices = v.value; faces = f.value }))
      header_read k h =
          let third = natural_at_lem text 3 f.next.word 65535 (Ok k) two.there.next.number h in
          record {
            answers = sym (three (words_of text) 1 ∙ or_else_sound _ (sym one.answers) ∙ or_else_sound _ (sym two.answers)
                ∙ or_else_sound _ (sym third.answers));
            there = record {
              next = third.there.next;
              vertices_are = one.there.value;
              faces_are = two.there.value;
              vertices_within = one.there.within;
              faces_within = two.there.within;
            };
          }
