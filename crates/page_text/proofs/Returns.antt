-- The line `page` that `put_page` writes is read back as its numbers.
use mathlib.Core.Path.{◌≡◌, refl, sym, ap, subst, ◌∙◌}
use Rattle.std.specs.Prelude.{Option, Some}
use mathlib.Core.Bool.{true, false}
use mathlib.Core.List.{List, [], ◌∷◌, ◌++◌, append_assoc, append-nil}
use mathlib.Core.Logic.{⊎_elim}
use Prim.Native.Nat.{ℕ, zero, suc, ◌+◌, ◌*◌, ◌-◌, ◌/◌, ◌%◌, ◌^◌, ◌<◌, ◌≤◌}
use native.Mathlib.Nat.{pow-succ'}
use native.Mathlib.Omega.{arith}
use lib.Dec.{ltb}
use lib.ListN.{length, take, drop, get_or, length-append}
use lib.Seq.{take-suc, take_all, take-append_seam}
use borrow.Author.Tests.{ltb-true}
use Rattle.mesh.proofs.Scans.{ways}
use Rattle.streams.specs.text.Text.{decimal_within, decimal}
use Rattle.page_text.specs.Lines.{texts_below, feed, page_word, spaced_number, page_line}
use Rattle.page_text.specs.Reading.{most_read, Digits, value_after, Decimal, Spaced, PageRead}
use Rattle.page_text.proofs.Digits.{one_digit_more, value_append}

-- ---- a decimal number is read as itself
decimal_digits : (k n : ℕ) → Digits (decimal_within k n)
unfolding decimal_within Digits
decimal_digits zero n = tt
decimal_digits (suc k) n = ⊎_elim few (many (decimal_digits k (n / 10))) (ways (ltb n 10))
  where
    few : ltb n 10 ≡ true → Digits (decimal_within (suc k) n)
    few e = let l = ltb-true n 10 e in rw e ((omega arith, omega arith), tt)

    many : Digits (decimal_within k (n / 10)) → ltb n 10 ≡ false → Digits (decimal_within (suc k) n)
    many d e = rw e (one_digit_more (decimal_within k (n / 10)) (48 + n % 10) d (omega arith, omega arith))

decimal_value : (k n : ℕ) → n < 10 ^ k → value_after 0 (decimal_within k n) ≡ n
unfolding decimal_within value_after
decimal_value zero n h = omega arith
decimal_value (suc k) n h = ⊎_elim few (many (λ l. decimal_value k (n / 10) l)) (ways (ltb n 10))
  where
    few : ltb n 10 ≡ true → value_after 0 (decimal_within (suc k) n) ≡ n
    few e = rw e (omega arith)

    many : (n / 10 < 10 ^ k → value_after 0 (decimal_within k (n / 10)) ≡ n / 10) → ltb n 10 ≡ false → value_after 0 (decimal_within (suc k) n) ≡ n
    many below e =
        let p = pow-succ' 10 k in
        let v = below (omega arith) in
        let w = value_append 0 (decimal_within k (n / 10)) ((48 + n % 10) ∷ []) in
        rw e (w ∙ ap (λ (m : ℕ). 10 * m + (48 + n % 10 - 48)) v ∙ omega arith)

decimal_some : (k n : ℕ) → 0 < length (decimal_within (suc k) n)
unfolding decimal_within
decimal_some k n = ⊎_elim (λ e. rw e (omega arith)) (λ e. let l = length-append (decimal_within k (n / 10)) ((48 + n % 10) ∷ []) in rw e (omega arith))
    (ways (ltb n 10))

decimal_read : (n : ℕ) → n ≤ most_read → Decimal (decimal n) n
decimal_read n h =
    let l : n < 100000000000000000000 = omega arith in
    record { some = decimal_some 19 n; digits = decimal_digits 20 n; value = decimal_value 20 n l; within = h }

-- ---- numbers with a space before each
one_number_more : (text numbers : List ℕ) (n : ℕ) (digits : List ℕ) → Spaced text numbers → Decimal digits n
    → Spaced (text ++ (32 ∷ digits)) (numbers ++ (n ∷ []))
unfolding Spaced
one_number_more text [] n digits s d =
    (digits, [], ap (λ (l : List ℕ). l ++ (32 ∷ digits)) s ∙ ap (λ (l : List ℕ). 32 ∷ l) (sym (append-nil digits)), d, refl)
one_number_more text (m ∷ numbers) n digits s d = (
  s.0,
  s.1 ++ (32 ∷ digits),
  ap (λ (l : List ℕ). l ++ (32 ∷ digits)) s.2 ∙ ap (λ (l : List ℕ). 32 ∷ l) (append_assoc s.0 s.1 (32 ∷ digits)),
  s.3,
  one_number_more s.1 numbers n digits s.4 d,
)

module _ (numbers : List ℕ) (all : length numbers ≡ 21) (small : (i : ℕ) → i < 21 → get_or numbers i 0 ≤ most_read) where
  texts_spaced : (i : ℕ) → i ≤ 21 → Spaced (texts_below (spaced_number numbers) i) (take i numbers)
  unfolding Spaced texts_below
  texts_spaced zero h = refl
  texts_spaced (suc i) h =
      let n = get_or numbers i 0 in
      subst (Spaced (texts_below (spaced_number numbers) (suc i))) (sym (take-suc numbers i 0 (omega arith)))
      (one_number_more (texts_below (spaced_number numbers) i) (take i numbers) n (decimal n) (texts_spaced i (omega arith)) (decimal_read n (small i h)))

  module _ (line : List ℕ) (written : line ++ (feed ∷ []) ≡ page_line numbers) where
    texts : List ℕ
    texts = texts_below (spaced_number numbers) 21

    without_feed : line ≡ page_word ++ texts
    unfolding texts
    without_feed =
        let e : line ++ (feed ∷ []) ≡ (page_word ++ texts) ++ (feed ∷ []) = written ∙ sym (append_assoc page_word texts (feed ∷ [])) in
        let l : length line ≡ length (page_word ++ texts) = omega (
          arith,
          ap length e,
          length-append line (feed ∷ []),
          length-append (page_word ++ texts) (feed ∷ []),
        ) in
        sym (take-append_seam line (feed ∷ [])) ∙ ap (take (length line)) e ∙ ap (λ (n : ℕ). take n ((page_word ++ texts) ++ (feed ∷ []))) l
        ∙ take-append_seam (page_word ++ texts) (feed ∷ [])

    -- what `read_numbers` answers on the line, without its line feed
    pub reads_back : (r : Option (List ℕ)) → PageRead line r → r ≡ Some numbers
    unfolding texts
    reads_back r p =
        p.said numbers
        (record {
          all = all;
          form = subst (λ (l : List ℕ). Spaced l numbers) (sym (ap (drop 4) without_feed))
              (subst (Spaced texts) (take_all 21 numbers (omega arith)) (texts_spaced 21 (omega arith)));
        })
