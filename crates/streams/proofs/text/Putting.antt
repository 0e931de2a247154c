-- Text put into a buffer: nothing, one byte, a text after a text, a word byte by byte, and a text that has room.
use mathlib.Core.Path.{◌≡◌, refl, sym, ap, subst, ◌∙◌}
use mathlib.Core.List.{List, [], ◌∷◌, ◌++◌, append_assoc, append-nil}
use Prim.Native.Nat.{ℕ, zero, suc, ◌+◌, ◌-◌, ◌<◌, ◌≤◌}
use native.Mathlib.Numerals.{add-one}
use native.Mathlib.Omega.{arith}
use lib.ListN.{length, take, drop, set, get_or, length-append, length-set}
use lib.Seq.{take_all, take-suc, take-suc-set, take-append_seam, drop-drop, drop-set-lt, length-take-le}
use Rattle.streams.specs.text.Text.{Put}

take_short : (i : ℕ) (l : List ℕ) → length (take i l) ≤ length l
take_short zero l = omega arith
take_short (suc i) [] = omega arith
take_short (suc i) (x ∷ l) = let h = take_short i l in omega arith

-- cutting twice at the same place
cut_twice : (n : ℕ) (a b : List ℕ) → take n (take n a ++ b) ≡ take n (a ++ b)
cut_twice zero a b = refl
cut_twice (suc n) [] b = refl
cut_twice (suc n) (x ∷ a) b = ap (λ (l : List ℕ). x ∷ l) (cut_twice n a b)

-- lists that agree from a place on agree from every later one on
drop_further : (a b : List ℕ) (j k : ℕ) → j ≤ k → drop j b ≡ drop j a → drop k b ≡ drop k a
drop_further a b j k h e =
    let q : j + (k - j) ≡ k = omega arith in
    subst (λ (n : ℕ). drop n b ≡ drop n a) q (sym (drop-drop (k - j) j b) ∙ ap (drop (k - j)) e ∙ drop-drop (k - j) j a)

pub put_none : (old : List ℕ) (at : ℕ) → Put old at [] old at
put_none old at =
    record {
      holds = sym (ap (take (length old)) (append-nil (take at old)) ∙ take_all (length old) (take at old) (take_short at old));
      inside = λ h. h;
      onward = omega arith;
      rest = refl;
    }

pub put_one : (old : List ℕ) (at b : ℕ) → at < length old → Put old at (b ∷ []) (set old at b) (at + 1)
put_one old at b h =
    let e = length-append (take at old) (b ∷ []) in
    let f = length-take-le at old (omega arith) in
    let g = length-set old at b in
    record {
      holds =
          ap (λ (k : ℕ). take k (set old at b)) (add-one at) ∙ take-suc-set old at b h ∙ sym (take_all (length old) (take at old ++ (b ∷ [])) (omega arith));
      inside = λ k. omega arith;
      onward = omega arith;
      rest = drop-set-lt (at + 1) old at b (omega arith);
    }

pub put_past : (old : List ℕ) (at : ℕ) (text : List ℕ) → length old ≤ at → Put old at text old at
put_past old at text h =
    let e = take_all at old h in
    record {
      holds = e ∙ sym (take-append_seam old text) ∙ ap (λ (l : List ℕ). take (length old) (l ++ text)) (sym e);
      inside = λ k. k;
      onward = omega arith;
      rest = refl;
    }

pub put_then : {a b c s t : List ℕ} {i j k : ℕ} → length b ≡ length a → Put a i s b j → Put b j t c k → Put a i (s ++ t) c k
put_then {a} {b} {c} {s} {t} {i} {j} {k} e p q =
    record {
      holds =
          q.holds
          ∙ ap (λ (n : ℕ). take n (take j b ++ t)) e
          ∙ ap (λ (l : List ℕ). take (length a) (l ++ t)) p.holds
          ∙ cut_twice (length a) (take i a ++ s) t
          ∙ ap (take (length a)) (append_assoc (take i a) s t);
      inside = λ h. q.inside (p.inside h);
      onward = let f = p.onward in let g = q.onward in omega arith;
      rest = q.rest ∙ drop_further a b j k q.onward p.rest;
    }

-- one byte more of a word
pub put_next : {a b c : List ℕ} {i j k : ℕ} (word : List ℕ) (n : ℕ) → n < length word → length b ≡ length a
    → Put a i (take n word) b j → Put b j (get_or word n 0 ∷ []) c k → Put a i (take (n + 1) word) c k
put_next {a} {b} {c} {i} {j} {k} word n h e p q =
    subst (λ (t : List ℕ). Put a i t c k) (sym (ap (λ (m : ℕ). take m word) (add-one n) ∙ take-suc word n 0 h)) (put_then e p q)

pub put_whole : {a b : List ℕ} {i j : ℕ} (word : List ℕ) (n : ℕ) → length word ≤ n → Put a i (take n word) b j → Put a i word b j
put_whole {a} {b} {i} {j} word n h p = subst (λ (t : List ℕ). Put a i t b j) (take_all n word h) p

pub put_same : {a b s t : List ℕ} {i j : ℕ} → s ≡ t → Put a i s b j → Put a i t b j
put_same {a} {b} {s} {t} {i} {j} e p = subst (λ (l : List ℕ). Put a i l b j) e p

-- a text that has room stands in the buffer as it is
pub put_fits : {a b text : List ℕ} {k : ℕ} → Put a 0 text b k → length text ≤ length a → take k b ≡ text
put_fits {a} {b} {text} {k} p h = p.holds ∙ take_all (length a) text h

-- three texts, one after the other
pub put_three : {a b c d : List ℕ} {i j k l : ℕ} (s t u : List ℕ) → length b ≡ length a → length c ≡ length b
    → Put a i s b j → Put b j t c k → Put c k u d l → Put a i (s ++ (t ++ u)) d l
put_three s t u e f p q r = put_then e p (put_then f q r)
