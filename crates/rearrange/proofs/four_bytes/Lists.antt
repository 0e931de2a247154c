-- Four-byte numbers put into a list one after the other.
use mathlib.Core.Path.{◌≡◌, refl, sym, ap, ◌∙◌, subst}
use mathlib.Core.List.{List, [], ◌∷◌, ◌++◌}
use Prim.Native.Nat.{ℕ, ◌+◌, ◌-◌, ◌*◌, ◌/◌, ◌%◌, ◌^◌, ◌<◌, ◌≤◌}
use native.Mathlib.Omega.{arith}
use Rattle.std.proofs.lemmas.List.{get_or-append_right, get_or_append_left, get_or-take}
use borrow.Rule.Slice.PartMut.{put_mid}
use lib.ListN.{length, get_or, take, drop, length-append, length-take, length-drop}
use lib.IntN.{ℤ, pos}
use mir.Syntax.{w32}
use mir.Val.{of_z}
use Rattle.paper.specs.File.{word_at}
use Rattle.mesh.proofs.ByCases.{by_equal, less_one}
use Rattle.rearrange.proofs.laws.Words.{four_bytes}
use Rattle.rearrange.specs.four_bytes.Words.{NumbersStored}

-- the bytes of d, low byte first
abbrev pub bytes_of : ℕ → List ℕ
bytes_of d = d % 256 ∷ d / 256 % 256 ∷ d / 65536 % 256 ∷ d / 16777216 % 256 ∷ []

-- put in the place of four
module _ (l : List ℕ) (at n d : ℕ) (q : n ≡ 4) (room : at + 4 ≤ length l) (h : d < 2 ^ 32) where
  abbrev put : List ℕ
  put = put_mid at n l (bytes_of d)

  put_long : length put ≡ length l
  put_long = simp (length-append, length-take, length-drop) (omega arith)

  byte_at_lem : (i j : ℕ) → i ≡ at + j → j < 4 → get_or put i 0 ≡ get_or (bytes_of d) j 0
  byte_at_lem i j e k =
      get_or-append_right (take at l) (bytes_of d ++ drop n (drop at l)) at i 0 (simp length-take (omega arith)) (omega arith)
      ∙ get_or_append_left (bytes_of d) (drop n (drop at l)) 0 (i - at) (omega arith)
      ∙ ap (λ (x : ℕ). get_or (bytes_of d) x 0) (omega arith)

  -- the word at the place
  word_is : word_at put at ≡ d
  word_is =
      omega (
        arith,
        byte_at_lem at 0 (omega arith) (omega arith),
        byte_at_lem (at + 1) 1 refl (omega arith),
        byte_at_lem (at + 2) 2 refl (omega arith),
        byte_at_lem (at + 2 + 1) 3 (omega arith) (omega arith),
        four_bytes d h,
      )

  -- and the words before it
  word_kept : (j : ℕ) → j + 3 < at → word_at put j ≡ word_at l j
  word_kept j k =
      let b = below in
      rw (b j (omega arith), b (j + 1) (omega arith), b (j + 2) (omega arith), b (j + 2 + 1) (omega arith))
    where
      below : (i : ℕ) → i < at → get_or put i 0 ≡ get_or l i 0
      below i h =
          get_or_append_left (take at l) (bytes_of d ++ drop n (drop at l)) 0 i (simp length-take (omega arith)) ∙ get_or-take at l i 0 h

module _ (numbers : List ℤ) where
  pub worded_none : (bytes : List ℕ) → length bytes ≡ 4 * length numbers → NumbersStored numbers 0 bytes
  worded_none bytes e = record { long = e; words = λ j h. absurd (omega arith) }

  pub worded_step : (i n d : ℕ) (bytes part : List ℕ) → i < length numbers → n ≡ 4 → d < 2 ^ 32 → d ≡ of_z w32 (get_or numbers i (pos 0))
      → part ≡ bytes_of d → NumbersStored numbers i bytes → NumbersStored numbers (i + 1) (put_mid (4 * i) n bytes part)
  worded_step i n d bytes part h q b e p w =
      let r : 4 * i + 4 ≤ length bytes = omega (arith, w.long) in
      let out = put bytes (4 * i) n d q r b in
      rw p
      (record {
        long = put_long bytes (4 * i) n d q r b ∙ w.long;
        words = λ j k. by_equal j i
            (λ s. subst (λ (x : ℕ). word_at out (4 * x) ≡ of_z w32 (get_or numbers x (pos 0))) (sym s) (word_is bytes (4 * i) n d q r b ∙ e))
            (λ s. let l = less_one j i k s in word_kept bytes (4 * i) n d q r b (4 * j) (omega arith) ∙ w.words j l);
      })
