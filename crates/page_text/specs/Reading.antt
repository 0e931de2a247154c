-- The line `page` read back: which lines have its form, and the numbers that they hold.
use Rattle.std.specs.Prelude.{◌≡◌, List, [], ◌∷◌, ◌++◌, ℕ, ◌+◌, ◌*◌, ◌-◌, ◌<◌, ◌≤◌, length, drop, Option, Some, None, IfSome}
use Rattle.page_text.specs.declared.ReadNumber.{ReadNumber}

-- the largest number that is read: it has one digit more than the largest number to which a digit is appended
abbrev pub most_read : ℕ
most_read = 18446744073709551609

-- a digit, from 0 to 9
abbrev pub Digit : ℕ → Type 0
Digit byte = (48 ≤ byte) × (byte ≤ 57)

unfoldable pub Digits : List ℕ → Type 0
Digits [] = Unit {0}
Digits (byte ∷ text) = Digit byte × Digits text

-- no digit stands first
unfoldable pub NoDigit : List ℕ → Type 0
NoDigit [] = Unit {0}
NoDigit (byte ∷ text) = Digit byte → ⊥

-- the number that digits make, the first one first, after those that make n
unfoldable pub value_after : ℕ → List ℕ → ℕ
value_after n [] = n
value_after n (byte ∷ text) = value_after (10 * n + (byte - 48)) text

-- a number in decimal, before which zeros may stand
pub record Decimal (text : List ℕ) (n : ℕ) : Type 0 where
  pub some : 0 < length text
  pub digits : Digits text
  pub value : value_after 0 text ≡ n
  pub within : n ≤ most_read

-- these numbers, with a space before each
unfoldable pub Spaced : List ℕ → List ℕ → Type 0
Spaced text [] = text ≡ []
Spaced text (n ∷ numbers) = (digits : List ℕ) × (rest : List ℕ) × (text ≡ 32 ∷ (digits ++ rest)) × Decimal digits n × Spaced rest numbers

-- the line `page` with these numbers, without its line feed; its first four bytes are any: the caller has seen that they are `page`
pub record PageForm (line numbers : List ℕ) : Type 0 where
  pub all : length numbers ≡ 21
  pub form : Spaced (drop 4 line) numbers

-- r is some numbers where a line has this form, and they are its numbers
pub record PageRead (line : List ℕ) (r : Option (List ℕ)) : Type 0 where
  pub says : IfSome r (λ numbers. PageForm line numbers)
  pub said : (numbers : List ℕ) → PageForm line numbers → r ≡ Some numbers

-- ---- one number
-- digits from a place on to another, which make a value
pub record DigitsPassed (line : List ℕ) (from at value : ℕ) : Type 0 where
  pub passed : List ℕ
  pub split : drop from line ≡ passed ++ drop at line
  pub digits : Digits passed
  pub value_is : value_after 0 passed ≡ value
  pub onward : at ≡ from + length passed
  pub inside : at ≤ length line
  pub within : value ≤ most_read

-- all digits from a place on were read, unless their number is too large
pub record DigitsRead (line : List ℕ) (from : ℕ) (r : Option ReadNumber) : Type 0 where
  pub found : IfSome r (λ n. DigitsPassed line from n.end n.value × NoDigit (drop n.end line))
  pub none : r ≡ None → (digits rest : List ℕ) → drop from line ≡ digits ++ rest → Digits digits → NoDigit rest → most_read < value_after 0 digits

-- a space and the number after it were read
pub record SpacedFound (line : List ℕ) (at end value : ℕ) : Type 0 where
  pub text : List ℕ
  pub split : drop at line ≡ 32 ∷ (text ++ drop end line)
  pub decimal : Decimal text value
  pub ends : NoDigit (drop end line)
  pub inside : end ≤ length line

pub record SpacedRead (line : List ℕ) (at : ℕ) (r : Option ReadNumber) : Type 0 where
  pub found : IfSome r (λ n. SpacedFound line at n.end n.value)
  pub none : r ≡ None → (digits rest : List ℕ) (n : ℕ) → drop at line ≡ 32 ∷ (digits ++ rest) → Decimal digits n → NoDigit rest → ⊥
