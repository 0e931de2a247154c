-- L11, coordinates rearranged for the archive: each number's difference from the same axis of the vertex before, wrapping in 32 bits,
-- then the bytes of all differences, plane by plane; and the way back. The checks 30 and 31, and the two calls.
use Rattle.std.specs.Prelude.{Bool, not, List, ◌++◌, ℕ, zero, suc, ◌+◌, ◌-◌, ◌*◌, ◌/◌, ◌%◌, ◌^◌, ◌<◌, eqb, length, get_or, ℤ, pos}
use Rattle.std.specs.Int.{w32}
use Rattle.std.proofs.Common.{of_z, to_z, SFits}
use Rattle.paper.specs.Scan.{values_from}
use Rattle.paper.specs.Faults.{Verdict, ◌or_else◌, single, Answered, Answer}

-- ---- the checks, of the lengths of number list and byte list, whichever of them is lent
-- 30: the number list's length is no multiple of three
unfoldable pub fault30 : ℕ → Bool
fault30 numbers = not (eqb (numbers % 3) 0)

-- 31: the byte list is not four times as long
unfoldable pub fault31 : ℕ → ℕ → Bool
fault31 numbers bytes = not (eqb bytes (4 * numbers))

unfoldable pub archive_verdict : ℕ → ℕ → Verdict
archive_verdict numbers bytes = single 30 (fault30 numbers) numbers or_else single 31 (fault31 numbers bytes) bytes

-- ---- to the archive
-- the 32 bits of a coordinate, in two's complement: axis a of vertex v
abbrev pub bits_at : List ℤ → ℕ → ℕ → ℕ
bits_at numbers v a = of_z w32 (get_or numbers (3 * v + a) (pos 0))

-- the coordinate's difference from the same axis of the vertex before, wrapping in 32 bits; the first vertex is kept
unfoldable pub delta : List ℤ → ℕ → ℕ → ℕ
delta numbers zero a = bits_at numbers 0 a
delta numbers (suc v) a = (bits_at numbers (suc v) a + (2 ^ 32 - bits_at numbers v a)) % 2 ^ 32

-- byte k, 0 the lowest, of the difference at position i
abbrev pub byte_of : List ℤ → ℕ → ℕ → ℕ
byte_of numbers k i = delta numbers (i / 3) (i % 3) / 256 ^ k % 256

-- these bytes of all positions
abbrev pub plane : List ℤ → ℕ → List ℕ
plane numbers k = values_from (byte_of numbers k) 0 (length numbers)

-- all lowest bytes, all second bytes, all third, all highest
unfoldable pub archived : List ℤ → List ℕ
archived numbers = plane numbers 0 ++ (plane numbers 1 ++ (plane numbers 2 ++ plane numbers 3))

-- ---- and back, to n numbers
-- the difference at position i, of its four bytes
abbrev pub stored_at : List ℕ → ℕ → ℕ → ℕ
stored_at bytes n i =
    get_or bytes i 0 + 256 * get_or bytes (n + i) 0 + 256 ^ 2 * get_or bytes (2 * n + i) 0 + 256 ^ 3 * get_or bytes (3 * n + i) 0

-- the 32 bits at axis a of vertex v: those of the vertex before and the difference, summed, wrapping
unfoldable pub sum_at : List ℕ → ℕ → ℕ → ℕ → ℕ
sum_at bytes n zero a = stored_at bytes n a
sum_at bytes n (suc v) a = (sum_at bytes n v a + stored_at bytes n (3 * suc v + a)) % 2 ^ 32

abbrev pub restored_at : List ℕ → ℕ → ℕ → ℤ
restored_at bytes n i = to_z w32 (sum_at bytes n (i / 3) (i % 3))

unfoldable pub restored : List ℕ → ℕ → List ℤ
restored bytes n = values_from (restored_at bytes n) 0 n

-- ---- a call on numbers, with a lent byte list that held `old`: it writes the bytes
abbrev pub Archived : List ℤ → List ℕ → Answer → List ℕ → Type 0
Archived numbers old = Answered (archive_verdict (length numbers) (length old)) (archived numbers) old

-- and one on bytes, with a lent number list: it writes the numbers
abbrev pub Restored : List ℕ → List ℤ → Answer → List ℤ → Type 0
Restored bytes old = Answered (archive_verdict (length old) (length bytes)) (restored bytes (length old)) old

-- ---- of what lists the theorems speak: of 32-bit numbers, and of bytes
abbrev pub All32Bit : List ℤ → Type 0
All32Bit numbers = (i : ℕ) → i < length numbers → SFits w32 (get_or numbers i (pos 0))

abbrev pub AllBytes : List ℕ → Type 0
AllBytes bytes = (i : ℕ) → i < length bytes → get_or bytes i 0 < 256
