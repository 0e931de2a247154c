-- The lines of a page of the border report: 21 in words, and last the line `page`. Numbers are decimal, and a line feed ends each line.
use Rattle.std.specs.Prelude.{List, [], ◌∷◌, ◌++◌, ℕ, zero, suc, ◌+◌, ◌*◌, ◌/◌, ◌%◌, get_or}
use Rattle.streams.specs.text.Text.{decimal}

-- the texts of 0, 1 .. one after the other, n of them
unfoldable pub texts_below : (ℕ → List ℕ) → ℕ → List ℕ
texts_below text zero = []
texts_below text (suc n) = texts_below text n ++ text n

abbrev pub feed : ℕ
feed = 10

-- a word, a number and a line feed
abbrev pub named_line : List ℕ → ℕ → List ℕ
named_line word n = word ++ (decimal n ++ (feed ∷ []))

-- the words `meshes offered: `, `corners built: `, `borders met: `, `refused by `, `: `, `largest miss of condition `, ` of 13 ticks` and `page`
abbrev pub meshes_word : List ℕ
meshes_word = 109 ∷ 101 ∷ 115 ∷ 104 ∷ 101 ∷ 115 ∷ 32 ∷ 111 ∷ 102 ∷ 102 ∷ 101 ∷ 114 ∷ 101 ∷ 100 ∷ 58 ∷ 32 ∷ []

abbrev pub corners_word : List ℕ
corners_word = 99 ∷ 111 ∷ 114 ∷ 110 ∷ 101 ∷ 114 ∷ 115 ∷ 32 ∷ 98 ∷ 117 ∷ 105 ∷ 108 ∷ 116 ∷ 58 ∷ 32 ∷ []

abbrev pub borders_word : List ℕ
borders_word = 98 ∷ 111 ∷ 114 ∷ 100 ∷ 101 ∷ 114 ∷ 115 ∷ 32 ∷ 109 ∷ 101 ∷ 116 ∷ 58 ∷ 32 ∷ []

abbrev pub refused_by_word : List ℕ
refused_by_word = 114 ∷ 101 ∷ 102 ∷ 117 ∷ 115 ∷ 101 ∷ 100 ∷ 32 ∷ 98 ∷ 121 ∷ 32 ∷ []

abbrev pub colon : List ℕ
colon = 58 ∷ 32 ∷ []

abbrev pub miss_word : List ℕ
miss_word =
    108 ∷ 97 ∷ 114 ∷ 103 ∷ 101 ∷ 115 ∷ 116 ∷ 32 ∷ 109 ∷ 105 ∷ 115 ∷ 115 ∷ 32 ∷ 111 ∷ 102 ∷ 32 ∷ 99 ∷ 111 ∷ 110 ∷ 100 ∷ 105 ∷ 116 ∷ 105 ∷ 111 ∷ 110 ∷ 32 ∷ []

abbrev pub limit_word : List ℕ
limit_word = 32 ∷ 111 ∷ 102 ∷ 32 ∷ 49 ∷ 51 ∷ 32 ∷ 116 ∷ 105 ∷ 99 ∷ 107 ∷ 115 ∷ 10 ∷ []

abbrev pub page_word : List ℕ
page_word = 112 ∷ 97 ∷ 103 ∷ 101 ∷ []

-- the meshes refused by a number; the line of 1 is that of the number after the first three
abbrev pub refused_by_line : ℕ → ℕ → List ℕ
refused_by_line number n = refused_by_word ++ (decimal number ++ named_line colon n)

abbrev pub refusals_line : List ℕ → ℕ → List ℕ
refusals_line numbers l = refused_by_line (l + 1) (get_or numbers (3 + l) 0)

-- a miss, a whole number over 2^30, in thousandths of a tick, halves up; and thousandths with a point
abbrev pub thousandths : ℕ → ℕ
thousandths miss = 1000 * (miss / 1073741824) + (1000 * (miss % 1073741824) + 536870912) / 1073741824

abbrev pub digit : ℕ → List ℕ
digit n = (48 + n) ∷ []

abbrev pub in_ticks : ℕ → List ℕ
in_ticks n = decimal (n / 1000) ++ ((46 ∷ []) ++ (digit (n / 100 % 10) ++ (digit (n / 10 % 10) ++ digit (n % 10))))

-- the largest miss of a condition; that of the first is number 17
abbrev pub miss_line : ℕ → ℕ → List ℕ
miss_line condition miss = miss_word ++ (decimal condition ++ (colon ++ (in_ticks (thousandths miss) ++ limit_word)))

abbrev pub condition_line : List ℕ → ℕ → List ℕ
condition_line numbers j = miss_line (j + 1) (get_or numbers (17 + j) 0)

-- a number with a space before it, and the line of all
abbrev pub spaced : ℕ → List ℕ
spaced n = (32 ∷ []) ++ decimal n

abbrev pub spaced_number : List ℕ → ℕ → List ℕ
spaced_number numbers i = spaced (get_or numbers i 0)

abbrev pub page_line : List ℕ → List ℕ
page_line numbers = page_word ++ (texts_below (spaced_number numbers) 21 ++ (feed ∷ []))

-- all lines of a page with these numbers
unfoldable pub page_lines : List ℕ → List ℕ
page_lines numbers =
    named_line meshes_word (get_or numbers 0 0)
    ++ (named_line corners_word (get_or numbers 1 0)
    ++ (named_line borders_word (get_or numbers 2 0)
    ++ (texts_below (refusals_line numbers) 13 ++ (refused_by_line 28 (get_or numbers 16 0) ++ (texts_below (condition_line numbers) 4 ++ page_line numbers)))))
