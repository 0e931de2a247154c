-- Examples of L6, with values worked out apart: words (each word's bytes, then -1), numbers (none where a word is no number), and
-- texts: number and place, marked by -1 before them, or the four lengths and then the four lists.
use mathlib.Core.Bool.{cond}
use mathlib.Core.List.{List, [], ◌∷◌, ◌++◌}
use Prim.Native.Nat.{ℕ}
use Prim.Native.Char.{code}
use Prim.Native.String.{String}
use Prim.Native.String as S
use lib.IntN.{ℤ, pos, neg_ℤ}
use lib.ListN.{length, replicate}
use Rattle.paper.specs.Scan.{first_from, first_below, some_below, count_below, iterate, values_from}
use Rattle.paper.specs.Mesh.{Mesh, four}
use Rattle.paper.specs.Corners.{sum_of, face_of, start_of, first_of, sides_of, next, previous}
use Rattle.paper.specs.Links.{leaves_to, arrives_from, linked, link, same_edge, reverse_edge, names, valence, lowest}
use Rattle.paper.specs.Faults.{Verdict, sound, fault, ◌or_else◌, single, lowest_of, fault4, fault27}
use Rattle.paper.specs.Faults.{fault5, fault6, fault7, fault8, fault28, same_vertex_from, fault9, fault10}
use Rattle.paper.specs.Faults.{fault11, fault12, after, ring_length, met, fault13, list_faults, link_faults, verdict}
use Rattle.paper.specs.Off.{separates, comments, uncommented, pieces_of, words_of, is_number, value_after, value_of, bad, value_at, natural_at, end_from, words_end}
use Rattle.paper.specs.Off.{bad_from, bad_faces, needed_verdict, sides_from, corners_from, words_mesh, is_off, short, fault24, fault26, words_verdict, off_verdict}
use Rattle.paper.specs.Off.{text_mesh}
use Rattle.paper.specs.Examples.{Row, ◌gives◌, AllGive}
use Rattle.paper.proofs.ExampleRows.{same, all_same, agree}

-- a quoted text as its bytes
abbrev bytes : String → List ℕ
bytes S.[] = []
bytes (S.◌∷◌ c s) = code c ∷ bytes s

abbrev neg : ℕ → ℤ
neg n = neg_ℤ (pos n)

abbrev nats : List ℕ → List ℤ
nats [] = []
nats (n ∷ l) = pos n ∷ nats l

abbrev refusal : ℕ → ℕ → List ℤ
refusal number place = neg 1 ∷ pos number ∷ pos place ∷ []

abbrev told : Verdict → List ℤ → List ℤ
told sound numbers = numbers
told (fault number place) numbers = refusal number place

abbrev lengths_in : Mesh → List ℕ
lengths_in M = length M.coordinates ∷ length M.sides ∷ length M.corners ∷ length M.sharpness ∷ []

abbrev flat : List (List ℕ) → List ℤ
flat [] = []
flat (word ∷ words) = nats word ++ (neg 1 ∷ flat words)

abbrev number : String → List ℤ
number s = cond (is_number (bytes s)) (value_of (bytes s) ∷ []) []

abbrev lists_of : Mesh → List ℤ
lists_of M = nats (lengths_in M) ++ (M.coordinates ++ (nats M.sides ++ (nats M.corners ++ nats M.sharpness)))

-- with lent lists of these lengths, and with just enough
abbrev off_in : ℕ → ℕ → ℕ → ℕ → String → List ℤ
off_in coordinates sides corners sharpness s = told (off_verdict (bytes s) (four coordinates sides corners sharpness)) (lists_of (text_mesh (bytes s)))

abbrev off : String → List ℤ
off s = off_in 6144 4096 8192 16384 s

-- 8 and 8 throughout
abbrev eights : ℕ → List ℤ
eights n = replicate n (pos 8)

off_table : List Row
off_table =
    -- words: every separator, comments in the middle of a word, over a # and at the end
    (flat (words_of (bytes "")) gives [])
    ∷ (flat (words_of (bytes "#")) gives [])
    ∷ (flat (words_of (bytes " \t\r\n")) gives [])
    ∷ (flat (words_of (bytes "ab")) gives pos 97 ∷ pos 98 ∷ neg 1 ∷ [])
    ∷ (flat (words_of (bytes "a b\tc\rd\ne")) gives pos 97 ∷ neg 1 ∷ pos 98 ∷ neg 1 ∷ pos 99 ∷ neg 1 ∷ pos 100 ∷ neg 1 ∷ pos 101 ∷ neg 1 ∷ [])
    ∷ (flat (words_of (bytes "12#x\n3")) gives pos 49 ∷ pos 50 ∷ neg 1 ∷ pos 51 ∷ neg 1 ∷ [])
    ∷ (flat (words_of (bytes "1#2#3\r4\n#\n#5\n6#")) gives pos 49 ∷ neg 1 ∷ pos 54 ∷ neg 1 ∷ [])
    ∷ (flat (words_of (bytes "a\u{b}b")) gives pos 97 ∷ pos 11 ∷ pos 98 ∷ neg 1 ∷ [])
    ∷ (flat (words_of (bytes "##\n\n#a b\n c")) gives pos 99 ∷ neg 1 ∷ [])
    -- numbers
    ∷ (number "0" gives pos 0 ∷ [])
    ∷ (number "-0" gives pos 0 ∷ [])
    ∷ (number "7" gives pos 7 ∷ [])
    ∷ (number "-7" gives neg 7 ∷ [])
    ∷ (number "007" gives pos 7 ∷ [])
    ∷ (number "123456789" gives pos 123456789 ∷ [])
    ∷ (number "-123456789" gives neg 123456789 ∷ [])
    ∷ (number "1234567890" gives [])
    ∷ (number "0000000001" gives [])
    ∷ (number "-0000000001" gives [])
    ∷ (number "-000000001" gives neg 1 ∷ [])
    ∷ (number "" gives [])
    ∷ (number "-" gives [])
    ∷ (number "--1" gives [])
    ∷ (number "+5" gives [])
    ∷ (number "1.0" gives [])
    ∷ (number "1e3" gives [])
    ∷ (number "1-" gives [])
    ∷ (number "a" gives [])
    ∷ (number "12a" gives [])
    ∷ (number "/" gives [])
    ∷ (number "9:" gives [])
    -- a tetrahedron; with comments and separators of all kinds; with -0, leading zeros and any edge count
    ∷ (off "OFF 4 4 6 0 0 0 1 0 0 0 1 0 0 0 1 3 0 2 1 3 0 1 3 3 1 2 3 3 0 3 2" gives pos 12 ∷ pos 4 ∷ pos 12 ∷ pos 24 ∷ pos 0 ∷ pos 0 ∷ pos 0 ∷ pos 1
    ∷ pos 0 ∷ pos 0 ∷ pos 0 ∷ pos 1 ∷ pos 0 ∷ pos 0 ∷ pos 0 ∷ pos 1 ∷ pos 3 ∷ pos 3 ∷ pos 3 ∷ pos 3 ∷ pos 0 ∷ pos 2 ∷ pos 1 ∷ pos 0 ∷ pos 1
    ∷ pos 3 ∷ pos 1 ∷ pos 2 ∷ pos 3 ∷ pos 0 ∷ pos 3 ∷ pos 2 ∷ eights 24)
    ∷ (off "#c\n OFF#OFF\n4#4\n\t4\r6 # 7 8\n0 0 0 1 0 0 0 1 0 0 0 1\r\n3 0 2 1#3\n3 0 1 3 3 1 2 3\n\n3 0 3 2#" gives pos 12 ∷ pos 4 ∷ pos 12
    ∷ pos 24 ∷ pos 0 ∷ pos 0 ∷ pos 0 ∷ pos 1 ∷ pos 0 ∷ pos 0 ∷ pos 0 ∷ pos 1 ∷ pos 0 ∷ pos 0 ∷ pos 0 ∷ pos 1 ∷ pos 3 ∷ pos 3 ∷ pos 3 ∷ pos 3 ∷ pos 0
    ∷ pos 2 ∷ pos 1 ∷ pos 0 ∷ pos 1 ∷ pos 3 ∷ pos 1 ∷ pos 2 ∷ pos 3 ∷ pos 0 ∷ pos 3 ∷ pos 2 ∷ eights 24)
    ∷ (off "OFF 004 4 65535 -0 0 -65536 1 0 65536 0 000000001 0 0 0 1 03 -0 2 1 3 0 1 3 3 1 2 3 3 0 3 2" gives pos 12 ∷ pos 4 ∷ pos 12 ∷ pos 24 ∷ pos 0
    ∷ pos 0 ∷ neg 65536 ∷ pos 1 ∷ pos 0 ∷ pos 65536 ∷ pos 0 ∷ pos 1 ∷ pos 0 ∷ pos 0 ∷ pos 0 ∷ pos 1 ∷ pos 3 ∷ pos 3 ∷ pos 3 ∷ pos 3 ∷ pos 0
    ∷ pos 2 ∷ pos 1 ∷ pos 0 ∷ pos 1 ∷ pos 3 ∷ pos 1 ∷ pos 2 ∷ pos 3 ∷ pos 0 ∷ pos 3 ∷ pos 2 ∷ eights 24)
    -- 24: short lent lists, whatever the text; the first word
    ∷ (off_in 6143 4096 8192 16384 "OFF 4 4 6 0 0 0 1 0 0 0 1 0 0 0 1 3 0 2 1 3 0 1 3 3 1 2 3 3 0 3 2" gives refusal 24 0)
    ∷ (off_in 6144 4095 8192 16384 "OFF 4 4 6 0 0 0 1 0 0 0 1 0 0 0 1 3 0 2 1 3 0 1 3 3 1 2 3 3 0 3 2" gives refusal 24 0)
    ∷ (off_in 6144 4096 8191 16384 "OFF 4 4 6 0 0 0 1 0 0 0 1 0 0 0 1 3 0 2 1 3 0 1 3 3 1 2 3 3 0 3 2" gives refusal 24 0)
    ∷ (off_in 6144 4096 8192 16383 "OFF 4 4 6 0 0 0 1 0 0 0 1 0 0 0 1 3 0 2 1 3 0 1 3 3 1 2 3 3 0 3 2" gives refusal 24 0)
    ∷ (off_in 0 0 0 0 "" gives refusal 24 0)
    ∷ (off_in 7000 5000 9000 17000 "OFF 4 4 6 0 0 0 1 0 0 0 1 0 0 0 1 3 0 2 1 3 0 1 3 3 1 2 3 3 0 3 2 1" gives refusal 26 32)
    ∷ (off "" gives refusal 24 0)
    ∷ (off "# OFF\n" gives refusal 24 0)
    ∷ (off "off 0 0 0" gives refusal 24 0)
    ∷ (off "OFFX 0 0 0" gives refusal 24 0)
    ∷ (off "OFX 0 0 0" gives refusal 24 0)
    ∷ (off "OXF 0 0 0" gives refusal 24 0)
    ∷ (off "XFF 0 0 0" gives refusal 24 0)
    ∷ (off "OF#F\n" gives refusal 24 0)
    ∷ (off "OFF\u{b}" gives refusal 24 0)
    ∷ (off "1 OFF" gives refusal 24 0)
    -- 25: missing words, what is no such number, negative, too large
    ∷ (off "OFF" gives refusal 25 1)
    ∷ (off "OFF 4 4" gives refusal 25 3)
    ∷ (off "OFF 4 x" gives refusal 25 2)
    ∷ (off "OFF -1 0 0" gives refusal 25 1)
    ∷ (off "OFF 1 -0 -0" gives refusal 25 4)
    ∷ (off "OFF 65536 0 0" gives refusal 25 1)
    ∷ (off "OFF 0 0 65536" gives refusal 25 3)
    ∷ (off "OFF 0 0 -1" gives refusal 25 3)
    ∷ (off "OFF 1 0 0 1 2" gives refusal 25 6)
    ∷ (off "OFF 1 0 0 1 2 x" gives refusal 25 6)
    ∷ (off "OFF 1 0 0 1 2 0000000003" gives refusal 25 6)
    ∷ (off "OFF 1 0 0 1 2 3.0" gives refusal 25 6)
    ∷ (off "OFF 0 1 0 256" gives refusal 25 4)
    ∷ (off "OFF 0 1 0 255" gives refusal 25 5)
    ∷ (off "OFF 0 1 0 -1" gives refusal 25 4)
    ∷ (off "OFF 0 1 0 3 0 -1 2" gives refusal 25 6)
    ∷ (off "OFF 0 1 0 3 0 1 65536" gives refusal 25 7)
    ∷ (off "OFF 0 2 0 1 65535" gives refusal 25 6)
    ∷ (off "OFF 0 2 0 0 1 +1 x" gives refusal 25 6)
    ∷ (off "OFF 1#2\n 0" gives refusal 25 3)
    ∷ (off "OFF 4 4 6 0 0 0 1 0 0 0 1 0 0 0 1 3 0 2 1 3 0 1 3 3 1 2 3 3 0 3" gives refusal 25 31)
    ∷ (off "OFF 4 4 6 0 0 0 1 0 0 0 1 0 0 0 1 3 0 2 1 3 0 1 3 3 1 2 3 3 0 3 #2" gives refusal 25 31)
    -- 26: a word after the last face
    ∷ (off "OFF 0 0 0 0" gives refusal 26 4)
    ∷ (off "OFF 0 0 0 x y" gives refusal 26 4)
    ∷ (off "OFF 0 1 0 2 5 6 7" gives refusal 26 7)
    ∷ (off "OFF 1 0 0 1 2 3 4" gives refusal 26 7)
    ∷ (off "OFF 4 4 6 0 0 0 1 0 0 0 1 0 0 0 1 3 0 2 1 3 0 1 3 3 1 2 3 3 0 3 2 0" gives refusal 26 32)
    ∷ (off "OFF 4 4 6 0 0 0 1 0 0 0 1 0 0 0 1 3 0 2 1 3 0 1 3 3 1 2 3 3 0 3 2#0" gives pos 12 ∷ pos 4 ∷ pos 12 ∷ pos 24 ∷ pos 0 ∷ pos 0 ∷ pos 0 ∷ pos 1
    ∷ pos 0 ∷ pos 0 ∷ pos 0 ∷ pos 1 ∷ pos 0 ∷ pos 0 ∷ pos 0 ∷ pos 1 ∷ pos 3 ∷ pos 3 ∷ pos 3 ∷ pos 3 ∷ pos 0 ∷ pos 2 ∷ pos 1 ∷ pos 0 ∷ pos 1
    ∷ pos 3 ∷ pos 1 ∷ pos 2 ∷ pos 3 ∷ pos 0 ∷ pos 3 ∷ pos 2 ∷ eights 24)
    -- then 4 to 13
    ∷ (off "OFF 0 0 0" gives refusal 4 0)
    ∷ (off "OFF 1 1 0 0 0 0 0" gives refusal 4 0)
    ∷ (off "OFF 1 0 0 1 2 999999999" gives refusal 4 0)
    ∷ (off "OFF 1 1 0 0 0 -999999999 3 0 0 0" gives refusal 7 2)
    ∷ (off "OFF 1 2 0 0 0 0 2 0 0 3 0 0 0" gives refusal 5 0)
    ∷ (off "OFF 1 1 0 0 0 65537 3 0 0 0" gives refusal 7 2)
    ∷ (off "OFF 3 1 0 0 0 0 0 0 0 0 0 0 3 0 1 3" gives refusal 8 2)
    ∷ (off "OFF 3 1 0 0 0 0 0 0 0 0 0 0 3 0 1 0" gives refusal 9 2)
    ∷ (off "OFF 3 1 0 0 0 0 0 0 0 0 0 0 3 0 1 2" gives refusal 11 0)
    ∷ []

off_examples : AllGive off_table
unfolding off_table all_same same first_from first_below some_below count_below iterate sum_of face_of start_of first_of sides_of next previous
    leaves_to arrives_from linked link values_from same_edge reverse_edge names valence lowest ◌or_else◌ single lowest_of fault4 fault27 fault5
    fault6 fault7 fault8 fault28 same_vertex_from fault9 fault10 fault11 fault12 after ring_length met fault13 list_faults link_faults verdict
    separates comments uncommented pieces_of words_of is_number value_after value_of bad value_at natural_at end_from words_end bad_from bad_faces
    needed_verdict sides_from corners_from words_mesh is_off short fault24 fault26 words_verdict off_verdict text_mesh
off_examples = agree off_table tt
