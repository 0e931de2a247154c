-- L6, reading OFF files: the words of a text, the numbers that they are, the lists, or why the text is turned down, and the call.
use Rattle.std.specs.Prelude.{◌≡◌, Bool, true, false, cond, not, ◌&&◌, ◌||◌, List, [], ◌∷◌, ◌++◌, ℕ, zero, suc, ◌+◌, ◌-◌, ◌*◌, leb, ltb, eqb, length, get_or, ℤ, pos, neg_ℤ, nat_abs, IfOk}
use Rattle.std.specs.Int.Signed.{le_z}
use Rattle.paper.specs.Scan.{values_from}
use Rattle.paper.specs.Mesh.{most_vertices, most_faces, most_corners, Mesh, plain_mesh, lengths_of}
use Rattle.paper.specs.Faults.{Verdict, sound, ◌or_else◌, single, outside, verdict, stated, kept, Told}
use Rattle.paper.specs.File.{into}
use Rattle.paper.specs.declared.Lengths.{Lengths}

-- ---- the words of a text, a list of bytes
-- words are parted by space, tab, carriage return and line feed
unfoldable pub separates : ℕ → Bool
separates b = eqb b 32 || (eqb b 9 || (eqb b 13 || eqb b 10))

-- a byte belongs to a comment: one has started before it, or it is #, and it is no line feed
unfoldable pub comments : Bool → ℕ → Bool
comments started b = (started || eqb b 35) && not (eqb b 10)

-- the text without its comments. Each runs to the next line feed, which stays
unfoldable pub uncommented : Bool → List ℕ → List ℕ
uncommented started [] = []
uncommented started (b ∷ text) = cond (comments started b) [] (b ∷ []) ++ uncommented (comments started b) text

-- byte b before the pieces of what follows it
abbrev pub joined : Bool → ℕ → List (List ℕ) → List (List ℕ)
joined true b pieces = [] ∷ pieces
joined false b [] = (b ∷ []) ∷ []
joined false b (piece ∷ pieces) = (b ∷ piece) ∷ pieces

-- the pieces between separators, some of them empty
unfoldable pub pieces_of : List ℕ → List (List ℕ)
pieces_of [] = [] ∷ []
pieces_of (b ∷ text) = joined (separates b) b (pieces_of text)

abbrev pub filled : List (List ℕ) → List (List ℕ)
filled [] = []
filled ([] ∷ pieces) = filled pieces
filled ((b ∷ piece) ∷ pieces) = (b ∷ piece) ∷ filled pieces

-- the words: the pieces that are not empty
unfoldable pub words_of : List ℕ → List (List ℕ)
words_of text = filled (pieces_of (uncommented false text))

-- ---- numbers: one to nine decimal digits, with an optional minus
abbrev pub is_minus : List ℕ → Bool
is_minus [] = false
is_minus (b ∷ word) = eqb b 45

abbrev pub digits_of : List ℕ → List ℕ
digits_of [] = []
digits_of (b ∷ word) = cond (eqb b 45) word (b ∷ word)

abbrev pub all_digits : List ℕ → Bool
all_digits [] = true
all_digits (b ∷ digits) = not (outside 48 57 b) && all_digits digits

unfoldable pub is_number : List ℕ → Bool
is_number word = all_digits (digits_of word) && not (outside 1 9 (length (digits_of word)))

-- the value of digits after those of value n
unfoldable pub value_after : ℕ → List ℕ → ℕ
value_after n [] = n
value_after n (b ∷ digits) = value_after (10 * n + (b - 48)) digits

-- -0 is 0
unfoldable pub value_of : List ℕ → ℤ
value_of word = cond (is_minus word) (neg_ℤ (pos (value_after 0 (digits_of word)))) (pos (value_after 0 (digits_of word)))

-- ---- what a needed word has to be: any number, or one from 0 to a largest
pub data Kind : Type 0 where
  any : Kind
  up_to : ℕ → Kind

abbrev pub coordinate : Kind
coordinate = any

abbrev pub list_count : Kind
list_count = up_to 65535

abbrev pub side_count : Kind
side_count = up_to 255

abbrev pub vertex_number : Kind
vertex_number = up_to 65535

abbrev pub allowed : Kind → ℤ → Bool
allowed any z = true
allowed (up_to most) z = le_z (pos 0) z && le_z z (pos most)

-- ---- the words by their numbers. Word 0 is OFF; 1, 2 and 3 are the counts of vertices, faces and edges
module _ (words : List (List ℕ)) where
  -- word p
  abbrev pub nth_word : ℕ → List ℕ
  nth_word p = get_or words p []

  -- word p is missing, or it is no number of this kind
  unfoldable pub bad : Kind → ℕ → Bool
  bad kind p = leb (length words) p || not (is_number (nth_word p) && allowed kind (value_of (nth_word p)))

  -- the number that word p is; 0 where it is bad, which no list of an accepted text has
  unfoldable pub value_at : Kind → ℕ → ℤ
  value_at kind p = cond (bad kind p) (pos 0) (value_of (nth_word p))

  unfoldable pub natural_at : Kind → ℕ → ℕ
  natural_at kind p = nat_abs (value_at kind p)

  abbrev pub vertices : ℕ
  vertices = natural_at list_count 1

  abbrev pub faces : ℕ
  faces = natural_at list_count 2

  -- the vertices' words are 4 and on, and the faces' words these and on
  abbrev pub faces_start : ℕ
  faces_start = 4 + 3 * vertices

  -- a face's words at p are its side count and as many vertex numbers; then come the next face's
  abbrev pub sides_at : ℕ → ℕ
  sides_at p = natural_at side_count p

  abbrev pub face_after : ℕ → ℕ
  face_after p = p + 1 + sides_at p

  -- where the words of so many faces from p on end
  unfoldable pub end_from : ℕ → ℕ → ℕ
  end_from p zero = p
  end_from p (suc left) = end_from (face_after p) left

  unfoldable pub words_end : ℕ
  words_end = end_from faces_start faces

  -- ---- 25, of so many words of a kind from p on: the lowest bad one
  unfoldable pub bad_from : Kind → ℕ → ℕ → Verdict
  bad_from kind p zero = sound
  bad_from kind p (suc left) = single 25 (bad kind p) p or_else bad_from kind (suc p) left

  -- of so many faces from p on
  unfoldable pub bad_faces : ℕ → ℕ → Verdict
  bad_faces p zero = sound
  bad_faces p (suc left) = bad_from side_count p 1 or_else bad_from vertex_number (p + 1) (sides_at p) or_else bad_faces (face_after p) left

  -- the needed words in their order: three counts, the vertices, the faces
  unfoldable pub needed_verdict : Verdict
  needed_verdict = bad_from list_count 1 3 or_else bad_from coordinate 4 (3 * vertices) or_else bad_faces faces_start faces

  -- ---- the lists, in the file's order
  unfoldable pub sides_from : ℕ → ℕ → List ℕ
  sides_from p zero = []
  sides_from p (suc left) = sides_at p ∷ sides_from (face_after p) left

  unfoldable pub corners_from : ℕ → ℕ → List ℕ
  corners_from p zero = []
  corners_from p (suc left) = values_from (natural_at vertex_number) (p + 1) (sides_at p) ++ corners_from (face_after p) left

  -- a text says nothing of sharpness: 8 and 8 throughout
  unfoldable pub words_mesh : Mesh
  words_mesh = plain_mesh (values_from (value_at coordinate) 4 (3 * vertices)) (sides_from faces_start faces) (corners_from faces_start faces)

-- the word is OFF
unfoldable pub is_off : List ℕ → Bool
is_off word = eqb (length word) 3 && (eqb (get_or word 0 0) 79 && (eqb (get_or word 1 0) 70 && eqb (get_or word 2 0) 70))

-- 24: a lent list is too short, or the first word is missing or not OFF
unfoldable pub short : Lengths → Bool
short lent =
    ltb lent.coordinates (3 * most_vertices)
    || (ltb lent.sides most_faces || (ltb lent.corners most_corners || ltb lent.sharpness (2 * most_corners)))

unfoldable pub fault24 : List (List ℕ) → Lengths → Bool
fault24 words lent = short lent || not (is_off (nth_word words 0))

-- 26: a word stands after the last face
unfoldable pub fault26 : List (List ℕ) → Bool
fault26 words = ltb (words_end words) (length words)

-- 24, 25, 26, then 4 to 13 of the lists; the lent lists have these lengths
unfoldable pub words_verdict : List (List ℕ) → Lengths → Verdict
words_verdict words lent =
    single 24 (fault24 words lent) 0
    or_else needed_verdict words
    or_else single 26 (fault26 words) (words_end words)
    or_else verdict (words_mesh words)

unfoldable pub off_verdict : List ℕ → Lengths → Verdict
off_verdict text lent = words_verdict (words_of text) lent

-- the lists that a text describes
unfoldable pub text_mesh : List ℕ → Mesh
text_mesh text = words_mesh (words_of text)

-- ---- a call on a text, with lent lists that held `lent`: it answers r and leaves `lists`
pub record OffRead (text : List ℕ) (lent : Mesh) (r : Told Lengths) (lists : Mesh) : Type 0 where
  pub answers : stated r ≡ off_verdict text (lengths_of lent)
  -- the four lengths
  pub lengths : IfOk r (λ l. l ≡ lengths_of (text_mesh text))
  -- the lists fill the beginnings of the lent ones, whose further entries keep their contents; after a refusal all do
  pub holds : lists ≡ kept (stated r) (into (text_mesh text) lent) lent
