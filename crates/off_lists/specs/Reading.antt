-- What the words of a text are read into: numbers, and own lists that are only as long as the longest accepted ones.
use Rattle.std.specs.Prelude.{◌≡◌, List, ◌++◌, ℕ, ◌+◌, ◌≤◌, length, take, ℤ, IfOk, OnOk}
use Rattle.paper.specs.Mesh.{Mesh, plain_list}
use Rattle.paper.specs.Scan.{values_from}
use Rattle.paper.specs.Faults.{Verdict, ◌or_else◌, single, stated, Told}
use Rattle.paper.specs.Off.{Kind, up_to, list_count, side_count, vertex_number, words_of, bad, natural_at, vertices, faces, sides_at, face_after}
use Rattle.paper.specs.Off.{end_from, bad_from, bad_faces, sides_from, corners_from, words_end, needed_verdict, words_mesh, fault26}
use Rattle.off_words.specs.Cursor.{Before}
use Rattle.off_words.specs.declared.Cursor.{Cursor}
use Rattle.off_lists.specs.declared.Natural.{Natural}
use Rattle.off_lists.specs.declared.Header.{Header}
use Rattle.off_lists.specs.declared.ReadFace.{ReadFace}
use Rattle.off_lists.specs.declared.ReadFaces.{ReadFaces}
use Rattle.paper.specs.declared.Lengths.{Lengths}

-- word n is a number from 0 to a largest: which, and a cursor before the next word
pub record NaturalThere (text : List ℕ) (n most : ℕ) (r : Natural) : Type 0 where
  pub value : r.value ≡ natural_at (words_of text) (up_to most) n
  pub within : r.value ≤ most
  pub next : Before text (n + 1) r.next

-- word n as a number from 0 to a largest, or 25 at it
pub record NaturalRead (text : List ℕ) (n most : ℕ) (r : Told Natural) : Type 0 where
  pub answers : stated r ≡ single 25 (bad (words_of text) (up_to most) n) n
  pub there : IfOk r (NaturalThere text n most)

-- the three counts, and a cursor after them
pub record HeaderThere (text : List ℕ) (r : Header) : Type 0 where
  pub next : Before text 4 r.next
  pub vertices_are : r.vertices ≡ vertices (words_of text)
  pub faces_are : r.faces ≡ faces (words_of text)
  pub vertices_within : r.vertices ≤ 65535
  pub faces_within : r.faces ≤ 65535

-- the three counts, or 25 at the first word that is none
pub record HeaderRead (text : List ℕ) (r : Told Header) : Type 0 where
  pub answers : stated r ≡ bad_from (words_of text) list_count 1 3
  pub there : IfOk r (HeaderThere text)

-- the values of f at n words from p on stand in an own list from `at` on, after what stood there, as far as they have room
pub record Stored {A : Type 0} (f : ℕ → A) (p n at : ℕ) (old new : List A) : Type 0 where
  pub same : length new ≡ length old
  pub holds : at + n ≤ length old → take (at + n) new ≡ take at old ++ values_from f p n

-- n words of a kind from p on, and a cursor after them, or 25 at the first that is bad
pub record ListRead {A : Type 0} (text : List ℕ) (kind : Kind) (f : ℕ → A) (p n at : ℕ) (old new : List A) (r : Told Cursor) : Type 0 where
  pub answers : stated r ≡ bad_from (words_of text) kind p n
  pub next : IfOk r (Before text (p + n))
  pub stored : OnOk r (Stored f p n at old new)

-- a face at word p, number `face` of the text, with `at` corners before it
pub record FaceThere (text : List ℕ) (p face at : ℕ) (sides corners : List ℕ) (r : ReadFace) (sides' corners' : List ℕ) : Type 0 where
  pub next : Before text (face_after (words_of text) p) r.next
  pub sides_are : r.sides ≡ sides_at (words_of text) p
  pub within : r.sides ≤ 255
  pub side_stored : Stored (λ q. sides_at (words_of text) p) p 1 face sides sides'
  pub corners_stored : Stored (natural_at (words_of text) vertex_number) (p + 1) (sides_at (words_of text) p) at corners corners'

pub record FaceRead (text : List ℕ) (p face at : ℕ) (sides corners : List ℕ) (r : Told ReadFace) (sides' corners' : List ℕ) : Type 0 where
  pub answers : stated r ≡ bad_from (words_of text) side_count p 1 or_else bad_from (words_of text) vertex_number (p + 1) (sides_at (words_of text) p)
  pub there : IfOk r (λ x. FaceThere text p face at sides corners x sides' corners')

-- n faces from word p on
pub record FacesThere (text : List ℕ) (p n : ℕ) (sides corners : List ℕ) (r : ReadFaces) (sides' corners' : List ℕ) : Type 0 where
  pub next : Before text (end_from (words_of text) p n) r.next
  pub corners_count : r.corners ≡ length (corners_from (words_of text) p n)
  pub sides_same : length sides' ≡ length sides
  pub corners_same : length corners' ≡ length corners
  pub sides_hold : n ≤ length sides → take n sides' ≡ sides_from (words_of text) p n
  pub corners_hold : r.corners ≤ length corners → take r.corners corners' ≡ corners_from (words_of text) p n

pub record FacesRead (text : List ℕ) (p n : ℕ) (sides corners : List ℕ) (r : Told ReadFaces) (sides' corners' : List ℕ) : Type 0 where
  pub answers : stated r ≡ bad_faces (words_of text) p n
  pub there : IfOk r (λ x. FacesThere text p n sides corners x sides' corners')

-- ---- three lists of M have these lengths, and stand in the beginnings of own ones where these have room; the fourth is 8 and 8 throughout
pub record Lists (M : Mesh) (r : Lengths) (coordinates : List ℤ) (sides corners : List ℕ) : Type 0 where
  pub coordinates_count : r.coordinates ≡ length M.coordinates
  pub sides_count : r.sides ≡ length M.sides
  pub corners_count : r.corners ≡ length M.corners
  pub coordinates_hold : r.coordinates ≤ length coordinates → take r.coordinates coordinates ≡ M.coordinates
  pub sides_hold : r.sides ≤ length sides → take r.sides sides ≡ M.sides
  pub corners_hold : r.corners ≤ length corners → take r.corners corners ≡ M.corners
  pub plain_pairs : M.sharpness ≡ plain_list (length M.corners)

-- 25 and 26
unfoldable pub read_verdict : List (List ℕ) → Verdict
read_verdict words = needed_verdict words or_else single 26 (fault26 words) (words_end words)

pub record WordsRead (text : List ℕ) (r : Told Lengths) (coordinates : List ℤ) (sides corners : List ℕ) : Type 0 where
  pub answers : stated r ≡ read_verdict (words_of text)
  pub lists : IfOk r (λ l. Lists (words_mesh (words_of text)) l coordinates sides corners)
