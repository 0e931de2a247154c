-- Lists of an OFF text in own lists and in lent ones, after each part of the checks.
use Rattle.std.specs.Prelude.{◌≡◌, List, ℕ, ◌*◌, ◌≤◌, length, ℤ, IfOk}
use Rattle.paper.specs.Mesh.{most_vertices, most_faces, most_corners, Mesh, lengths_of}
use Rattle.paper.specs.Faults.{◌or_else◌, verdict, stated, kept, Told}
use Rattle.paper.specs.File.{into}
use Rattle.off_lists.specs.Reading.{Lists, read_verdict}
use Rattle.paper.specs.Off.{words_of, words_mesh}
use Rattle.paper.specs.declared.Lengths.{Lengths}

-- own lists with room for every list that passes 4
pub record OwnRoom (coordinates : List ℤ) (sides corners : List ℕ) : Type 0 where
  pub coordinates_room : 3 * most_vertices ≤ length coordinates
  pub sides_room : most_faces ≤ length sides
  pub corners_room : most_corners ≤ length corners

-- 25 and 26, then 4 to 13
pub record TextChecked (text : List ℕ) (r : Told Lengths) (coordinates : List ℤ) (sides corners : List ℕ) : Type 0 where
  pub answers : stated r ≡ read_verdict (words_of text) or_else verdict (words_mesh (words_of text))
  pub lists : IfOk r (λ l. Lists (words_mesh (words_of text)) l coordinates sides corners)

-- and the lists copied to lent ones, unless a check refuses
pub record TextCopied (text : List ℕ) (lent : Mesh) (r : Told Lengths) (lists : Mesh) : Type 0 where
  pub answers : stated r ≡ read_verdict (words_of text) or_else verdict (words_mesh (words_of text))
  pub lengths : IfOk r (λ l. l ≡ lengths_of (words_mesh (words_of text)))
  pub holds : lists ≡ kept (stated r) (into (words_mesh (words_of text)) lent) lent
