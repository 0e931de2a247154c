-- The lines of `inspect`: one space parts the words of a line, numbers are decimal, and a line feed ends each line.
use Rattle.std.specs.Prelude.{cond, ◌&&◌, List, [], ◌∷◌, ◌++◌, ℕ, zero, suc, ◌+◌, eqb, get_or, Ok, Err}
use Rattle.paper.specs.Mesh.{most_sides}
use Rattle.paper.specs.declared.Counts.{Counts}
use Rattle.streams.specs.text.Text.{decimal}
use Rattle.paper.specs.Faults.{Told}

abbrev pub space : ℕ
space = 32

abbrev pub feed : ℕ
feed = 10

-- a number, and the byte that ends it
abbrev pub ended : ℕ → ℕ → List ℕ
ended n last = decimal n ++ (last ∷ [])

-- three numbers in a line
abbrev pub three_line : ℕ → ℕ → ℕ → List ℕ
three_line a b c = ended a space ++ (ended b space ++ ended c feed)

-- the words `refused ` and `mesh `
abbrev pub refused_word : List ℕ
refused_word = 114 ∷ 101 ∷ 102 ∷ 117 ∷ 115 ∷ 101 ∷ 100 ∷ space ∷ []

abbrev pub mesh_word : List ℕ
mesh_word = 109 ∷ 101 ∷ 115 ∷ 104 ∷ space ∷ []

-- `refused`, the number and the place
abbrev pub refused_line : ℕ → ℕ → List ℕ
refused_line k p = refused_word ++ (ended k space ++ ended p feed)

-- m, the vertices with m corners and the faces with m sides, left out where both are zero
unfoldable pub count_line : ℕ → ℕ → ℕ → List ℕ
count_line m v f = cond (eqb v 0 && eqb f 0) [] (three_line m v f)

-- these lines for each m below n
unfoldable pub count_lines : List ℕ → List ℕ → ℕ → List ℕ
count_lines cornered sided zero = []
count_lines cornered sided (suc m) = count_lines cornered sided m ++ count_line m (get_or cornered m 0) (get_or sided m 0)

-- `mesh` with the vertices, faces and corners; then a line for each m that occurs
abbrev pub mesh_lines : Counts → List ℕ
mesh_lines n =
    mesh_word ++ (three_line n.vertices n.faces n.corners ++ count_lines n.cornered n.sided (most_sides + 1))

-- what `inspect` prints of what `survey` answers
abbrev pub summary_lines : Told Counts → List ℕ
summary_lines (Ok counts) = mesh_lines counts
summary_lines (Err refusal) = refused_line refusal.number refusal.place
