-- Marks of vertices, and the faces that are needed where a vertex is marked.
use Rattle.std.specs.Prelude.{List, ℕ, ◌+◌, ◌<◌, ◌≤◌, get_or}
use Rattle.paper.specs.Corners.{start_of}
use Rattle.paper.specs.Links.{vertex_of}

-- P holds of a number from `start` to before `end`
pub record SomeIn (P : ℕ → Type 0) (start end : ℕ) : Type 0 where
  pub at : ℕ
  pub from : start ≤ at
  pub to : at < end
  pub holds : P at

-- the number r is not zero exactly when A holds
pub record Tells (r : ℕ) (A : Type 0) : Type 0 where
  pub yes : A → 0 < r
  pub only : 0 < r → A

-- the vertex of corner c is marked
abbrev pub AtMark : List ℕ → List ℕ → ℕ → Type 0
AtMark corners marked c = 0 < get_or marked (vertex_of corners c) 0

-- face f is needed: it has a corner whose vertex is marked
abbrev pub Needed : List ℕ → List ℕ → List ℕ → ℕ → Type 0
Needed sides corners marked f = SomeIn (AtMark corners marked) (start_of sides f) (start_of sides f + get_or sides f 0)
