-- What stands in the table of vertices after a store in column k of vertex u.
use mathlib.Core.Path.{◌≡◌}
use mathlib.Core.List.{List}
use Prim.Native.Nat.{ℕ, ◌+◌, ◌*◌, ◌<◌}
use native.Mathlib.Omega.{arith}
use lib.ListN.{length, set}
use Rattle.walk.proofs.Table.{PlacesApart, row_put, row_kept}
use Rattle.checks.specs.columns.Vertices.{vertex_row, noted, NotesKept}

vertex_rows : PlacesApart vertex_row
vertex_rows = record { rows_apart = λ i j k q. omega arith; columns_apart = λ i j k l a b q. omega arith }

module _ (vertices : List ℕ) (k u x : ℕ) where
  pub note_put : (P : ℕ → Type 0) (v : ℕ) → vertex_row * u + k < length vertices → (v ≡ u → P x) → ((v ≡ u → ⊥) → P (noted vertices k v))
      → P (noted (set vertices (vertex_row * u + k) x) k v)
  note_put = row_put vertex_row vertex_rows vertices k u x

  pub note_kept : k < vertex_row → (j : ℕ) → j < vertex_row → (j ≡ k → ⊥) → NotesKept vertices (set vertices (vertex_row * u + k) x) j
  note_kept = row_kept vertex_row vertex_rows vertices k u x
