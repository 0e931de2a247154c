-- "Checked examples", those marked (p): a table of what the definitions give and of the numbers that 01 prints.
use Rattle.std.specs.Prelude.{◌≡◌, List, [], ◌∷◌, ◌++◌, ℕ, ◌^◌, replicate, take, drop, ℤ, pos, negsuc, neg_ℤ}
use Rattle.paper.specs.Mesh.{Mesh, plain_mesh}
use Rattle.paper.specs.Faults.{Verdict, sound, fault, verdict}
use Rattle.paper.specs.Numbers.{round, rounded}
use Rattle.paper.specs.Cosines.{cosine}
use Rattle.paper.specs.Refined.{RefinedMesh, refined_of}
use Rattle.paper.specs.Net.{vertex, leaving, face, side0, end, X, Y, N, outer1, outer2, outer3, a0, a1}
use Rattle.paper.specs.Calls.{nets}

-- the definitions' numbers, then the paper's
infix 20 ◌gives◌
pub data Row : Type 0 where
  ◌gives◌ : List ℤ → List ℤ → Row

-- a verdict as numbers: number and place of a fault
abbrev pub as_numbers : Verdict → List ℤ
as_numbers sound = []
as_numbers (fault number place) = pos number ∷ pos place ∷ []

-- each row's numbers are the paper's
abbrev pub AllGive : List Row → Type 0
AllGive [] = Unit {0}
AllGive ((given gives printed) ∷ rows) = (given ≡ printed) × AllGive rows

-- the cube of corners ±3, faces clockwise seen from outside; corner 0 is at (3,3,3) on z = 3 and leaves to (3,-3,3)
abbrev pub cube : Mesh
cube =
    plain_mesh
    (pos 3 ∷ pos 3 ∷ pos 3 ∷ pos 3 ∷ negsuc 2 ∷ pos 3 ∷ negsuc 2 ∷ negsuc 2 ∷ pos 3 ∷ negsuc 2 ∷ pos 3 ∷ pos 3
    ∷ pos 3 ∷ pos 3 ∷ negsuc 2 ∷ pos 3 ∷ negsuc 2 ∷ negsuc 2 ∷ negsuc 2 ∷ negsuc 2 ∷ negsuc 2 ∷ negsuc 2 ∷ pos 3 ∷ negsuc 2 ∷ [])
    (replicate 6 4)
    (0 ∷ 1 ∷ 2 ∷ 3 ∷ 4 ∷ 7 ∷ 6 ∷ 5 ∷ 1 ∷ 0 ∷ 4 ∷ 5 ∷ 2 ∷ 1 ∷ 5 ∷ 6 ∷ 3 ∷ 2 ∷ 6 ∷ 7 ∷ 0 ∷ 3 ∷ 7 ∷ 4 ∷ [])

abbrev pub two_triangles : Mesh
two_triangles = plain_mesh (replicate 9 (pos 0)) (3 ∷ 3 ∷ []) (0 ∷ 1 ∷ 2 ∷ 0 ∷ 2 ∷ 1 ∷ [])

-- they share vertex 0 only
abbrev pub two_tetrahedra : Mesh
two_tetrahedra =
    plain_mesh (replicate 21 (pos 0)) (replicate 8 3)
    (0 ∷ 1 ∷ 2 ∷ 0 ∷ 2 ∷ 3 ∷ 0 ∷ 3 ∷ 1 ∷ 1 ∷ 3 ∷ 2 ∷ 0 ∷ 4 ∷ 5 ∷ 0 ∷ 5 ∷ 6 ∷ 0 ∷ 6 ∷ 4 ∷ 4 ∷ 6 ∷ 5 ∷ [])

-- a point: its three coordinates
abbrev pub on_axes : (RefinedMesh rounded → ℤ) → List ℤ
on_axes f = f (refined_of rounded cube 0) ∷ f (refined_of rounded cube 1) ∷ f (refined_of rounded cube 2) ∷ []

abbrev pub xyz : ℕ → ℕ → ℕ → List ℤ
xyz x y z = pos x ∷ pos y ∷ pos z ∷ []

unfoldable pub examples : List Row
examples =
    -- the cube is accepted; at corner 0: refined point, three ends, and of side 0 face points, inner point, outer points, a00 and a01
    (as_numbers (verdict cube) gives [])
    ∷ (on_axes (λ K. K.point 0) gives xyz 384 384 768)
    ∷ (on_axes (λ K. end K 0 vertex) gives xyz 512 512 512)
    ∷ (on_axes (λ K. end K 0 leaving) gives xyz 576 0 576)
    ∷ (on_axes (λ K. end K 0 face) gives xyz 0 0 768)
    ∷ (on_axes (λ K. X K 0 side0) gives xyz 555 427 555)
    ∷ (on_axes (λ K. Y K 0 side0) gives xyz 576 256 576)
    ∷ (on_axes (λ K. N K 0 side0) gives xyz 502 342 630)
    ∷ (on_axes (λ K. outer1 K 0 side0) gives xyz 544 448 544)
    ∷ (on_axes (λ K. outer2 K 0 side0) gives xyz 566 342 566)
    ∷ (on_axes (λ K. outer3 K 0 side0) gives xyz 576 192 576)
    ∷ (on_axes (λ K. a0 K 0 side0) gives xyz 496 496 544)
    ∷ (on_axes (λ K. a1 K 0 side0) gives xyz 513 417 593)
    -- the same among the 123 numbers that building writes: the first row of b points, and the a points from 25 on
    ∷ (take 15 (nets cube 0 1) gives xyz 512 512 512 ++ xyz 544 448 544 ++ xyz 566 342 566 ++ xyz 576 192 576 ++ xyz 576 0 576)
    ∷ (take 6 (drop 75 (nets cube 0 1)) gives xyz 496 496 544 ++ xyz 513 417 593)
    -- rounding, and row 6 of the cosine table
    ∷ (round (pos 1003) (pos 2) ∷ round (negsuc 1002) (pos 2) ∷ [] gives pos 502 ∷ negsuc 501 ∷ [])
    ∷ (cosine 6 0 ∷ cosine 6 1 ∷ cosine 6 2 ∷ cosine 6 3 ∷ cosine 6 4 ∷ cosine 6 5 ∷ []
    gives pos (2 ^ 30) ∷ pos (2 ^ 29) ∷ neg_ℤ (pos (2 ^ 29)) ∷ neg_ℤ (pos (2 ^ 30)) ∷ neg_ℤ (pos (2 ^ 29)) ∷ pos (2 ^ 29) ∷ [])
    -- refused meshes
    ∷ (as_numbers (verdict two_triangles) gives pos 12 ∷ pos 0 ∷ [])
    ∷ (as_numbers (verdict two_tetrahedra) gives pos 13 ∷ pos 0 ∷ [])
    ∷ []
