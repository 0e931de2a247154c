-- L13, faces drawn the wrong way round: turning faces, choices of turns, faces connected through shared edges, the checks 34 to 36, the choice
-- that is made, and the call.
use Rattle.std.specs.Prelude.{◌≡◌, Bool, true, false, cond, not, ◌&&◌, ◌||◌, List, [], ◌∷◌, ℕ, zero, suc, ◌+◌, ◌-◌, ◌*◌, ◌/◌, ◌%◌, eqb, length, get_or, IfOk}
use Rattle.paper.specs.Scan.{pick_n, first_below, some_below, count_below, values_from}
use Rattle.paper.specs.Mesh.{Mesh, mesh_of, face_count, corner_count}
use Rattle.paper.specs.Corners.{face_of, first_of, sides_of, position_of}
use Rattle.paper.specs.Links.{vertex_of, same_edge, reverse_edge}
use Rattle.paper.specs.Faults.{Verdict, ◌or_else◌, single, lowest_of, fault10, fault11, list_faults, stated, kept, Told}
use Rattle.paper.specs.File.{begins}

-- ---- turning. A choice of turns, t, says of each face whether it is turned.
-- A face turned has its corner order reversed after the first corner: the corner that comes to the place of c
unfoldable pub counterpart : List ℕ → ℕ → ℕ
counterpart sides c = pick_n (eqb (position_of sides c) 0) c (first_of sides c + (sides_of sides c - position_of sides c))

-- the corner that comes to the place of c where the faces of t are turned
unfoldable pub corner_from : List ℕ → (ℕ → Bool) → ℕ → ℕ
corner_from sides t c = pick_n (t (face_of sides c)) (counterpart sides c) c

unfoldable pub turned_corners : List ℕ → List ℕ → (ℕ → Bool) → List ℕ
turned_corners sides corners t = values_from (λ c. vertex_of corners (corner_from sides t c)) 0 (length corners)

-- each corner's sharpness pair goes with it, u and v changing places, also the first corner's: the place whose number comes to place i
unfoldable pub pair_from : List ℕ → (ℕ → Bool) → ℕ → ℕ
pair_from sides t i = pick_n (t (face_of sides (i / 2))) (2 * counterpart sides (i / 2) + (1 - i % 2)) i

unfoldable pub turned_pairs : List ℕ → List ℕ → (ℕ → Bool) → List ℕ
turned_pairs sides sharpness t = values_from (λ i. get_or sharpness (pair_from sides t i) 0) 0 (length sharpness)

-- the model with the faces of t turned
abbrev pub turned_mesh : Mesh → (ℕ → Bool) → Mesh
turned_mesh M t = mesh_of M.coordinates M.sides (turned_corners M.sides M.corners t) (turned_pairs M.sides M.sharpness t)

-- the faces of t in rising order, from `at` on among `left`
unfoldable pub faces_of : (ℕ → Bool) → ℕ → ℕ → List ℕ
faces_of t at zero = []
faces_of t at (suc left) = let r = faces_of t (suc at) left in cond (t at) (at ∷ r) r

-- ---- 10 and 11 of a model
unfoldable pub edge_faults : Mesh → Verdict
edge_faults M =
    lowest_of 10 (corner_count M) (fault10 M.sides M.corners) or_else lowest_of 11 (corner_count M) (fault11 M.sides M.corners)

-- ---- shared edges
-- d's leaving edge is c's, direction ignored
unfoldable pub shares_edge : List ℕ → List ℕ → ℕ → ℕ → Bool
shares_edge sides corners c d = same_edge sides corners c d || reverse_edge sides corners c d

-- 34: c's edge, direction ignored, is not in exactly two faces. By 9 a face has an edge at most once: so many corners are so many faces
unfoldable pub fault34 : List ℕ → List ℕ → ℕ → Bool
fault34 sides corners c = not (eqb (count_below (length corners) (shares_edge sides corners c)) 2)

-- two faces share an edge
unfoldable pub adjoin : List ℕ → List ℕ → ℕ → ℕ → Bool
adjoin sides corners f g =
    some_below (length corners)
    (λ c. eqb (face_of sides c) f && some_below (length corners) (λ d. eqb (face_of sides d) g && shares_edge sides corners c d))

-- at most k steps over shared edges lead from face f to face g
unfoldable pub in_steps : List ℕ → List ℕ → ℕ → ℕ → ℕ → Bool
in_steps sides corners zero f g = eqb f g
in_steps sides corners (suc k) f g =
    in_steps sides corners k f g || some_below (length sides) (λ h. in_steps sides corners k f h && adjoin sides corners h g)

-- faces are connected through shared edges: by at most as many steps as there are faces; no face takes more (`NoneFarther` in Claims)
unfoldable pub connected : List ℕ → List ℕ → ℕ → ℕ → Bool
connected sides corners f g = in_steps sides corners (length sides) f g

-- the lowest face of the connected part that f is in
unfoldable pub lowest_of_part : List ℕ → List ℕ → ℕ → ℕ
lowest_of_part sides corners f = first_below (length sides) (connected sides corners f)

-- ---- choices of turns, as lists: a yes or no for each face
abbrev pub says : List Bool → ℕ → Bool
says choice f = get_or choice f false

-- whether some choice for n faces passes the test, of all that there are
unfoldable pub some_choice : ℕ → (List Bool → Bool) → Bool
some_choice zero p = p []
some_choice (suc n) p = some_choice n (λ t. p (false ∷ t)) || some_choice n (λ t. p (true ∷ t))

-- one that passes, where there is one
unfoldable pub first_choice : ℕ → (List Bool → Bool) → List Bool
first_choice zero p = []
first_choice (suc n) p =
    cond (some_choice n (λ t. p (false ∷ t))) (false ∷ first_choice n (λ t. p (false ∷ t))) (true ∷ first_choice n (λ t. p (true ∷ t)))

-- with the faces of t turned, corner c has a fault of 10 or 11
unfoldable pub faulty : List ℕ → List ℕ → (ℕ → Bool) → ℕ → Bool
faulty sides corners t c = fault10 sides (turned_corners sides corners t) c || fault11 sides (turned_corners sides corners t) c

-- the choice serves: no corner has one; and it serves the part of face f
unfoldable pub serves : List ℕ → List ℕ → (ℕ → Bool) → Bool
serves sides corners t = not (some_below (length corners) (faulty sides corners t))

unfoldable pub serves_part : List ℕ → List ℕ → (ℕ → Bool) → ℕ → Bool
serves_part sides corners t f = not (some_below (length corners) (λ c. connected sides corners f (face_of sides c) && faulty sides corners t c))

-- 35: no choice of turns serves the part of face f. The lowest such face is the lowest face of the lowest such part
unfoldable pub fault35 : List ℕ → List ℕ → ℕ → Bool
fault35 sides corners f = not (some_choice (length sides) (λ t. serves_part sides corners (says t) f))

-- ---- the choice that is made: it serves, and keeps the lowest face of each connected part. There is one such (`OneChoice` in Claims)
unfoldable pub keeps_lowest : List ℕ → List ℕ → (ℕ → Bool) → Bool
keeps_lowest sides corners t = not (some_below (length sides) (λ f. t (lowest_of_part sides corners f)))

unfoldable pub chosen : List ℕ → List ℕ → List Bool
chosen sides corners = first_choice (length sides) (λ t. serves sides corners (says t) && keeps_lowest sides corners (says t))

abbrev pub turns_of : Mesh → ℕ → Bool
turns_of M = says (chosen M.sides M.corners)

-- the faces that are turned, in rising order
abbrev pub turned_faces : Mesh → List ℕ
turned_faces M = faces_of (turns_of M) 0 (face_count M)

-- ---- the checks; n is the listing's length
-- 36: it is not the face count
unfoldable pub fault36 : Mesh → ℕ → Bool
fault36 M n = not (eqb n (face_count M))

-- 34, then 35
unfoldable pub turn_faults : Mesh → Verdict
turn_faults M =
    lowest_of 34 (corner_count M) (fault34 M.sides M.corners) or_else lowest_of 35 (face_count M) (fault35 M.sides M.corners)

-- 36 before everything else, then 4 to 9 with 27 and 28, then 34 and 35
unfoldable pub turn_verdict : Mesh → ℕ → Verdict
turn_verdict M n = single 36 (fault36 M n) n or_else list_faults M or_else turn_faults M

-- ---- a call on the lists M and a lent listing that held `old`. It answers r, and leaves `lists`, of which corner list and sharpness list were
-- lent, and `out`
pub record TurnedTo (M : Mesh) (old : List ℕ) (r : Told ℕ) (lists : Mesh) (out : List ℕ) : Type 0 where
  pub answers : stated r ≡ turn_verdict M (length old)
  -- how many faces are turned
  pub counts : IfOk r (λ turned. turned ≡ length (turned_faces M))
  -- the turned model stands in the lent lists; after a refusal they keep theirs
  pub holds : lists ≡ kept (stated r) (turned_mesh M (turns_of M)) M
  -- the turned faces fill the beginning of the listing, its further entries keep their contents; after a refusal all do
  pub listing_holds : out ≡ kept (stated r) (begins (turned_faces M) old) old
