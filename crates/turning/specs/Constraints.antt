-- What a choice of turns has to meet where each edge is in two faces: the two corners of an edge that leave in the same direction are in
-- faces of which one is turned; those that leave in opposite directions are in faces that are both turned or both kept.
use Rattle.std.specs.Prelude.{◌≡◌, Bool, true, List, ℕ, ◌<◌, length}
use Rattle.std.specs.Bool.{xor}
use Rattle.paper.specs.Corners.{face_of}
use Rattle.paper.specs.Links.{same_edge}
use Rattle.partners.specs.Partner.{partner}

-- whether the two corners of c's edge leave in the same direction
unfoldable pub label : List ℕ → List ℕ → ℕ → Bool
label sides corners c = same_edge sides corners c (partner sides corners c)

-- of m corners with their faces and partners: a set of faces that no edge leads out of; faces that no such set parts; a constraint met
abbrev pub ClosedSet : ℕ → (ℕ → ℕ) → (ℕ → ℕ) → (ℕ → Bool) → Type 0
ClosedSet m own across set = (c : ℕ) → c < m → set (own c) ≡ set (own (across c))

abbrev pub Joined : ℕ → (ℕ → ℕ) → (ℕ → ℕ) → ℕ → ℕ → Type 0
Joined m own across f g = (set : ℕ → Bool) → ClosedSet m own across set → set f ≡ true → set g ≡ true

abbrev pub Meets : (ℕ → ℕ) → (ℕ → ℕ) → (ℕ → Bool) → (ℕ → Bool) → ℕ → Type 0
Meets own across unlike t c = xor (t (own c)) (t (own (across c))) ≡ unlike c

-- the same, of the lists
abbrev pub MeetsAt : List ℕ → List ℕ → (ℕ → Bool) → ℕ → Type 0
MeetsAt sides corners t c = Meets (face_of sides) (partner sides corners) (label sides corners) t c

abbrev pub ClosedIn : List ℕ → List ℕ → (ℕ → Bool) → Type 0
ClosedIn sides corners set = ClosedSet (length corners) (face_of sides) (partner sides corners) set

abbrev pub JoinedIn : List ℕ → List ℕ → ℕ → ℕ → Type 0
JoinedIn sides corners f g = Joined (length corners) (face_of sides) (partner sides corners) f g

-- a choice that meets the constraints of the part of f
abbrev pub MeetsPart : List ℕ → List ℕ → (ℕ → Bool) → ℕ → Type 0
MeetsPart sides corners t f = (c : ℕ) → c < length corners → JoinedIn sides corners f (face_of sides c) → MeetsAt sides corners t c
