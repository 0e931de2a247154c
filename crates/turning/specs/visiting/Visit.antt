-- Turns spread over the faces: states of faces, the queue of those that were reached, and what a visit of one face does.
use Rattle.std.specs.Prelude.{◌≡◌, Bool, false, not, List, ℕ, ◌+◌, ◌<◌, ◌≤◌, eqb, length, get_or, Result, Ok, Err}
use Rattle.std.specs.Bool.{xor}
use Rattle.paper.specs.Mesh.{most_faces, most_corners}
use Rattle.paper.specs.Scan.{count_below}
use Rattle.paper.specs.Corners.{face_of, start_of}
use Rattle.paper.specs.Turning.{fault34}
use Rattle.reversing.specs.States.{turns_by}
use Rattle.partners.specs.Lists.{FacesListed}
use Rattle.partners.specs.Partner.{partner}
use Rattle.turning.specs.Constraints.{MeetsAt, JoinedIn, MeetsPart}
use Rattle.turning.specs.declared.visiting.Clash.{Clash}

-- the state of a face: 0 before it is reached, then 1 where it is kept and 2 where it is turned
abbrev pub Seen : List ℕ → ℕ → Type 0
Seen states f = get_or states f 0 ≡ 0 → ⊥

abbrev pub seen : List ℕ → ℕ → Bool
seen states f = not (eqb (get_or states f 0) 0)

-- the tables that turns spread by: partners plus one, the face of each corner, the first corner of each face
pub record Spreadable (sides corners partners faces starts : List ℕ) : Type 0 where
  pub listed : FacesListed sides corners
  pub two : (c : ℕ) → c < length corners → fault34 sides corners c ≡ false
  pub few_faces : length sides ≤ most_faces
  pub few_corners : length corners ≤ most_corners
  pub partners_long : length corners ≤ length partners
  pub partners_are : (c : ℕ) → c < length corners → get_or partners c 0 ≡ partner sides corners c + 1
  pub faces_long : length corners ≤ length faces
  pub faces_are : (c : ℕ) → c < length corners → get_or faces c 0 ≡ face_of sides c
  pub starts_long : length sides ≤ length starts
  pub starts_are : (f : ℕ) → f < length sides → get_or starts f 0 ≡ start_of sides f

-- a face that was reached keeps its state
pub record Grown (old new : List ℕ) : Type 0 where
  pub keeps : (f : ℕ) → Seen old f → get_or new f 0 ≡ get_or old f 0

-- the face across the edge of c was reached, and the edge's constraint is met
abbrev pub Settled : List ℕ → List ℕ → List ℕ → ℕ → Type 0
Settled sides corners states c = Seen states (face_of sides (partner sides corners c)) × MeetsAt sides corners (turns_by states) c

abbrev pub AllSettled : List ℕ → List ℕ → List ℕ → Type 0
AllSettled sides corners states = (c : ℕ) → c < length corners → Seen states (face_of sides c) → Settled sides corners states c

-- f is in the part of r, and every choice that meets the part's constraints turns the two unlike exactly when b says so
pub record Forced (sides corners : List ℕ) (r f : ℕ) (b : Bool) : Type 0 where
  pub joined : JoinedIn sides corners r f
  pub forced : (t : ℕ → Bool) → MeetsPart sides corners t r → t f ≡ xor (t r) b

-- a round from r, before which the states were `old`: what was reached in it is forced
pub record Round (sides corners : List ℕ) (r : ℕ) (old states : List ℕ) : Type 0 where
  pub grown : Grown old states
  pub fresh : (f : ℕ) → Seen states f → get_or old f 0 ≡ 0 → Forced sides corners r f (turns_by states f)

-- the queue holds the faces that were reached, each once
pub record Queued (n : ℕ) (states queue : List ℕ) (tail : ℕ) : Type 0 where
  pub states_long : n ≤ length states
  pub queue_long : n ≤ length queue
  pub small : (f : ℕ) → get_or states f 0 ≤ 2
  pub inside : (i : ℕ) → i < tail → get_or queue i 0 < n
  pub reached : (i : ℕ) → i < tail → Seen states (get_or queue i 0)
  pub listed : (f : ℕ) → f < n → Seen states f → (i : ℕ) × (i < tail) × (get_or queue i 0 ≡ f)
  pub counted : tail ≡ count_below n (seen states)

-- what a visit of face f has done, with its corners below `end` settled
pub record Visiting (sides corners : List ℕ) (f : ℕ) (old queue : List ℕ) (tail : ℕ) (states queue' : List ℕ) (tail' end : ℕ) : Type 0 where
  pub grown : Grown old states
  pub rounds : (r : ℕ) (before : List ℕ) → Round sides corners r before old → get_or before f 0 ≡ 0 → Round sides corners r before states
  pub queued : Queued (length sides) states queue' tail'
  pub rises : tail ≤ tail'
  pub kept : (i : ℕ) → i < tail → get_or queue' i 0 ≡ get_or queue i 0
  pub fresh : (i : ℕ) → tail ≤ i → i < tail' → get_or old (get_or queue' i 0) 0 ≡ 0
  pub settled : (c : ℕ) → c < end → c < length corners → face_of sides c ≡ f → Settled sides corners states c

-- no choice meets the constraints of the part of r
abbrev pub Unturnable : List ℕ → List ℕ → ℕ → Type 0
Unturnable sides corners r = (t : ℕ → Bool) → MeetsPart sides corners t r → ⊥

-- what a visit of f answers
abbrev pub Visited : List ℕ → List ℕ → ℕ → List ℕ → List ℕ → ℕ → Result ℕ Clash → List ℕ → List ℕ → Type 0
Visited sides corners f old queue tail (Ok tail') states queue' = Visiting sides corners f old queue tail states queue' tail' (length corners)
Visited sides corners f old queue tail (Err e) states queue' =
    (r : ℕ) (before : List ℕ) → Round sides corners r before old → get_or before f 0 ≡ 0 → AllSettled sides corners before → Unturnable sides corners r
