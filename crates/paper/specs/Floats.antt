-- L1, "Points the renderer can take": the difference of one control point of a quad-net from its b00, in floats. 18 to 20, the whole
-- numbers that are asked, and the floats that carry them to the bit.
use Rattle.std.specs.Prelude.{◌≡◌, Bool, true, false, not, ◌&&◌, ◌||◌, List, [], ◌∷◌, ◌++◌, ℕ, ◌+◌, ◌*◌, ◌/◌, ◌%◌, ◌^◌, ◌≤◌, ◌<◌, leb, ltb, eqb, length, get_or, take, drop, ℤ, pos, ◌+ℤ◌, ◌-ℤ◌, ◌*ℤ◌, nat_abs, Float, IfOk, Ok, Err}
use Rattle.std.specs.Float.{binary32}
use Rattle.std.specs.Float.Ieee.{of_int, to_signed}
use Rattle.paper.specs.Scan.{values_from}
use Rattle.paper.specs.Mesh.{most_corners}
use Rattle.paper.specs.Faults.{Verdict, sound, fault, ◌or_else◌, single, lowest_of, stated, kept, Answer, Told}
use Rattle.paper.specs.Numbers.{floor}
use Rattle.paper.specs.File.{no_room, begins}
use Rattle.paper.specs.Calls.{per_corner}
use Rattle.paper.specs.declared.Floats.{Floats}
use Rattle.paper.specs.declared.FloatPoint.{FloatPoint}
use Rattle.paper.specs.declared.FloatPoint.TheVariants.{Near, Far}

-- z lies within ±m, both ends included
abbrev pub within : ℕ → ℤ → Bool
within m z = leb (nat_abs z) m

-- ---- the checks
-- 18: the list is not 123 long
unfoldable pub fault18 : ℕ → Bool
fault18 n = not (eqb n per_corner)

-- 19: a number in it is outside ±2^27
unfoldable pub fault19 : List ℤ → ℕ → Bool
fault19 numbers i = not (within (2 ^ 27) (get_or numbers i (pos 0)))

-- 20: the point number is above 40
unfoldable pub fault20 : ℕ → Bool
fault20 point = ltb 40 point

-- 18 and 19, of the list alone; all of its numbers are looked at
unfoldable pub net_verdict : List ℤ → Verdict
net_verdict numbers = single 18 (fault18 (length numbers)) (length numbers) or_else lowest_of 19 (length numbers) (fault19 numbers)

unfoldable pub point_verdict : List ℤ → ℕ → Verdict
point_verdict numbers point = net_verdict numbers or_else single 20 (fault20 point) point

-- ---- the point, in whole numbers
-- its difference from b00, which is point 0, on an axis
unfoldable pub difference : List ℤ → ℕ → ℕ → ℤ
difference numbers point axis = get_or numbers (3 * point + axis) (pos 0) -ℤ get_or numbers axis (pos 0)

-- near: all three differences lie within ±2^24
unfoldable pub is_near : ℤ → ℤ → ℤ → Bool
is_near x y z = within (2 ^ 24) x && (within (2 ^ 24) y && within (2 ^ 24) z)

-- far: the pair of a difference, a multiple of 4,096 and what is left
unfoldable pub far_first : ℤ → ℤ
far_first d = pos 4096 *ℤ floor d (pos 4096)

unfoldable pub far_second : ℤ → ℤ
far_second d = d -ℤ far_first d

-- ---- number and values of each case: near with three, far with three first and three second ones, or number and place
pub data PointCase : Type 0 where
  near : List ℤ → PointCase
  far : List ℤ → List ℤ → PointCase
  refused : ℕ → ℕ → PointCase

abbrev pub axes : ℤ → ℤ → ℤ → List ℤ
axes x y z = x ∷ y ∷ z ∷ []

abbrev pub parts : Bool → ℤ → ℤ → ℤ → PointCase
parts true x y z = near (axes x y z)
parts false x y z = far (axes (far_first x) (far_first y) (far_first z)) (axes (far_second x) (far_second y) (far_second z))

abbrev pub unless : Verdict → PointCase → PointCase
unless sound s = s
unless (fault number place) s = refused number place

abbrev pub split : ℤ → ℤ → ℤ → PointCase
split x y z = parts (is_near x y z) x y z

-- what 02 asks of a list and a point number
unfoldable pub point_of : List ℤ → ℕ → PointCase
point_of numbers point =
    unless (point_verdict numbers point) (split (difference numbers point 0) (difference numbers point 1) (difference numbers point 2))

-- ---- the floats
-- read back as a whole number
abbrev pub read_back : Float → ℤ
read_back x = to_signed 31 x

-- the float is the one of its whole number: reading back cuts nothing off, and a zero is plus zero
abbrev pub WholeFloat : Float → Type 0
WholeFloat x = x ≡ of_int binary32 (read_back x)

abbrev pub axes_back : Floats → List ℤ
axes_back p = axes (read_back p.x) (read_back p.y) (read_back p.z)

abbrev pub AxesWhole : Floats → Type 0
AxesWhole p = WholeFloat p.x × WholeFloat p.y × WholeFloat p.z

-- the number and values that each case of an answer stands for
abbrev pub point_stated : Told FloatPoint → PointCase
point_stated (Ok (Near p)) = near (axes_back p)
point_stated (Ok (Far p q)) = far (axes_back p) (axes_back q)
point_stated (Err refusal) = refused refusal.number refusal.place

abbrev pub AllWhole : FloatPoint → Type 0
AllWhole (Near p) = AxesWhole p
AllWhole (Far p q) = AxesWhole p × AxesWhole q

-- ---- a call on a list and a point number answers r
pub record InFloats (numbers : List ℤ) (point : ℕ) (r : Told FloatPoint) : Type 0 where
  -- the case and its whole numbers, or the fault of 18, 19 or 20
  pub answers : point_stated r ≡ point_of numbers point
  -- each float is a whole number, and a zero is plus zero
  pub whole : IfOk r AllWhole

-- ---- beyond the requests: all points of a list of quad-nets, 123 numbers for each, as six floats for each point
-- a point's six whole numbers: near the three differences and three zeros, far the three first ones and the three second ones
abbrev pub six_of : PointCase → List ℤ
six_of (near p) = p ++ axes (pos 0) (pos 0) (pos 0)
six_of (far p q) = p ++ q
six_of (refused number place) = []

-- number x of them all: number x % 6 of a point, 41 points for each quad-net, in the order of the list
unfoldable pub float_number : List ℤ → ℕ → ℤ
float_number numbers x =
    let net = take per_corner (drop (per_corner * (x / (2 * per_corner))) numbers) in get_or (six_of (point_of net (x % (2 * per_corner) / 6))) (x % 6) (pos 0)

unfoldable pub all_floats : List ℤ → List Float
all_floats numbers = values_from (λ x. of_int binary32 (float_number numbers x)) 0 (2 * length numbers)

-- 18: the length is no multiple of 123, or there are more quad-nets than a mesh may have (place: the length); then 19: a number is outside ±2^27 (place: its
-- position in the whole list, so that the lowest quad-net comes first); then 255: the lent list has no room (place: the length that it needs)
unfoldable pub all_verdict : List ℤ → ℕ → Verdict
all_verdict numbers room =
    single 18 (not (eqb (length numbers % per_corner) 0) || ltb (per_corner * most_corners) (length numbers)) (length numbers)
    or_else lowest_of 19 (length numbers) (fault19 numbers)
    or_else single no_room (ltb room (2 * length numbers)) (2 * length numbers)

-- each float reads back as its whole number: none is rounded
abbrev pub NoneRounded : List ℤ → Type 0
NoneRounded numbers = (x : ℕ) → x < 2 * length numbers → read_back (of_int binary32 (float_number numbers x)) ≡ float_number numbers x

-- a call on such a list, with a lent list that held `old`, whose further entries keep their contents: it answers r and leaves `out`
pub record AllInFloats (numbers : List ℤ) (old : List Float) (r : Answer) (out : List Float) : Type 0 where
  pub answers : stated r ≡ all_verdict numbers (length old)
  pub holds : out ≡ kept (stated r) (begins (all_floats numbers) old) old
  pub exact : stated r ≡ sound → NoneRounded numbers

-- ---- what the theorems say
-- the whole-number sum of what comes back, on each axis; nothing comes back beside a refusal
abbrev pub sums : Told FloatPoint → List ℤ
sums (Ok (Near p)) = axes_back p
sums (Ok (Far p q)) = axes (read_back p.x +ℤ read_back q.x) (read_back p.y +ℤ read_back q.y) (read_back p.z +ℤ read_back q.z)
sums (Err refusal) = []

-- a far pair of d, in 02's words: a multiple of 4,096, a rest from 0 to 4,095, and their sum
pub record FarPair (d h l : ℤ) : Type 0 where
  pub multiple : (q : ℤ) × (h ≡ pos 4096 *ℤ q)
  pub rest : (n : ℕ) × (l ≡ pos n) × (n ≤ 4095)
  pub sum : h +ℤ l ≡ d
