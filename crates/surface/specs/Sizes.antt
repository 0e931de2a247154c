-- How large the numbers of a quad-net are, in ticks: what each formula is given, and what it gives.
use Rattle.std.specs.Prelude.{◌+◌, ◌-◌, ◌^◌, ◌≤◌, ℤ, pos, neg_ℤ, nat_abs, ◌≤ℤ◌}
use Rattle.paper.specs.Cosines.{unit}

-- a refined point, or a centre of a refined face
abbrev pub RefinedSize : ℤ → Type 0
RefinedSize z = nat_abs z ≤ 2 ^ 24

-- a face point towards a side
abbrev pub FaceSize : ℤ → Type 0
FaceSize z = nat_abs z ≤ 2 ^ 24 + 2 ^ 21

-- any number that the rows start from: ends, face points, inner points
abbrev pub ValueSize : ℤ → Type 0
ValueSize z = nat_abs z ≤ 2 ^ 25

-- a number that is written
abbrev pub WrittenSize : ℤ → Type 0
WrittenSize z = nat_abs z ≤ 2 ^ 26 - 1

-- C(m, 1) of a row of the cosine table
abbrev pub CosineSize : ℤ → Type 0
CosineSize c = (neg_ℤ (pos (2 ^ 29)) ≤ℤ c) × (c ≤ℤ pos unit)
