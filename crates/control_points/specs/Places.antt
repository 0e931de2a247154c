-- Where a triangle's control points stand among the 41.
use Rattle.std.specs.Prelude.{ℕ, zero, suc, ◌+◌, ◌-◌, ◌*◌}

-- ---- the b points and the a points of a side's triangle, by the rows inwards and along the row from the head
abbrev pub b_place : ℕ → ℕ → ℕ → ℕ
b_place zero inward along = 6 * inward + along
b_place (suc zero) inward along = 24 - 6 * inward - 5 * along
b_place (suc (suc zero)) inward along = 24 - 6 * inward - along
b_place (suc (suc (suc n))) inward along = 6 * inward + 5 * along

abbrev pub a_place : ℕ → ℕ → ℕ → ℕ
a_place zero inward along = 25 + 5 * inward + along
a_place (suc zero) inward along = 40 - 5 * inward - 4 * along
a_place (suc (suc zero)) inward along = 40 - 5 * inward - along
a_place (suc (suc (suc n))) inward along = 25 + 5 * inward + 4 * along
