-- How far each point of a net is off at most, in hundredths of a tick.
use Rattle.std.specs.Prelude.{List, [], ◌∷◌, ℕ}

-- the 41 points in the order of the output
unfoldable pub bounds : List ℕ
bounds =
    100 ∷ 155 ∷ 156 ∷ 155 ∷ 100
    ∷ 155 ∷ 299 ∷ 319 ∷ 259 ∷ 155
    ∷ 156 ∷ 319 ∷ 419 ∷ 319 ∷ 156
    ∷ 155 ∷ 259 ∷ 319 ∷ 299 ∷ 155
    ∷ 100 ∷ 155 ∷ 156 ∷ 155 ∷ 100
    ∷ 206 ∷ 249 ∷ 209 ∷ 206
    ∷ 249 ∷ 369 ∷ 369 ∷ 209
    ∷ 209 ∷ 369 ∷ 369 ∷ 249
    ∷ 206 ∷ 209 ∷ 249 ∷ 206
    ∷ []
