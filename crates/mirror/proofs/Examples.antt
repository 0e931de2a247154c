-- What the mirror of a list is, computed: two points on each axis, and no other axis.
use mathlib.Core.Path.{◌≡◌, refl}
use mathlib.Core.List.{List, [], ◌∷◌}
use lib.IntN.{ℤ, pos, negsuc}
use Rattle.paper.specs.Scan.{values_from}
use Rattle.paper.specs.Mirror.{negate_axis}

abbrev two : List ℤ
two = pos 1 ∷ negsuc 1 ∷ pos 3 ∷ pos 4 ∷ pos 0 ∷ negsuc 5 ∷ []

x_negated : negate_axis 0 two ≡ negsuc 0 ∷ negsuc 1 ∷ pos 3 ∷ negsuc 3 ∷ pos 0 ∷ negsuc 5 ∷ []
unfolding negate_axis values_from
x_negated = refl

y_negated : negate_axis 1 two ≡ pos 1 ∷ pos 2 ∷ pos 3 ∷ pos 4 ∷ pos 0 ∷ negsuc 5 ∷ []
unfolding negate_axis values_from
y_negated = refl

z_negated : negate_axis 2 two ≡ pos 1 ∷ negsuc 1 ∷ negsuc 2 ∷ pos 4 ∷ pos 0 ∷ pos 6 ∷ []
unfolding negate_axis values_from
z_negated = refl
