-- A matrix is its five rows: what `Matrix5::map` makes of each is what `each_row` makes of all.
use mathlib.Core.Path.{◌≡◌}
use Rattle.bernstein.specs.declared.Vector5.{Vector5}
use Rattle.bernstein.specs.declared.Matrix5.{Matrix5}
use Rattle.bernstein.specs.Sums.{each_row}

abbrev pub matrix5 : Vector5 → Vector5 → Vector5 → Vector5 → Vector5 → Matrix5
matrix5 a b c d e = record { r0 = a; r1 = b; r2 = c; r3 = d; r4 = e }

pub matrix5_same : {a b c d e a' b' c' d' e' : Vector5} → a ≡ a' → b ≡ b' → c ≡ c' → d ≡ d' → e ≡ e' → matrix5 a b c d e ≡ matrix5 a' b' c' d' e'
matrix5_same p q r s t = cc (p, q, r, s, t)

pub rows_are : (f : Vector5 → Vector5) (p m : Matrix5) → m.r0 ≡ f p.r0 → m.r1 ≡ f p.r1 → m.r2 ≡ f p.r2 → m.r3 ≡ f p.r3 → m.r4 ≡ f p.r4 → m ≡ each_row f p
rows_are f p m a b c d e = matrix5_same a b c d e
