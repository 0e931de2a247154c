-- The length counted of a file, where the buffer is full and where it is not.
use mathlib.Core.Path.{◌≡◌, refl, subst}
use mathlib.Core.List.{List}
use Prim.Native.Nat.{ℕ, ◌+◌, ◌<◌, ◌≤◌}
use native.Mathlib.Omega.{arith}
use lib.ListN.{length}
use Rattle.paper.specs.File.{expected_length}
use Rattle.print.specs.file_input.Measured.{Measured}

pub measured_short : (file : List ℕ) (size : ℕ) → Measured file size (length file)
measured_short file size = record { held = omega arith; short = λ l. refl; long = λ l. absurd (omega arith) }

pub measured_long : (file : List ℕ) (size expected counted : ℕ) → size ≤ length file → expected ≡ expected_length file
    → length file ≤ counted → (length file < counted → counted ≤ expected + 1) → Measured file size counted
measured_long file size expected counted f e l m =
    record { held = l; short = λ s. absurd (omega arith); long = λ s. subst (λ (n : ℕ). counted ≤ n + 1) e (m s) }
