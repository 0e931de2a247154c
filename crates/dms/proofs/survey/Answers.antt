-- The bytes held are the file: as many of those read as the length says.
use mathlib.Core.Path.{sym, subst}
use mathlib.Core.List.{List}
use Prim.Native.Nat.{ℕ}
use native.Mathlib.Omega.{arith}
use lib.Seq.{length-take-le}
use Rattle.paper.specs.File.{FileSurveyed}
use Rattle.dms_lists.proofs.Reading.{held_bytes}
use Rattle.dms.proofs.survey.Goals as goal

pub slice_bounds-survey_file-end : goal.slice_bounds-survey_file-end
slice_bounds-survey_file-end c = sym (length-take-le _ c.args.bytes.now (omega arith))

pub returns : goal.returns
returns c =
    subst (λ (file : List ℕ). FileSurveyed file c.args.counted c.survey_file.result)
    (held_bytes c.args.bytes.now _ c.args.counted (omega arith) (omega arith)) c.survey_file.ensures
