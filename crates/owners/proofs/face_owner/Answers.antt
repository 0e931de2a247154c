-- A face's first corner has its point.
use Rattle.owners.proofs.Walked.{face_first}
use Rattle.owners.proofs.face_owner.Goals as goal

pub returns : goal.returns
returns c = λ M h. face_first M _ _ _ h c.face_start.ensures
