-- `mahunopi::mahunopi_irregular` meets its contract: it tells what `irregular::search` answers.
use Rattle.mahunopi.proofs.Laws.{face_call, vertex_call, none_call, irregular_refused}
use Rattle.mahunopi.proofs.mahunopi_irregular.Goals as goal

pub returns-in-Face : goal.returns-in-Face
returns-in-Face c = face_call _ _ _ _ c.in-Ok.ensures _ _ c.in-Some.is c.in-Face.is

pub returns-in-Vertex : goal.returns-in-Vertex
returns-in-Vertex c = vertex_call _ _ _ _ c.in-Ok.ensures _ _ c.in-Some.is c.in-Vertex.is

pub returns-in-None : goal.returns-in-None
returns-in-None c = none_call _ _ _ _ c.in-Ok.ensures c.in-None.is

pub returns-in-Err : goal.returns-in-Err
returns-in-Err c = irregular_refused _ _ _ _ _ _ c.in-Err.ensures c.tell.ensures
