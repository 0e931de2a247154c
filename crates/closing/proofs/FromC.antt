-- A call of `mahunopi_triangles`, `mahunopi_count_triangles`, `mahunopi_tangents` or `mahunopi_tangents_at` that answers 0 is a call that is not refused: no fault has the number 0.
use mathlib.Core.Path.{◌≡◌, sym, ap, ◌∙◌}
use mathlib.Core.List.{List}
use Prim.Native.Nat.{ℕ}
use native.Mathlib.Omega.{arith}
use lib.ListN.{length}
use lib.IntN.{ℤ}
use Rattle.paper.specs.Mesh.{Mesh}
use Rattle.paper.specs.Faults.{Verdict, sound, kept}
use Rattle.paper.specs.File.{begins}
use Rattle.paper.specs.Triangles.{point_list, triangle_list, level_verdict, triangle_room}
use Rattle.paper.specs.Floats.{net_verdict}
use Rattle.paper.specs.Sampling.{Weights, sample_verdict, side_at}
use Rattle.paper.specs.Tangents.{tangent_pair, tangent_list, tangent_verdict}
use Rattle.paper.specs.CFace.{Sizes, sizes_of, fill_verdict}
use Rattle.paper.specs.Claims.{TrianglesFromC, CountsFromC, TangentsFromC}
use Rattle.borders.proofs.FromC.{Numbered, one, lowest, linked, ◌or◌}

leveled : (M : Mesh) (links : List ℕ) (first count : ℕ) (levels : List ℕ) → Numbered (level_verdict M links first count levels)
unfolding level_verdict
leveled M links first count levels =
    linked M (length links) or lowest 15 _ _ (omega arith) or one 16 _ _ (omega arith) or one 39 _ _ (omega arith) or lowest 40 _ _ (omega arith)

roomed : (M : Mesh) (levels : List ℕ) (first count room space : ℕ) → Numbered (triangle_room M levels first count room space)
unfolding triangle_room
roomed M levels first count room space = one 255 _ _ (omega arith) or one 255 _ _ (omega arith)

pub counts_from_c : CountsFromC
counts_from_c M links levels first count lent before after told call =
    let e : level_verdict M links first count levels ≡ sound = (leveled M links first count levels).none (sym call.answers.number) in
    let t : told ≡ sizes_of M levels first count = call.tells ∙ ap (λ (w : Verdict). kept w (sizes_of M levels first count) lent) e in
    record { answers = sym e; lengths = (ap (λ (z : Sizes). z.points) t, ap (λ (z : Sizes). z.triangles) t) }

pub triangles_from_c : TrianglesFromC
triangles_from_c M links levels first count old old' lent before after points triangles told call =
    let e : fill_verdict M links levels first count (length old) (length old') ≡ sound =
    (leveled M links first count levels or roomed M levels first count (length old) (length old')).none (sym call.answers.number) in
    let t : told ≡ sizes_of M levels first count = call.tells ∙ ap (λ (w : Verdict). kept w (sizes_of M levels first count) lent) e in
    record {
      answers = sym e;
      lengths = (ap (λ (z : Sizes). z.points) t, ap (λ (z : Sizes). z.triangles) t);
      points_hold = call.points_hold ∙ ap (λ (w : Verdict). kept w (begins (point_list M levels first count) old) old) e;
      triangles_hold = call.triangles_hold ∙ ap (λ (w : Verdict). kept w (begins (triangle_list M levels first count) old') old') e;
    }

sampled : (numbers : List ℤ) (side : ℕ) (w : Weights) → Numbered (sample_verdict numbers side w)
unfolding sample_verdict net_verdict
sampled numbers side w = (one 18 _ _ (omega arith) or lowest 19 _ _ (omega arith)) or one 32 _ _ (omega arith) or one 33 _ _ (omega arith)

ranged : (M : Mesh) (links : List ℕ) (first count : ℕ) (levels : List ℕ) (room : ℕ) → Numbered (tangent_verdict M links first count levels room)
unfolding tangent_verdict
ranged M links first count levels room = leveled M links first count levels or one 255 _ _ (omega arith)

pub tangents_from_c : TangentsFromC
tangents_from_c = (
  λ numbers side w old before after out call.
      let e = (sampled numbers side w).none (sym call.answers.number) in
      record { answers = sym e; holds = call.holds ∙ ap (λ (v : Verdict). kept v (tangent_pair numbers (side_at side) w) old) e },
  λ M links levels first count old lent before after out told call.
      let e = (ranged M links first count levels (length old)).none (sym call.answers.number) in
      record {
        answers = sym e;
        numbers_are = call.tells ∙ ap (λ (v : Verdict). kept v (length (tangent_list M levels first count)) lent) e;
        holds = call.holds ∙ ap (λ (v : Verdict). kept v (begins (tangent_list M levels first count) old) old) e;
      },
)
