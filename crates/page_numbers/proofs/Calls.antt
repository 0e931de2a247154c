-- The calls of the report from C: a page's numbers before and after, and what C is told.
use Rattle.std.proofs.Common.{◌≡◌, refl, sym, ap, subst, ◌∙◌, List, ℕ}
use Rattle.std.specs.Prelude.{Ok, Err}
use Rattle.paper.specs.Faults.{Verdict, sound, fault, stated}
use Rattle.paper.specs.Report.{numbers_on, Offered, page_verdict, page_after, merge_verdict, NextPage, answer_of, ReportedTo, MergedTo}
use Rattle.paper.specs.CFace.{States, page_in, ReportCall, MergeCall}
use Rattle.paper.specs.declared.Page.{Page}
use Rattle.paper.specs.declared.RefusedPage.{RefusedPage}

-- what is told and what is held follow from the answer
module _ (F : Offered) (old : List ℕ) (r : NextPage) (before : ℕ) (c : ReportedTo (page_in old) F r) where
  pub report_refused : (q : RefusedPage) (n after : ℕ) → r ≡ Err q → States (fault q.refusal.number q.refusal.place) before n after → ReportCall F old before n after old
  report_refused q n after e s =
      let v : fault q.refusal.number q.refusal.place ≡ page_verdict (page_in old) = ap (λ a. stated (answer_of a)) (sym e) ∙ c.answers in
      record { answers = subst (λ (w : Verdict). States w before n after) v s; holds = rw (← v) }

  pub report_done : (next : Page) (numbers : List ℕ) → r ≡ Ok next → numbers ≡ numbers_on next → ReportCall F old before 0 before numbers
  unfolding page_after
  report_done next numbers e h =
      let v : sound ≡ page_verdict (page_in old) = ap (λ a. stated (answer_of a)) (sym e) ∙ c.answers in
      let n = rw (e, ← v) at c.holds in
      record { answers = subst (λ (w : Verdict). States w before 0 before) v (record { number = refl; place = refl }); holds = rw (← v) (h ∙ ap numbers_on n) }

module _ (other old : List ℕ) (r : NextPage) (before : ℕ) (c : MergedTo (page_in old) (page_in other) r) where
  pub merge_refused : (q : RefusedPage) (n after : ℕ) → r ≡ Err q → States (fault q.refusal.number q.refusal.place) before n after → MergeCall other old before n after old
  merge_refused q n after e s =
      let v : fault q.refusal.number q.refusal.place ≡ merge_verdict (page_in old) (page_in other) = ap (λ a. stated (answer_of a)) (sym e) ∙ c.answers in
      record { answers = subst (λ (w : Verdict). States w before n after) v s; holds = rw (← v) }

  pub merge_done : (next : Page) (numbers : List ℕ) → r ≡ Ok next → numbers ≡ numbers_on next → MergeCall other old before 0 before numbers
  merge_done next numbers e h =
      let v : sound ≡ merge_verdict (page_in old) (page_in other) = ap (λ a. stated (answer_of a)) (sym e) ∙ c.answers in
      let n = rw (e, ← v) at c.holds in
      record { answers = subst (λ (w : Verdict). States w before 0 before) v (record { number = refl; place = refl }); holds = rw (← v) (h ∙ ap numbers_on n) }
