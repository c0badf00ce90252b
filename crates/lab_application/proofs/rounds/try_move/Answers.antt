use Rattle.std.proofs.Common.{List, Some, ap, refl, slice_get, subst, sym, ◌∙◌}
use Rattle.std.proofs.lemmas.Option.{slice_get-get_or}
use Rattle.lab_rules.specs.declared.rules.Move.{Move}
use Rattle.lab_rules.specs.declared.rules.OnRule.{OnRule}
use Rattle.lab_application.specs.Shadows.{SpendNothing}
use Rattle.lab_application.proofs.SearchLemmas.{if_ok_then, same_holds}
use Rattle.lab_application.proofs.ShadowLemmas.{candidate_at}
use Rattle.lab_application.proofs.rounds.try_move.Goals as goal

pub course_of-requires : goal.course_of-requires
course_of-requires g c = let q = c.requires in (q.0, q.1, q.2, q.3)

pub try_all-requires-clause-can : goal.try_all-requires-clause-can
try_all-requires-clause-can g c =
    let q = c.requires in
    let here = ap (λ (ms : List Move). slice_get ms c.args.chosen) (sym c.as_slice-all.ensures.value) ∙ slice_get-get_or c.as_slice-all.result.now c.args.chosen c.index-all-chosen.result c.if-chosen-all.false ∙ ap Some (sym c.index-all-chosen.is) in
    let k = candidate_at (q.0).rules c.args.moves.now.rules _ c.index-all-chosen.result c.args.chosen q.4 here refl c.as_slice.ensures.value refl in
    (q.0, q.1, q.2, k.move, record { at = record { holds = same_holds q.0 q.1 c.args.search.now c.course_of.new.search c.in_ok-course.ensures (q.3).holds; found = (q.3).found }; candidate = k.is; place = k.place })

pub returns : goal.returns
returns g c =
    if_ok_then c.try_all.result _ _
    (λ o f. λ d ns n h shadows.
    let here = ap (λ (ms : List Move). slice_get ms c.args.chosen) (sym c.as_slice-all.ensures.value) ∙ slice_get-get_or c.as_slice-all.result.now c.args.chosen c.index-all-chosen.result c.if-chosen-all.false ∙ ap Some (sym c.index-all-chosen.is) in
    let k = candidate_at d.rules c.args.moves.now.rules _ c.index-all-chosen.result c.args.chosen shadows here refl c.as_slice.ensures.value refl in
    f d ns n k.move (record { at = record { holds = same_holds d ns c.args.search.now c.course_of.new.search c.in_ok-course.ensures h.holds; found = h.found }; candidate = k.is; place = k.place }))
    c.try_all.ensures

pub try_all-requires-clause-allows : goal.try_all-requires-clause-allows
try_all-requires-clause-allows g c = subst (λ (os : List OnRule). SpendNothing os) (sym c.as_slice.ensures.value) c.requires.4.allows
