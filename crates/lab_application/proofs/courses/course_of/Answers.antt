use Rattle.std.proofs.Common.{sym}
use Rattle.lab_search.specs.Kept.{names_in}
use Rattle.lab_search.proofs.RoundLemmas.{held_at, kept_at}
use Rattle.lab_application.proofs.SearchLemmas.{same_if_ok}
use Rattle.lab_application.proofs.courses.course_of.Goals as goal

pub course_in-requires : goal.course_in-requires
course_in-requires g c =
    let q = c.requires in
    (names_in (q.0).rules, (q.2).state, kept_at q.0 c.args.search.now q.1 q.2 c.args.before c.in-Some.state.now q.3 c.in-Some.ensures.key)

pub returns : goal.returns
returns g c = same_if_ok c.course_in.result c.args.search.now c.course_in.new.laboratory c.course_in.ensures.root c.course_in.ensures.budget c.course_in.ensures.counts

pub unreachable-requires : goal.unreachable-requires
unreachable-requires g c = let q = c.requires in held_at q.0 c.args.search.now q.1 q.2 c.args.before q.3 (sym c.in_default.ensures.key)
