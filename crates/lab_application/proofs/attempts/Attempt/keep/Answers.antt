use Rattle.std.proofs.Common.{◌≡◌, length, refl, rules}
use Rattle.lab_application.proofs.SearchLemmas.{keeps_equal, kept_comes}
use Rattle.lab_application.proofs.attempts.Attempt.keep.Goals as goal

pub returns-in-None-clause-keeps : goal.returns-in-None-clause-keeps
returns-in-None-clause-keeps c = keeps_equal c.args.search.now c.keep.new.self c.keep.ensures.laboratory c.keep.ensures.rosters

pub returns-in-None-clause-comes : goal.returns-in-None-clause-comes
returns-in-None-clause-comes c =
    let many : length c.in_ok-allowances.allowances.items ≡ length c.args.reached.now.allowances.items = search rules in
    λ d ns n m from place k.
    kept_comes d ns n m c.args.search.now c.keep.new.self c.args.step c.args.reached.now _ c.in_ok-keep.field-0 from place k refl refl many c.in_ok-keep.ensures.comes

pub returns-in-Some-clause-keeps : goal.returns-in-Some-clause-keeps
returns-in-Some-clause-keeps c = keeps_equal c.args.search.now c.keep.new.self c.keep.ensures.laboratory c.keep.ensures.rosters

pub returns-in-Some-clause-comes : goal.returns-in-Some-clause-comes
returns-in-Some-clause-comes c =
    let many : length c.in_ok-allowances.allowances.items ≡ length c.args.reached.now.allowances.items = search rules in
    λ d ns n m from place k.
    kept_comes d ns n m c.args.search.now c.keep.new.self c.args.step c.args.reached.now _ c.in_ok-keep.field-0 from place k refl refl many c.in_ok-keep.ensures.comes
