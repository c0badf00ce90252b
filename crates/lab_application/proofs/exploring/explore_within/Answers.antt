use Rattle.lab_application.proofs.DepthLemmas.{app_stops, deck_breaks}
use Rattle.std.proofs.Common.{length}
use Rattle.law_histories.specs.law_explore.specs.States.{play_of_deck}
use Rattle.lab_application.proofs.exploring.explore_within.Goals as goal

pub returns-in_err-amounts : goal.returns-in_err-amounts
returns-in_err-amounts g c =
    λ ls ms h. app_stops c.args.subject.rules.now ms c.args.depth (play_of_deck ls) _ c.from_residual.result c.from_residual.ensures.0 c.from_residual.ensures.1

pub returns-in-Err : goal.returns-in-Err
returns-in-Err g c =
    λ ls ms h. deck_breaks c.args.subject.rules.now ms c.args.depth (play_of_deck ls) _ _ c.in-Err.broken c.report_deck.result c.report_deck.ensures.put c.report_deck.ensures.broken

pub returns-in_err-search : goal.returns-in_err-search
returns-in_err-search g c =
    λ ls ms h. app_stops c.args.subject.rules.now ms c.args.depth (play_of_deck ls) _ c.from_residual-in_err-search.result c.from_residual-in_err-search.ensures.0 c.from_residual-in_err-search.ensures.1

pub search_on-requires : goal.search_on-requires
search_on-requires g c =
    let q = c.requires.read in
    (q.0, q.1, length c.as_slice.result.now, c.args.limit, q.2, c.in_ok-search.ensures q.0 q.1 q.2)

pub returns : goal.returns
returns g c =
    λ ls ms h. c.search_on.ensures ls ms (length c.as_slice.result.now) c.args.limit h (c.in_ok-search.ensures ls ms h)
