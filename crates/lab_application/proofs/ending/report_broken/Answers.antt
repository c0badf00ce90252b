use Rattle.std.proofs.Common.{ap, reverse, ◌∷◌}
use Rattle.law_histories.specs.law_explore.specs.Rules as rule
use Rattle.lab_search.proofs.EndingLemmas.{put_stopped}
use Rattle.lab_search.proofs.HaltLemmas.{nothing_yet, put_err}
use Rattle.lab_application.proofs.WordLemmas.{steps_of}
use Rattle.lab_application.proofs.ending.report_broken.Goals as goal

pub returns-in_err-path-clause-put : goal.returns-in_err-path-clause-put
returns-in_err-path-clause-put g c =
    λ x d ns n t h s e k i. put_stopped _ _ _ c.from_residual.result c.from_residual.ensures.0 c.from_residual.ensures.1 (nothing_yet _ _)

pub returns-in_err-put_way-clause-put : goal.returns-in_err-put_way-clause-put
returns-in_err-put_way-clause-put g c =
    λ x d ns n t h s e k i.
    let tries = steps_of d.rules.moves x.rules.moves c.as_slice.result.now c.in_ok-path.path.items (reverse (t ∷ n.path)) (ap (λ (r : rule.Rules). r.moves) e) c.as_slice.ensures.value (c.in_ok-path.ensures d ns n t k i) in
    put_err _ _ _ c.from_residual-in_err-put_way.result c.in_err-put_way.field-0.0 c.from_residual-in_err-put_way.ensures.0 c.from_residual-in_err-put_way.ensures.1 (c.in_err-put_way.ensures x (reverse (t ∷ n.path)) h s tries)

pub returns-clause-put : goal.returns-clause-put
returns-clause-put g c =
    λ x d ns n t h s e k i.
    let tries = steps_of d.rules.moves x.rules.moves c.as_slice.result.now c.in_ok-path.path.items (reverse (t ∷ n.path)) (ap (λ (r : rule.Rules). r.moves) e) c.as_slice.ensures.value (c.in_ok-path.ensures d ns n t k i) in
    c.in_ok-put_way.ensures x (reverse (t ∷ n.path)) h s tries
