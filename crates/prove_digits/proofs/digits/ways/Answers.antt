use Rattle.std.proofs.Common.{◌∙◌, ◌++◌, List, map, ap, true, false}
use Rattle.prove_facts.specs.model_prove.specs.Digits.{Flags, Digits}
use Rattle.prove_digits.specs.States.{way_back}
use Rattle.prove_digits.specs.Ways.{way_value}
use Rattle.prove_digits.proofs.StepLemmas.{ways_are}
use Rattle.prove_digits.proofs.digits.ways.Goals as goal

pub returns : goal.returns
returns c op h =
    let end = c.in_ok-walk.walk.states in
    let ss = c.in_ok-walk.walk.steps.items in
    c.in_ok-add_way-4.ensures
    ∙ ap (λ (l : List (Flags × List Digits)). l ++ way_back end true true ss) (c.in_ok-add_way-3.ensures
    ∙ ap (λ (l : List (Flags × List Digits)). l ++ way_back end true false ss) (c.in_ok-add_way-2.ensures
    ∙ ap (λ (l : List (Flags × List Digits)). l ++ way_back end false true ss) (c.in_ok-add_way.ensures
    ∙ ap (λ (l : List (Flags × List Digits)). l ++ way_back end false false ss) (ap (map way_value) c.new-found.ensures.items))))
    ∙ ways_are op end c.args.xs.now c.args.ys.now ss (c.in_ok-walk.ensures op h)
