use Rattle.std.proofs.Common.{◌≡◌, ◌-◌, ◌<◌, [], ◌∷◌, ◌++◌, ℕ, List, Some, ap, length, refl, reverse, rules, subst, sym, ◌∙◌}
use Rattle.std.proofs.lemmas.Option.{slice_get-get_or, slice_get_within}
use Rattle.lab_rules.specs.Meanings.{AlikeLists}
use Rattle.lab_search.specs.declared.journey.Step.{Step}
use Rattle.lab_search.specs.Rounds.{IsTry}
use Rattle.lab_search.proofs.PathLemmas.{Walked, turned, walked_all, walked_first, walked_more}
use Rattle.lab_search.proofs.rounds.Search.path.Goals as goal

pub loop-at-init : goal.loop-at-init
loop-at-init c =
    record {
      within = search rules;
      walked = λ d ns n t h k.
          let one : c.push.new.list.items ≡ c.args.last ∷ [] = c.in_ok-push.ensures.items ∙ ap (λ xs. xs ++ c.args.last ∷ []) c.new-path.ensures.items in
          let count = h.holds.reached.count in
          let below = slice_get_within ns c.args.last.before n h.found in
          let same : c.min-at.result ≡ c.args.last.before = search (rules, count, below) in
          subst (λ (i : ℕ). Walked d.rules.moves ns c.push.new.list.items i (t ∷ n.path)) (sym same) (walked_first d.rules.moves ns c.args.last n t _ one h.found k);
    }

pub loop-at-preserved : goal.loop-at-preserved
loop-at-preserved c =
    record {
      within = search rules;
      walked = λ d ns n t h k.
          let items = c.args.self.now.last_steps.items in
          let at = c.loop-at.at in
          let within : at - 1 < length items = search rules in
          let found = slice_get-get_or items (at - 1) c.index-step.result.now within ∙ ap Some (sym c.index-step.ensures) in
          walked_more d.rules.moves ns items c.loop-at.path.items c.push-in-loop-at.new.list.items at c.min-at-in-loop-at.result c.index-step.result.now _ h.holds.reached c.loop-at-test.true
          found c.in_ok-push-2.ensures.items c.min-at-in-loop-at.ensures (c.loop-at.invariant.walked d ns n t h k);
    }

pub returns : goal.returns
returns c =
    λ d ns n t h k.
    let all = walked_all d.rules.moves ns c.args.self.now.last_steps.items c.loop-at.path.items c.loop-at.at _ h.holds.reached c.loop-at-test.false (c.loop-at.invariant.walked d ns n t h k) in
    subst (λ (xs : List Step). AlikeLists (IsTry d.rules.moves) xs (reverse (t ∷ n.path))) (sym (turned c.loop-at.path.len c.reverse.new.self c.as_mut_slice.result.now c.loop-at.path.items c.loop-at.path.ok.0 c.reverse.ensures.after c.as_mut_slice.ensures.value)) all
