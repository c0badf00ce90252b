use Rattle.std.proofs.Common.{◌≡◌, ◌∙◌, ap, sym, subst, ℕ, List, Ok}
use Rattle.mc_deck.specs.model_play.specs.DeckGrammar.{deck_read}
use Rattle.mc_filter.proofs.Statuses.{puts_by}
use Rattle.mc_filter.specs.Outside.{outside, Outside}
use Rattle.mc_filter.specs.Statuses.{status_after_writing}
use Rattle.mc_filter.specs.declared.status.Status.{Status}
use Rattle.prove_tables.specs.law_prove_closed.specs.model_rule_text.specs.Reading.{app_rules_read}
use Rattle.lab_app_rules.specs.model_rules.specs.Rules.{AppRules, Target}
use Rattle.lab_app_rules.specs.Rules.{AreRules}
use Rattle.lab_app_rules.specs.Sums.{AreSums}
use Rattle.mellab.proofs.RuleLemmas.{kept_as_read, says_proved}
use Rattle.mellab.proofs.proving.prove_input.Goals as goal

pub rules_of-requires : goal.rules_of-requires
rules_of-requires g c = ap deck_read (c.as_slice-2.ensures.value ∙ sym c.as_slice.ensures.value) ∙ c.in_ok-deck.ensures.deck

pub returns-clause-done : goal.returns-clause-done
returns-clause-done g c =
    let a : Outside = outside g.S.Source g.T.Sink c.args.input.now c.read_input.new.input c.args.out.now c.put_all-written.new.sink in
    let text = c.in_ok-verdict.verdict.text.items in
    let is = ap deck_read (sym c.as_slice.ensures.value) ∙ c.in_ok-deck.ensures.deck in
    let said = c.put_all-written.ensures in
    let put = puts_by a.out_old a.out c.as_slice-3.result.now text c.put_all-written.result c.as_slice-3.ensures.value said.bytes said.fault said.part said.quiet in
    let status = c.ended.ensures ∙ ap (λ (s : Status). status_after_writing s c.put_all-written.result) c.status_by.ensures in
    let kept = kept_as_read c.in_ok-text.text.items c.in_ok-rules.rules c.in_ok-verdict.verdict.proved (subst (λ (t : List ℕ). (a : AppRules) × (g : Target) × (app_rules_read t ≡ Ok a) × AreRules a g c.in_ok-rules.rules × AreSums a c.in_ok-rules.rules) c.as_slice-2.ensures.value c.in_ok-rules.ensures.read) c.in_ok-verdict.ensures.kept in
    says_proved a c.in_ok-text.text.items c.in_ok-deck.deck text c.in_ok-verdict.verdict.proved c.put_all-written.result c.ended.result c.in_ok-text.ensures.read is c.in_ok-verdict.ensures.report kept status put
