use Rattle.std.proofs.Common.{Result, ap, subst, sym}
use Rattle.std.specs.Prelude.{IfErr, OnOk}
use Rattle.std.proofs.lemmas.Result.{on_ok_weaker, IfErr-weaker}
use Rattle.mc_text.specs.model_text.specs.Text.{fields}
use Rattle.prove_facts.specs.model_rules.specs.Rules.{AppRules}
use Rattle.model_rule_text.specs.Reading as reading
use Rattle.model_rule_text.specs.Reading.{AppWord, RuleCause}
use Rattle.prove_rules.specs.Lines.{kind_value}
use Rattle.prove_rules.specs.Loads.{loads_in}
use Rattle.prove_rules.specs.Partials.{ArePartRead}
use Rattle.prove_rules.specs.Refused.{Faulty}
use Rattle.prove_rules.proofs.AlwaysLemmas.{LineFault}
use Rattle.prove_rules.proofs.AppLemmas.{AppFault, NamedFault, NeverFault}
use Rattle.prove_rules.proofs.OnLemmas.{OnFault}
use Rattle.prove_rules.proofs.ReadLemmas.{always_is, move_is, on_is, Keeps, RuleFault}
use Rattle.prove_rules.proofs.reading.add_kind.Goals as goal

pub returns-in-App-clause-added : goal.returns-in-App-clause-added
returns-in-App-clause-added c =
    let loads = loads_in c.args.source.now.text.now c.args.source.now.deck.now in
    subst (λ (w : AppWord). OnOk c.add_app.result (Keeps loads c.args.rules.now c.add_app.new.rules c.args.line (fields c.args.text.now) w)) (ap kind_value (sym c.in-App.is))
    (on_ok_weaker c.add_app.result (λ h a are. h a c.args.line are) c.add_app.ensures.added)

pub returns-in-Allow-clause-added : goal.returns-in-Allow-clause-added
returns-in-Allow-clause-added c =
    let loads = loads_in c.args.source.now.text.now c.args.source.now.deck.now in
    subst (λ (w : AppWord). OnOk c.add_allowance.result (Keeps loads c.args.rules.now c.add_allowance.new.rules c.args.line (fields c.args.text.now) w)) (ap kind_value (sym c.in-Allow.is))
    (on_ok_weaker c.add_allowance.result (λ h a are. h loads a c.args.line are) c.add_allowance.ensures.added)

pub returns-in-Sum-clause-added : goal.returns-in-Sum-clause-added
returns-in-Sum-clause-added c =
    let loads = loads_in c.args.source.now.text.now c.args.source.now.deck.now in
    subst (λ (w : AppWord). OnOk c.add_sum.result (Keeps loads c.args.rules.now c.add_sum.new.rules c.args.line (fields c.args.text.now) w)) (ap kind_value (sym c.in-Sum.is))
    (on_ok_weaker c.add_sum.result (λ h a are. h loads a c.args.line are) c.add_sum.ensures.added)

pub returns-in-On-clause-added : goal.returns-in-On-clause-added
returns-in-On-clause-added c =
    let loads = loads_in c.args.source.now.text.now c.args.source.now.deck.now in
    subst (λ (w : AppWord). OnOk c.add_on.result (Keeps loads c.args.rules.now c.add_on.new.rules c.args.line (fields c.args.text.now) w)) (ap kind_value (sym c.in-On.is))
    (on_ok_weaker c.add_on.result (λ h a are. subst (λ (r : Result AppRules RuleCause). ArePartRead r c.add_on.new.rules) (sym (on_is loads a c.args.line (fields c.args.text.now))) (h a are)) c.add_on.ensures.added)

pub returns-in-Never-clause-added : goal.returns-in-Never-clause-added
returns-in-Never-clause-added c =
    let loads = loads_in c.args.source.now.text.now c.args.source.now.deck.now in
    subst (λ (w : AppWord). OnOk c.add_never.result (Keeps loads c.args.rules.now c.add_never.new.rules c.args.line (fields c.args.text.now) w)) (ap kind_value (sym c.in-Never.is))
    (on_ok_weaker c.add_never.result (λ h a are. h loads a are) c.add_never.ensures.added)

pub returns-in-Always-clause-added : goal.returns-in-Always-clause-added
returns-in-Always-clause-added c =
    let loads = loads_in c.args.source.now.text.now c.args.source.now.deck.now in
    subst (λ (w : AppWord). OnOk c.add_always.result (Keeps loads c.args.rules.now c.add_always.new.rules c.args.line (fields c.args.text.now) w)) (ap kind_value (sym c.in-Always.is))
    (on_ok_weaker c.add_always.result (λ h a are. subst (λ (r : Result AppRules RuleCause). ArePartRead r c.add_always.new.rules) (sym (always_is loads a c.args.line (fields c.args.text.now))) (h a are)) c.add_always.ensures.added)

pub returns-in-Move-clause-added : goal.returns-in-Move-clause-added
returns-in-Move-clause-added c =
    let loads = loads_in c.args.source.now.text.now c.args.source.now.deck.now in
    subst (λ (w : AppWord). Keeps loads c.args.rules.now c.args.rules.now c.args.line (fields c.args.text.now) w) (ap kind_value (sym c.in-Move.is))
    (λ a are. subst (λ (r : Result AppRules RuleCause). ArePartRead r c.args.rules.now) (sym (move_is loads a c.args.line (fields c.args.text.now))) are)

pub returns-in-App-clause-refused : goal.returns-in-App-clause-refused
returns-in-App-clause-refused c =
    let loads = loads_in c.args.source.now.text.now c.args.source.now.deck.now in
    let fs = fields c.args.text.now in
    subst (λ (w : AppWord). IfErr c.add_app.result (RuleFault loads c.args.rules.now c.args.line w fs)) (ap kind_value (sym c.in-App.is))
    (IfErr-weaker c.add_app.result (AppFault loads c.args.rules.now fs) (RuleFault loads c.args.rules.now c.args.line reading.AppLine fs) (λ e h a are. h a c.args.line are) c.add_app.ensures.refused)

pub returns-in-Allow-clause-refused : goal.returns-in-Allow-clause-refused
returns-in-Allow-clause-refused c =
    let loads = loads_in c.args.source.now.text.now c.args.source.now.deck.now in
    let fs = fields c.args.text.now in
    subst (λ (w : AppWord). IfErr c.add_allowance.result (RuleFault loads c.args.rules.now c.args.line w fs)) (ap kind_value (sym c.in-Allow.is))
    (IfErr-weaker c.add_allowance.result (NamedFault c.args.rules.now reading.AllowLine fs) (RuleFault loads c.args.rules.now c.args.line reading.AllowLine fs) (λ e h a are. h loads a c.args.line are) c.add_allowance.ensures.refused)

pub returns-in-Sum-clause-refused : goal.returns-in-Sum-clause-refused
returns-in-Sum-clause-refused c =
    let loads = loads_in c.args.source.now.text.now c.args.source.now.deck.now in
    let fs = fields c.args.text.now in
    subst (λ (w : AppWord). IfErr c.add_sum.result (RuleFault loads c.args.rules.now c.args.line w fs)) (ap kind_value (sym c.in-Sum.is))
    (IfErr-weaker c.add_sum.result (NamedFault c.args.rules.now reading.SumWord fs) (RuleFault loads c.args.rules.now c.args.line reading.SumWord fs) (λ e h a are. h loads a c.args.line are) c.add_sum.ensures.refused)

pub returns-in-On-clause-refused : goal.returns-in-On-clause-refused
returns-in-On-clause-refused c =
    let loads = loads_in c.args.source.now.text.now c.args.source.now.deck.now in
    let fs = fields c.args.text.now in
    subst (λ (w : AppWord). IfErr c.add_on.result (RuleFault loads c.args.rules.now c.args.line w fs)) (ap kind_value (sym c.in-On.is))
    (IfErr-weaker c.add_on.result (OnFault c.args.rules.now c.args.line fs) (RuleFault loads c.args.rules.now c.args.line reading.OnWord fs) (λ e h a are. subst (λ (r : Result AppRules RuleCause). Faulty r e) (sym (on_is loads a c.args.line fs)) (h a are)) c.add_on.ensures.refused)

pub returns-in-Never-clause-refused : goal.returns-in-Never-clause-refused
returns-in-Never-clause-refused c =
    let loads = loads_in c.args.source.now.text.now c.args.source.now.deck.now in
    let fs = fields c.args.text.now in
    subst (λ (w : AppWord). IfErr c.add_never.result (RuleFault loads c.args.rules.now c.args.line w fs)) (ap kind_value (sym c.in-Never.is))
    (IfErr-weaker c.add_never.result (NeverFault c.args.rules.now c.args.line fs) (RuleFault loads c.args.rules.now c.args.line reading.NeverLine fs) (λ e h a are. h loads a are) c.add_never.ensures.refused)

pub returns-in-Always-clause-refused : goal.returns-in-Always-clause-refused
returns-in-Always-clause-refused c =
    let loads = loads_in c.args.source.now.text.now c.args.source.now.deck.now in
    let fs = fields c.args.text.now in
    subst (λ (w : AppWord). IfErr c.add_always.result (RuleFault loads c.args.rules.now c.args.line w fs)) (ap kind_value (sym c.in-Always.is))
    (IfErr-weaker c.add_always.result (LineFault c.args.rules.now c.args.line fs) (RuleFault loads c.args.rules.now c.args.line reading.AlwaysLine fs) (λ e h a are. subst (λ (r : Result AppRules RuleCause). Faulty r e) (sym (always_is loads a c.args.line fs)) (h a are)) c.add_always.ensures.refused)
