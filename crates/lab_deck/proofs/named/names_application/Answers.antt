use Rattle.std.proofs.Common.{ℕ, List, Bor, ap, sym, ◌∙◌}
use Rattle.std.specs.Prelude.{codes, false, option_map}
use Rattle.law_histories.specs.model_text.specs.Text.{lines}
use Rattle.law_histories.specs.Histories.{has_rule_of}
use Rattle.lab_deck.proofs.NamedLemmas.{rule_here, rule_next, rule_none}
use Rattle.lab_deck.proofs.named.names_application.Goals as goal

pub returns-then-names_it : goal.returns-then-names_it
returns-then-names_it c =
    let next = ap (option_map (λ (l : Bor (List ℕ) × Bor (List ℕ)). (l.0.now, l.1.now))) (sym c.in-Some.is) ∙ c.next_line.ensures.line in
    let whole = has_rule_of (codes "app") false (lines c.args.text.now) in
    rule_here (codes "app") c.loop-line.inside c.loop-line.rest.now c.in-Some.line.now c.in-Some.after.now c.names_it.result whole next c.names_it.ensures c.if-names_it.true c.loop-line.invariant

pub loop-line-preserved : goal.loop-line-preserved
loop-line-preserved c =
    let next = ap (option_map (λ (l : Bor (List ℕ) × Bor (List ℕ)). (l.0.now, l.1.now))) (sym c.in-Some.is) ∙ c.next_line.ensures.line in
    let whole = has_rule_of (codes "app") false (lines c.args.text.now) in
    rule_next (codes "app") c.loop-line.inside c.stays_inside-inside.result c.loop-line.rest.now c.in-Some.line.now c.in-Some.after.now c.names_it.result whole next c.names_it.ensures c.if-names_it.false
    c.stays_inside-inside.ensures c.loop-line.invariant

pub returns : goal.returns
returns c =
    let next = ap (option_map (λ (l : Bor (List ℕ) × Bor (List ℕ)). (l.0.now, l.1.now))) (sym c.in_default.is) ∙ c.next_line.ensures.line in
    let whole = has_rule_of (codes "app") false (lines c.args.text.now) in
    rule_none (codes "app") c.loop-line.inside c.loop-line.rest.now whole next c.loop-line.invariant
