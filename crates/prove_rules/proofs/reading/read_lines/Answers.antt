use Rattle.std.proofs.Common.{◌+◌, ℕ, List, Bor, ap, subst, sym, ◌∙◌}
use Rattle.std.specs.Prelude.{option_map}
use Rattle.prove_rules.specs.Lines.{lines_read}
use Rattle.prove_rules.specs.Loads.{loads_in}
use Rattle.prove_rules.proofs.CountLemmas.{few_step}
use Rattle.prove_rules.specs.Refused.{RefusesRules}
use Rattle.prove_rules.proofs.ReadLemmas.{rules_done, rules_refuse, rules_step}
use Rattle.prove_rules.proofs.reading.read_lines.Goals as goal

pub loop-line-preserved : goal.loop-line-preserved
loop-line-preserved c =
    let next = ap (option_map (λ (l : Bor (List ℕ) × Bor (List ℕ)). (l.0.now, l.1.now))) (sym c.in-Some.is) ∙ c.next_line.ensures.line in
    let text = c.args.source.now.text.now in
    let deck = c.args.source.now.deck.now in
    record {
      left = rules_step (loads_in text deck) c.loop-line.rules c.add_line.new.rules c.loop-line.inside c.stays_inside-inside.result (c.loop-line.number + 1) c.loop-line.rest.now c.in-Some.line.now c.in-Some.after.now (lines_read text deck)
          next c.stays_inside-inside.ensures c.in-Ok.ensures.added c.loop-line.invariant.left;
      few = few_step c.loop-line.number c.loop-line.rest.now c.in-Some.line.now c.in-Some.after.now next c.loop-line.invariant.few;
    }

pub returns-clause-read : goal.returns-clause-read
returns-clause-read c =
    let next = ap (option_map (λ (l : Bor (List ℕ) × Bor (List ℕ)). (l.0.now, l.1.now))) (sym c.in_default.is) ∙ c.next_line.ensures.line in
    let text = c.args.source.now.text.now in
    let deck = c.args.source.now.deck.now in
    rules_done (loads_in text deck) c.loop-line.rules c.loop-line.inside (c.loop-line.number + 1) c.loop-line.rest.now (lines_read text deck) next c.loop-line.invariant.left

pub returns-in-Err-clause-refused : goal.returns-in-Err-clause-refused
returns-in-Err-clause-refused c =
    let next = ap (option_map (λ (l : Bor (List ℕ) × Bor (List ℕ)). (l.0.now, l.1.now))) (sym c.in-Some.is) ∙ c.next_line.ensures.line in
    let text = c.args.source.now.text.now in
    let deck = c.args.source.now.deck.now in
    subst (RefusesRules (lines_read text deck)) (sym c.refusal_at.ensures)
    (rules_refuse (loads_in text deck) c.loop-line.rules c.loop-line.inside (c.loop-line.number + 1) c.loop-line.rest.now c.in-Some.line.now c.in-Some.after.now (lines_read text deck) c.in-Err.fault next c.in-Err.ensures.refused c.loop-line.invariant.left)
