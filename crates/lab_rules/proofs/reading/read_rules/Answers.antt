use Rattle.std.proofs.Common.{◌+◌, ℕ, List, Bor, Bool, arith, ap, sym, subst, ◌∙◌}
use Rattle.std.specs.Prelude.{option_map}
use Rattle.law_explore.specs.Rules.{rules_read}
use Rattle.mc_deck.specs.Refused.{DeckRefuses}
use Rattle.lab_rules.proofs.FieldLemmas.{first_line}
use Rattle.lab_rules.proofs.ReadLemmas.{few_step, rules_done, rules_refuse, rules_start, rules_step, RulesLeft}
use Rattle.lab_rules.proofs.reading.read_rules.Goals as goal

pub loop-line-init : goal.loop-line-init
loop-line-init c = record {
  left = rules_start c.new.result.items c.new-2.result.items c.new-3.result.items c.args.text.now c.new.ensures.items c.new-2.ensures.items c.new-3.ensures.items;
  few = omega (arith, c.requires);
}

pub add_line-requires : goal.add_line-requires
add_line-requires c =
    let next = ap (option_map (λ (l : Bor (List ℕ) × Bor (List ℕ)). (l.0.now, l.1.now))) (sym c.in-Some.is) ∙ c.next_line.ensures.line in
    first_line c.loop-line.rest.now c.in-Some.line.now c.in-Some.behind.now next

pub returns-in-Err-clause-refused : goal.returns-in-Err-clause-refused
returns-in-Err-clause-refused c =
    let next = ap (option_map (λ (l : Bor (List ℕ) × Bor (List ℕ)). (l.0.now, l.1.now))) (sym c.in-Some.is) ∙ c.next_line.ensures.line in
    let so = c.loop-line.rules in
    subst (DeckRefuses (rules_read c.args.text.now)) (sym c.refusal_at.ensures)
    (rules_refuse so.moves.items so.allowances.items so.ons.items c.loop-line.inside (c.loop-line.number + 1) c.loop-line.rest.now c.in-Some.line.now c.in-Some.behind.now (rules_read c.args.text.now) c.in-Err.fault next
    c.in-Err.ensures.refused c.loop-line.invariant.left)

pub loop-line-preserved : goal.loop-line-preserved
loop-line-preserved c =
    let next = ap (option_map (λ (l : Bor (List ℕ) × Bor (List ℕ)). (l.0.now, l.1.now))) (sym c.in-Some.is) ∙ c.next_line.ensures.line in
    let so = c.loop-line.rules in
    let now = c.add_line.new.rules in
    let n = c.loop-line.number + 1 in
    let step = rules_step so.moves.items now.moves.items so.allowances.items now.allowances.items so.ons.items now.ons.items c.loop-line.inside n c.loop-line.rest.now c.in-Some.line.now c.in-Some.behind.now (rules_read c.args.text.now) next c.in-Ok.ensures.added c.loop-line.invariant.left in
    record {
      left = subst (λ (b : Bool). RulesLeft now.moves.items now.allowances.items now.ons.items b (n + 1) c.in-Some.behind.now (rules_read c.args.text.now)) (sym c.stays_inside-inside.ensures) step;
      few = few_step c.loop-line.number c.loop-line.rest.now c.in-Some.line.now c.in-Some.behind.now next c.loop-line.invariant.few;
    }

pub returns-clause-read : goal.returns-clause-read
returns-clause-read c =
    let next = ap (option_map (λ (l : Bor (List ℕ) × Bor (List ℕ)). (l.0.now, l.1.now))) (sym c.in_default.is) ∙ c.next_line.ensures.line in
    let so = c.loop-line.rules in
    rules_done so.moves.items so.allowances.items so.ons.items c.loop-line.inside (c.loop-line.number + 1) c.loop-line.rest.now (rules_read c.args.text.now) next c.loop-line.invariant.left
