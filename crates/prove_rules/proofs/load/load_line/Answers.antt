use Rattle.std.proofs.Common.{◌+◌, ℕ, List, Bor, ap, sym, ◌∙◌}
use Rattle.std.specs.Prelude.{false, option_map}
use Rattle.mc_text.specs.model_text.specs.Text.{lines, with_numbers}
use Rattle.model_rule_text.specs.Reading.{load_names}
use Rattle.prove_rules.specs.Loads.{first_named}
use Rattle.prove_rules.proofs.CountLemmas.{few_step}
use Rattle.prove_rules.proofs.LoadLemmas.{first_here, first_next, first_none}
use Rattle.prove_rules.proofs.load.load_line.Goals as goal

pub returns-then-is_load : goal.returns-then-is_load
returns-then-is_load c =
    let next = ap (option_map (λ (l : Bor (List ℕ) × Bor (List ℕ)). (l.0.now, l.1.now))) (sym c.in-Some.is) ∙ c.next_line.ensures.line in
    let whole = first_named (load_names false (with_numbers 1 (lines c.args.text.now))) c.args.name.now in
    first_here c.loop-line.inside (c.loop-line.number + 1) c.loop-line.rest.now c.in-Some.line.now c.in-Some.after.now c.args.name.now c.is_load.result whole next c.is_load.ensures c.if-is_load.true c.loop-line.invariant.first

pub loop-line-preserved : goal.loop-line-preserved
loop-line-preserved c =
    let next = ap (option_map (λ (l : Bor (List ℕ) × Bor (List ℕ)). (l.0.now, l.1.now))) (sym c.in-Some.is) ∙ c.next_line.ensures.line in
    let whole = first_named (load_names false (with_numbers 1 (lines c.args.text.now))) c.args.name.now in
    record {
      first = first_next c.loop-line.inside c.stays_inside-inside.result (c.loop-line.number + 1) c.loop-line.rest.now c.in-Some.line.now c.in-Some.after.now c.args.name.now c.is_load.result whole next c.is_load.ensures c.if-is_load.false
          c.stays_inside-inside.ensures c.loop-line.invariant.first;
      few = few_step c.loop-line.number c.loop-line.rest.now c.in-Some.line.now c.in-Some.after.now next c.loop-line.invariant.few;
    }

pub returns : goal.returns
returns c =
    let next = ap (option_map (λ (l : Bor (List ℕ) × Bor (List ℕ)). (l.0.now, l.1.now))) (sym c.in_default.is) ∙ c.next_line.ensures.line in
    let whole = first_named (load_names false (with_numbers 1 (lines c.args.text.now))) c.args.name.now in
    first_none c.loop-line.inside (c.loop-line.number + 1) c.loop-line.rest.now c.args.name.now whole next c.loop-line.invariant.first
