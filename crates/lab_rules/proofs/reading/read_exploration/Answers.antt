use Rattle.std.proofs.Common.{◌≡◌, length, true, false, arith, refl, subst, sym}
use Rattle.std.specs.Prelude.{◌==◌}
use Rattle.law_explore.specs.Rules.{exploration_read}
use Rattle.lab_rules.specs.Meanings.{RefusesExploration}
use Rattle.lab_rules.proofs.ReadLemmas.{deck_refused, few_lines, is_explored, no_move, no_rule, rules_are_refused}
use Rattle.lab_rules.proofs.reading.read_exploration.Goals as goal

pub returns-in-Err-clause-refused : goal.returns-in-Err-clause-refused
returns-in-Err-clause-refused c =
    subst (RefusesExploration (exploration_read c.args.text.now)) (sym c.line_refusal.ensures) (deck_refused c.args.text.now c.in-Err.refusal c.in-Err.ensures.refused)

pub read_rules-requires : goal.read_rules-requires
read_rules-requires c = few_lines c.args.text.now c.in-Ok.deck c.in-Ok.ensures.lines

pub returns-in-Err-read_rules-clause-refused : goal.returns-in-Err-read_rules-clause-refused
returns-in-Err-read_rules-clause-refused c =
    subst (RefusesExploration (exploration_read c.args.text.now)) (sym c.line_refusal-in-Err-read_rules.ensures)
    (rules_are_refused c.args.text.now c.in-Ok.deck c.in-Err-read_rules.refusal c.in-Ok.ensures.lines c.in-Err-read_rules.ensures.refused)

pub returns-then-is_empty-clause-refused : goal.returns-then-is_empty-clause-refused
returns-then-is_empty-clause-refused c =
    let none : (length c.in-Ok-read_rules.rules.moves.items == 0) ≡ true = grind (arith, c.is_empty.ensures, c.if-is_empty.true, c.if-is_empty.ensures) in
    no_move c.args.text.now c.in-Ok.deck c.in-Ok-read_rules.rules c.in-Ok.ensures.lines none c.in-Ok-read_rules.ensures.read

pub returns-then-is_empty-2-clause-refused : goal.returns-then-is_empty-2-clause-refused
returns-then-is_empty-2-clause-refused c =
    let some : (length c.in-Ok-read_rules.rules.moves.items == 0) ≡ false = grind (arith, c.is_empty.ensures, c.if-is_empty.false, c.if-is_empty.ensures) in
    let none : (length c.in-Ok-read_rules.rules.ons.items == 0) ≡ true = grind (arith, c.is_empty-2.ensures, c.if-is_empty-2.true, c.if-is_empty-2.ensures) in
    no_rule c.args.text.now c.in-Ok.deck c.in-Ok-read_rules.rules c.in-Ok.ensures.lines some none c.in-Ok-read_rules.ensures.read

pub returns-clause-read : goal.returns-clause-read
returns-clause-read c =
    let some : (length c.in-Ok-read_rules.rules.moves.items == 0) ≡ false = grind (arith, c.is_empty.ensures, c.if-is_empty.false, c.if-is_empty.ensures) in
    let ons : (length c.in-Ok-read_rules.rules.ons.items == 0) ≡ false = grind (arith, c.is_empty-2.ensures, c.if-is_empty-2.false, c.if-is_empty-2.ensures) in
    is_explored c.args.text.now c.in-Ok.deck c.in-Ok-read_rules.rules c.in-Ok.ensures.lines some ons c.in-Ok-read_rules.ensures.read
    (record { deck = c.in-Ok.deck; rules = c.in-Ok-read_rules.rules }) refl refl
