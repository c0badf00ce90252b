use Rattle.std.proofs.Common.{◌≡◌, arith, false, length, refl, subst, sym, true}
use Rattle.std.specs.Prelude.{◌==◌}
use Rattle.law_histories.specs.Histories.{app_exploration_read}
use Rattle.lab_rules.proofs.ReadLemmas.{few_lines}
use Rattle.lab_deck.specs.Applications.{RefusesApplication}
use Rattle.lab_deck.proofs.ReadLemmas.{is_read, move_refused, no_move, no_rule, same_deck}
use Rattle.lab_deck.proofs.reading.read_application.Goals as goal

pub read_moves-requires : goal.read_moves-requires
read_moves-requires c = few_lines c.args.text.now c.args.deck.now c.requires

pub refused_rule-requires : goal.refused_rule-requires
refused_rule-requires c = few_lines c.args.text.now c.args.deck.now c.requires

pub returns-in-Err-read_moves-clause-refused : goal.returns-in-Err-read_moves-clause-refused
returns-in-Err-read_moves-clause-refused c =
    let r = c.in-Ok.ensures.read in
    subst (RefusesApplication (app_exploration_read c.args.text.now)) (sym c.move_refusal.ensures)
    (move_refused c.args.text.now c.args.deck.now r.0 r.1 c.in-Ok.named.0 c.requires r.2 r.3 r.4 c.in-Err-read_moves.refusal c.in-Err-read_moves.ensures.refused)

pub returns-then-is_empty-clause-refused : goal.returns-then-is_empty-clause-refused
returns-then-is_empty-clause-refused c =
    let r = c.in-Ok.ensures.read in
    let none : (length c.in-Ok-read_moves.moves.items == 0) ≡ true = grind (arith, c.is_empty.ensures, c.if-is_empty.true, c.if-is_empty.ensures) in
    no_move c.args.text.now c.args.deck.now r.0 r.1 c.in-Ok.named.0 c.requires r.2 r.3 r.4 c.in-Ok-read_moves.moves.items true none refl c.in-Ok-read_moves.ensures.read

pub returns-then-not-can_break-clause-refused : goal.returns-then-not-can_break-clause-refused
returns-then-not-can_break-clause-refused c =
    let r = c.in-Ok.ensures.read in
    let some : (length c.in-Ok-read_moves.moves.items == 0) ≡ false = grind (arith, c.is_empty.ensures, c.if-is_empty.false, c.if-is_empty.ensures) in
    let no : c.can_break.result ≡ false = grind (arith, c.if-not-can_break.true) in
    no_rule c.args.text.now c.args.deck.now r.0 r.1 c.in-Ok.named.0 c.requires r.2 r.3 r.4 c.in-Ok-read_moves.moves.items false c.can_break.result some refl (c.can_break.ensures r.0 r.1 r.3 r.4) no
    c.in-Ok-read_moves.ensures.read

pub returns-in-Ok-counting-clause-read : goal.returns-in-Ok-counting-clause-read
returns-in-Ok-counting-clause-read c =
    let r = c.in-Ok.ensures.read in
    let some : (length c.in-Ok-read_moves.moves.items == 0) ≡ false = grind (arith, c.is_empty.ensures, c.if-is_empty.false, c.if-is_empty.ensures) in
    let can : c.can_break.result ≡ true = grind (arith, c.if-not-can_break.false) in
    is_read c.args.text.now c.args.deck.now r.0 r.1 c.in-Ok.named.0 c.requires r.2 r.3 r.4 c.in-Ok-read_moves.moves.items false c.can_break.result
    (record { moves = c.in-Ok-counting.moves; rules = c.in-Ok.named.0; aid = c.in-Ok.named.1 }) some refl (c.can_break.ensures r.0 r.1 r.3 r.4) can c.in-Ok-read_moves.ensures.read
    (same_deck c.args.text.now c.in-Ok-counting.moves.deck c.args.deck.now c.in-Ok-counting.ensures.deck c.requires) c.in-Ok-counting.ensures.rules refl r.5
