use Rattle.std.proofs.Common.{◌≡◌, arith, false, true, List}
use Rattle.std.proofs.lemmas.Result.{on_ok_weaker, IfErr-weaker}
use Rattle.law_histories.specs.law_explore.specs.Rules as model
use Rattle.mc_deck.specs.Refused.{Faulty}
use Rattle.lab_rules.specs.Meanings.{rules_with, AreRules}
use Rattle.lab_deck.specs.Moves.{moves_only, moves_with}
use Rattle.lab_deck.proofs.MoveLemmas.{move_added, move_refused, moves_still}
use Rattle.lab_deck.proofs.moves.add_move.Goals as goal

pub returns-then-not-is_move-clause-added : goal.returns-then-not-is_move-clause-added
returns-then-not-is_move-clause-added c = λ ms are.
    moves_still c.args.rules.now ms c.args.number c.args.inside c.args.line.now c.is_move.result c.is_move.ensures (grind (arith, c.if-not-is_move.true)) are

pub returns-clause-added : goal.returns-clause-added
returns-clause-added c =
    let is : c.is_move.result ≡ true = grind (arith, c.if-not-is_move.false) in
    on_ok_weaker c.add_line.result
    (λ h ms are. move_added c.add_line.new.rules ms c.args.number c.args.inside c.args.line.now c.is_move.result c.is_move.ensures is (h (moves_only ms) are))
    c.add_line.ensures.added

pub returns-clause-refused : goal.returns-clause-refused
returns-clause-refused c =
    let is : c.is_move.result ≡ true = grind (arith, c.if-not-is_move.false) in
    IfErr-weaker c.add_line.result
    (λ e. (r : model.Rules) → AreRules c.args.rules.now r → Faulty (rules_with false (c.args.number, c.args.line.now) r) e)
    (λ e. (ms : List model.Move) → AreRules c.args.rules.now (moves_only ms) → Faulty (moves_with c.args.inside (c.args.number, c.args.line.now) ms) e)
    (λ e h ms are. move_refused ms c.args.number c.args.inside c.args.line.now c.is_move.result e c.is_move.ensures is (h (moves_only ms) are))
    c.add_line.ensures.refused
