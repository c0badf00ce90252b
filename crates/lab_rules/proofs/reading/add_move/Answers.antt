use Rattle.std.proofs.Common.{arith}
use Rattle.mc_text.specs.model_text.specs.Text.{fields}
use Rattle.law_explore.specs.model_play.specs.declared.deck.DeckCause.TheVariants.{BadLine}
use Rattle.mc_deck.specs.declared.refusal.Fault.TheVariants as fault
use Rattle.lab_rules.proofs.MoveLemmas.{not_move}
use Rattle.lab_rules.proofs.OnLemmas.{move_faulty, move_added}
use Rattle.lab_rules.proofs.reading.add_move.Goals as goal

pub returns-then-not-is_move-clause-refused : goal.returns-then-not-is_move-clause-refused
returns-then-not-is_move-clause-refused c = λ r n are.
    move_faulty r n c.args.statement.now (fields c.args.statement.now) (fault.Cause BadLine) (not_move n (fields c.args.statement.now) (grind (arith, c.if-not-is_move.true, c.is_move.ensures)))

pub returns-in-Err-clause-refused : goal.returns-in-Err-clause-refused
returns-in-Err-clause-refused c = λ r n are. move_faulty r n c.args.statement.now (fields c.args.statement.now) c.in-Err.fault (c.in-Err.ensures n)

pub returns-clause-added : goal.returns-clause-added
returns-clause-added c = λ r n h.
    move_added c.args.rules.now.moves.items c.push.new.self.items r n (record { text = c.args.statement; deck = c.in-Ok.deck }) c.args.rules.now.allowances.items c.args.rules.now.ons.items
    (fields c.args.statement.now) c.in-Ok-push.ensures.items (c.in-Ok.ensures n) h
