use Rattle.std.proofs.Common.{◌++◌}
use Rattle.model_play.specs.model_text.specs.Text.{with_numbers}
use Rattle.model_play.specs.Generator.{turns}
use Rattle.mc_deck.specs.Lines.{grammar_line, said_lines}
use Rattle.mc_deck.proofs.GeneratorLemmas.{turn_more, turns_done}
use Rattle.mc_deck.proofs.generator.push_turns.Goals as goal

pub loop-number-preserved : goal.loop-number-preserved
loop-number-preserved c = record {
  leads = λ us a.
      turn_more (said_lines us c.loop-number.lines.items) (said_lines us c.push.new.lines.items) c.loop-number.number c.loop-number.x c.next-first.result c.next-second.result (grammar_line us c.line_of.result)
      (said_lines us c.args.lines.now.items ++ with_numbers 9 (turns 4000 c.args.n)) c.loop-number-test.true (c.in_ok-push.ensures.said us) c.next-first.ensures.value c.next-second.ensures.value (c.line_of.ensures.value us a) (c.loop-number.invariant.leads us a);
  inside = c.in_ok-push.ensures.inside;
  bound = c.next-second.ensures.bound;
}

pub returns-clause-lines : goal.returns-clause-lines
returns-clause-lines c = λ us a. turns_done (said_lines us c.loop-number.lines.items) c.loop-number.number c.loop-number.x (said_lines us c.args.lines.now.items ++ with_numbers 9 (turns 4000 c.args.n)) c.loop-number-test.false (c.loop-number.invariant.leads us a)
