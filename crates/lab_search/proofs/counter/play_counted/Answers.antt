use Rattle.std.proofs.Common.{◌∙◌, sym, subst, ℕ, List, rules}
use Rattle.mc_deck.specs.Lines.{line_of}
use Rattle.mc_script.specs.Lines.{LineDone}
use Rattle.lab_search.specs.Counters.{AreCounted}
use Rattle.lab_search.proofs.CountedLines.{uncounted_line}
use Rattle.lab_search.proofs.counter.play_counted.Goals as goal

pub returns-then-not-has_turns-clause-done : goal.returns-then-not-has_turns-clause-done
returns-then-not-has_turns-clause-done g c =
    uncounted_line g.N.Nvm.state g.N.Bench.bench _ c.args.player.now c.line.new.self (line_of c.args.line.now) _ _ c.line.result c.args.ons.now c.args.applies.now c.args.counts.now
    (sym c.has_turns.ensures ∙ c.if-not-has_turns.true) c.line.ensures.done

-- the counts that were borrowed are those of the counter
pub returns-clause-done : goal.returns-clause-done
returns-clause-done g c =
    subst (λ (ns : List ℕ). LineDone g.N.Nvm.state g.N.Bench.bench (AreCounted c.args.ons.now c.args.applies.now) c.args.player.now (line_of c.args.line.now) c.args.counts.now ns c.play.result c.play.new.player)
    (search (rules, c.play.ensures.same)) c.play.ensures.done
