use Rattle.std.specs.Prelude.{ℕ}
use Rattle.std.proofs.Common.{subst}
use Rattle.law_events.specs.law_promise.specs.model_play.specs.DeckGrammar.{DeckLine}
use Rattle.mc_deck.specs.Lines.{line_of}
use Rattle.lab_record.specs.Steady.{steady_step, IsSteadyAt}
use Rattle.lab_record.proofs.SteadyLemmas.{on_ok, same_line}
use Rattle.lab_record.proofs.past.Past.play.Goals as goal

pub returns-then-played-2-clause-at : goal.returns-then-played-2-clause-at
returns-then-played-2-clause-at g c =
    let line = c.line.result in
    on_ok c.add.result _
    (λ s l at here. subst (λ (x : ℕ × DeckLine). IsSteadyAt g.N.Nvm.state g.N.Bench.bench c.play_recorded.new.player (steady_step s x).after)
    (same_line c.args.deck.now c.args.i (line.0, line_of line.1) l c.line.ensures.line here) (c.in_ok-played.ensures.recorded s line.0 at).0)

pub returns-clause-at : goal.returns-clause-at
returns-clause-at g c =
    let line = c.line.result in
    on_ok c.add-2.result _
    (λ s l at here. subst (λ (x : ℕ × DeckLine). IsSteadyAt g.N.Nvm.state g.N.Bench.bench c.play_recorded.new.player (steady_step s x).after)
    (same_line c.args.deck.now c.args.i (line.0, line_of line.1) l c.line.ensures.line here) (c.in_ok-played.ensures.recorded s line.0 at).0)
