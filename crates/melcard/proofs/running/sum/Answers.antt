use Rattle.std.proofs.Common.{ℕ, List, subst}
use Rattle.mc_deck.specs.model_play.specs.DeckGrammar.{DeckLine}
use Rattle.mc_deck.specs.model_play.specs.Generator.{deck_of_number, summary}
use Rattle.mc_script.specs.StepCounts.{CountsSum}
use Rattle.mc_text.specs.Texts.{sunk}
use Rattle.mc_check.proofs.CheckedPlays.{checked_plays_law}
use Rattle.mc_script.specs.Benches.{bench_at, BenchMembers}
use Rattle.melcard.proofs.DumpLemmas.{generated_last}
use Rattle.melcard.proofs.running.sum.Goals as goal

pub summarise-requires-clause-dumps : goal.summarise-requires-clause-dumps
summarise-requires-clause-dumps g c = generated_last c.in_ok-deck.deck c.args.number c.in_ok-deck.ensures

pub returns-clause-done : goal.returns-clause-done
returns-clause-done g c =
    let members : BenchMembers _ = record { state = g.N.Nvm.state; wrote = g.N.Nvm.wrote; same = g.N.Nvm.same; bench = g.N.Bench.bench } in
    let before = bench_at members c.args.dev.now in
    let after = bench_at members c.summarise.new.dev in
    let from = sunk g.T.Sink c.args.out.now in
    let to = sunk g.T.Sink c.summarise.new.out in
    let counts = subst (λ (ls : List (ℕ × DeckLine)). CountsSum summary ls before from c.summarise.result after to c.args.steps.now c.summarise.new.steps) c.in_ok-deck.ensures c.summarise.ensures.steps in
    record {
      result = c.summarise.result;
      status = c.ended.ensures;
      counts = counts;
      checked = checked_plays_law (deck_of_number c.args.number) before.device.words counts.deck.worn;
    }
