use Rattle.std.proofs.Common.{◌∙◌, ap, sym, inr}
use Rattle.mc_deck.specs.model_play.specs.DeckGrammar.{deck_read}
use Rattle.mc_check.proofs.CheckedPlays.{checked_plays_law}
use Rattle.melcard.specs.Verdicts.{of_deck}
use Rattle.melcard.proofs.running.report.Goals as goal

pub returns-clause-done : goal.returns-clause-done
returns-clause-done g c =
    let is = sym (ap (of_deck c.args.reporting) (ap deck_read (sym c.as_slice.ensures.value) ∙ c.in_ok-deck.ensures.deck)) in
    record {
      lines = c.in_ok-deck.deck;
      due = inr (record { input = c.in_ok-text.text.items; read = c.in_ok-text.ensures.read; is = is });
      played = record {
        result = c.play_as.result;
        status = c.ended.ensures;
        counts = c.play_as.ensures;
        checked = checked_plays_law c.play_as.ensures.deck.from.lines (g.N.Nvm.state c.args.dev.now).words c.play_as.ensures.deck.from.worn;
      };
    }
