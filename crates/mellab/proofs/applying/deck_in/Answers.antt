use Rattle.mc_filter.specs.Inputs.{refused_deck, Rejects}
use Rattle.mc_deck.specs.model_play.specs.DeckGrammar.{deck_read}
use Rattle.lab_deck.specs.law_histories.specs.Histories.{app_exploration_read}
use Rattle.mellab.specs.Running.{refused_application}
use Rattle.mellab.proofs.ApplicationLemmas.{deck_rejects}
use Rattle.mellab.proofs.ExplorationLemmas.{if_err}
use Rattle.mellab.proofs.applying.deck_in.Goals as goal

pub returns-clause-rejected : goal.returns-clause-rejected
returns-clause-rejected c =
    if_err (Rejects (refused_deck (deck_read c.args.text.now))) (Rejects (refused_application (app_exploration_read c.args.text.now))) c.deck_of.result (deck_rejects c.args.text.now) c.deck_of.ensures.rejected
