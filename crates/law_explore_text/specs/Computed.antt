-- The text of the exploration of a deck's text, for rows that compute it.
use Rattle.std.specs.Prelude.{◌++◌, codes, ℕ, List, Result, Ok, Err}
use Rattle.std.specs.Fmt.{digits}
use Rattle.sha1.specs.Sha1.{sha1, digest_bytes, hash_after, compress, rounds, schedule, first_words}
use Rattle.law_explore.specs.model_play.specs.declared.deck.DeckCause.{DeckCause}
use Rattle.law_explore.specs.model_card.specs.Units.{name_of}
use Rattle.law_explore.specs.model_machine.specs.Apdu.{apdu_read}
use Rattle.law_explore.specs.model_device.specs.Pieces.{touched_words}
use Rattle.law_explore.specs.model_machine.specs.Des.{des_encipher, des_decipher, tdes_encipher, tdes_decipher, des_signature, tdes_signature}
use Rattle.law_explore.specs.model_machine.specs.Aes.{aes_encipher, aes_decipher, aes_signature}
use Rattle.law_explore.specs.model_device.specs.Image.{targets_1, targets_2, pairs}
use Rattle.law_explore.specs.model_device.specs.Card.{blocks_from, apps_of}
use Rattle.law_explore.specs.model_device.specs.Layout.{layout, step_of, bad_block, bad_record}
use Rattle.law_explore.specs.model_machine.specs.Frame.{bytes_at, write_effect, too_many}
use Rattle.law_explore.specs.model_machine.specs.Primitives.{later_causes, prim_effect}
use Rattle.law_explore.specs.model_machine.specs.Row.{causes, effect, row}
use Rattle.law_explore.specs.model_machine.specs.Chain.{turn_of_chain, run_of_chain}
use Rattle.law_explore.specs.model_text.specs.TurnText.{turn_line}
use Rattle.law_explore.specs.model_card.specs.Manager.{manage}
use Rattle.law_explore.specs.model_card.specs.Commands.{command}
use Rattle.law_explore.specs.model_play.specs.Play.{send, play_at_power, step, plays, moves_of, steady_failures}
use Rattle.law_explore.specs.model_events.specs.Matching.{fits}
use Rattle.law_explore.specs.Rules.{Exploration, ExplorationFault, exploration_read}
use Rattle.law_explore.specs.model_play.specs.DeckGrammar.{DeckLine, deck_read}
use Rattle.law_explore.specs.Search.{Statement, most_states}
use Rattle.law_explore_text.specs.Report.{statements_text, text_within}

-- the exploration of a deck that was read, with at most `limit` states
abbrev pub text_in : ℕ → ℕ → Result Exploration ExplorationFault → Result (List ℕ) ExplorationFault
text_in limit n (Ok x) = Ok (text_within limit n x)
text_in limit n (Err e) = Err e

-- the text of the exploration of a deck's text, n depths deep, with at most `limit` states
unfoldable pub explored_within : ℕ → ℕ → List ℕ → Result (List ℕ) ExplorationFault
unfolding digits name_of apdu_read touched_words des_encipher des_decipher tdes_encipher tdes_decipher des_signature tdes_signature aes_encipher aes_decipher aes_signature sha1 digest_bytes hash_after compress rounds schedule first_words targets_1 targets_2 pairs blocks_from apps_of layout step_of bad_block bad_record bytes_at write_effect too_many later_causes prim_effect causes effect row turn_of_chain run_of_chain turn_line manage command send play_at_power step plays moves_of steady_failures fits exploration_read text_within
explored_within limit n text = text_in limit n (exploration_read text)

-- the text of the exploration of a deck's text, n depths deep
unfoldable pub explored_deck : ℕ → List ℕ → Result (List ℕ) ExplorationFault
unfolding explored_within
explored_deck n text = explored_within most_states n text

-- the lines of a deck of `format` and some statements
unfoldable pub statements_read : List Statement → Result (List (ℕ × DeckLine)) (ℕ × DeckCause)
unfolding digits deck_read
statements_read ss = deck_read (codes "format\n" ++ statements_text ss)
