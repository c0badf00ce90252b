-- The report of the expectations of a deck's text, for rows that compute it.
use Rattle.std.specs.Prelude.{ℕ, List, Result, Ok, Err}
use Rattle.std.specs.Fmt.{digits}
use Rattle.sha1.specs.Sha1.{sha1, digest_bytes, hash_after, compress, rounds, schedule, first_words}
use Rattle.law_explore.specs.model_device.specs.Device.{blank_words, device_words}
use Rattle.law_explore.specs.model_card.specs.Units.{name_of}
use Rattle.law_explore.specs.model_machine.specs.Apdu.{apdu_read}
use Rattle.law_explore.specs.model_device.specs.Pieces.{touched_words}
use Rattle.law_explore.specs.model_machine.specs.Des.{des_encipher, des_decipher, tdes_encipher, tdes_decipher, des_signature, tdes_signature}
use Rattle.law_explore.specs.model_machine.specs.Aes.{aes_encipher, aes_decipher, aes_signature}
use Rattle.law_explore.specs.model_device.specs.Image.{targets_1, targets_2, pairs}
use Rattle.law_explore.specs.model_device.specs.Card.{blocks_from, apps_of}
use Rattle.law_explore.specs.model_device.specs.Layout.{layout, step_of, bad_block, bad_record}
use Rattle.law_explore.specs.model_machine.specs.Frame.{bytes_at, write_effect, too_many}
use Rattle.law_explore.specs.model_machine.specs.Primitives.{later_causes, prim_effect}
use Rattle.law_explore.specs.model_machine.specs.Row.{causes, effect, row}
use Rattle.law_explore.specs.model_machine.specs.Chain.{turn_of_chain, run_of_chain}
use Rattle.law_explore.specs.model_card.specs.Manager.{manage}
use Rattle.law_explore.specs.model_play.specs.Play.{Step, send, play_at_power, step, plays, moves_of, steady_failures}
use Rattle.law_explore.specs.model_card.specs.Commands.{command}
use Rattle.law_explore.specs.model_play.specs.DeckGrammar.{DeckLine, deck_read}
use Rattle.law_explore.specs.model_events.specs.Matching.{fits}
use Rattle.mc_lab.specs.Remarks.{remarks}
use Rattle.mc_lab.specs.Expectations.{ExpectedDeck, ExpectationFault, expected_deck_read, expect_text, steady_from, steady_steps}

-- the play of a deck on a blank device of the laboratory
unfoldable pub blank_steps : List (ℕ × DeckLine) → List Step
unfolding steady_from name_of apdu_read touched_words des_encipher des_decipher tdes_encipher tdes_decipher des_signature tdes_signature aes_encipher aes_decipher aes_signature sha1 digest_bytes hash_after compress rounds schedule first_words targets_1 targets_2 pairs blocks_from apps_of layout step_of bad_block bad_record bytes_at write_effect too_many later_causes prim_effect causes effect row turn_of_chain run_of_chain manage command send play_at_power step plays moves_of steady_failures
blank_steps ls = steady_steps (blank_words device_words) ls

-- the report of the expectations of a deck
abbrev pub expectations_text : Result ExpectedDeck ExpectationFault → Result (List ℕ) ExpectationFault
expectations_text (Ok t) = Ok (expect_text (blank_steps t.lines) t.expected)
expectations_text (Err e) = Err e

-- the report of the expectations of a deck's text on a blank device
unfoldable pub expectation_report : List ℕ → Result (List ℕ) ExpectationFault
unfolding deck_read fits remarks expected_deck_read expect_text blank_steps digits
expectation_report text = expectations_text (expected_deck_read text)
