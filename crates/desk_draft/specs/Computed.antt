-- What a draft makes on a blank device, for rows that compute it.
use Rattle.std.specs.Prelude.{ℕ, List, Result}
use Rattle.std.specs.Fmt.{digits}
use Rattle.sha1.specs.Sha1.{sha1, digest_bytes, hash_after, compress, rounds, schedule, first_words}
use Rattle.mc_text.specs.model_device.specs.Device.{blank_words, device_words}
use Rattle.mc_deck.specs.model_card.specs.Units.{name_of}
use Rattle.mc_text.specs.model_machine.specs.Apdu.{apdu_read}
use Rattle.mc_text.specs.model_device.specs.Pieces.{touched_words}
use Rattle.mc_text.specs.model_machine.specs.Des.{des_encipher, des_decipher, tdes_encipher, tdes_decipher, des_signature, tdes_signature}
use Rattle.mc_text.specs.model_machine.specs.Aes.{aes_encipher, aes_decipher, aes_signature}
use Rattle.mc_text.specs.model_device.specs.Image.{targets_1, targets_2, pairs}
use Rattle.mc_text.specs.model_device.specs.Card.{blocks_from, apps_of}
use Rattle.mc_text.specs.model_device.specs.Layout.{layout, step_of, bad_block, bad_record}
use Rattle.mc_text.specs.model_machine.specs.Frame.{bytes_at, write_effect, too_many}
use Rattle.mc_text.specs.model_machine.specs.Primitives.{later_causes, prim_effect}
use Rattle.mc_text.specs.model_machine.specs.Row.{causes, effect, row}
use Rattle.mc_text.specs.model_machine.specs.Chain.{turn_of_chain, run_of_chain}
use Rattle.mc_text.specs.model_text.specs.TurnText.{turn_line}
use Rattle.mc_text.specs.model_text.specs.Text.{ok_as}
use Rattle.mc_deck.specs.model_card.specs.Manager.{manage}
use Rattle.mc_deck.specs.model_card.specs.Commands.{command}
use Rattle.mc_deck.specs.model_play.specs.Play.{Step, start, send, play_at_power, step, plays, moves_of, steady_failures}
use Rattle.mc_deck.specs.model_play.specs.DeckGrammar.{DeckLine}
use Rattle.mc_deck.specs.model_play.specs.declared.deck.DeckCause.{DeckCause}
use Rattle.desk_draft.specs.Drafts.{deck_of}
use Rattle.desk_draft.specs.Listings.{desk_read, draft_listing}
use Rattle.desk_draft.specs.Verdicts
use Rattle.desk_draft.specs.Verdicts.{CodeVerdict}
use Rattle.desk_draft.specs.Traces.{trace_of}
use Rattle.desk_draft.specs.Coverage.{coverage}

-- the deck of a draft
unfoldable pub deck : List ℕ → Result (List ℕ) (ℕ × DeckCause)
unfolding deck_of digits
deck t = deck_of t

-- the listing of a draft
unfoldable pub listing : List ℕ → Result (List ℕ) (ℕ × DeckCause)
unfolding draft_listing digits
listing t = draft_listing t

-- the lines of verdicts on a draft
unfoldable pub check : List (ℕ × CodeVerdict) → List ℕ → Result (List ℕ) (ℕ × DeckCause)
unfolding desk_read digits
check vs t = ok_as (λ d. Verdicts.verdict_lines d vs) (desk_read t)

-- the play of a deck on a blank device
unfoldable pub steps_on : List (ℕ × DeckLine) → List Step
unfolding name_of apdu_read touched_words des_encipher des_decipher tdes_encipher tdes_decipher des_signature tdes_signature aes_encipher aes_decipher aes_signature sha1 digest_bytes hash_after compress rounds schedule first_words targets_1 targets_2 pairs blocks_from apps_of layout step_of bad_block bad_record bytes_at write_effect too_many later_causes prim_effect causes effect row turn_of_chain run_of_chain manage command send play_at_power step plays moves_of steady_failures
steps_on ls = let words = blank_words device_words in plays (start words) ls (steady_failures (start words) ls)

-- the trace of a draft on a blank device
unfoldable pub trace : List ℕ → Result (List ℕ) (ℕ × DeckCause)
unfolding desk_read steps_on trace_of apdu_read touched_words bytes_at write_effect too_many later_causes prim_effect causes effect row turn_of_chain manage command turn_line digits
trace t = ok_as (λ d. trace_of d.sources (steps_on d.lines)) (desk_read t)

-- the LCOV record of a draft on a blank device
unfoldable pub cover : List ℕ → List ℕ → Result (List ℕ) (ℕ × DeckCause)
unfolding desk_read steps_on coverage apdu_read touched_words bytes_at write_effect too_many later_causes prim_effect causes effect row turn_of_chain manage command digits
cover name t = ok_as (λ d. coverage name d.sources (steps_on d.lines)) (desk_read t)
