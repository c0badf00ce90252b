-- The verdicts on inputs, for rows that compute them.
use Rattle.std.specs.Prelude.{ℕ, List}
use Rattle.std.specs.Fmt.{digits}
use Rattle.hex.specs.Hex.{decode_pairs, encode_with}
use Rattle.mc_text.specs.model_text.specs.Assembly.{assembly_of}
use Rattle.mc_deck.specs.model_play.specs.DeckGrammar.{deck_lines, deck_read, section_unit, statement_of, within}
use Rattle.mc_text.specs.model_text.specs.Listing.{listing_of_code}
use Rattle.mc_text.specs.model_text.specs.Text.{code_text_read}
use Rattle.melcard.specs.declared.job.Reporting.TheVariants.{Transcript}
use Rattle.mc_check.specs.declared.verdict.Verdict.{Verdict as CodeVerdict}
use Rattle.melcard.specs.Verdicts.{JobVerdict, of_assembly, of_code, of_deck, verdict_line}

-- the verdict on a deck that is to be played
unfoldable pub deck_verdict : List ℕ → JobVerdict
unfolding digits decode_pairs encode_with assembly_of deck_lines deck_read section_unit statement_of within
deck_verdict input = of_deck Transcript (deck_read input)

-- the verdict on an assembly text
unfoldable pub code_verdict : List ℕ → JobVerdict
unfolding digits encode_with assembly_of
code_verdict input = of_assembly (assembly_of input)

-- the verdict on code that is to be listed
unfoldable pub listing_verdict : List ℕ → JobVerdict
unfolding digits decode_pairs encode_with listing_of_code code_text_read
listing_verdict input = of_code (code_text_read input)

-- the output line for a load line
unfoldable pub checked_line : ℕ → CodeVerdict → List ℕ
unfolding digits
checked_line number v = verdict_line number v
