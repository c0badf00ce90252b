-- The play of a generated deck in parts: the counts that the lines of a part add to the summary, and the state between
-- two parts.
use Rattle.std.specs.Prelude.{ℕ, ◌+◌, List, [], ◌∷◌, ◌++◌, length, codes, decimal, Option, Some, None}
use Rattle.model_machine.specs.model_device.specs.Device.{blank_words, device_words}
use Rattle.model_machine.specs.model_device.specs.Image.{Journal}
use Rattle.model_card.specs.Units.{UnitParts}
use Rattle.model_machine.specs.model_device.specs.Card.{App}
use Rattle.model_card.specs.Manager.{empty_session_state}
use Rattle.model_play.specs.Play.{State, AfterPower, Running, Unarmed, Step, plays, start, last_state}
use Rattle.model_machine.specs.model_device.specs.PowerUp.{OnCard}
use Rattle.model_play.specs.DeckGrammar.{DeckLine}
use Rattle.model_play.specs.Generator.{counter, purse, relay, counter_aid, purse_aid, relay_aid, deck_of_number, results, count, is_reply, is_abend, is_cut, is_off, is_ready, dump_lines}
use Rattle.model_examples.specs.Played.{steps_on}

-- the play of the deck that n generates, on a blank device of 8,192 words
unfoldable pub generated_play : ℕ → List Step
generated_play n = plays (start (blank_words device_words)) (deck_of_number n) []

-- ---- the counts that lines add to a summary

-- the counts of a summary
pub record Summed : Type 0 where
  pub lines : ℕ
  pub replies : ℕ
  pub abends : ℕ
  pub cuts : ℕ
  pub offs : ℕ
  pub readies : ℕ
  pub dumps : List ℕ

-- the counts of a play
abbrev pub counts_of_play : List Step → Summed
counts_of_play ts =
    record {
      lines = length (results ts);
      replies = count is_reply (results ts);
      abends = count is_abend (results ts);
      cuts = count is_cut (results ts);
      offs = count is_off (results ts);
      readies = count is_ready (results ts);
      dumps = dump_lines ts;
    }

-- the counts of two parts in sequence
abbrev pub sum_of_counts : Summed → Summed → Summed
sum_of_counts a b =
    record {
      lines = a.lines + b.lines;
      replies = a.replies + b.replies;
      abends = a.abends + b.abends;
      cuts = a.cuts + b.cuts;
      offs = a.offs + b.offs;
      readies = a.readies + b.readies;
      dumps = a.dumps ++ b.dumps;
    }

-- the text of a summary
abbrev pub summed_text : Summed → List ℕ
summed_text s =
    codes "lines " ++ decimal s.lines ++ codes " replies " ++ decimal s.replies ++ codes " abends " ++ decimal s.abends
    ++ codes " cuts " ++ decimal s.cuts ++ codes " offs " ++ decimal s.offs ++ codes " readies " ++ decimal s.readies ++ codes "\n" ++ s.dumps

-- ---- parts

-- the counts of a play and the state that it leaves
abbrev pub counts_and_state : State → List Step → Summed × State
counts_and_state s ts = (counts_of_play ts, last_state s ts)

-- the counts that some lines add from a state on, and the state after them
unfoldable pub part : State → List (ℕ × DeckLine) → Summed × State
unfolding steps_on
part s ls = counts_and_state s (plays s ls [])

-- the application of a unit, with these static bytes at this place
abbrev pub app_of : UnitParts → List ℕ → ℕ → App
app_of u fixed place = record { code = u.code; fixed = fixed; session = 0; deny = 0; dir = u.dir; fci = u.fci; place = place }

-- the purse, if it is on the card
abbrev pub purse_in : Option (List ℕ) → List (List ℕ × App)
purse_in None = []
purse_in (Some fixed) = (purse_aid, app_of purse fixed 143) ∷ []

-- the state right after a `power` line that found a card: the static bytes of the counter and of the purse, and the
-- journal of the last recovery
unfoldable pub between : List ℕ → Option (List ℕ) → Journal → State
between fixed purse_fixed by =
    AfterPower (record {
      base = OnCard (record {
        size = 8192;
        layout = 2;
        apps = (counter_aid, app_of counter fixed 131) ∷ (purse_in purse_fixed ++ (relay_aid, app_of relay (0x05 ∷ counter_aid) 164) ∷ []);
      });
      owed = 0;
      by = by;
      live = Running empty_session_state;
      budget = 10000;
      armed = Unarmed;
    })
