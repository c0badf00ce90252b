-- A play of two counters on one card, as a worked example of views: a family of one, and a stranger.
use Rattle.std.specs.Prelude.{ℕ, List, [], ◌∷◌, replicate}
use Rattle.model_play.specs.model_device.specs.Bytes.{zeros}
use Rattle.model_play.specs.model_card.specs.Units.{UnitParts, name_of, made_dir, made_fci}
use Rattle.model_play.specs.model_machine.specs.Apdu.{apdu_read}
use Rattle.model_play.specs.model_device.specs.Pieces.{touched_words}
use Rattle.model_play.specs.model_device.specs.Image.{targets_1, targets_2, pairs, opening, Two}
use Rattle.model_play.specs.model_device.specs.Card.{blocks_from, apps_of}
use Rattle.model_play.specs.model_device.specs.Layout.{layout, step_of, bad_block, bad_record}
use Rattle.model_play.specs.model_machine.specs.Frame.{bytes_at, write_effect, too_many}
use Rattle.model_play.specs.model_machine.specs.Primitives.{later_causes, prim_effect}
use Rattle.model_play.specs.model_machine.specs.Row.{causes, effect, row}
use Rattle.model_play.specs.model_machine.specs.Chain.{turn_of_chain, run_of_chain}
use Rattle.model_play.specs.model_card.specs.Manager.{manage}
use Rattle.model_play.specs.Play.{Step, start, send, play_at_power, step, plays, moves_of, steady_failures}
use Rattle.model_play.specs.model_card.specs.Commands.{command}
use Rattle.model_play.specs.Given.{events, given_of_play}
use Rattle.model_play.specs.Solo.{solo_command, hears, hears_all}
use Rattle.model_play.specs.View.{View, answers, view, solo_view}
use Rattle.model_play.specs.DeckGrammar.{DeckLine}
use Rattle.model_play.specs.DeckGrammar as line

-- a name
abbrev pub first : List ℕ
first = 0xA0 ∷ 0 ∷ 0 ∷ 0 ∷ 1 ∷ []

-- another name
abbrev pub second : List ℕ
second = 0xA0 ∷ 0 ∷ 0 ∷ 0 ∷ 2 ∷ []

-- an application that adds 1 to its two static bytes and replies with them
abbrev pub counter : List ℕ → UnitParts
counter aid =
    record {
      number = zeros 8;
      code = 0xB9 ∷ 0x02 ∷ 0 ∷ 0 ∷ 0x39 ∷ 0x02 ∷ 0 ∷ 0 ∷ 0x46 ∷ 0x02 ∷ 0 ∷ 0 ∷ 0x06 ∷ 0 ∷ 0x02 ∷ [];
      init = [];
      dir = made_dir aid;
      fci = made_fci aid;
      aid = aid;
    }

-- the command that counts
abbrev pub count : DeckLine
count = line.Sent (line.Apdu (0x80 ∷ 1 ∷ 0 ∷ 0 ∷ 2 ∷ []))

-- a cut at write 4, which opens the gate of an atomic write of one word and leaves the commit record
abbrev pub gate_cut : DeckLine
gate_cut = line.Cut 4 (opening Two)

-- both are loaded and count; a cut in the stranger's command, and one in the family's
abbrev pub lines : List (ℕ × DeckLine)
lines =
    (1, line.Format) ∷ (2, line.Power) ∷ (3, line.Sent (line.Load (counter first) 2 0)) ∷ (4, line.Sent (line.Load (counter second) 2 0)) ∷ (5, line.Sent (line.Select first)) ∷ (6, count)
    ∷ (7, line.Sent (line.Select second)) ∷ (8, gate_cut) ∷ (9, count) ∷ (10, line.Power) ∷ (11, line.Sent (line.Select first)) ∷ (12, gate_cut) ∷ (13, count) ∷ (14, line.Power)
    ∷ (15, line.Dump first) ∷ (16, line.Dump second) ∷ []

-- the words of a small device
abbrev pub blank : List (List ℕ)
blank = replicate 256 (zeros 8)

-- the play, and the views of the family that has the first name alone
unfoldable pub steps : List Step
unfolding name_of apdu_read touched_words targets_1 targets_2 pairs blocks_from apps_of layout step_of bad_block bad_record bytes_at write_effect too_many later_causes prim_effect causes effect row turn_of_chain run_of_chain manage command send play_at_power step plays moves_of steady_failures
steps = plays (start blank) lines (steady_failures (start blank) lines)

-- the view of the family in the play
unfoldable pub view_in_play : View
unfolding steps answers
view_in_play = view (first ∷ []) (start blank) steps

-- the view of the family on a card of its own
unfoldable pub view_alone : View
unfolding steps events apdu_read touched_words bytes_at write_effect too_many later_causes prim_effect causes effect row turn_of_chain run_of_chain solo_command hears hears_all
view_alone = solo_view (first ∷ []) (given_of_play (first ∷ []) steps)
