-- Worked applications, and plays of two of them on one card.
use Rattle.std.specs.Prelude.{ℕ, Bool, cond, List, [], ◌∷◌, flat_map}
use Rattle.law_family.specs.model_device.specs.Bytes.{zeros}
use Rattle.law_family.specs.model_device.specs.Card.{App, blocks_from, apps_of}
use Rattle.law_family.specs.model_device.specs.Image.{targets_1, targets_2, pairs}
use Rattle.law_family.specs.model_device.specs.Layout.{layout, step_of, bad_block, bad_record}
use Rattle.law_family.specs.model_device.specs.Pieces.{touched_words}
use Rattle.law_family.specs.model_machine.specs.Apdu.{apdu_read}
use Rattle.law_family.specs.model_machine.specs.Chain.{no_app, turn_of_chain, run_of_chain}
use Rattle.law_family.specs.model_machine.specs.Frame.{bytes_at, write_effect, too_many}
use Rattle.law_family.specs.model_machine.specs.Primitives.{later_causes, prim_effect}
use Rattle.law_family.specs.model_machine.specs.Row.{causes, effect, row}
use Rattle.law_family.specs.model_card.specs.Commands.{command}
use Rattle.law_family.specs.model_card.specs.Manager.{manage}
use Rattle.law_family.specs.model_card.specs.Units.{UnitParts, name_of, made_dir, made_fci}
use Rattle.law_family.specs.model_play.specs.DeckGrammar.{DeckLine}
use Rattle.law_family.specs.model_play.specs.DeckGrammar as line
use Rattle.law_family.specs.model_play.specs.Given.{apps_in}
use Rattle.law_family.specs.model_play.specs.Play.{Step, start, send, play_at_power, step, plays, moves_of, steady_failures, last_state}
use Rattle.law_family.specs.Worked.{first, second, counter, count, blank}
use Rattle.law_closed.specs.Delegations.{begins_delegation, can_delegate}

-- ---- applications

-- an application with this code and this access list
abbrev pub app_with : List ℕ → ℕ → App
app_with code deny = record no_app { code = code; deny = deny }

-- the code of the counter of `examples/counter.deck`
abbrev pub counter_code : List ℕ
counter_code = (counter first).code

-- LOADA SB[0], the primitive that delegates, EXIT
abbrev pub calling_code : List ℕ
calling_code = 0x59 ∷ 0 ∷ 0 ∷ 0x28 ∷ 7 ∷ 0x04 ∷ []

-- PUSHW 2807, EXIT: the operand spells the primitive
abbrev pub spelling_code : List ℕ
spelling_code = 0x22 ∷ 0x28 ∷ 7 ∷ 0x04 ∷ []

-- whether an application with this code and this access list can delegate
unfoldable pub can_with : List ℕ → ℕ → Bool
unfolding begins_delegation
can_with code deny = can_delegate (app_with code deny)

-- ---- plays

-- an application that delegates to the second name
abbrev pub caller : UnitParts
caller =
    record {
      number = zeros 8;
      code = calling_code;
      init = 5 ∷ second;
      dir = made_dir first;
      fci = made_fci first;
      aid = first;
    }

-- these two are loaded, selected and sent a command in turn
abbrev pub lines_of : UnitParts → UnitParts → List (ℕ × DeckLine)
lines_of u v =
    (1, line.Format) ∷ (2, line.Power) ∷ (3, line.Sent (line.Load u 6 0)) ∷ (4, line.Sent (line.Load v 6 0)) ∷ (5, line.Sent (line.Select first)) ∷ (6, count)
    ∷ (7, line.Sent (line.Select second)) ∷ (8, count) ∷ []

-- the play of two applications
unfoldable pub steps_of : UnitParts → UnitParts → List Step
unfolding name_of apdu_read touched_words targets_1 targets_2 pairs blocks_from apps_of layout step_of bad_block bad_record bytes_at write_effect too_many later_causes prim_effect causes effect row turn_of_chain run_of_chain manage command send play_at_power step plays moves_of steady_failures
steps_of u v = let ls = lines_of u v in plays (start blank) ls (steady_failures (start blank) ls)

-- the pairs of all its lines
unfoldable pub pairs_of : UnitParts → UnitParts → List (List ℕ × List ℕ)
unfolding steps_of
pairs_of u v = flat_map (λ t. t.pairs) (steps_of u v)

-- the names whose applications can delegate
abbrev pub names_that_can : List (List ℕ × App) → List (List ℕ)
names_that_can [] = []
names_that_can (e ∷ es) = cond (can_delegate e.1) (e.0 ∷ names_that_can es) (names_that_can es)

-- the names on the card at the end whose applications can delegate
unfoldable pub callers_of : UnitParts → UnitParts → List (List ℕ)
unfolding steps_of begins_delegation
callers_of u v = names_that_can (apps_in (last_state (start blank) (steps_of u v)))
