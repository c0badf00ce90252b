use Rattle.std.proofs.Common.{◌≡◌, ◌++◌}
use Rattle.std.specs.Prelude.{option_map}
use Rattle.mc_text.specs.model_text.specs.Text.{ok_as, fields}
use Rattle.mc_deck.proofs.FieldLemmas.{fields_left, left_of}
use Rattle.desk_draft.specs.Statements.{command_text}
use Rattle.desk_draft.proofs.statement.push_command.Given as goal

-- the deck so far with what is left is what the whole command makes of the deck before
abbrev pub invariant-loop-rest : goal.invariant-loop-rest
invariant-loop-rest l = ok_as (λ t. l.deck.items ++ t) (command_text (fields_left (option_map (λ t. t.now) l.rest))) ≡ ok_as (λ t. l.fn.deck.items ++ t) (command_text (fields l.fn.text))

abbrev pub decreases-loop-rest : goal.decreases-loop-rest
decreases-loop-rest l = left_of (option_map (λ t. t.now) l.rest)
