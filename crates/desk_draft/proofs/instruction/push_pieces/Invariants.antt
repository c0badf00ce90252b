use Rattle.std.proofs.Common.{◌≡◌, ◌++◌, ℕ, List}
use Rattle.std.specs.Prelude.{◌==◌, option_map}
use Rattle.mc_text.specs.model_text.specs.Text.{ok_as, pieces}
use Rattle.mc_asm.proofs.LineLemmas.{left_of}
use Rattle.desk_draft.specs.Declarations.{NameMeaning}
use Rattle.desk_draft.specs.Operands.{pieces_text}
use Rattle.desk_draft.specs.Views.{AreNames}
use Rattle.desk_draft.proofs.PushLemmas.{left_text}
use Rattle.desk_draft.proofs.instruction.push_pieces.Given as goal

-- the deck so far with what is left is what all pieces make of the deck before
abbrev pub invariant-loop-rest : goal.invariant-loop-rest
invariant-loop-rest l =
    (names : List (List ℕ × NameMeaning)) → AreNames l.fn.names names
    → ok_as (λ t. l.deck.items ++ t) (left_text names l.sized (option_map (λ t. t.now) l.rest)) ≡ ok_as (λ t. l.fn.deck.items ++ t) (pieces_text names l.sized (pieces (λ c. c == 44) l.fn.text))

abbrev pub decreases-loop-rest : goal.decreases-loop-rest
decreases-loop-rest l = left_of (option_map (λ t. t.now) l.rest)
