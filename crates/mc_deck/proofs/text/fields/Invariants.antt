use Rattle.std.proofs.Common.{◌≡◌, ◌<◌, ◌≤◌, ◌++◌, length}
use Rattle.std.specs.Prelude.{option_map}
use Rattle.std.specs.List.{AllByRecursion}
use Rattle.model_play.specs.model_text.specs.Text.{fields}
use Rattle.mc_asm.specs.Items.{texts}
use Rattle.mc_deck.proofs.FieldLemmas.{fields_left, left_of}
use Rattle.mc_deck.proofs.text.fields.Given as goal

-- the fields so far, and those of the text that is left, are those of the line
abbrev pub invariant-loop-rest : goal.invariant-loop-rest
invariant-loop-rest l = record {
  value : texts l.parts.items ++ fields_left (option_map (λ t. t.now) l.rest) ≡ fields l.fn.line;
  filled : AllByRecursion (λ t. 0 < length t.now) l.parts.items;
  room : length l.parts.items ≤ 5;
}

abbrev pub decreases-loop-rest : goal.decreases-loop-rest
decreases-loop-rest l = left_of (option_map (λ t. t.now) l.rest)
