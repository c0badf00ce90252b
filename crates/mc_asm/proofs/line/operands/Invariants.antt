use Rattle.std.proofs.Common.{◌≡◌, ◌≤◌, ◌++◌, length}
use Rattle.std.specs.Prelude.{option_map}
use Rattle.model_text.specs.Assembly.{operands}
use Rattle.mc_asm.specs.Items.{texts}
use Rattle.mc_asm.proofs.LineLemmas.{left_of}
use Rattle.mc_asm.proofs.line.operands.Given as goal

-- the operands so far, followed by those of the text that is left, are those of the whole
abbrev pub invariant-loop-rest : goal.invariant-loop-rest
invariant-loop-rest l = record {
  value : texts l.parts.items ++ operands (option_map (λ t. t.now) l.rest) ≡ operands (option_map (λ t. t.now) l.fn.text);
  room : length l.parts.items ≤ 5;
}

abbrev pub decreases-loop-rest : goal.decreases-loop-rest
decreases-loop-rest l = left_of (option_map (λ t. t.now) l.rest)
