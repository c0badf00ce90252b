use Rattle.std.proofs.Common.{◌≡◌, length}
use Rattle.model_text.specs.Text.{trim_front}
use Rattle.mc_text.proofs.reading.trim_front.Given as goal

-- the text that is left is trimmed to the same text as the whole
abbrev pub invariant-loop-rest : goal.invariant-loop-rest
invariant-loop-rest l = trim_front l.rest ≡ trim_front l.fn.text

abbrev pub decreases-loop-rest : goal.decreases-loop-rest
decreases-loop-rest l = length l.rest
