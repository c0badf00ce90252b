use Rattle.std.proofs.Common.{◌≡◌, drop}
use Rattle.mc_words.specs.model_device.specs.Image.{all_zero}
use Rattle.mc_packed.proofs.look.are_zero.Given as goal

-- the numbers that are left decide
abbrev pub invariant-loop-number : goal.invariant-loop-number
invariant-loop-number l = all_zero l.numbers ≡ all_zero (drop l.number-index l.numbers)
