use Rattle.std.proofs.Common.{◌≡◌, drop, map}
use Rattle.model_device.specs.Image.{ascend}
use Rattle.mc_card_tests.proofs.journals.bench.ascends.Given as goal

-- the targets that remain decide
abbrev pub invariant-loop-target : goal.invariant-loop-target
invariant-loop-target l = record { test : ascend l.size 0 (map (λ p. p.0) l.list) ≡ ascend l.size l.least (map (λ p. p.0) (drop l.target-index l.list)) }
