-- No place has a code address.
use Rattle.std.proofs.Common.{arith}
use Rattle.std.proofs.lemmas.List.Elements.{All-replicate}
use Rattle.law_machine.specs.model_machine.specs.declared.instruction.Ins.TheVariants.{Nop}
use Rattle.mc_machine.specs.Known.{IsKnown}
use Rattle.mc_machine.proofs.known.blank.Goals as goal

pub returns : goal.returns
returns c code = All-replicate (IsKnown code) 256 (record { at = 0x10000; next = 0; ins = Nop }) (λ lt. absurd (omega (arith, lt)))
