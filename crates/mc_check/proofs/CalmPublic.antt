-- The public segment is whole when a command begins.
use Rattle.std.proofs.Common.{◌-◌, ◌≤◌, length, arith}
use Rattle.std.proofs.lemmas.List.{length-append, length-replicate}
use Rattle.law_family.specs.model_machine.specs.Apdu.{ApduParts}
use Rattle.law_family.specs.model_machine.specs.Frame.{public_base, public_end, new_public}

-- the public segment of a command is whole
pub begun_whole : (a : ApduParts) → public_end - public_base ≤ length (new_public a)
begun_whole a = grind (arith, length-append, length-replicate)
