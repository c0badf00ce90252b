use Rattle.std.proofs.Common.{◌≡◌, ◌<◌, ◌^◌, drop}
use Rattle.mc_asm.specs.Numbers.{hex_behind}
use Rattle.mc_asm.proofs.number.hex_number.Given as goal

-- the digits that are left, appended to the number so far, spell the number of all digits
abbrev pub invariant-loop-digit : goal.invariant-loop-digit
invariant-loop-digit l = record {
  value : hex_behind l.number (drop l.digit-index l.digits) ≡ hex_behind 0 l.digits;
  bound : l.number < 16 ^ l.digit-index;
}
