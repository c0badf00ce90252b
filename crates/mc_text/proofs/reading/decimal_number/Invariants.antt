use Rattle.std.proofs.Common.{◌≡◌, ◌≤◌, drop}
use Rattle.std.specs.Prelude.{option_map}
use Rattle.mc_text.specs.Reading.{capped_number, decimal_behind}
use Rattle.mc_text.proofs.reading.decimal_number.Given as goal

-- the digits that are left, appended to the number so far, spell the number of all digits
abbrev pub invariant-loop-digit : goal.invariant-loop-digit
invariant-loop-digit l = record {
  value : option_map capped_number (decimal_behind l.number (drop l.digit-index l.digits)) ≡ option_map capped_number (decimal_behind 0 l.digits);
  bound : l.number ≤ 4294967296;
}
