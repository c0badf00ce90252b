use Rattle.std.proofs.Common.{◌≡◌, ◌≤◌, ◌+◌, ◌++◌, [], length, vec_len, vec_capacity}
use Rattle.mc_text.specs.model_text.specs.Text.{ok_as, lines, with_numbers}
use Rattle.melcard.specs.Judging.{text_digits}
use Rattle.melcard.proofs.code.digits_of.Given as goal

-- the digits up to here, and those of the lines that are left, are those of the text, and there is room for them
abbrev pub invariant-loop-line : goal.invariant-loop-line
invariant-loop-line l = record {
  leads : ok_as (λ vs. l.digits.items ++ vs) (text_digits (with_numbers (l.count + 1) (lines l.rest))) ≡ ok_as (λ vs. [] ++ vs) (text_digits (with_numbers 1 (lines l.fn.text)));
  count : l.count + length (lines l.rest) ≡ length (lines l.fn.text);
  bound : l.count + length l.rest ≤ length l.fn.text;
  len : vec_len l.digits + length l.rest ≤ length l.fn.text;
  room : vec_capacity l.fn.room ≤ vec_capacity l.digits;
}

abbrev pub decreases-loop-line : goal.decreases-loop-line
decreases-loop-line l = length l.rest
