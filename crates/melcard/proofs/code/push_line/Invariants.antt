use Rattle.std.proofs.Common.{◌≡◌, ◌+◌, ◌≤◌, ◌++◌, drop, length, vec_len, vec_capacity}
use Rattle.mc_text.specs.model_text.specs.Text.{ok_as}
use Rattle.melcard.specs.Judging.{line_digits}
use Rattle.melcard.proofs.code.push_line.Given as goal

-- the digits up to here, and those of the characters that are left, are those of the line after the digits before, and
-- there is room for what is left
abbrev pub invariant-loop-character : goal.invariant-loop-character
invariant-loop-character l = record {
  leads : ok_as (λ vs. l.digits.items ++ vs) (line_digits l.number (drop l.character-index l.line)) ≡ ok_as (λ vs. l.fn.digits.items ++ vs) (line_digits l.number l.line);
  len : vec_len l.digits ≤ vec_len l.fn.digits + l.character-index;
  room : vec_capacity l.fn.digits ≤ vec_capacity l.digits;
}
