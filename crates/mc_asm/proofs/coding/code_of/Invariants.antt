use Rattle.std.proofs.Common.{◌≡◌, ◌≤◌, ◌++◌, ℕ, List, drop, vec_len}
use Rattle.model_text.specs.Text.{ok_as}
use Rattle.mc_asm.specs.Passes.{AreLabels, code_of_lines, numbered_lines}
use Rattle.mc_asm.proofs.coding.code_of.Given as goal

-- the code so far, followed by that of the lines that are left, is the code of the whole
abbrev pub invariant-loop-line : goal.invariant-loop-line
invariant-loop-line l = record {
  leads : (ls : List (List ℕ × ℕ)) → AreLabels l.labels ls → ok_as (λ rest. l.code.items ++ rest) (code_of_lines ls l.place (numbered_lines (drop l.line-index l.lines))) ≡ code_of_lines ls 0 (numbered_lines l.fn.lines);
  size : vec_len l.code ≡ l.place;
  bound : l.place ≤ 8192;
}
