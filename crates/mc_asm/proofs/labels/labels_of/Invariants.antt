use Rattle.std.proofs.Common.{◌≡◌, ◌≤◌, ℕ, List, [], drop}
use Rattle.mc_asm.specs.Passes.{AreLabels, numbered_lines, places}
use Rattle.mc_asm.proofs.labels.labels_of.Given as goal

-- the labels of the lines that are left, added to the labels so far, are the labels of the whole
abbrev pub invariant-loop-line : goal.invariant-loop-line
invariant-loop-line l = record {
  leads : (ls : List (List ℕ × ℕ)) × (places ls l.place (numbered_lines (drop l.line-index l.lines)) ≡ places [] 0 (numbered_lines l.fn.lines)) × AreLabels l.labels ls;
  bound : l.place ≤ 8192;
}
