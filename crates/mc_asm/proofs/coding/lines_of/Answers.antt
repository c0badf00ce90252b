use Rattle.std.proofs.Common.{◌+◌, ◌++◌, ◌∙◌, ℕ, List, Bor, vec_len, sym, ap, append-nil}
use Rattle.std.specs.Prelude.{option_map}
use Rattle.mc_asm.specs.Passes.{numbered_lines}
use Rattle.mc_asm.proofs.PassLemmas.{numbered_none, lines_more}
use Rattle.mc_asm.proofs.coding.lines_of.Goals as goal

pub loop-line-preserved : goal.loop-line-preserved
loop-line-preserved c =
    let next = ap (option_map (λ (l : Bor (List ℕ) × Bor (List ℕ)). (l.0.now, l.1.now))) (sym c.in-Some.is) ∙ c.next_line.ensures.line in
    let more = lines_more (numbered_lines c.loop-line.lines.items) (numbered_lines c.push_line.new.lines.items) (vec_len c.loop-line.lines + 1) (vec_len c.push_line.new.lines) c.loop-line.rest.now c.in-Some.line.now c.in-Some.behind.now next in
    more c.in_ok-push_line.ensures.pushed c.in_ok-push_line.ensures.len ∙ c.loop-line.invariant

pub returns-clause-lines : goal.returns-clause-lines
returns-clause-lines c =
    let next = ap (option_map (λ (l : Bor (List ℕ) × Bor (List ℕ)). (l.0.now, l.1.now))) (sym c.in_default.is) ∙ c.next_line.ensures.line in
    sym (append-nil (numbered_lines c.loop-line.lines.items)) ∙ ap (λ ts. numbered_lines c.loop-line.lines.items ++ ts) (sym (numbered_none (vec_len c.loop-line.lines + 1) c.loop-line.rest.now next)) ∙ c.loop-line.invariant
