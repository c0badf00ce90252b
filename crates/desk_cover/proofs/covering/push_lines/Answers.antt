use Rattle.std.proofs.Common.{◌≡◌, ◌≤◌, ◌++◌, ℕ, List, length, sym, ap, subst, ◌∙◌, rules, arith}
use Rattle.std.specs.Prelude.{map}
use Rattle.desk_draft.specs.declared.source.CodeLine.{CodeLine}
use Rattle.desk_cover.specs.Counting.{new_line}
use Rattle.desk_draft.specs.Sources.{code_line_value}
use Rattle.desk_cover.proofs.ListLemmas.{grown_end, map_twice}
use Rattle.desk_cover.proofs.covering.push_lines.Goals as goal

pub returns : goal.returns
returns c =
    let k = c.args.index in
    let code = c.code-code.result.now in
    let items = c.lines-line-items.result.now in
    let all : length items ≤ c.loop-line.line-index = search (rules, arith) in
    let values = subst (λ (b : List ℕ). map (code_line_value b) items ≡ c.args.section.now.lines) (sym c.code-code.ensures) c.lines-line-items.ensures in
    grown_end (λ (x : CodeLine). new_line k (code_line_value code x)) items c.loop-line.line-index c.loop-line.lines.items all
    ∙ c.loop-line.invariant
    ∙ ap (λ ys. c.args.lines.now.items ++ ys) (map_twice (new_line k) (code_line_value code) items ∙ ap (map (new_line k)) values)
