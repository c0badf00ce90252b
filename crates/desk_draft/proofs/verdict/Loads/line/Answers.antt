use Rattle.std.proofs.Common.{◌≡◌, ◌<◌, length, rules}
use Rattle.desk_draft.proofs.LoadLemmas.{line_there, no_line_past, no_line_zero}
use Rattle.desk_draft.proofs.verdict.Loads.line.Goals as goal

pub returns-then-number-eq0 : goal.returns-then-number-eq0
returns-then-number-eq0 c = λ d h.
    let zero : c.args.number ≡ 0 = search rules in
    no_line_zero d.deck c.args.number zero

pub returns-then-number-len : goal.returns-then-number-len
returns-then-number-len c = λ d h.
    let past : length c.args.self.now.lines.items < c.args.number = search rules in
    no_line_past c.args.self.now.lines.items d.deck c.args.number h.lines past

pub returns : goal.returns
returns c = λ d h.
    let some : 0 < c.args.number = search rules in
    line_there c.args.self.now.lines.items d.deck c.args.number c.line_at.result.now h.lines some c.line_at.ensures
