use Rattle.std.proofs.Common.{◌≡◌, ◌++◌, ℕ, List, Option, Bor, subst}
use Rattle.std.specs.Prelude.{map, option_map}
use Rattle.desk_draft.specs.Parts.{ended_lines}
use Rattle.desk_draft.specs.Views.{ended_line_of, piece_line}
use Rattle.desk_draft.proofs.LineLemmas.{left_lines, line_more, lines_added}
use Rattle.desk_draft.proofs.line.ended_lines.Goals as goal

pub loop-rest-preserved : goal.loop-rest-preserved
loop-rest-preserved c =
    let whole = subst (λ (r : Option (Bor (List ℕ))). map ended_line_of c.loop-rest.lines.items ++ left_lines (option_map (λ t. t.now) r) ≡ ended_lines c.args.text.now) c.in-Some.is c.loop-rest.invariant in
    let a = c.cut.result.0.now in
    let b = option_map (λ t. t.now) c.cut.result.1 in
    line_more (map ended_line_of c.loop-rest.lines.items) (map ended_line_of c.push.new.self.items) (ended_lines c.args.text.now) c.in-Some.left.now a b c.cut.ensures.front c.cut.ensures.behind
    (lines_added c.loop-rest.lines.items c.push.new.self.items c.ended_line.result (piece_line a b) c.in_ok-push.ensures.items c.ended_line.ensures) whole
