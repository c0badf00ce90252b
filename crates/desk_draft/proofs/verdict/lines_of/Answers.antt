use Rattle.std.proofs.Common.{◌∙◌, ℕ, List, Bor, ap, sym}
use Rattle.std.specs.Prelude.{option_map}
use Rattle.mc_text.specs.model_text.specs.Text.{lines}
use Rattle.mc_asm.specs.Items.{texts}
use Rattle.desk_draft.proofs.LoadLemmas.{lines_done, lines_more, texts_more}
use Rattle.desk_draft.proofs.verdict.lines_of.Goals as goal

pub loop-line-preserved : goal.loop-line-preserved
loop-line-preserved c =
    let next = ap (option_map (λ (l : Bor (List ℕ) × Bor (List ℕ)). (l.0.now, l.1.now))) (sym c.in-Some.is) ∙ c.next_line.ensures.line in
    lines_more (texts c.loop-line.lines.items) (texts c.push.new.self.items) (lines c.args.text.now) c.loop-line.rest.now c.in-Some.line.now c.in-Some.behind.now next (ap texts c.in_ok-push.ensures.items ∙ texts_more c.loop-line.lines.items c.in-Some.line) c.loop-line.invariant

pub returns : goal.returns
returns c =
    let next = ap (option_map (λ (l : Bor (List ℕ) × Bor (List ℕ)). (l.0.now, l.1.now))) (sym c.in_default.is) ∙ c.next_line.ensures.line in
    lines_done (texts c.loop-line.lines.items) (lines c.args.text.now) c.loop-line.rest.now next c.loop-line.invariant
