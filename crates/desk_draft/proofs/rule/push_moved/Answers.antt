use Rattle.std.proofs.Common.{◌≡◌, ◌∙◌, ap, false, sym, true, rules}
use Rattle.mc_asm.specs.Items.{texts}
use Rattle.mc_text.specs.model_text.specs.Text.{fields}
use Rattle.desk_draft.specs.Rules.{is_unknown}
use Rattle.desk_draft.proofs.RuleLemmas.{moved_known, moved_unknown, unknown_five}
use Rattle.desk_draft.proofs.rule.push_moved.Goals as goal

pub returns-then-is_unknown : goal.returns-then-is_unknown
returns-then-is_unknown c = λ l h.
    let same : c.as_slice.result.now ≡ c.fields.result.items = search rules in
    let is : is_unknown l (texts c.as_slice.result.now) ≡ true = sym (c.is_unknown.ensures l h) ∙ c.if-is_unknown.true in
    moved_unknown l c.args.statement.now (sym (ap (is_unknown l) (ap texts same ∙ c.fields.ensures.value) ∙ unknown_five l (fields c.args.statement.now)) ∙ is)

pub returns : goal.returns
returns c = λ l h.
    let same : c.as_slice.result.now ≡ c.fields.result.items = search rules in
    let is : is_unknown l (texts c.as_slice.result.now) ≡ false = sym (c.is_unknown.ensures l h) ∙ c.if-is_unknown.false in
    moved_known l c.args.statement.now c.args.deck.now.items c.push_statement.new.deck.items c.push_statement.result (sym (ap (is_unknown l) (ap texts same ∙ c.fields.ensures.value) ∙ unknown_five l (fields c.args.statement.now)) ∙ is) (c.push_statement.ensures l h)
