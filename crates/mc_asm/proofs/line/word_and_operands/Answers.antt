use Rattle.std.proofs.Common.{ap, sym, ◌∙◌, arith}
use Rattle.std.specs.Prelude.{option_map}
use Rattle.model_text.specs.Text.{first_cut, is_blank, ok_as}
use Rattle.model_text.specs.Assembly.{item_of_word}
use Rattle.mc_asm.specs.Items.{item_of, texts}
use Rattle.mc_asm.specs.Forms.{form_of}
use Rattle.mc_asm.proofs.LineLemmas.{word_then, nonempty}
use Rattle.mc_asm.proofs.line.word_and_operands.Goals as goal

pub returns-clause-value : goal.returns-clause-value
returns-clause-value c =
    word_then (first_cut is_blank c.args.text.now) c.cut_blank.result.0.now (option_map (λ t. t.now) c.cut_blank.result.1) (form_of c.in-Some.form) (texts c.operands.result.items) (ok_as item_of c.worded.result) c.cut_blank.ensures.front c.cut_blank.ensures.behind
    (nonempty c.cut_blank.result.0.now (grind arith))
    (sym c.form_named.ensures.value ∙ ap (option_map form_of) c.in-Some.is)
    c.operands.ensures
    (c.worded.ensures.value ∙ ap (λ l. item_of_word (form_of c.in-Some.form) (texts l)) c.as_slice.ensures.value)
