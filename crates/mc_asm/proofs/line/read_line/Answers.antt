use Rattle.std.specs.Prelude.{option_map}
use Rattle.model_text.specs.Text.{ok_as}
use Rattle.mc_asm.specs.Items.{line_of}
use Rattle.mc_asm.proofs.LineLemmas.{line_by_parts}
use Rattle.mc_asm.proofs.line.read_line.Goals as goal

pub returns-clause-value : goal.returns-clause-value
returns-clause-value c =
    line_by_parts c.args.line.now c.cut.result.0.now c.cut-2.result.0.now (option_map (λ t. t.now) c.cut-2.result.1) (ok_as line_of c.labelled.result) c.cut.ensures.front c.cut-2.ensures.front c.cut-2.ensures.behind c.labelled.ensures.value
