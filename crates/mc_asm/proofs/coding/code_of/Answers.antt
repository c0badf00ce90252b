use Rattle.std.proofs.Common.{◌+◌, ◌++◌, ◌∙◌, Ok, drop, get_or, sym, ap, append-nil, arith, length}
use Rattle.model_text.specs.Text.{ok_as}
use Rattle.mc_asm.specs.Passes.{code_of_lines, numbered_lines}
use Rattle.mc_asm.proofs.PassLemmas.{coded_more, coded_refused, coded_end, coded_behind, line_at, no_line, no_line_left}
use Rattle.mc_asm.proofs.coding.code_of.Goals as goal

pub loop-line-preserved : goal.loop-line-preserved
loop-line-preserved c =
    let line = get_or c.args.lines.now c.loop-line.line-index no_line in
    let behind = numbered_lines (drop (c.loop-line.line-index + 1) c.args.lines.now) in
    let items = c.in_ok-extend_from_slice-in-Ok.ensures.items ∙ ap (λ more. c.loop-line.code.items ++ more) c.as_slice.ensures.value in
    record {
      leads = λ ls a.
          ap (λ items. ok_as (λ rest. items ++ rest) (code_of_lines ls c.in-Ok.end behind)) items
          ∙ coded_behind c.loop-line.code.items c.in-Ok.bytes.items (code_of_lines ls c.in-Ok.end behind)
          ∙ ap (ok_as (λ rest. c.loop-line.code.items ++ rest)) (sym (ap (code_of_lines ls c.loop-line.place) (line_at c.args.lines.now c.loop-line.line-index c.loop-line-test.true)
          ∙ coded_more ls c.loop-line.place line.number c.in-Ok.end line.text.now c.in-Ok.bytes.items behind (sym (c.in-Ok.ensures.value ls a))))
          ∙ c.loop-line.invariant.leads ls a;
      size = omega (arith, c.in-Ok.ensures.size, c.in_ok-extend_from_slice-in-Ok.ensures.len, ap length c.as_slice.ensures.value, c.loop-line.invariant.size);
      bound = c.in-Ok.ensures.bound;
    }

pub returns-in-Err-clause-code : goal.returns-in-Err-clause-code
returns-in-Err-clause-code c = λ ls a.
    let line = get_or c.args.lines.now c.loop-line.line-index no_line in
    let behind = numbered_lines (drop (c.loop-line.line-index + 1) c.args.lines.now) in
    sym (c.loop-line.invariant.leads ls a)
    ∙ ap (ok_as (λ rest. c.loop-line.code.items ++ rest)) (ap (code_of_lines ls c.loop-line.place) (line_at c.args.lines.now c.loop-line.line-index c.loop-line-test.true)
    ∙ coded_refused ls c.loop-line.place line.number line.text.now behind c.in-Err.cause (sym (c.in-Err.ensures.value ls a)))

pub returns-clause-code : goal.returns-clause-code
returns-clause-code c = λ ls a.
    sym (c.loop-line.invariant.leads ls a)
    ∙ ap (ok_as (λ rest. c.loop-line.code.items ++ rest)) (ap (code_of_lines ls c.loop-line.place) (no_line_left c.args.lines.now c.loop-line.line-index c.loop-line-test.false) ∙ coded_end ls c.loop-line.place)
    ∙ ap Ok (append-nil c.loop-line.code.items)
