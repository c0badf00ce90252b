use Rattle.mc_asm.specs.Passes.{numbered_lines}
use Rattle.mc_asm.proofs.PassLemmas.{code_found, code_refused}
use Rattle.mc_asm.proofs.coding.assemble_lines.Goals as goal

pub returns-clause-code : goal.returns-clause-code
returns-clause-code c =
    let found = c.in_ok-labels.ensures.found in
    code_found (λ v. v.items) (numbered_lines c.args.lines.now) found.0 c.code_of.result found.1 (c.code_of.ensures.code found.0 found.2)

pub returns-clause-refused : goal.returns-clause-refused
returns-clause-refused c =
    let found = c.in_ok-labels.ensures.found in
    code_refused (λ v. v.items) (numbered_lines c.args.lines.now) found.0 c.code_of.result found.1 (c.code_of.ensures.code found.0 found.2)
