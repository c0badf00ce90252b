use Rattle.desk_draft.specs.Declarations.{declaration_in}
use Rattle.desk_draft.specs.Views.{scope_of}
use Rattle.desk_draft.proofs.DraftLemmas.{coded_none, coded_some, instruction_turned}
use Rattle.desk_draft.proofs.draft.coded_line.Goals as goal

pub returns-in-Some : goal.returns-in-Some
returns-in-Some c = λ l h.
    coded_some (scope_of c.args.scope.now l) c.args.line.now c.args.deck.now.items c.declaration_line.new.deck.items c.args.later c.declaration_line.new.scope c.declaration_line.result c.in-Some.declaration c.declaration_in.result (declaration_in c.args.line.now) c.in-Some.is c.declaration_in.ensures
    (λ w fs g. c.declaration_line.ensures l c.args.line.now w fs h g)

pub returns-in-None : goal.returns-in-None
returns-in-None c = λ l h.
    coded_none (scope_of c.args.scope.now l) c.args.line.now c.args.deck.now.items c.push_instruction.new.deck.items c.args.later c.args.scope.now c.push_instruction.result c.declaration_in.result (declaration_in c.args.line.now) c.in-None.is c.declaration_in.ensures
    (instruction_turned l c.args.line.now c.args.deck.now.items c.push_instruction.new.deck.items c.args.later c.args.scope.now c.push_instruction.result h (c.push_instruction.ensures l h))
