use Rattle.desk_draft.proofs.SourceLemmas.{code_is_of_lines}
use Rattle.desk_draft.proofs.laws.code_is_of_lines.Goals as goal

pub returns : goal.returns
returns c = code_is_of_lines
