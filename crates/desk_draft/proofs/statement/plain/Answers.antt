use Rattle.mc_text.specs.model_text.specs.Text.{hex_bytes}
use Rattle.desk_draft.proofs.StatementLemmas.{plain_some, plain_none}
use Rattle.desk_draft.proofs.statement.plain.Goals as goal

pub returns-in-Some : goal.returns-in-Some
returns-in-Some c = plain_some c.args.field.now (hex_bytes c.args.field.now) c.in-Some.field-0 c.in-Some.ensures

pub returns-in-None : goal.returns-in-None
returns-in-None c = plain_none c.args.field.now (hex_bytes c.args.field.now) c.in-None.ensures
