use Rattle.law_prove_closed.proofs.Classes.{class_law}
use Rattle.law_prove_closed.proofs.commands_have_classes.Goals as goal

pub returns : goal.returns
returns c = class_law
