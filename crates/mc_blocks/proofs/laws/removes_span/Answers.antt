use Rattle.mc_words.specs.model_device.specs.Card.{means}
use Rattle.mc_blocks.proofs.Maps.{spans_remove}
use Rattle.mc_blocks.proofs.Applications.{found_application}
use Rattle.mc_blocks.proofs.laws.removes_span.Goals as goal

pub returns-clause-there : goal.returns-clause-there
returns-clause-there c = λ m name app image closed h l. (found_application m name app image closed h l).span

pub returns-clause-gone : goal.returns-clause-gone
returns-clause-gone c = λ m name app image closed h l. spans_remove (means m).apps name app.place (found_application m name app image closed h l).one
