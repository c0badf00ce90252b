use Rattle.mc_dead_word.proofs.Powers.{answer_law}
use Rattle.mc_dead_word.proofs.power_lines_say_so.Goals as goal

pub returns : goal.returns
returns c = record { answers = answer_law }
