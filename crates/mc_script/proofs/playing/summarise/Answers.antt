use Rattle.std.proofs.Common.{rules}
use Rattle.mc_script.proofs.LawLemmas.{sum_deck, sum_of}
use Rattle.mc_script.proofs.playing.summarise.Goals as goal

pub returns : goal.returns
returns g c =
    let sums = rw c.new-writer.ensures.out at c.sum_lines-dev.ensures.sums in
    record {
      sums = sum_of _ _ _ _ _ _ _ _ _ (sum_deck _ _ _ _ _ _ _ _ _ _ _ _ sums c.sum_lines-dev.ensures.image c.sum_lines-dev.ensures.lines (search rules) (search rules) (search rules) (search rules) (search rules));
      steps = sum_deck _ _ _ _ _ _ _ _ _ _ _ _ sums c.sum_lines-dev.ensures.image c.sum_lines-dev.ensures.lines (search rules) (search rules) (search rules) (search rules) (search rules);
    }
