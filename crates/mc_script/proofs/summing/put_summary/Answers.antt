use Rattle.mc_text.proofs.TextLemmas.{puts_failed, puts_then, fails_before}
use Rattle.model_play.specs.Generator.{count_line}
use Rattle.mc_script.specs.Sums.{dumps_text}
use Rattle.mc_script.proofs.summing.put_summary.Goals as goal

pub returns-in_err-put_counts : goal.returns-in_err-put_counts
returns-in_err-put_counts g c s rs at counted =
    let r = c.from_residual in
    puts_failed r.result r.ensures.0 (fails_before {x = count_line rs} (dumps_text s c.args.deck.now) (c.in_err-put_counts.ensures rs counted))

pub returns : goal.returns
returns g c s rs at counted = puts_then {x = count_line rs} _ (dumps_text s c.args.deck.now) c.put_dumps.result (c.in_ok-put_counts.ensures rs counted) (c.put_dumps.ensures s at)
