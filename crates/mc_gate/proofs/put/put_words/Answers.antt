use Rattle.std.proofs.Common.{◌+◌, drop}
use Rattle.std.proofs.lemmas.Result.{err_from_is_err_and}
use Rattle.mc_words.specs.model_device.proofs.LoopLemmas.{leads_stop}
use Rattle.mc_words.specs.model_device.proofs.JournalLemmas.{pair_step}
use Rattle.mc_gate.proofs.put.put_words.Goals as goal

pub returns-in_err-write-clause-makes : goal.returns-in_err-write-clause-makes
returns-in_err-write-clause-makes g c =
    let p = err_from_is_err_and c.from_residual.result c.from_residual.ensures.1 in
    rw (p.1, p.2) (leads_stop g.N.Nvm.wrote c.args.device.now c.loop-target.device c.write.new.self c.args.list.now (drop c.loop-target.target-index c.args.list.now)
    (drop (c.loop-target.target-index + 1) c.args.list.now) _ _ c.in_err-write.field-0.0 c.loop-target.invariant.leads (pair_step c.args.list.now c.loop-target.target-index c.loop-target-test.true) c.in_err-write.ensures.wrote)
