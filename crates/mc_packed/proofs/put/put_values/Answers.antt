use Rattle.std.proofs.Common.{◌+◌, ℕ, [], Err, drop, get_or, subst}
use Rattle.std.proofs.lemmas.Result.{err_from_is_err_and}
use Rattle.mc_words.specs.model_device.specs.Stopped.{values_2}
use Rattle.mc_words.specs.model_device.proofs.LoopLemmas.{leads_stop}
use Rattle.mc_packed.proofs.PutLemmas.{value_step}
use Rattle.mc_packed.proofs.put.put_values.Goals as goal

pub returns-in_err-write-clause-makes : goal.returns-in_err-write-clause-makes
returns-in_err-write-clause-makes g c =
    let p = err_from_is_err_and c.from_residual.result c.from_residual.ensures.1 in
    rw (p.1, p.2) (leads_stop g.N.Nvm.wrote c.args.device.now c.loop-i.device c.write.new.self (values_2 0 c.args.list.now) (values_2 c.loop-i.i (drop c.loop-i.i c.args.list.now))
    (values_2 (c.loop-i.i + 1) (drop (c.loop-i.i + 1) c.args.list.now)) (19 + c.loop-i.i) _ c.in_err-write.field-0.0 c.loop-i.invariant.leads (value_step c.args.list.now c.loop-i.i c.loop-i-test.true)
    (subst (λ (p : ℕ). g.N.Nvm.wrote c.loop-i.device p (get_or c.args.list.now c.loop-i.i (0, [])).1 (Err c.in_err-write.field-0.0) c.write.new.self) c.place_of_value.ensures.place c.in_err-write.ensures.wrote))
