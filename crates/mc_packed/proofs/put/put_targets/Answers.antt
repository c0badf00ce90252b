use Rattle.std.proofs.Common.{◌+◌, ◌-◌, ◌*◌, ℕ, List, length, drop, map, ap, ◌∙◌, length-set}
use Rattle.std.proofs.lemmas.Result.{err_from_is_err_and}
use Rattle.mc_words.specs.model_device.specs.Bytes.{up}
use Rattle.mc_words.specs.model_device.specs.Stopped.{target_words}
use Rattle.mc_words.specs.model_device.proofs.LoopLemmas.{leads_on, leads_stop}
use Rattle.mc_packed.proofs.PutLemmas.{target_step_at}
use Rattle.mc_packed.proofs.put.put_targets.Goals as goal

pub returns-in_err-write-clause-makes : goal.returns-in_err-write-clause-makes
returns-in_err-write-clause-makes g c =
    let p = err_from_is_err_and c.from_residual.result c.from_residual.ensures.1 in
    let ts : List ℕ = map (λ (p : ℕ × List ℕ). p.0) c.args.list.now in
    let n = up (length c.args.list.now) 4 in
    rw (p.1, p.2) (leads_stop g.N.Nvm.wrote c.args.device.now c.loop-i.device c.write.new.self (target_words 0 n ts) (target_words c.loop-i.i (n - c.loop-i.i) (drop (4 * c.loop-i.i) ts))
    (target_words (c.loop-i.i + 1) (n - (c.loop-i.i + 1)) (drop (4 * (c.loop-i.i + 1)) ts)) (3 + c.loop-i.i) c.target_word.result c.in_err-write.field-0.0 c.loop-i.invariant.leads
    (target_step_at c.loop-i.i n ts c.target_word.result c.loop-i-test.true c.target_word.ensures) c.in_err-write.ensures.wrote)

pub loop-i-preserved : goal.loop-i-preserved
loop-i-preserved g c =
    let ts : List ℕ = map (λ (p : ℕ × List ℕ). p.0) c.args.list.now in
    let n = up (length c.args.list.now) 4 in
    record {
      on = c.in_ok-write.ensures.rules.power;
      size = ap length c.in_ok-write.ensures.rules.words ∙ length-set (g.N.Nvm.state c.loop-i.device).words (3 + c.loop-i.i) c.target_word.result ∙ c.loop-i.invariant.size;
      leads = leads_on g.N.Nvm.wrote c.args.device.now c.loop-i.device c.write.new.self (target_words 0 n ts) (target_words c.loop-i.i (n - c.loop-i.i) (drop (4 * c.loop-i.i) ts))
          (target_words (c.loop-i.i + 1) (n - (c.loop-i.i + 1)) (drop (4 * (c.loop-i.i + 1)) ts)) (3 + c.loop-i.i) c.target_word.result c.loop-i.invariant.leads
          (target_step_at c.loop-i.i n ts c.target_word.result c.loop-i-test.true c.target_word.ensures) c.in_ok-write.ensures.wrote;
    }
