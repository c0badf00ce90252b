use Rattle.std.proofs.Common.{[], ◌∷◌, ℕ, subst}
use Rattle.std.proofs.lemmas.Result.{err_from_is_err_and}
use Rattle.mc_words.specs.model_device.specs.Image.{gate, shut_word}
use Rattle.mc_words.specs.model_device.proofs.LoopLemmas.{then, stopped, one}
use Rattle.mc_gate.specs.Layouts.{journal_of}
use Rattle.mc_gate.proofs.put.replay_all.Goals as goal

pub returns-in_err-put_words : goal.returns-in_err-put_words
returns-in_err-put_words g c =
    let p = err_from_is_err_and c.from_residual.result c.from_residual.ensures.1 in
    record { makes = rw (p.1, p.2) (stopped g.N.Nvm.wrote c.args.list.now ((gate (journal_of c.args.layout), shut_word) ∷ []) c.args.device.now c.put_words.new.device c.in_err-put_words.field-0.0 c.in_err-put_words.ensures.makes) }

pub returns : goal.returns
returns g c =
    let j = journal_of c.args.layout in
    record {
      makes = then g.N.Nvm.wrote c.args.list.now ((gate j, shut_word) ∷ []) c.args.device.now c.put_words.new.device c.write.new.self c.write.result c.in_ok-put_words.ensures.makes
          (one g.N.Nvm.wrote c.put_words.new.device c.write.new.self (gate j) shut_word c.write.result
          (subst (λ (p : ℕ). g.N.Nvm.wrote c.put_words.new.device p shut_word c.write.result c.write.new.self) c.gate.ensures.place c.write.ensures.wrote));
    }
