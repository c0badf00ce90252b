use Rattle.std.proofs.Common.{[], ◌∷◌, ◌+◌, ◌*◌, ℕ, List, Ok, Err, subst}
use Rattle.std.proofs.lemmas.Result.{err_from_is_err_and}
use Rattle.mc_words.specs.model_device.specs.Stopped.{word_of_number}
use Rattle.mc_words.specs.model_device.proofs.LoopLemmas.{then, one, one_done, one_stopped}
use Rattle.mc_journal.proofs.put.put_pair.Goals as goal

pub returns-in_err-write-clause-makes : goal.returns-in_err-write-clause-makes
returns-in_err-write-clause-makes g c =
    let p = err_from_is_err_and c.from_residual.result c.from_residual.ensures.1 in
    rw (p.1, p.2) (one_stopped g.N.Nvm.wrote c.args.device.now c.write.new.self (3 + 2 * c.args.i) (word_of_number c.args.target) ((4 + 2 * c.args.i, c.args.word) ∷ []) c.in_err-write.field-0.0
    (subst (λ (w : List ℕ). g.N.Nvm.wrote c.args.device.now (3 + 2 * c.args.i) w (Err c.in_err-write.field-0.0) c.write.new.self) c.number_word.ensures c.in_err-write.ensures.wrote))

pub returns-clause-makes : goal.returns-clause-makes
returns-clause-makes g c =
    then g.N.Nvm.wrote ((3 + 2 * c.args.i, word_of_number c.args.target) ∷ []) ((4 + 2 * c.args.i, c.args.word) ∷ []) c.args.device.now c.write.new.self c.write-2.new.self c.write-2.result
    (one_done g.N.Nvm.wrote c.args.device.now c.write.new.self (3 + 2 * c.args.i) (word_of_number c.args.target)
    (subst (λ (w : List ℕ). g.N.Nvm.wrote c.args.device.now (3 + 2 * c.args.i) w (Ok tt) c.write.new.self) c.number_word.ensures c.in_ok-write.ensures.wrote))
    (one g.N.Nvm.wrote c.write.new.self c.write-2.new.self (4 + 2 * c.args.i) c.args.word c.write-2.result
    (subst (λ (p : ℕ). g.N.Nvm.wrote c.write.new.self p c.args.word c.write-2.result c.write-2.new.self) c.place_of_value.ensures.place c.write-2.ensures.wrote))
