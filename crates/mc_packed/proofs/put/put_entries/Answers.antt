use Rattle.std.proofs.Common.{ℕ, List, length, map}
use Rattle.std.proofs.lemmas.Result.{err_from_is_err_and}
use Rattle.mc_words.specs.model_device.specs.Bytes.{up}
use Rattle.mc_words.specs.model_device.specs.Stopped.{target_words, values_2}
use Rattle.mc_words.specs.model_device.proofs.LoopLemmas.{then, stopped}
use Rattle.mc_packed.proofs.put.put_entries.Goals as goal

abbrev words_of : List (ℕ × List ℕ) → List (ℕ × List ℕ)
words_of list = target_words 0 (up (length list) 4) (map (λ p. p.0) list)

pub returns-in_err-put_targets-clause-makes : goal.returns-in_err-put_targets-clause-makes
returns-in_err-put_targets-clause-makes g c =
    let p = err_from_is_err_and c.from_residual.result c.from_residual.ensures.1 in
    let l = c.args.list.now in
    rw (p.1, p.2) (stopped g.N.Nvm.wrote (words_of l) (values_2 0 l) c.args.device.now c.put_targets.new.device c.in_err-put_targets.field-0.0 c.in_err-put_targets.ensures.makes)

pub returns-clause-makes : goal.returns-clause-makes
returns-clause-makes g c =
    let l = c.args.list.now in
    then g.N.Nvm.wrote (words_of l) (values_2 0 l) c.args.device.now c.put_targets.new.device c.put_values.new.device c.put_values.result c.in_ok-put_targets.ensures.makes c.put_values.ensures.makes
