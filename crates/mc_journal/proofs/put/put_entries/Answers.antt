use Rattle.std.proofs.Common.{◌+◌, ◌*◌, ◌∷◌, [], ℕ, List, Err, drop, get_or, subst, sym}
use Rattle.std.proofs.lemmas.Result.{err_from_is_err_and}
use Rattle.mc_words.specs.model_device.specs.Device.{Makes}
use Rattle.mc_words.specs.model_device.specs.Stopped.{entries_1, word_of_number}
use Rattle.mc_words.specs.model_device.proofs.LoopLemmas.{stopped}
use Rattle.mc_journal.proofs.PutLemmas.{entry_step}
use Rattle.mc_journal.proofs.put.put_entries.Goals as goal

pub returns-in_err-put_pair-clause-makes : goal.returns-in_err-put_pair-clause-makes
returns-in_err-put_pair-clause-makes g c =
    let p = err_from_is_err_and c.from_residual.result c.from_residual.ensures.1 in
    let list = c.args.list.now in
    let i = c.loop-i.i in
    let rest = entries_1 (i + 1) (drop (i + 1) list) in
    let pair : List (ℕ × List ℕ) = (3 + 2 * i, word_of_number (get_or list i (0, [])).0) ∷ (4 + 2 * i, (get_or list i (0, [])).1) ∷ [] in
    let s = c.in_err-put_pair.field-0.0 in
    rw (p.1, p.2) (c.loop-i.invariant.leads (Err s) c.put_pair.new.device
    (subst (λ (l : List (ℕ × List ℕ)). Makes g.N.Nvm.wrote c.loop-i.device l (Err s) c.put_pair.new.device) (sym (entry_step list i c.loop-i-test.true))
    (stopped g.N.Nvm.wrote pair rest c.loop-i.device c.put_pair.new.device s c.in_err-put_pair.ensures.makes)))
