use Rattle.prove_facts.proofs.BitLemmas.{each_word}
use Rattle.prove_facts.proofs.CountLemmas.{count_is}
use Rattle.std.proofs.Common.{ℕ, ◌<◌, ◌^◌, ◌∙◌, sym, get_or}
use Rattle.prove_facts.proofs.values.Values.count.Goals as goal

pub returns : goal.returns
returns c =
    let ws = c.args.self.now.words in
    let fit = c.ones_of.ensures.fit in
    c.ones_of.ensures.ones ∙ sym (count_is ws (λ k l. each_word (λ (k : ℕ). get_or ws k 0 < 2 ^ 64) fit.0 fit.1 fit.2 fit.3 k l))
