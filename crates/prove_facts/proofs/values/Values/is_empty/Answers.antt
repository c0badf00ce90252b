use Rattle.prove_facts.proofs.BitLemmas.{each_word, empty_words, zero_union}
use Rattle.prove_facts.proofs.SetLemmas.{empty_if}
use Rattle.std.proofs.Common.{ℕ, ◌<◌, ◌^◌, ◌∙◌, sym, get_or}
use Rattle.std.proofs.lemmas.Bool.{eqb-true}
use Rattle.prove_facts.proofs.values.Values.is_empty.Goals as goal

pub returns-clause-values : goal.returns-clause-values
returns-clause-values c e v h = empty_words c.args.self.now.words v (eqb-true _ 0 (sym c.are_zero.ensures.zero ∙ e)) h

pub returns-clause-set : goal.returns-clause-set
returns-clause-set c =
    let ws = c.args.self.now.words in
    let fit = c.are_zero.ensures.fit in
    c.are_zero.ensures.zero
    ∙ empty_if ws _ (λ e v h. empty_words ws v e h) (λ f. zero_union ws (λ k l. each_word (λ (k : ℕ). get_or ws k 0 < 2 ^ 64) fit.0 fit.1 fit.2 fit.3 k l) f)
