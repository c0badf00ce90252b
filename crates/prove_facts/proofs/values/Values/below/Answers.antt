use Rattle.prove_facts.proofs.BitLemmas.{below_words}
use Rattle.std.proofs.Common.{◌∙◌, ◌-◌, ◌^◌, ap, ℕ}
use Rattle.std.specs.Prelude.{min}
use Rattle.prove_facts.proofs.values.Values.below.Goals as goal

pub returns : goal.returns
returns c v h =
    below_words c.args.end v c.low_bits.result c.low_bits-2.result c.low_bits-3.result c.low_bits-4.result c.low_bits.ensures
    (c.low_bits-2.ensures ∙ ap (λ (n : ℕ). 2 ^ min n 64 - 1) c.saturating_sub.ensures) (c.low_bits-3.ensures ∙ ap (λ (n : ℕ). 2 ^ min n 64 - 1) c.saturating_sub-2.ensures)
    (c.low_bits-4.ensures ∙ ap (λ (n : ℕ). 2 ^ min n 64 - 1) c.saturating_sub-3.ensures) h
