use Rattle.std.proofs.Common.{◌≡◌, ◌-◌, ◌≤◌, ℕ}
use Rattle.prove_facts.specs.model_prove.specs.Texts.{after_any}
use Rattle.prove_patterns.specs.Opens.{many_of}
use Rattle.prove_patterns.proofs.reaching.after_any.Given as goal

-- what the rest of the rounds leads to is what all lead to
abbrev pub invariant-loop-round : goal.invariant-loop-round
invariant-loop-round l =
    (n : ℕ) → 10000 ≤ n → after_any (n - l._round) (many_of l.many.items) ≡ after_any n (many_of l.initial.many.items)
