use Rattle.std.proofs.Common.{◌≡◌, vec_len}
use Rattle.prove_facts.specs.model_prove.specs.Texts.{both_opens}
use Rattle.prove_patterns.specs.Opens.{many_of}
use Rattle.prove_patterns.proofs.reaching.add_many.Given as goal

-- what is left with what is there is all with what was there
abbrev pub invariant-loop-opens : goal.invariant-loop-opens
invariant-loop-opens l =
    both_opens (many_of l.more.items) (many_of l.many.items) ≡ both_opens (many_of l.initial.more.items) (many_of l.initial.many.items)

abbrev pub decreases-loop-opens : goal.decreases-loop-opens
decreases-loop-opens l = vec_len l.more
