use Rattle.std.proofs.Common.{length}
use Rattle.mc_text.specs.model_text.specs.Text.{fields}
use Rattle.prove_rules.proofs.AlwaysLemmas.{TermsLeft}
use Rattle.prove_rules.proofs.always.signed_names.Given as goal

-- the terms so far, with those that are left, are all
abbrev pub invariant-loop-sign : goal.invariant-loop-sign
invariant-loop-sign l = TermsLeft (fields l.fn.text) (fields l.rest) l.names.items

abbrev pub decreases-loop-sign : goal.decreases-loop-sign
decreases-loop-sign l = length l.rest
