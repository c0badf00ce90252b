use Rattle.std.proofs.Common.{arith}
use Rattle.prove_facts.specs.Sets.{set_of}
use Rattle.prove_facts.proofs.SetLemmas.{not_full}
use Rattle.prove_facts.proofs.CoverLemmas.{none_within, first_within}
use Rattle.prove_facts.proofs.facts.is_covered.Goals as goal

pub returns-in-empty : goal.returns-in-empty
returns-in-empty c s u = none_within c.args.rest.now c.args.at (set_of c.args.values.now) (omega arith) (not_full c.args.values.now.words u)

pub returns-in-len1-up : goal.returns-in-len1-up
returns-in-len1-up c s u =
    first_within c.args.rest.now _ c.args.at (set_of c.args.values.now) c.is_fact_within.result c.in-len1-up.len_at_least s (c.is_fact_within.ensures u)
