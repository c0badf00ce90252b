use Rattle.prove_patterns.specs.Replies.{IsPrepared}
use Rattle.prove_closed.proofs.ClosingLemmas.{rules_there}
use Rattle.prove_closed.proofs.closing.replies_of.Goals as goal

pub returns : goal.returns
returns c = rules_there IsPrepared c.args.rules.now c.as_slice.result.now c.new.result c.as_slice.ensures.value c.new.ensures
