use Rattle.std.proofs.Common.{sym, ◌∙◌}
use Rattle.prove_keys.specs.Compares.{said}
use Rattle.prove_keys.proofs.WithinLemmas.{settled_follows}
use Rattle.prove_keys.proofs.known.PackedKnown.follows_settled.Goals as goal

pub returns-then-follows : goal.returns-then-follows
returns-then-follows c fixed e =
    settled_follows fixed c.args.bytes.now (said c.args.last.now) c.args.self.now (sym c.covers.ensures ∙ e) (c.follows.ensures c.if-follows.true)
