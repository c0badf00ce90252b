use Rattle.std.proofs.Common.{sym, ◌∙◌}
use Rattle.mc_bank.proofs.ShownLemmas.{named_of}
use Rattle.mc_bank.proofs.entries.entry_of.Goals as goal

pub returns-then-is_of-clause-named : goal.returns-then-is_of-clause-named
returns-then-is_of-clause-named c =
    named_of c.args.entries.now c.loop-i.i c.index-entries-i.result c.args.aid.now c.loop-i-test.true c.index-entries-i.is (sym c.is_of.ensures ∙ c.if-is_of.true)
