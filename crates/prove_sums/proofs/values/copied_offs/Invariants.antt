use Rattle.std.proofs.Common.{drop}
use Rattle.prove_forms.specs.Forms.{OptionalsAre}
use Rattle.prove_sums.proofs.ValueLemmas.{Copied}
use Rattle.prove_sums.proofs.WalkLemmas.{Offs}
use Rattle.prove_sums.proofs.values.copied_offs.Given as goal

-- copies of those so far are there
abbrev pub invariant-loop-off : goal.invariant-loop-off
invariant-loop-off l = (fs : Offs) → OptionalsAre l.offs fs → Copied fs (drop l.off-index l.offs) l.copies.items
