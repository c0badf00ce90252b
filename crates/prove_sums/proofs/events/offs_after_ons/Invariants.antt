use Rattle.std.proofs.Common.{List, drop}
use Rattle.std.specs.Prelude.{map}
use Rattle.prove_facts.specs.model_rules.specs.Rules.{SumLine, Total}
use Rattle.lab_app_rules.specs.Rules.{name_of}
use Rattle.prove_forms.specs.Forms.{OptionalsAre}
use Rattle.prove_forms.specs.Origins.{origins_value}
use Rattle.lab_app_rules.specs.Sums.{AreSumLines, AreTotals}
use Rattle.prove_sums.proofs.LineLemmas.{Lines}
use Rattle.prove_sums.proofs.WalkLemmas.{Offs}
use Rattle.prove_sums.proofs.events.offs_after_ons.Given as goal

-- the lines that are left do from here what all do from the start
abbrev pub invariant-loop-on : goal.invariant-loop-on
invariant-loop-on l =
    (ts : List Total) (ls : List SumLine) (fs : Offs) → AreTotals (map name_of l.rules.sums.items) ts l.rules.balances.items → AreSumLines (map name_of l.rules.sums.items) ls l.ons
    → OptionalsAre l.offs fs → Lines (map name_of l.rules.sums.items) ts ls l.line (origins_value l.origins) fs (drop l.on-index l.ons) l.after.items
