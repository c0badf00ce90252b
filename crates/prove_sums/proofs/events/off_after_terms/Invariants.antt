use Rattle.std.proofs.Common.{drop, Bool, List, ℕ}
use Rattle.std.specs.Prelude.{map}
use Rattle.prove_facts.specs.model_rules.specs.Rules.{SumLine}
use Rattle.lab_app_rules.specs.Rules.{name_of}
use Rattle.prove_forms.specs.Forms.{OptionalIs}
use Rattle.lab_app_rules.specs.Sums.{AreTerms}
use Rattle.prove_sums.specs.Lines.{IsMove}
use Rattle.prove_sums.proofs.LineLemmas.{Fold}
use Rattle.prove_sums.proofs.WalkLemmas.{Off}
use Rattle.prove_sums.proofs.events.off_after_terms.Given as goal

-- the terms that are left do from here what all do from the start
abbrev pub invariant-loop-term : goal.invariant-loop-term
invariant-loop-term l =
    (ts : List (Bool × List ℕ)) (k : SumLine) (f g : Off) → AreTerms (map name_of l.named) ts l.terms → IsMove (map name_of l.named) k g l.moved → OptionalIs l.off f
    → Fold (map name_of l.named) l.n k g ts f (drop l.term-index l.terms) l.after
