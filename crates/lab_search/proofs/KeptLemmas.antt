-- The end of an exploration that broke no rule: the rules that applied to no try, and the sums.
use Rattle.std.specs.Prelude.{◌≡◌, ℕ, Bool, List}
use Rattle.std.proofs.Common.{ap, subst, ◌∙◌}
use Rattle.law_explore_text.specs.law_explore.specs.Rules as rule
use Rattle.law_explore_text.specs.law_explore.specs.Search as found
use Rattle.law_explore_text.specs.Report.{kept_text, silent_lines, silent_numbers, sums_text}
use Rattle.lab_rules.specs.Meanings.{AlikeLists, IsOn}
use Rattle.lab_rules.specs.declared.rules.OnRule.{OnRule}
use Rattle.mc_text.specs.Texts.{Sunk, Writes, Fails}
use Rattle.mc_text.proofs.TextLemmas.{fails_before, fails_then, writes_then}
use Rattle.lab_search.specs.Tallies.{silent_from}
use Rattle.lab_search.proofs.TallyLemmas.{silent_is}

module _ (rs : rule.Rules) (os used : List OnRule) (t : found.Tally) (heard : List Bool) (k n : ℕ) (how : List ℕ) (many : k ≡ n) (ons : used ≡ os) (same : heard ≡ t.heard) (h : AlikeLists (IsOn rs.allowances) os rs.ons) where
  silent_as : silent_from 0 used heard ≡ silent_lines (silent_numbers rs.ons t.heard)
  silent_as = ap (λ (xs : List OnRule). silent_from 0 xs heard) ons ∙ ap (λ (hs : List Bool). silent_from 0 os hs) same ∙ silent_is rs.allowances os rs.ons t.heard h

  -- the lines of the rules fail
  pub silent_fails : (a b : Sunk) → Fails a (silent_from 0 used heard) b → Fails a (kept_text rs.ons n t how) b
  silent_fails a b f = fails_before (sums_text n t.tries how) (subst (λ (x : List ℕ). Fails a x b) silent_as f)

  -- the sums fail
  pub sums_fail : (a b c : Sunk) → Writes a (silent_from 0 used heard) b → Fails b (sums_text k t.tries how) c → Fails a (kept_text rs.ons n t how) c
  sums_fail a b c w f = fails_then (subst (λ (x : List ℕ). Writes a x b) silent_as w) (subst (λ (i : ℕ). Fails b (sums_text i t.tries how) c) many f)

  -- all is written
  pub kept_written : (a b c : Sunk) → Writes a (silent_from 0 used heard) b → Writes b (sums_text k t.tries how) c → Writes a (kept_text rs.ons n t how) c
  kept_written a b c w v = writes_then (subst (λ (x : List ℕ). Writes a x b) silent_as w) (subst (λ (i : ℕ). Writes b (sums_text i t.tries how) c) many v)
