-- Counts of executed instructions.
use Rattle.std.specs.Prelude.{◌≡◌, ℕ, Bool, List, [], ◌++◌, refl}
use Rattle.std.proofs.Common.{◌∙◌, ap}
use Rattle.law_explore_text.specs.model_machine.specs.Chain.{Turn}
use Rattle.lab_rules.specs.declared.rules.OnRule.{OnRule}
use Rattle.lab_rules.specs.Occasions.{counts_after_turns}
use Rattle.lab_rules.proofs.CountLemmas.{turns_then}
use Rattle.lab_search.specs.declared.counter.TurnCounter.{TurnCounter}

-- counts after executed instructions, by `on` lines and by which of them apply
abbrev pub AreCounted : List OnRule → List Bool → List ℕ → List Turn → List ℕ → Type 0
AreCounted ons applies before ts after = after ≡ counts_after_turns ons applies ts before

-- a counter counted turns: it has the same lines as before, and the counts after those turns
pub record CountsTurns (before : TurnCounter) (ts : List Turn) (after : TurnCounter) : Type 0 where
  pub ons : after.ons ≡ before.ons
  pub applies : after.applies ≡ before.applies
  pub counts : AreCounted before.ons.now before.applies.now before.counts.now ts after.counts.now
  pub same : after.counts.ghost_name ≡ before.counts.ghost_name

-- ---- their laws

-- a counter that counted no turn is unchanged
pub counts_no_turn : (q : TurnCounter) → CountsTurns q [] q
counts_no_turn q = record { ons = refl; applies = refl; counts = refl; same = refl }

-- turns are counted after turns
pub counts_on : (q r s : TurnCounter) (ts us : List Turn) → CountsTurns q ts r → CountsTurns r us s → CountsTurns q (ts ++ us) s
counts_on q r s ts us first rest =
    record {
      ons = rest.ons ∙ first.ons;
      applies = rest.applies ∙ first.applies;
      counts =
          rest.counts
          ∙ ap (λ o. counts_after_turns o.now r.applies.now us r.counts.now) first.ons
          ∙ ap (λ a. counts_after_turns q.ons.now a.now us r.counts.now) first.applies
          ∙ ap (counts_after_turns q.ons.now q.applies.now us) first.counts
          ∙ turns_then q.ons.now q.applies.now ts us q.counts.now;
      same = rest.same ∙ first.same;
    }
