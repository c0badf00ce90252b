-- Refusals of steps are those of what follows them.
use Rattle.std.proofs.Common.{◌≡◌, Result, Err, sym, ap, subst, ◌∙◌}
use Rattle.mc_text.specs.model_text.specs.Text.{◌>>=◌}
use Rattle.model_rule_text.specs.model_play.specs.declared.deck.DeckCause.{DeckCause}
use Rattle.model_rule_text.specs.Reading as reading
use Rattle.model_rule_text.specs.Reading.{of_deck}
use Rattle.prove_rules.specs.declared.fault.Fault.{Fault}
use Rattle.prove_rules.specs.declared.fault.Fault.TheVariants as fault
use Rattle.prove_rules.specs.declared.fault.RuleCause.TheVariants as cause
use Rattle.prove_rules.specs.Refused.{Faulty}

-- a refused step refuses what follows it
pub then_faulty : {A B : Type 0} (r : Result A reading.RuleCause) (k : A → Result B reading.RuleCause) (e : Fault) → Faulty r e → Faulty (r >>= k) e
then_faulty r k (fault.Cause c) h = ap (λ x. x >>= k) h
then_faulty r k fault.NoMemory h = tt

-- what is equal is refused alike
pub same_faulty : {A : Type 0} (r s : Result A reading.RuleCause) (e : Fault) → r ≡ s → Faulty s e → Faulty r e
same_faulty r s (fault.Cause c) e h = e ∙ h
same_faulty r s fault.NoMemory e h = tt

-- a fault that is a cause of decks
pub deck_faulty : {A : Type 0} (r : Result A reading.RuleCause) (e : Fault) (c : DeckCause) → e ≡ fault.Cause (cause.Deck c) → r ≡ Err (reading.Deck c) → Faulty r e
deck_faulty r e c i h = subst (Faulty r) (sym i) h
