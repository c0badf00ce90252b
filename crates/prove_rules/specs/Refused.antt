-- The refusals of rules: those of the definition, or out of memory.
use Rattle.std.specs.Prelude.{◌≡◌, ℕ, List, codes, Result, Err, ⊤}
use Rattle.model_rule_text.specs.model_play.specs.Words.{deck_word}
use Rattle.model_rule_text.specs.Reading as reading
use Rattle.prove_rules.specs.declared.fault.Fault.{Fault}
use Rattle.prove_rules.specs.declared.fault.Fault.TheVariants as fault
use Rattle.prove_rules.specs.declared.fault.RuleCause.{RuleCause}
use Rattle.prove_rules.specs.declared.fault.RuleCause.TheVariants as cause
use Rattle.prove_rules.specs.declared.fault.RuleRefusal.{RuleRefusal}
use Rattle.prove_rules.specs.declared.fault.RuleRefusal.TheVariants as refusal

-- a cause, as the definition has it
abbrev pub cause_value : RuleCause → reading.RuleCause
cause_value (cause.Deck c) = reading.Deck c
cause_value cause.NoApplication = reading.NoApplication

-- the word of a cause
abbrev pub cause_word : reading.RuleCause → List ℕ
cause_word (reading.Deck c) = deck_word c
cause_word reading.NoApplication = codes "NoApplication"

-- the refusal of a line, without its number, is the one of the definition, or out of memory
abbrev pub Faulty : {A : Type 0} → Result A reading.RuleCause → Fault → Type 0
Faulty r (fault.Cause c) = r ≡ Err (cause_value c)
Faulty r fault.NoMemory = ⊤

-- the refusal of a line with this number
abbrev pub refusal_at : ℕ → Fault → RuleRefusal
refusal_at n (fault.Cause c) = refusal.At n c
refusal_at n fault.NoMemory = refusal.NoMemory

-- the refusal is the one of the definition, or out of memory
abbrev pub RefusesRules : {A : Type 0} → Result A (ℕ × reading.RuleCause) → RuleRefusal → Type 0
RefusesRules r (refusal.At n c) = r ≡ Err (n, cause_value c)
RefusesRules r refusal.NoMemory = ⊤
