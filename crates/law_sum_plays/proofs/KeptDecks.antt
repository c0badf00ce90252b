-- The law for the decks whose rules are kept, and a deck that needs its premise.
use Rattle.std.proofs.Common.{◌≡◌, ◌≢◌, ℕ, true, List, Option, Some, None, Result, Ok, Err, refl, sym, subst, ◌∙◌}
use Rattle.law_prove_closed.specs.model_rules.specs.Rules.{AppRules, Target}
use Rattle.law_prove_closed.specs.model_rule_text.specs.Reading.{RuleCause}
use Rattle.law_prove_closed.specs.law_rules.specs.Law.{AreKeptBy, AreKept}
use Rattle.law_histories.specs.law_explore.specs.Tries.{Try}
use Rattle.law_histories.specs.law_explore.specs.Search.{Ending, All, AtDepth, TooMany, Broken}
use Rattle.law_histories.specs.Histories.{AppExploration, AppFault, app_exploration_read}
use Rattle.law_histories.specs.Searches.{app_search}
use Rattle.law_prove_closed.specs.Decks.{proves_deck, TargetIsKept, AreKeptAsRead, DeckIsKept}
use Rattle.law_prove_closed.proofs.Decks.{deck_law}
use Rattle.law_histories.specs.KeptComputed.{swapped_deck}
use Rattle.law_histories.proofs.KeptLemmas.{exploration_law}
use Rattle.law_sum_plays.specs.KeptDecks.{KeptLaw, ProvedDeckLaw, is_broken, breaks, swapped_breaks}
use Rattle.law_sum_plays.proofs.Rules.{same_rules}

-- rules that are kept as a deck has them are those of its exploration
kept_of : (r : AppRules) (o : Option Target) → TargetIsKept r o → AreKeptBy r o
kept_of r None kept = tt
kept_of r (Some g) kept = kept

deck_kept : (text : List ℕ) (x : AppExploration) → app_exploration_read text ≡ Ok x → DeckIsKept text → AreKept x.rules
deck_kept text x e kept = kept_of x.rules x.rules.target (subst (λ (z : Result AppRules (ℕ × RuleCause)). AreKeptAsRead z) (same_rules text x e) kept)

-- the rules of a deck that are proved break in none of its explorations
pub proved_deck_law : ProvedDeckLaw
proved_deck_law limit n text x e kept brings = exploration_law limit n text x e (deck_kept text x e kept) brings

-- ---- without the premise

broken_end : (e : Ending) → is_broken e ≡ true → ((name : List ℕ) (path : List Try) → e ≢ Broken name path) → ⊥
broken_end (Broken name path) b h = h name path refl
broken_end All b h = cc b
broken_end (AtDepth d) b h = cc b
broken_end (TooMany d) b h = cc b

refuted_by : (limit n : ℕ) (text : List ℕ) (d : Result AppExploration AppFault) → app_exploration_read text ≡ d → breaks limit n d ≡ true → DeckIsKept text → KeptLaw → ⊥
refuted_by limit n text (Ok x) e b kept law = broken_end (app_search limit n x).ending b (λ name path. law limit n text x e (deck_kept text x e kept) name path)
refuted_by limit n text (Err f) e b kept law = cc b

swapped_proved : proves_deck 100 swapped_deck ≡ true
unfolding proves_deck
swapped_proved = refl

it_breaks : swapped_breaks ≡ true
unfolding swapped_breaks
it_breaks = refl

as_read : swapped_breaks ≡ breaks 10 1 (app_exploration_read swapped_deck)
unfolding swapped_breaks
as_read = refl

-- without the premise that it brings only its application the law is false
pub needs_premise : KeptLaw → ⊥
needs_premise = refuted_by 10 1 swapped_deck (app_exploration_read swapped_deck) refl (sym as_read ∙ it_breaks) (deck_law 100 swapped_deck swapped_proved)
