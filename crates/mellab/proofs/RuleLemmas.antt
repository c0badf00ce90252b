-- A deck whose rules are proved.
use Rattle.std.proofs.Common.{◌≡◌, ◌∙◌, sym, subst, refl, ℕ, Bool, true, false, List, Option, Some, Result, Ok, inr}
use Rattle.mc_streams.specs.declared.refusals.WriteFault.{WriteFault as Fault}
use Rattle.mc_text.specs.Texts.{Puts}
use Rattle.mc_deck.specs.model_play.specs.DeckGrammar.{DeckLine, deck_read}
use Rattle.mc_deck.specs.model_play.specs.declared.deck.DeckCause.{DeckCause}
use Rattle.prove_tables.specs.law_prove_closed.specs.law_rules.specs.Law.{AreKept, AreKeptBy}
use Rattle.prove_tables.specs.law_prove_closed.specs.model_rule_text.specs.Reading.{RuleCause, app_rules_read}
use Rattle.lab_app_rules.specs.model_rules.specs.Rules.{AppRules, Target}
use Rattle.prove_tables.specs.law_prove_closed.specs.Decks.{TargetIsKept}
use Rattle.lab_app_rules.specs.declared.rules.Rules.{Rules}
use Rattle.lab_app_rules.specs.Rules.{AreRules}
use Rattle.lab_app_rules.specs.Sums.{AreSums}
use Rattle.prove_tables.specs.Reports.{IsReport}
use Rattle.mc_filter.specs.Inputs.{ReadWhole}
use Rattle.mc_filter.specs.Outside.{Outside}
use Rattle.mc_filter.specs.Statuses.{status_after_writing}
use Rattle.mc_filter.specs.declared.status.Status.{Status}
use Rattle.mellab.specs.declared.job.Job.TheVariants as job
use Rattle.mellab.specs.Statuses.{status_by, MellabDone}
use Rattle.mellab.specs.Verdicts.{Reports, AreKeptIfRead, IsProofOf, IsProofVerdict}

-- rules that are kept are so of the application that they name
kept_of_target : (a : AppRules) (g : Target) → a.target ≡ Some g → AreKept a → TargetIsKept a a.target
kept_of_target a g is kept = subst (λ (t : Option Target). AreKeptBy a t → TargetIsKept a t) (sym is) (λ k. k) kept

-- rules that were read and proved are kept
pub kept_as_read : (input : List ℕ) (rules : Rules) (proved : Bool)
    → ((a : AppRules) × (g : Target) × (app_rules_read input ≡ Ok a) × AreRules a g rules × AreSums a rules)
    → (proved ≡ true → (a : AppRules) (g : Target) → AreRules a g rules → AreSums a rules → AreKept a)
    → IsProofOf proved (app_rules_read input)
kept_as_read input rules false read kept = tt
kept_as_read input rules true (a, g, is, are, sums) kept =
    subst (λ (r : Result AppRules (ℕ × RuleCause)). AreKeptIfRead r) (sym is) (kept_of_target a g are.target (kept refl a g are sums))

-- the text of a proof of a deck's rules was written, or the sink failed
pub says_proved : (a : Outside) (input : List ℕ) (ls : List (ℕ × DeckLine)) (text : List ℕ) (proved : Bool) (r : Result (Unit {0}) Fault) (s : Status) → ReadWhole a.input_old a.input input → deck_read input ≡ Ok ls → IsReport proved text → IsProofOf proved (app_rules_read input)
    → s ≡ status_after_writing (status_by proved) r → Puts a.out_old text r a.out → MellabDone job.Prove a s
says_proved a input ls text proved r s read is report kept status put =
    record {
      verdict = Reports text proved;
      due = inr (record { input = input; read = read; is = subst (λ (d : Result (List (ℕ × DeckLine)) (ℕ × DeckCause)). IsProofVerdict input d (Reports text proved)) (sym is) (report, kept) });
      done = record { result = r; status = status; written = put };
    }
