-- The laws of closed tables on commands: what patterns leave, the class of a command, its first place, and its answer.
use Rattle.std.specs.Prelude.{◌≡◌, ◌⊎◌, ℕ, true, Bool, List, [], ◌∷◌, length}
use Rattle.law_prove.specs.model_machine.specs.declared.instruction.Ins.TheVariants as ins
use Rattle.law_prove.specs.model_machine.specs.Apdu.{ApduParts}
use Rattle.law_prove.specs.model_machine.specs.Frame.{new_public}
use Rattle.law_prove.specs.model_card.specs.Manager.{ToApplication, route}
use Rattle.law_prove.specs.law_bytes.specs.OfChains.{IsByteCommand}
use Rattle.law_prove.specs.law_promise.specs.Outline.{BySelection}
use Rattle.law_prove.specs.law_promise.specs.Domain.{first_frame_in}
use Rattle.law_prove.specs.model_rules.specs.model_events.specs.Matching.{plain, fits}
use Rattle.law_prove.specs.model_rules.specs.Rules.{Target, AppRules}
use Rattle.law_prove.specs.model_rules.specs.Happenings.{History, Commanded}
use Rattle.law_prove.specs.law_rules.specs.Law.{domain_of_rules}
use Rattle.law_prove.specs.model_prove.specs.Keys.{Tables}
use Rattle.law_prove.specs.model_prove.specs.Texts.{opened, after_text, is_match}
use Rattle.law_prove.specs.model_prove.specs.Arrivals.{Setting}
use Rattle.law_prove.specs.model_prove.specs.Between.{Class, classes}
use Rattle.law_prove.specs.model_rules.specs.Loadable.{IsLoadable}
use Rattle.law_prove.specs.model_prove.specs.Tables.{is_closed}
use Rattle.law_prove.specs.Coverings.{IsMoment, class_of, IsPlace, covering_of}
use Rattle.law_prove.specs.Laws.{LeadLaw}
use Rattle.law_prove.proofs.Seen.{FitSets}

-- The ways that a pattern leaves open after a text say whether it matches exactly as `fits` does.
abbrev pub PatternLaw : Type 0
PatternLaw = (pattern text : List ℕ) → is_match (after_text (plain text) (opened pattern)) ≡ fits pattern text

-- among classes is one of which these lines match, and whose sets have these bytes of a header
abbrev pub HasClass : List Bool → List ℕ → List Class → Type 0
HasClass matches header [] = ⊥
HasClass matches header (c ∷ cs) = ((c.matches ≡ matches) × FitSets header c.sets) ⊎ HasClass matches header cs

-- Each command that reaches an application is in one of the classes of its rules.
abbrev pub ClassLaw : Type 0
ClassLaw =
    (r : AppRules) (bytes : List ℕ) (a : ApduParts) → route bytes ≡ ToApplication a → IsByteCommand a
    → HasClass (class_of bytes r.ons) (a.cla ∷ a.ins ∷ a.p1 ∷ a.p2 ∷ []) (classes r)

-- A command in a session begins its frame in a place that closed tables have, after its event.
abbrev pub BeginLaw : Type 0
BeginLaw =
    (r : AppRules) (g : Target) (t : Tables) → IsLoadable g.app → is_closed (record { rules = r; app = g.app }) t ≡ true →
    let s : Setting = record { rules = r; app = g.app } in
    (bytes : List ℕ) (apdu : ApduParts) (h : History) (fixed session : List ℕ) → route bytes ≡ ToApplication apdu → IsByteCommand apdu → IsMoment s t true h fixed session → length session ≡ g.app.session
    → IsPlace s t (BySelection bytes apdu h) (Commanded bytes ∷ h) (first_frame_in (domain_of_rules g (covering_of s t)) fixed session) (new_public apdu)

-- of the rows that end a frame
abbrev pub ExitLaw : Type 0
ExitLaw = LeadLaw ins.Exit × ((sw : ℕ) → LeadLaw (ins.Exitsw sw)) × ((la : ℕ) → LeadLaw (ins.Exitla la)) × ((sw la : ℕ) → LeadLaw (ins.Exitswla sw la))
