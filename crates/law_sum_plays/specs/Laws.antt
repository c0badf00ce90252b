-- The law of closed tables for rules with sums, and its cases.
use Rattle.std.specs.Prelude.{◌≡◌, ℕ, Bool, true, false, List, [], ◌∷◌, length, Option, Some, Ok, ⊤}
use Rattle.law_prove_closed.specs.model_device.specs.Bytes.{AreBytes, zeros}
use Rattle.law_prove_closed.specs.model_machine.specs.declared.instruction.Ins.{Ins}
use Rattle.law_prove_closed.specs.model_machine.specs.Apdu.{ApduParts}
use Rattle.law_prove_closed.specs.model_machine.specs.Code.{instruction_at}
use Rattle.law_prove_closed.specs.model_machine.specs.Frame.{Frame, Effect, new_public}
use Rattle.law_prove_closed.specs.model_machine.specs.Primitives.{Around}
use Rattle.law_prove_closed.specs.model_machine.specs.Row.{row}
use Rattle.law_prove_closed.specs.model_machine.specs.Chain.{frame_at}
use Rattle.law_prove_closed.specs.model_card.specs.Manager.{ToApplication, route}
use Rattle.law_prove_closed.specs.law_rows.specs.Keeping.{OnDone}
use Rattle.law_prove_closed.specs.law_bytes.specs.OfChains.{IsByteCommand}
use Rattle.law_prove_closed.specs.law_promise.specs.Outline.{Entry, BySelection, ByDelegation, FitsEntry}
use Rattle.law_prove_closed.specs.law_promise.specs.Domain.{IsSegment, IsDelegator, FetchCovered, FitsDepth, first_frame_in}
use Rattle.law_prove_closed.specs.model_rules.specs.Rules.{Target, AppRules}
use Rattle.law_prove_closed.specs.model_rules.specs.Happenings.{Event, Did, Failed, Commanded, Answers, Session, History}
use Rattle.law_prove_closed.specs.model_rules.specs.Keeping.{Sum, Standing, mode_of, standing_after}
use Rattle.law_prove_closed.specs.law_rules.specs.Law.{AreKept, CoversRules, domain_of_rules}
use Rattle.law_prove_closed.specs.model_prove.specs.Keys.{Tables}
use Rattle.law_prove_closed.specs.model_prove.specs.Arrivals.{Setting}
use Rattle.law_prove_closed.specs.model_rules.specs.Loadable.{IsLoadable}
use Rattle.law_prove_closed.specs.model_prove.specs.Tables.{is_closed}
use Rattle.law_sums.specs.model_sums.specs.Sums.{SumsTable}
use Rattle.law_sums.specs.model_sums.specs.Events.{asks}
use Rattle.law_sums.specs.model_sums.specs.Closed.{is_sum, sums_closed}
use Rattle.law_sums.specs.EventLaws.{has_sum}
use Rattle.law_sums.specs.TurnLaws.{StaysProtected}
use Rattle.law_sum_plays.specs.Rows.{AllSumRowsLaw}
use Rattle.law_sum_plays.specs.Coverings.{IsSumMoment, IsSumPlace, sums_covering_of}

-- ---- what stands after a history

-- an event that is no instruction that was done
abbrev pub IsQuiet : Event → Type 0
IsQuiet (Did d) = ⊥
IsQuiet (Failed at cause) = ⊤
IsQuiet (Commanded bytes) = ⊤
IsQuiet (Answers bytes o) = ⊤
IsQuiet Session = ⊤

-- such an event leaves the sums as power would leave them
abbrev pub QuietLaw : Type 0
QuietLaw = (r : AppRules) (e : Event) (h : History) (x y : Standing) → IsQuiet e → standing_after r h ≡ Ok x → standing_after r (e ∷ h) ≡ Ok y → y.kept ≡ x.kept

-- sums have the names of the rules' sums
abbrev pub AreNamed : AppRules → List Sum → Type 0
AreNamed r sums = (name : List ℕ) → has_sum sums name ≡ is_sum r.sums name

-- those that stand, as power would leave them and with what waits, have them
abbrev pub NameLaw : Type 0
NameLaw = (r : AppRules) (h : History) (x : Standing) → standing_after r h ≡ Ok x → AreNamed r x.kept × AreNamed r x.waiting

-- ---- rows

-- Of a frame with this protection, static bytes and pending pieces, by the mode of an instruction: without one the
-- protection stays; where totals are asked nothing waits after it; and where they are not, power would leave the same
-- static bytes.
pub record Guards (mode : Option ℕ) (protected : Bool) (static : List ℕ) (pieces : List (ℕ × List ℕ)) (e : Effect) : Type 0 where
  pub stays : StaysProtected mode protected e.frame.protected
  pub settled : asks protected mode ≡ true → (protected ≡ false → pieces ≡ []) → e.frame.pieces ≡ []
  pub fixed : asks protected mode ≡ false → e.frame.fixed ≡ static

-- each row that is done does so
abbrev pub GuardLaw : Type 0
GuardLaw = (i : Ins) (f : Frame) (next : ℕ) (public : List ℕ) (x : Around) → OnDone (row i (frame_at f next) public x) (λ d. Guards (mode_of i) f.protected f.fixed f.pieces d.effect)

-- ---- closed tables

-- of an application that a card can have, with tables of facts and a table of sums that are closed
abbrev pub OfClosed : (AppRules → Target → Tables → SumsTable → Type 0) → Type 0
OfClosed law =
    (r : AppRules) (g : Target) (t : Tables) (u : SumsTable) → IsLoadable g.app
    → let s : Setting = record { rules = r; app = g.app } in
    is_closed s t ≡ true → sums_closed s t u ≡ true → law r g t u

-- a command in a session, and a delegation, begin a frame at a place that both tables cover
abbrev pub BeginSumsLaw : Type 0
BeginSumsLaw =
    OfClosed (λ r g t u.
    let s : Setting = record { rules = r; app = g.app } in
    let o = domain_of_rules g (sums_covering_of s t u) in
    ((bytes : List ℕ) (apdu : ApduParts) (h : History) (fixed session : List ℕ) → route bytes ≡ ToApplication apdu → IsByteCommand apdu → IsSumMoment s t true h fixed session → length session ≡ g.app.session
    → IsSumPlace s t u (BySelection bytes apdu h) (Commanded bytes ∷ h) (first_frame_in o fixed session) (new_public apdu))
    × ((h : History) (fixed public : List ℕ) → IsSumMoment s t false h fixed [] → AreBytes public → IsSumPlace s t u ByDelegation h (first_frame_in o fixed (zeros g.app.session)) public))

-- what is fetched at a place of both tables leads to what they cover: the next place, an answer, a delegation, an abend,
-- or a stop in its write
abbrev pub TurnSumsLaw : Type 0
TurnSumsLaw =
    OfClosed (λ r g t u.
    let s : Setting = record { rules = r; app = g.app } in
    let o = domain_of_rules g (sums_covering_of s t u) in
    (e : Entry Event) (h : History) (f : Frame) (public : List ℕ) (depth : ℕ) (x : Around) → IsSumPlace s t u e h f public → FitsEntry e x → FitsDepth e depth → IsDelegator x.delegator → IsSegment o public
    → FetchCovered o e h f public depth x (instruction_at g.app.code f.at))

-- both tables are a sound covering under which no rule is broken
abbrev pub SumsCoverLaw : Type 0
SumsCoverLaw = OfClosed (λ r g t u. CoversRules r g (sums_covering_of (record { rules = r; app = g.app }) t u))

-- The rules, with their sums, are kept of an application that a card can have in every play of every deck, if tables of
-- facts are closed for them, and a table of sums is closed beside those.
abbrev pub ClosedSumsLaw : Type 0
ClosedSumsLaw =
    (r : AppRules) (g : Target) (t : Tables) (u : SumsTable) → r.target ≡ Some g → IsLoadable g.app
    → let s : Setting = record { rules = r; app = g.app } in
    is_closed s t ≡ true → sums_closed s t u ≡ true → AreKept r

-- if each row leaves what its place says
abbrev pub RowsSufficeLaw : Type 0
RowsSufficeLaw = AllSumRowsLaw → TurnSumsLaw × SumsCoverLaw × ClosedSumsLaw
