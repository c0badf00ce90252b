-- The tables that are left by the keys of some outcomes, and what a row leads to in them: after an instruction comes a
-- place with one of the keys of its outcomes.
use Rattle.std.specs.Prelude.{◌≡◌, ℕ, Bool, true, false, ◌||◌, List, [], ◌∷◌, filter, Ok, Err}
use Rattle.law_prove.specs.model_machine.specs.declared.instruction.DecodeFault.{DecodeFault}
use Rattle.law_prove.specs.model_machine.specs.declared.instruction.Ins.{Ins}
use Rattle.law_prove.specs.model_machine.specs.declared.machine.Abend.TheVariants.{A07}
use Rattle.law_prove.specs.model_machine.specs.Code.{instruction_at}
use Rattle.law_prove.specs.model_machine.specs.Frame.{Frame, session_of}
use Rattle.law_prove.specs.model_machine.specs.Primitives.{Around}
use Rattle.law_prove.specs.model_machine.specs.Row.{row}
use Rattle.law_prove.specs.model_machine.specs.Chain.{Abended, frame_at}
use Rattle.law_prove.specs.law_promise.specs.History.{fetch_cause}
use Rattle.law_prove.specs.law_promise.specs.Outline.{Entry, FitsEntry}
use Rattle.law_prove.specs.law_promise.specs.Domain.{IsSegment, IsDelegator, EndCovered, AbendCovered, RowCovered, FitsDepth}
use Rattle.law_prove.specs.model_rules.specs.Rules.{Target, AppRules}
use Rattle.law_prove.specs.model_rules.specs.Happenings.{Event, History, Failed}
use Rattle.law_prove.specs.law_rules.specs.Law.{domain_of_rules}
use Rattle.law_prove.specs.model_prove.specs.Keys.{PlaceKey, MomentKey, Known, Tables, same_places, same_moments}
use Rattle.law_prove.specs.model_prove.specs.Arrivals.{Setting, Arrival, AtPlace, AtMoment, Breaks, Lost}
use Rattle.law_prove.specs.model_prove.specs.Steps.{place_arrivals}
use Rattle.law_prove.specs.model_prove.specs.Tables.{includes_all, is_closed}
use Rattle.law_prove.specs.model_rules.specs.Loadable.{IsLoadable}
use Rattle.law_prove.specs.Coverings.{IsMoment, IsPlace, key_of, IsKnown, covering_of}

-- whether one of some outcomes passes a test
abbrev pub some_outcome : (Arrival → Bool) → List Arrival → Bool
some_outcome test [] = false
some_outcome test (a ∷ more) = test a || some_outcome test more

-- whether an outcome leads to a place
abbrev pub leads_to : PlaceKey → Arrival → Bool
leads_to k (AtPlace l known) = same_places l k
leads_to k (AtMoment l f) = false
leads_to k (Breaks b at) = false
leads_to k (Lost at) = false

-- whether an outcome leads to a moment
abbrev pub ends_at : MomentKey → Arrival → Bool
ends_at k (AtPlace l known) = false
ends_at k (AtMoment l f) = same_moments l k
ends_at k (Breaks b at) = false
ends_at k (Lost at) = false

-- tables without the keys to which none of some outcomes leads
abbrev pub tables_of : List Arrival → Tables → Tables
tables_of outcomes t =
    record {
      moments = filter (λ m. some_outcome (ends_at m.0) outcomes) t.moments;
      places = filter (λ p. some_outcome (leads_to p.0) outcomes) t.places;
    }

-- A place that is left is one of the tables, and one of the outcomes leads to it; so is a moment.
abbrev pub LeftLaw : Type 0
LeftLaw =
    ((s : Setting) (t : Tables) (outcomes : List Arrival) (e : Entry Event) (h : History) (f : Frame) (public : List ℕ) (p : IsPlace s (tables_of outcomes t) e h f public)
    → IsPlace s t e h f public × (some_outcome (leads_to (key_of s (tables_of outcomes t) e h f public p)) outcomes ≡ true))
    × ((s : Setting) (t : Tables) (outcomes : List Arrival) (x : Bool) (h : History) (fixed session : List ℕ) (m : IsMoment s (tables_of outcomes t) x h fixed session)
    → IsMoment s t x h fixed session × (some_outcome (ends_at (record { selected = x; allowances = m.standing.allowances })) outcomes ≡ true))

-- At a place of tables t, of whose frame more may be known than they have there: if they include the outcomes of its key
-- with that, then what its row leads to is covered by the keys of these outcomes.
abbrev pub NextLaw : Type 0
NextLaw =
    (i : Ins) (r : AppRules) (g : Target) (t : Tables) → IsLoadable g.app
    → let s : Setting = record { rules = r; app = g.app } in
    (e : Entry Event) (h : History) (f : Frame) (public : List ℕ) (depth : ℕ) (x : Around) (next : ℕ) (p : IsPlace s t e h f public) (known : Known) → IsKnown known f public
    → let outcomes : List Arrival = place_arrivals s (key_of s t e h f public p) known in
    let o = domain_of_rules g (covering_of s (tables_of outcomes t)) in
    includes_all t outcomes ≡ true → FitsEntry e x → FitsDepth e depth → IsDelegator x.delegator → IsSegment o public → instruction_at g.app.code f.at ≡ Ok (i, next)
    → RowCovered o e h f public depth i (row i (frame_at f next) public x)

-- so is the end where the budget ends there, or where no instruction is
abbrev pub NextEndLaw : Type 0
NextEndLaw =
    (r : AppRules) (g : Target) (t : Tables) → IsLoadable g.app
    → let s : Setting = record { rules = r; app = g.app } in
    (e : Entry Event) (h : History) (f : Frame) (public : List ℕ) (p : IsPlace s t e h f public) (known : Known) → IsKnown known f public
    → let outcomes : List Arrival = place_arrivals s (key_of s t e h f public p) known in
    let o = domain_of_rules g (covering_of s (tables_of outcomes t)) in
    includes_all t outcomes ≡ true
    → EndCovered o e h f.fixed (session_of f) (Abended A07) × ((fault : DecodeFault) → instruction_at g.app.code f.at ≡ Err fault → AbendCovered o e (Failed f.at (fetch_cause fault) ∷ h) f (fetch_cause fault))

-- so it is at each place of closed tables, with what they have there
abbrev pub ClosedNextLaw : Type 0
ClosedNextLaw =
    (i : Ins) (r : AppRules) (g : Target) (t : Tables) → IsLoadable g.app
    → let s : Setting = record { rules = r; app = g.app } in
    is_closed s t ≡ true → (e : Entry Event) (h : History) (f : Frame) (public : List ℕ) (depth : ℕ) (x : Around) (next : ℕ) (p : IsPlace s t e h f public)
    → let o = domain_of_rules g (covering_of s (tables_of (place_arrivals s (key_of s t e h f public p) p.known) t)) in
    FitsEntry e x → FitsDepth e depth → IsDelegator x.delegator → IsSegment o public → instruction_at g.app.code f.at ≡ Ok (i, next)
    → RowCovered o e h f public depth i (row i (frame_at f next) public x)
