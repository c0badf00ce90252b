-- Closed tables are a sound covering under which no rule is broken, if each row is covered.
use Rattle.std.proofs.Common.{◌≡◌, ℕ, true, List, [], Result, Ok, Err, refl}
use Rattle.law_prove.specs.model_machine.specs.declared.instruction.Ins.{Ins}
use Rattle.law_prove.specs.model_machine.specs.declared.instruction.DecodeFault.{DecodeFault}
use Rattle.law_prove.specs.model_machine.specs.Code.{instruction_at}
use Rattle.law_prove.specs.model_machine.specs.Frame.{Frame}
use Rattle.law_prove.specs.model_machine.specs.Primitives.{Around}
use Rattle.law_prove.specs.law_promise.specs.Outline.{Entry, FitsEntry}
use Rattle.law_prove.specs.law_promise.specs.Domain.{Domain, IsSegment, IsDelegator, FitsDepth, FetchCovered, IsSound}
use Rattle.law_prove.specs.model_rules.specs.Rules.{AppRules, Target}
use Rattle.law_prove.specs.model_rules.specs.Happenings.{Event, History}
use Rattle.law_prove.specs.law_rules.specs.Law.{Covering, CoversRules, domain_of_rules}
use Rattle.law_prove.specs.law_rules.proofs.Covered.{covered_rules}
use Rattle.law_prove.specs.model_prove.specs.Keys.{Tables}
use Rattle.law_prove.specs.model_prove.specs.Arrivals.{Setting}
use Rattle.law_prove.specs.model_rules.specs.Loadable.{IsLoadable}
use Rattle.law_prove.specs.model_prove.specs.Tables.{is_closed}
use Rattle.law_prove_closed.specs.ClosedLaw.{ClosedLaw}
use Rattle.law_prove.specs.Coverings.{IsPlace, covering_of}
use Rattle.law_prove.specs.Laws.{MomentsCovered, PlacesCovered}
use Rattle.law_prove.proofs.Moments.{moment_law}
use Rattle.law_prove.proofs.Places.{place_law}
use Rattle.law_prove_closed.proofs.Begins.{begin_law}
use Rattle.law_prove_closed.specs.Laws.{AllRowsLaw}

module _ (r : AppRules) (g : Target) (t : Tables) (loadable : IsLoadable g.app) (closed : is_closed (record { rules = r; app = g.app }) t ≡ true) (rows : AllRowsLaw) where
  -- the rules and the application
  abbrev setting : Setting
  setting = record { rules = r; app = g.app }

  abbrev covering : Covering
  covering = covering_of setting t

  abbrev domain : Domain Event
  domain = domain_of_rules g covering

  moments : MomentsCovered setting t
  moments = moment_law setting t loadable closed

  places : PlacesCovered setting t g
  places = place_law r g t loadable closed

  -- what is fetched at a place is covered: an instruction by its row
  fetch_covered : (e : Entry Event) (h : History) (f : Frame) (public : List ℕ) (depth : ℕ) (x : Around) → IsPlace setting t e h f public → FitsEntry e x → FitsDepth e depth → IsDelegator x.delegator → IsSegment domain public
      → (z : Result (Ins × ℕ) DecodeFault) → instruction_at g.app.code f.at ≡ z → FetchCovered domain e h f public depth x z
  fetch_covered e h f public depth x p fits deep names segment (Err fault) at = places.unfetched e h f public fault p at
  fetch_covered e h f public depth x p fits deep names segment (Ok i) at = rows i.0 r g t loadable closed e h f public depth x i.1 p fits deep names segment at

  -- the domain of closed tables is sound
  pub is_sound : IsSound domain
  is_sound =
      record {
        none = moments.none;
        created = moments.created;
        deleted = moments.deleted;
        gone_on = λ h gone. gone;
        idle_on = λ h fixed idle. idle;
        selected = moments.selected;
        selected_again = moments.selected_again;
        ended = moments.ended;
        begins = λ bytes apdu h fixed session route command m size. begin_law r g t loadable closed bytes apdu h fixed session route (command tt) m size;
        entered = λ h fixed public m segment. places.entered h fixed public m (segment.1 tt);
        turn = λ e h f public depth x p fits deep names segment. fetch_covered e h f public depth x p fits deep (names tt) segment (instruction_at g.app.code f.at) refl;
        spent = places.spent;
        place_stops = λ any. absurd any;
        gone_stops = λ any. absurd any;
        idle_stops = λ any. absurd any;
        session_stops = λ any. absurd any;
      }

  -- under it no rule without sums is broken
  covers_rules : r.totals ≡ [] → CoversRules r g covering
  covers_rules totals =
      record {
        sound = is_sound;
        gone = λ h gone. gone;
        idle = λ h fixed m. moments.idle_keeps totals h fixed m;
        session = λ h fixed session m. moments.session_keeps totals h fixed session m;
      }

-- so they are kept
pub kept_by_rows : AllRowsLaw → ClosedLaw
kept_by_rows rows r g t target loadable totals closed =
    covered_rules r g (covering_of (record { rules = r; app = g.app }) t) (covers_rules r g t loadable closed rows totals) target
