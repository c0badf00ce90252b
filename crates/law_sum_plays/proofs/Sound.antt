-- Tables of facts and a table of sums that are closed are a sound covering under which no rule is broken.
use Rattle.std.specs.Prelude.{◌≡◌, ℕ, Bool, true, false, List, [], ◌∷◌, Result, Ok, refl}
use Rattle.std.proofs.Common.{ap, ◌∙◌}
use Rattle.std.proofs.lemmas.Bool.{and_from}
use Rattle.law_prove_closed.specs.model_machine.specs.declared.machine.Abend.TheVariants.{A07}
use Rattle.law_prove_closed.specs.model_device.specs.Bytes.{zeros}
use Rattle.law_prove_closed.specs.model_machine.specs.Code.{instruction_at}
use Rattle.law_prove_closed.specs.model_machine.specs.Frame.{session_of}
use Rattle.law_prove_closed.specs.model_machine.specs.Chain.{Abended}
use Rattle.law_prove_closed.specs.law_promise.specs.Domain.{Domain, IsSound}
use Rattle.law_prove_closed.specs.model_rules.specs.Rules.{AppRules, Target}
use Rattle.law_prove_closed.specs.model_rules.specs.Happenings.{Event, Session, History}
use Rattle.law_prove_closed.specs.model_rules.specs.Keeping.{Break, Standing, standing_after, are_in_ranges, are_totals, are_kept, keeps_rules, first_standing}
use Rattle.law_prove_closed.specs.law_rules.specs.Law.{Covering, CoversRules, domain_of_rules}
use Rattle.law_prove_closed.specs.law_rules.proofs.Covered.{covered_rules}
use Rattle.law_prove_closed.specs.model_prove.specs.Keys.{Tables}
use Rattle.law_prove_closed.specs.model_prove.specs.Arrivals.{Setting}
use Rattle.law_prove_closed.specs.model_rules.specs.Loadable.{IsLoadable}
use Rattle.law_prove_closed.specs.model_prove.specs.Tables.{is_closed}
use Rattle.law_prove_closed.specs.law_prove.specs.Coverings.{IsMoment, covering_of}
use Rattle.law_prove_closed.specs.law_prove.proofs.Moments.{idle_ranges}
use Rattle.law_prove_closed.proofs.Rows.{all_rows}
use Rattle.law_prove_closed.proofs.Sound.{is_sound}
use Rattle.law_sums.specs.model_sums.specs.Sums.{SumsTable}
use Rattle.law_sum_plays.specs.Rows.{AllSumRowsLaw}
use Rattle.law_sum_plays.specs.Coverings.{IsSumMoment, sums_covering_of}
use Rattle.law_sum_plays.specs.Laws.{BeginSumsLaw, RowsSufficeLaw}
use Rattle.law_sum_plays.proofs.Checked.{SumsClosed, closed_parts}
use Rattle.law_sum_plays.proofs.Kept.{keeps_of, keeps_quiet, sum_moment, moment_keeps, ends_keep}
use Rattle.law_sum_plays.proofs.Begins.{begins_covered, entered_covered}
use Rattle.law_sum_plays.proofs.Turns.{fetched_covered}

module _ (r : AppRules) (g : Target) (t : Tables) (u : SumsTable) (loadable : IsLoadable g.app) (closed : is_closed (record { rules = r; app = g.app }) t ≡ true) (sums : SumsClosed (record { rules = r; app = g.app }) t u) (rows : AllSumRowsLaw) where
  abbrev setting : Setting
  setting = record { rules = r; app = g.app }

  abbrev covering : Covering
  covering = sums_covering_of setting t u

  abbrev domain : Domain Event
  domain = domain_of_rules g covering

  -- what the tables of facts cover
  plain : IsSound (domain_of_rules g (covering_of setting t))
  plain = is_sound r g t loadable closed all_rows

  -- with the session's beginning or end
  chosen : (x : Bool) (h : History) (fixed session : List ℕ) → IsSumMoment setting t x h fixed session → IsMoment setting t true (Session ∷ h) fixed (zeros g.app.session) → IsSumMoment setting t true (Session ∷ h) fixed (zeros g.app.session)
  chosen x h fixed session m next = sum_moment setting t true (Session ∷ h) fixed (zeros g.app.session) next (keeps_quiet setting Session h fixed tt (moment_keeps setting t x h fixed session m))

  sums_sound : IsSound domain
  sums_sound =
      record {
        none = plain.none;
        created = sum_moment setting t false [] g.app.fixed [] plain.created (keeps_of setting [] g.app.fixed (first_standing r) refl sums.first);
        deleted = λ h fixed m. plain.deleted h fixed m.moment;
        gone_on = λ h gone. gone;
        idle_on = λ h fixed idle. idle;
        selected = λ h fixed m. chosen false h fixed [] m (plain.selected h fixed m.moment);
        selected_again = λ h fixed session m. chosen true h fixed session m (plain.selected_again h fixed session m.moment);
        ended = λ h fixed session m.
            sum_moment setting t false (Session ∷ h) fixed [] (plain.ended h fixed session m.moment) (keeps_quiet setting Session h fixed tt (moment_keeps setting t true h fixed session m));
        begins = λ bytes apdu h fixed session route command m size. begins_covered r g t u loadable closed sums bytes apdu h fixed session route (command tt) m size;
        entered = λ h fixed public m segment. entered_covered r g t u loadable closed sums h fixed public m (segment.1 tt);
        turn = λ e h f public depth x p fits deep names segment.
            fetched_covered r g t u loadable closed sums rows e h f public depth x p fits deep (names tt) segment (instruction_at g.app.code f.at) refl;
        spent = λ e h f public p. ends_keep r g t u e h f.fixed (session_of f) (Abended A07) (keeps_of setting h f.fixed p.place.standing p.place.stands p.sums.kept) (plain.spent e h f public p.place);
        place_stops = λ any. absurd any;
        gone_stops = λ any. absurd any;
        idle_stops = λ any. absurd any;
        session_stops = λ any. absurd any;
      }

  -- ---- no rule is broken

  kept_by : (h : History) (fixed : List ℕ) (x : Standing) → standing_after r h ≡ Ok x → are_in_ranges fixed r.ranges ≡ true → are_totals fixed x.kept r.totals ≡ true → keeps_rules r h fixed ≡ true
  kept_by h fixed x stands ranges totals =
      ap (λ (z : Result Standing Break). are_kept r z fixed) stands ∙ and_from (are_in_ranges fixed r.ranges) (are_totals fixed x.kept r.totals) ranges totals

  -- closed tables with sums are a sound covering under which no rule is broken
  pub sums_cover : CoversRules r g covering
  sums_cover =
      record {
        sound = sums_sound;
        gone = λ h gone. gone;
        idle = λ h fixed m. kept_by h fixed m.moment.standing m.moment.stands (idle_ranges setting t loadable closed h fixed m.moment) m.kept;
        session = λ h fixed session m.
            kept_by h fixed m.moment.standing m.moment.stands (idle_ranges setting t loadable closed (Session ∷ h) fixed (plain.ended h fixed session m.moment)) m.kept;
      }

-- a command and a delegation begin frames at places of the tables, with their sums
pub begin_law : BeginSumsLaw
begin_law r g t u loadable closed sums =
    let s : Setting = record { rules = r; app = g.app } in
    let parts : SumsClosed s t u = closed_parts s t u sums in
    (begins_covered r g t u loadable closed parts, entered_covered r g t u loadable closed parts)

-- so the rules are kept
pub suffice_law : RowsSufficeLaw
suffice_law rows = (
  λ r g t u loadable closed sums e h f public depth x p fits deep names segment.
      fetched_covered r g t u loadable closed (closed_parts (record { rules = r; app = g.app }) t u sums) rows e h f public depth x p fits deep names segment (instruction_at g.app.code f.at) refl,
  λ r g t u loadable closed sums. sums_cover r g t u loadable closed (closed_parts (record { rules = r; app = g.app }) t u sums) rows,
  λ r g t u target loadable closed sums.
      covered_rules r g (sums_covering_of (record { rules = r; app = g.app }) t u) (sums_cover r g t u loadable closed (closed_parts (record { rules = r; app = g.app }) t u sums) rows) target,
)
