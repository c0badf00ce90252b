-- What tables of facts and a table of sums cover together: the states of a play that a key stands for with its facts and
-- with what is known there for sums. It is a reduced product of both (Cousot and Cousot, POPL 1979): keys are those of
-- the tables of facts.
use Rattle.std.specs.Prelude.{◌≡◌, ℕ, Bool, true, false, List, [], Some}
use Rattle.law_prove_closed.specs.model_machine.specs.Frame.{Frame}
use Rattle.law_prove_closed.specs.law_promise.specs.Outline.{Entry}
use Rattle.law_prove_closed.specs.model_rules.specs.Happenings.{Event, History}
use Rattle.law_prove_closed.specs.model_rules.specs.Keeping.{are_totals}
use Rattle.law_prove_closed.specs.law_rules.specs.Law.{Covering}
use Rattle.law_prove_closed.specs.model_prove.specs.Keys.{Tables}
use Rattle.law_prove_closed.specs.model_prove.specs.Arrivals.{Setting}
use Rattle.law_prove_closed.specs.law_prove.specs.Coverings.{IsMoment, IsUnbroken, frame_memory, IsPlace, key_of}
use Rattle.law_sums.specs.model_sums.specs.Sums.{Sums, SumsTable, sums_at}
use Rattle.law_sums.specs.model_sums.specs.Says.{SumsHold}

-- A moment between commands that the tables of facts have, at which each total holds of the static bytes and of the sums
-- as power would leave both.
pub record IsSumMoment (s : Setting) (t : Tables) (selected : Bool) (h : History) (fixed session : List ℕ) : Type 0 where
  pub moment : IsMoment s t selected h fixed session
  pub kept : are_totals fixed moment.standing.kept s.rules.totals ≡ true

-- A place that the tables of facts have, at which what the table of sums knows there holds of the memory, of the public
-- bytes as the frame began, and of the sums as the application has them; and each total holds as power would leave it.
pub record IsSumPlace (s : Setting) (t : Tables) (u : SumsTable) (e : Entry Event) (h : History) (f : Frame) (public : List ℕ) : Type 0 where
  pub place : IsPlace s t e h f public
  pub known : Sums
  pub there : sums_at u (key_of s t e h f public place) ≡ Some known
  pub sums : SumsHold s.rules.totals known f.protected (frame_memory f public) f.fixed place.standing

-- what tables of facts and a table of sums cover
abbrev pub sums_covering_of : Setting → Tables → SumsTable → Covering
sums_covering_of s t u =
    record {
      gone = IsUnbroken s;
      idle = λ h fixed. IsSumMoment s t false h fixed [];
      session = λ h fixed session. IsSumMoment s t true h fixed session;
      at = IsSumPlace s t u;
    }
