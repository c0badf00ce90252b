-- The least tables of rules, for rows that compute them.
use Rattle.std.specs.Prelude.{ℕ, zero, suc, ◌-◌, cond, not, List, [], ◌∷◌, Option, Some, None}
use Rattle.law_prove.specs.model_rules.specs.Rules.{Range}
use Rattle.law_prove.specs.model_prove.specs.Facts.{Facts, join}
use Rattle.law_prove.specs.model_prove.specs.Keys.{PlaceKey, MomentKey, Known, Tables, same_places, same_moments, join_known}
use Rattle.law_prove.specs.model_prove.specs.Arrivals.{Setting, Arrival, AtPlace, AtMoment, Breaks, Lost}
use Rattle.law_prove.specs.model_prove.specs.Steps.{place_arrivals}
use Rattle.law_prove.specs.model_prove.specs.Between.{Class, classes, moment_arrivals, created, rounded}
use Rattle.law_prove.specs.model_prove.specs.Tables.{includes, moment_at, place_at}

-- ---- the least tables

-- a search: the tables so far, and the keys whose outcomes are still to be followed
pub record Search : Type 0 where
  pub tables : Tables
  pub moments : List MomentKey
  pub places : List PlaceKey

-- a moment with facts, in the place of an earlier entry
abbrev pub put_moment : MomentKey → Facts → List (MomentKey × Facts) → List (MomentKey × Facts)
put_moment k f [] = (k, f) ∷ []
put_moment k f (m ∷ ms) =
    let rest = put_moment k f ms in
    cond (same_moments m.0 k) ((m.0, f) ∷ ms) (m ∷ rest)

-- a place with what is known there, in the place of an earlier entry
abbrev pub put_place : PlaceKey → Known → List (PlaceKey × Known) → List (PlaceKey × Known)
put_place k f [] = (k, f) ∷ []
put_place k f (p ∷ ps) =
    let rest = put_place k f ps in
    cond (same_places p.0 k) ((p.0, f) ∷ ps) (p ∷ rest)

-- facts joined with those that a key has
abbrev pub joined_facts : Facts → Option Facts → Facts
joined_facts f None = f
joined_facts f (Some g) = join g f

-- what is known joined with what a key has
abbrev pub joined_known : Known → Option Known → Known
joined_known k None = k
joined_known k (Some l) = join_known l k

-- a search after a moment was reached whose outcomes are to be followed
abbrev pub reach_moment : List Range → MomentKey → Facts → Search → Search
reach_moment rs key f z =
    record z {
      tables = record z.tables { moments = put_moment key (rounded rs (joined_facts f (moment_at z.tables.moments key))) z.tables.moments };
      moments = key ∷ z.moments;
    }

-- a search after a place was reached whose outcomes are to be followed
abbrev pub reach_place : PlaceKey → Known → Search → Search
reach_place key k z =
    record z {
      tables = record z.tables { places = put_place key (joined_known k (place_at z.tables.places key)) z.tables.places };
      places = key ∷ z.places;
    }

-- a search after an outcome that the tables do not include
abbrev pub reach : List Range → Arrival → Search → Search
reach rs (AtPlace key k) z = reach_place key k z
reach rs (AtMoment key f) z = reach_moment rs key f z
reach rs (Breaks b at) z = z
reach rs (Lost at) z = z

-- a search after some outcomes
abbrev pub reach_all : List Range → List Arrival → Search → Search
reach_all rs [] z = z
reach_all rs (a ∷ more) z =
    let next = reach rs a z in
    reach_all rs more (cond (includes z.tables a) z next)

-- the outcomes of a moment of the table
abbrev pub at_moment : Setting → List Class → MomentKey → Option Facts → List Arrival
at_moment s cs key None = []
at_moment s cs key (Some f) = moment_arrivals s cs key f

-- the outcomes of a place of the table
abbrev pub at_place : Setting → PlaceKey → Option Known → List Arrival
at_place s key None = []
at_place s key (Some k) = place_arrivals s key k

-- the next key to be followed, and the search without it
abbrev pub followed : Setting → List Class → List PlaceKey → List MomentKey → Search → Search
followed s cs (p ∷ ps) ms z = reach_all s.rules.ranges (at_place s p (place_at z.tables.places p)) (record z { places = ps })
followed s cs [] (m ∷ ms) z = reach_all s.rules.ranges (at_moment s cs m (moment_at z.tables.moments m)) (record z { moments = ms })
followed s cs [] [] z = z

-- a search of some steps
abbrev pub search_on : ℕ → Setting → List Class → Search → Search
search_on zero s cs z = z
search_on (suc n) s cs z = search_on n s cs (followed s cs z.places z.moments z)

-- the tables without a key
abbrev pub no_tables : Tables
no_tables = record { moments = []; places = [] }

-- The least tables, after at most n steps of a search: each step follows one key and joins its outcomes.
abbrev pub tables_after : ℕ → Setting → Tables
tables_after n s = (search_on n s (classes s.rules) (reach s.rules.ranges (created s) (record { tables = no_tables; moments = []; places = [] }))).tables
