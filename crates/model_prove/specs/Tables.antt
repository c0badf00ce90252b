-- The tables: when they are closed under every outcome.
use Rattle.std.specs.Prelude.{Bool, true, false, cond, ◌&&◌, List, [], ◌∷◌, Option, Some, None}
use Rattle.model_rules.specs.Rules.{Range}
use Rattle.model_prove.specs.Facts.{Facts, follow}
use Rattle.model_prove.specs.Keys.{PlaceKey, MomentKey, Known, Tables, same_places, same_moments, known_follows}
use Rattle.model_prove.specs.Arrivals.{Setting, Arrival, AtPlace, AtMoment, Breaks, Lost}
use Rattle.model_prove.specs.Steps.{place_arrivals}
use Rattle.model_prove.specs.Between.{Class, classes, moment_arrivals, created, keeps_range}

-- ---- closed tables

-- the facts of a moment, if the table has it
abbrev pub moment_at : List (MomentKey × Facts) → MomentKey → Option Facts
moment_at [] k = None
moment_at (m ∷ ms) k = cond (same_moments m.0 k) (Some m.1) (moment_at ms k)

-- what is known at a place, if the table has it
abbrev pub place_at : List (PlaceKey × Known) → PlaceKey → Option Known
place_at [] k = None
place_at (p ∷ ps) k = cond (same_places p.0 k) (Some p.1) (place_at ps k)

-- whether facts follow from others, if there are some
abbrev pub has_facts : Facts → Option Facts → Bool
has_facts f None = false
has_facts f (Some g) = follow f g

-- whether what is known follows, if something is
abbrev pub has_known : Known → Option Known → Bool
has_known k None = false
has_known k (Some l) = known_follows k l

-- whether an outcome leads to a key of the tables, which say no more than is known there
abbrev pub includes : Tables → Arrival → Bool
includes t (AtPlace key k) = has_known k (place_at t.places key)
includes t (AtMoment key f) = has_facts f (moment_at t.moments key)
includes t (Breaks b at) = false
includes t (Lost at) = false

-- whether all of some outcomes do
abbrev pub includes_all : Tables → List Arrival → Bool
includes_all t [] = true
includes_all t (a ∷ more) = includes t a && includes_all t more

-- whether facts keep all ranges
abbrev pub keeps_ranges : List Range → Facts → Bool
keeps_ranges [] f = true
keeps_ranges (r ∷ rs) f = keeps_range f r && keeps_ranges rs f

-- whether the outcomes of each moment are in the tables, and each moment keeps the ranges
abbrev pub moments_closed : Setting → List Class → Tables → List (MomentKey × Facts) → Bool
moments_closed s cs t [] = true
moments_closed s cs t (m ∷ ms) =
    includes_all t (moment_arrivals s cs m.0 m.1) && keeps_ranges s.rules.ranges m.1 && moments_closed s cs t ms

-- whether the outcomes of each place are
abbrev pub places_closed : Setting → Tables → List (PlaceKey × Known) → Bool
places_closed s t [] = true
places_closed s t (p ∷ ps) = includes_all t (place_arrivals s p.0 p.1) && places_closed s t ps

-- Tables are closed: they have the first moment and every outcome of each of their keys, no outcome breaks a rule or
-- loses control, and each moment keeps the ranges. Closed tables are a proof outline.
unfoldable pub is_closed : Setting → Tables → Bool
is_closed s t = includes t (created s) && moments_closed s (classes s.rules) t t.moments && places_closed s t t.places
