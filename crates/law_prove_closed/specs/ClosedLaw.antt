-- The law of closed tables.
use Rattle.std.specs.Prelude.{◌≡◌, true, [], Some}
use Rattle.law_prove.specs.model_rules.specs.Rules.{Target, AppRules}
use Rattle.law_prove.specs.law_rules.specs.Law.{AreKept}
use Rattle.law_prove.specs.model_prove.specs.Keys.{Tables}
use Rattle.law_prove.specs.model_prove.specs.Tables.{is_closed}
use Rattle.law_prove.specs.model_rules.specs.Loadable.{IsLoadable}

-- The law of closed tables: the rules without sums are kept of an application that a card can have in every play of
-- every deck.
abbrev pub ClosedLaw : Type 0
ClosedLaw =
    (r : AppRules) (g : Target) (t : Tables) → r.target ≡ Some g → IsLoadable g.app → r.totals ≡ [] → is_closed (record { rules = r; app = g.app }) t ≡ true → AreKept r
