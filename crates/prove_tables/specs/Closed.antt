-- Rules for which some tables are closed.
use Rattle.std.specs.Prelude.{◌≡◌, true, Bool, List, [], map}
use Rattle.std.specs.declared.alloc.Global.{Global}
use Rattle.std.specs.declared.vec.Vec.{Vec}
use Rattle.law_sum_plays.specs.model_rules.specs.Rules.{AppRules, Target}
use Rattle.law_sum_plays.specs.model_prove.specs.Keys.{Tables}
use Rattle.law_sum_plays.specs.model_prove.specs.Tables.{is_closed}
use Rattle.law_sum_plays.specs.model_sums.specs.Sums.{SumsTable}
use Rattle.law_sum_plays.specs.model_sums.specs.Closed.{sums_closed}
use Rattle.prove_closed.specs.Classes.{lists_of}
use Rattle.lab_app_rules.specs.Rules.{name_of}
use Rattle.lab_app_rules.specs.declared.rules.Rules.{Rules}
use Rattle.prove_keys.specs.Tables.{tables_of}
use Rattle.prove_keys.specs.declared.tables.Tables as found

-- tables that were found for rules, with the lines that the commands of each class match, as the definition has them
abbrev pub tables_with : Rules → List (Vec Bool Global) → found.Tables → Tables
tables_with r numbers t = tables_of (map name_of r.allowances.items) (lists_of numbers) r.load.fixed t

-- some tables are closed for the rules of an application
pub record AreClosed (a : AppRules) (g : Target) : Type 0 where
  pub tables : Tables
  pub closed : is_closed (record { rules = a; app = g.app }) tables ≡ true

-- a table of sums is closed beside tables
pub record HasSums (a : AppRules) (g : Target) (t : Tables) : Type 0 where
  pub sums : SumsTable
  pub closed : sums_closed (record { rules = a; app = g.app }) t sums ≡ true

-- the rules of an application are proved by closed tables, which suffice without lines of sums, or by closed tables with
-- a table of sums
pub data AreProved (a : AppRules) (g : Target) : Type 0 where
  WithoutSums : a.totals ≡ [] → AreClosed a g → AreProved a g
  WithSums : (c : AreClosed a g) → HasSums a g c.tables → AreProved a g
