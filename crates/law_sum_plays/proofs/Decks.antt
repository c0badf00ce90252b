-- What the check of a deck with sums decides: the premises of the law of closed tables, one by one.
use Rattle.std.specs.Prelude.{◌≡◌, ℕ, true, ◌&&◌, Option, Some, None, Result, Ok, Err, refl}
use Rattle.std.proofs.Common.{subst}
use Rattle.std.proofs.lemmas.Bool.{and_parts}
use Rattle.law_sum_plays.specs.model_rules.specs.Rules.{Target, AppRules}
use Rattle.law_sum_plays.specs.model_rule_text.specs.Reading.{RuleCause, app_rules_read}
use Rattle.law_sum_plays.specs.law_rules.specs.Law.{AreKeptBy}
use Rattle.law_sum_plays.specs.model_prove.specs.Keys.{Tables}
use Rattle.law_sum_plays.specs.model_prove.specs.Arrivals.{Setting}
use Rattle.law_sum_plays.specs.model_prove.specs.Tables.{is_closed}
use Rattle.law_sum_plays.specs.law_prove_closed.specs.Search.{tables_after}
use Rattle.law_sum_plays.specs.law_prove_closed.specs.Decks.{is_loadable, TargetIsKept, AreKeptAsRead, DeckIsKept}
use Rattle.law_sum_plays.specs.law_prove_closed.proofs.Decks.{loadable_is}
use Rattle.law_sum_plays.specs.model_sums.specs.Sums.{SumsTable}
use Rattle.law_sum_plays.specs.model_sums.specs.Closed.{sums_closed}
use Rattle.law_sum_plays.proofs.Final.{closed_sums_law}
use Rattle.law_sum_plays.specs.Decks.{SumsOf, proves_for, proves_read, proves_sums, DeckSumsLaw, transaction_deck, transaction_sums}

for_law : (n : ℕ) (sums : SumsOf) (r : AppRules) (o : Option Target) → r.target ≡ o → proves_for n sums r o ≡ true → TargetIsKept r o
for_law n sums r None target e = absurd (cc e)
for_law n sums r (Some g) target e =
    let s : Setting = record { rules = r; app = g.app } in
    let t : Tables = tables_after n s in
    let u : SumsTable = sums s t in
    let p = and_parts (is_loadable g.app && is_closed s t) (sums_closed s t u) e in
    let q = and_parts (is_loadable g.app) (is_closed s t) p.0 in
    subst (AreKeptBy r) target (closed_sums_law r g t u target (loadable_is g.app q.0) q.1 p.1)

read_law : (n : ℕ) (sums : SumsOf) (z : Result AppRules (ℕ × RuleCause)) → proves_read n sums z ≡ true → AreKeptAsRead z
read_law n sums (Err e) is = absurd (cc is)
read_law n sums (Ok r) is = for_law n sums r r.target refl is

-- the rules of a deck with sums that are proved are kept
pub deck_law : DeckSumsLaw
unfolding proves_sums
deck_law n sums text e = read_law n sums (app_rules_read text) e

-- ---- the example

proved : proves_sums 200 transaction_sums transaction_deck ≡ true
unfolding proves_sums
proved = refl

-- the rules of the deck of transactions are kept
pub transaction_kept : DeckIsKept transaction_deck
transaction_kept = deck_law 200 transaction_sums transaction_deck proved
