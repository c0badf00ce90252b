-- What the check of a deck decides: the premises of the law of closed tables, one by one.
use Rattle.std.proofs.Common.{◌≡◌, ℕ, ◌+◌, true, List, [], ◌∷◌, length, Option, Some, None, Result, Ok, Err, refl, subst}
use Rattle.std.specs.Prelude.{◌&&◌, nat_lt, nat_le}
use Rattle.std.proofs.lemmas.Bool.{and_parts, ltb-true, leb-true}
use Rattle.law_prove.specs.model_device.specs.Bytes.{AreBytes}
use Rattle.law_prove.specs.model_device.specs.Card.{App}
use Rattle.law_prove.specs.model_machine.specs.Frame.{dynamic_base, dynamic_end}
use Rattle.law_prove.specs.model_rules.specs.Rules.{Target, Total, AppRules}
use Rattle.law_prove.specs.model_rule_text.specs.Reading.{RuleCause, app_rules_read}
use Rattle.law_prove.specs.law_rules.specs.Law.{AreKeptBy}
use Rattle.law_prove.specs.model_prove.specs.Arrivals.{Setting}
use Rattle.law_prove.specs.model_rules.specs.Loadable.{IsLoadable}
use Rattle.law_prove.specs.model_prove.specs.Tables.{is_closed}
use Rattle.law_prove_closed.specs.Search.{tables_after}
use Rattle.law_prove_closed.specs.Decks.{are_bytes, is_loadable, has_no_totals, proves_for, proves_read, proves_deck, TargetIsKept, AreKeptAsRead, DeckLaw}
use Rattle.law_prove_closed.proofs.Rows.{closed_law}

bytes_are : (bs : List ℕ) → are_bytes bs ≡ true → AreBytes bs
bytes_are [] e = tt
bytes_are (b ∷ bs) e = let p = and_parts (nat_lt b 256) (are_bytes bs) e in (ltb-true b 256 p.0, bytes_are bs p.1)

-- an application that the test finds loadable is loadable
pub loadable_is : (a : App) → is_loadable a ≡ true → IsLoadable a
loadable_is a e =
    let p4 = and_parts (are_bytes a.code && nat_lt (length a.code) 65536 && are_bytes a.fixed && nat_le (length a.fixed) dynamic_base) (nat_le (dynamic_base + a.session) dynamic_end) e in
    let p3 = and_parts (are_bytes a.code && nat_lt (length a.code) 65536 && are_bytes a.fixed) (nat_le (length a.fixed) dynamic_base) p4.0 in
    let p2 = and_parts (are_bytes a.code && nat_lt (length a.code) 65536) (are_bytes a.fixed) p3.0 in
    let p1 = and_parts (are_bytes a.code) (nat_lt (length a.code) 65536) p2.0 in
    record {
      code = bytes_are a.code p1.0;
      places = ltb-true (length a.code) 65536 p1.1;
      bytes = bytes_are a.fixed p2.1;
      static = leb-true (length a.fixed) dynamic_base p3.1;
      session = leb-true (dynamic_base + a.session) dynamic_end p4.1;
    }

none_is : (ts : List Total) → has_no_totals ts ≡ true → ts ≡ []
none_is [] e = refl
none_is (t ∷ ts) e = absurd (cc e)

for_law : (n : ℕ) (r : AppRules) (o : Option Target) → r.target ≡ o → proves_for n r o ≡ true → TargetIsKept r o
for_law n r None target e = absurd (cc e)
for_law n r (Some g) target e =
    let s : Setting = record { rules = r; app = g.app } in
    let t = tables_after n s in
    let p1 = and_parts (is_loadable g.app && has_no_totals r.totals) (is_closed s t) e in
    let p0 = and_parts (is_loadable g.app) (has_no_totals r.totals) p1.0 in
    subst (AreKeptBy r) target (closed_law r g t target (loadable_is g.app p0.0) (none_is r.totals p0.1) p1.1)

read_law : (n : ℕ) (z : Result AppRules (ℕ × RuleCause)) → proves_read n z ≡ true → AreKeptAsRead z
read_law n (Err e) is = absurd (cc is)
read_law n (Ok r) is = for_law n r r.target refl is

-- the rules of a deck that are proved are kept
pub deck_law : DeckLaw
unfolding proves_deck
deck_law n text e = read_law n (app_rules_read text) e
