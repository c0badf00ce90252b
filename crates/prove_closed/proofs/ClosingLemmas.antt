-- Closed tables, from their parts.
use Rattle.std.proofs.Common.{◌≡◌, ℕ, true, false, ◌&&◌, List, [], ◌∷◌, ◌++◌, ◌-◌, length, map, Option, Some, None, Result, Ok, Err, IfOk, IfSome, refl, sym, subst, ap, ◌∙◌}
use Rattle.std.proofs.lemmas.Bool.{and_from}
use Rattle.std.proofs.lemmas.List.{length-map}
use Rattle.model_device.specs.Bytes.{zeros}
use Rattle.prove_facts.specs.model_rules.specs.Rules.{AppRules, Target}
use Rattle.prove_facts.specs.model_rules.specs.Keeping.{Amounts}
use Rattle.prove_facts.specs.model_prove.specs.Facts.{Facts, know_bytes}
use Rattle.prove_facts.specs.model_prove.specs.Keys as known
use Rattle.prove_facts.specs.model_prove.specs.Arrivals.{AtMoment, Setting}
use Rattle.prove_facts.specs.model_prove.specs.Between.{classes, created}
use Rattle.prove_facts.specs.model_prove.specs.Tables.{includes, is_closed, moments_closed, places_closed}
use Rattle.lab_app_rules.specs.declared.rules.Named.{Named}
use Rattle.lab_app_rules.specs.declared.rules.On.{On}
use Rattle.lab_app_rules.specs.declared.rules.Rules.{Rules}
use Rattle.lab_app_rules.specs.Rules.{AreLines, AreRules, allowance_of, name_of}
use Rattle.prove_keys.specs.Keys.{amounts_of}
use Rattle.prove_arrivals.specs.declared.subject.Subject.{Subject}
use Rattle.prove_arrivals.specs.Subjects.{IsOver, IsSubject, tables_in}

-- tables are closed if they have the first moment, and their moments and places are
pub closed_from : (s : Setting) (t : known.Tables) → includes t (created s) ≡ true → moments_closed s (classes s.rules) t t.moments ≡ true → places_closed s t t.places ≡ true
    → is_closed s t ≡ true
unfolding is_closed
closed_from s t first moments places =
    and_from (includes t (created s) && moments_closed s (classes s.rules) t t.moments) (places_closed s t t.places)
    (and_from (includes t (created s)) (moments_closed s (classes s.rules) t t.moments) first moments)
    places

-- the amount of an allowance as the application is created
abbrev pub amount_of : Named → ℕ
amount_of n = n.amount

first_amounts : (ns : List Named) → amounts_of (map name_of ns) (map amount_of ns) ≡ map allowance_of ns
first_amounts [] = refl
first_amounts (n ∷ ns) = ap (λ (a : Amounts). (n.name.now, n.amount) ∷ a) (first_amounts ns)

-- the moment at which the application is created
pub creation_there : (a : AppRules) (g : Target) (r : Rules) (u : Subject) (list : List ℕ) (f : Facts) → AreRules a g r
    → IsSubject (map name_of r.allowances.items) (record { rules = a; app = g.app }) u → list ≡ map amount_of r.allowances.items
    → f ≡ know_bytes 0 (r.load.data.now ++ zeros (r.load.fixed - length r.load.data.now)) []
    → ((names : List (List ℕ)) (s : Setting) → IsOver names s u list → includes (tables_in names u) (AtMoment (record { selected = false; allowances = amounts_of names list }) f) ≡ true)
    → includes (tables_in (map name_of r.allowances.items) u) (created (record { rules = a; app = g.app })) ≡ true
creation_there a g r u list f are is amounts facts h =
    let ns = r.allowances.items in
    let names = map name_of ns in
    let t = tables_in names u in
    let size : length list ≡ length names =
    ap (λ (l : List ℕ). length l) amounts ∙ length-map ns amount_of ∙ sym (length-map ns name_of)
    in
    let held = h names (record { rules = a; app = g.app }) (record { subject = is; size = size }) in
    let first : amounts_of names list ≡ a.allowances =
    ap (λ (l : List ℕ). amounts_of names l) amounts ∙ first_amounts ns ∙ sym are.allowances
    in
    let bytes : f ≡ know_bytes 0 g.app.fixed [] =
    facts ∙ ap (λ (b : List ℕ). know_bytes 0 b []) (sym are.created.fixed)
    in
    subst (λ (x : Amounts). includes t (AtMoment (record { selected = false; allowances = x }) (know_bytes 0 g.app.fixed [])) ≡ true) first
    (subst (λ (x : Facts). includes t (AtMoment (record { selected = false; allowances = amounts_of names list }) x) ≡ true) bytes held)

-- what is found for the lines is found for every definition with these rules
pub rules_there : {A E : Type 0} (P : AppRules → A → Type 0) (rules : Rules) (ons : List On) (r : Result (Option A) E) → ons ≡ rules.ons.items
    → ((names : List (List ℕ)) (a : AppRules) → AreLines names a.ons ons → IfOk r (λ o. IfSome o (λ x. P a x)))
    → IfOk r (λ o. IfSome o (λ x. (a : AppRules) (g : Target) → AreRules a g rules → P a x))
rules_there P rules ons (Err e) is h = tt
rules_there P rules ons (Ok None) is h = tt
rules_there P rules ons (Ok (Some x)) is h =
    λ a g are.
    h (map name_of rules.allowances.items) a (subst (λ (l : List On). AreLines (map name_of rules.allowances.items) a.ons l) (sym is) are.ons)

-- what holds of an answer, if there is one, holds of it
pub some_there : {A : Type 0} (P : A → Type 0) (o : Option A) (x : A) → o ≡ Some x → IfSome o P → P x
some_there {A} P o x e h = subst (λ (y : Option A). IfSome y P) e h
