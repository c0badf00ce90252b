-- What holds along a play passes its tests; so where a test fails, it does not hold.
use Rattle.std.proofs.Common.{◌≡◌, ℕ, Bool, true, false, not, List, [], ◌∷◌, Option, Some, None, refl, sym, ◌∙◌, arith}
use Rattle.std.specs.Prelude.{◌&&◌, ◌||◌, bytes_eq, is_none}
use Rattle.std.proofs.lemmas.Bool.{and_parts, and_from, eqb-true}
use Rattle.model_events.specs.model_device.specs.Bytes.{lookup}
use Rattle.model_events.specs.model_device.specs.Card.{App}
use Rattle.law_bytes.specs.model_card.specs.Items.{Fixed, Created, Deleted, Item, Plain, Atomic}
use Rattle.law_bytes.specs.model_play.specs.DeckGrammar.{DeckLine}
use Rattle.law_bytes.specs.model_play.specs.Given.{apps_in}
use Rattle.law_bytes.specs.model_play.specs.Play.{State, Step}
use Rattle.model_events.specs.Deeds.{Watch}
use Rattle.law_promise.specs.History.{after_step}
use Rattle.law_promise.specs.Along.{IsApp, IsAppIf, CreatesOnly, FindsNone, BringsOnly, Along}
use Rattle.law_promise.specs.Computed.{on_app, tests_along, is_app, creates_only, finds_none, all_bring_only}
use Rattle.model_events.specs.model_device.proofs.MapLemmas.{same_name}

-- ---- the premise

app_is : (app a : App) → is_app app a ≡ true → IsApp app a
app_is app a h = grind (arith, and_parts, same_name, eqb-true)

app_if : (b : Bool) (app a : App) → (not b || is_app app a) ≡ true → IsAppIf b app a
app_if true app a h = app_is app a h
app_if false app a h = tt

creates_from : (n : List ℕ) (app : App) (is : List Item) → creates_only n app is ≡ true → CreatesOnly n app is
creates_from n app [] h = tt
creates_from n app (Plain ∷ is) h = creates_from n app is h
creates_from n app (Atomic w (Fixed m ps) ∷ is) h = creates_from n app is h
creates_from n app (Atomic w (Created m a) ∷ is) h =
    let p = and_parts (not (bytes_eq m n) || is_app app a) (creates_only n app is) h in
    (app_if (bytes_eq m n) app a p.0, creates_from n app is p.1)
creates_from n app (Atomic w (Deleted m) ∷ is) h = creates_from n app is h

none_is : (found : Option App) → is_none found ≡ true → found ≡ None
none_is None h = refl
none_is (Some a) h = absurd (cc h)

finds_from : (n : List ℕ) (z : State) (l : DeckLine) (after : State) → finds_none n z l after ≡ true → FindsNone n z l after
finds_from n z l after h = grind (arith, none_is)

-- ---- along a play

-- each test of a list
abbrev pub are_true : List Bool → Bool
are_true [] = true
are_true (b ∷ bs) = b && are_true bs

-- what holds of each line passes the test there
pub tested : {E : Type 0} (w : Watch E) (app : App) (says : List E → Step → List E → Type 0) (test : List E → List ℕ → Bool)
    → ((h : List E) (t : Step) (k : List E) → says h t k → on_app (test k) (lookup (apps_in t.after) w.name) ≡ true)
    → (ts : List Step) (h : List E) → Along w app says h ts → all_bring_only w.name app ts ≡ true → are_true (tests_along w test h ts) ≡ true
tested w app says test sound [] h x b = refl
tested w app says test sound (t ∷ ts) h x b =
    let p = and_parts (creates_only w.name app t.whole && finds_none w.name t.before t.line t.after) (all_bring_only w.name app ts) b in
    let q = and_parts (creates_only w.name app t.whole) (finds_none w.name t.before t.line t.after) p.0 in
    let brings : BringsOnly w.name app t = record { creates = creates_from w.name app t.whole q.0; finds = finds_from w.name t.before t.line t.after q.1 } in
    let k : List _ = after_step w t h in
    and_from (on_app (test k) (lookup (apps_in t.after) w.name)) (are_true (tests_along w test k ts)) (sound h t k (x.0 brings).0) (tested w app says test sound ts k (x.0 brings).1 p.1)

-- so it does not hold where a test fails
pub broken : {E : Type 0} (w : Watch E) (app : App) (says : List E → Step → List E → Type 0) (test : List E → List ℕ → Bool)
    → ((h : List E) (t : Step) (k : List E) → says h t k → on_app (test k) (lookup (apps_in t.after) w.name) ≡ true)
    → (ts : List Step) → all_bring_only w.name app ts ≡ true → are_true (tests_along w test [] ts) ≡ false → Along w app says [] ts → ⊥
broken w app says test sound ts b f x = cc (sym (tested w app says test sound ts [] x b) ∙ f)
