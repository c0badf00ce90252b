-- Two states that the test takes for one are equal.
use Rattle.std.specs.Prelude.{◌≡◌, ℕ, Bool, true, false, ◌&&◌, ◌||◌, ◌==◌, List, [], ◌∷◌, bytes_eq, Option, Some, None, refl}
use Rattle.std.proofs.Common.{inl, inr, arith}
use Rattle.std.proofs.lemmas.Bool.{eqb-true, and_parts}
use Rattle.std.proofs.lemmas.Slice.Eq.{bytes_eq-Decides}
use Rattle.model_play.specs.model_device.specs.Card.{App}
use Rattle.model_play.specs.model_device.specs.PowerUp.{Base, OnCard, AtFault}
use Rattle.model_play.specs.model_device.specs.Words.{cause_text}
use Rattle.model_play.specs.model_device.specs.declared.cause.Cause.{Cause}
use Rattle.model_play.specs.model_card.specs.declared.card.Sizes.{Sizes}
use Rattle.model_play.specs.model_card.specs.Manager.{Selected, Got, Open}
use Rattle.model_play.specs.Play.{Live, Running, Unpowered, Muted}
use Rattle.law_explore.specs.States.{CardState, is_same_app, are_same_apps, is_same_base, is_same_selection, are_same_sizes, is_same_got, is_same_load, is_same_live, are_same_allowances, is_same_state, is_known}
use Rattle.law_explore.specs.Safety.{Among}

bytes_are : (a b : List ℕ) → bytes_eq a b ≡ true → a ≡ b
bytes_are a b h = (bytes_eq-Decides a b).0 h

app_is : (a b : App) → is_same_app a b ≡ true → a ≡ b
app_is a b h =
    let p = and_parts (bytes_eq a.fixed b.fixed && (a.place == b.place) && (a.session == b.session) && (a.deny == b.deny)) (bytes_eq a.code b.code && bytes_eq a.dir b.dir && bytes_eq a.fci b.fci) h in
    let q = and_parts (bytes_eq a.fixed b.fixed && (a.place == b.place) && (a.session == b.session)) (a.deny == b.deny) p.0 in
    let r = and_parts (bytes_eq a.fixed b.fixed && (a.place == b.place)) (a.session == b.session) q.0 in
    let s = and_parts (bytes_eq a.fixed b.fixed) (a.place == b.place) r.0 in
    let t = and_parts (bytes_eq a.code b.code && bytes_eq a.dir b.dir) (bytes_eq a.fci b.fci) p.1 in
    let u = and_parts (bytes_eq a.code b.code) (bytes_eq a.dir b.dir) t.0 in
    let fixed : a.fixed ≡ b.fixed = bytes_are a.fixed b.fixed s.0 in
    let place : a.place ≡ b.place = eqb-true a.place b.place s.1 in
    let session : a.session ≡ b.session = eqb-true a.session b.session r.1 in
    let deny : a.deny ≡ b.deny = eqb-true a.deny b.deny q.1 in
    let code : a.code ≡ b.code = bytes_are a.code b.code u.0 in
    let dir : a.dir ≡ b.dir = bytes_are a.dir b.dir u.1 in
    let fci : a.fci ≡ b.fci = bytes_are a.fci b.fci t.1 in
    λ i. record { code = code i; fixed = fixed i; session = session i; deny = deny i; dir = dir i; fci = fci i; place = place i }

apps_are : (xs ys : List (List ℕ × App)) → are_same_apps xs ys ≡ true → xs ≡ ys
apps_are [] [] h = refl
apps_are (x ∷ xs) (y ∷ ys) h =
    let p = and_parts (bytes_eq x.0 y.0 && is_same_app x.1 y.1) (are_same_apps xs ys) h in
    let q = and_parts (bytes_eq x.0 y.0) (is_same_app x.1 y.1) p.0 in
    let name : x.0 ≡ y.0 = bytes_are x.0 y.0 q.0 in
    let app : x.1 ≡ y.1 = app_is x.1 y.1 q.1 in
    let rest : xs ≡ ys = apps_are xs ys p.1 in
    λ i. (name i, app i) ∷ rest i
apps_are [] (y ∷ ys) h = absurd (cc h)
apps_are (x ∷ xs) [] h = absurd (cc h)

cause_is : (c d : Cause) → bytes_eq (cause_text c) (cause_text d) ≡ true → c ≡ d
cause_is c d h = grind arith

base_is : (b c : Base) → is_same_base b c ≡ true → b ≡ c
base_is (OnCard c) (OnCard d) h =
    let p = and_parts ((c.size == d.size) && (c.layout == d.layout)) (are_same_apps c.apps d.apps) h in
    let q = and_parts (c.size == d.size) (c.layout == d.layout) p.0 in
    let size : c.size ≡ d.size = eqb-true c.size d.size q.0 in
    let layout : c.layout ≡ d.layout = eqb-true c.layout d.layout q.1 in
    let apps : c.apps ≡ d.apps = apps_are c.apps d.apps p.1 in
    λ i. OnCard (record { size = size i; layout = layout i; apps = apps i })
base_is (AtFault c p) (AtFault d q) h = grind (arith, and_parts, cause_is, eqb-true)
base_is (OnCard c) (AtFault d q) h = absurd (cc h)
base_is (AtFault c p) (OnCard d) h = absurd (cc h)

selection_is : (s t : Option Selected) → is_same_selection s t ≡ true → s ≡ t
selection_is None None h = refl
selection_is (Some s) (Some t) h =
    let p = and_parts (bytes_eq s.name t.name) (bytes_eq s.session t.session) h in
    let name : s.name ≡ t.name = bytes_are s.name t.name p.0 in
    let session : s.session ≡ t.session = bytes_are s.session t.session p.1 in
    λ i. Some (record { name = name i; session = session i })
selection_is None (Some t) h = absurd (cc h)
selection_is (Some s) None h = absurd (cc h)

sizes_are : (s t : Sizes) → are_same_sizes s t ≡ true → s ≡ t
sizes_are s t h = grind (arith, and_parts, eqb-true)

got_is : (g h : Got) → is_same_got g h ≡ true → g ≡ h
got_is g h e =
    let a = and_parts (bytes_eq g.code h.code && bytes_eq g.init h.init && bytes_eq g.dir h.dir) (bytes_eq g.fci h.fci) e in
    let b = and_parts (bytes_eq g.code h.code && bytes_eq g.init h.init) (bytes_eq g.dir h.dir) a.0 in
    let c = and_parts (bytes_eq g.code h.code) (bytes_eq g.init h.init) b.0 in
    let code : g.code ≡ h.code = bytes_are g.code h.code c.0 in
    let init : g.init ≡ h.init = bytes_are g.init h.init c.1 in
    let dir : g.dir ≡ h.dir = bytes_are g.dir h.dir b.1 in
    let fci : g.fci ≡ h.fci = bytes_are g.fci h.fci a.1 in
    λ i. record { code = code i; init = init i; dir = dir i; fci = fci i }

load_is : (o p : Option Open) → is_same_load o p ≡ true → o ≡ p
load_is None None h = refl
load_is (Some o) (Some p) h =
    let a = and_parts (are_same_sizes o.site.sizes p.site.sizes && (o.site.place == p.site.place)) (is_same_got o.got p.got) h in
    let b = and_parts (are_same_sizes o.site.sizes p.site.sizes) (o.site.place == p.site.place) a.0 in
    let sizes : o.site.sizes ≡ p.site.sizes = sizes_are o.site.sizes p.site.sizes b.0 in
    let place : o.site.place ≡ p.site.place = eqb-true o.site.place p.site.place b.1 in
    let got : o.got ≡ p.got = got_is o.got p.got a.1 in
    λ i. Some (record { site = record { sizes = sizes i; place = place i }; got = got i })
load_is None (Some p) h = absurd (cc h)
load_is (Some o) None h = absurd (cc h)

live_is : (v w : Live) → is_same_live v w ≡ true → v ≡ w
live_is (Running s) (Running t) h =
    let p = and_parts (is_same_selection s.selected t.selected) (is_same_load s.load t.load) h in
    let selected : s.selected ≡ t.selected = selection_is s.selected t.selected p.0 in
    let load : s.load ≡ t.load = load_is s.load t.load p.1 in
    λ i. Running (record { selected = selected i; load = load i })
live_is Unpowered Unpowered h = refl
live_is Muted Muted h = refl
live_is (Running s) Unpowered h = absurd (cc h)
live_is (Running s) Muted h = absurd (cc h)
live_is Unpowered (Running t) h = absurd (cc h)
live_is Unpowered Muted h = absurd (cc h)
live_is Muted (Running t) h = absurd (cc h)
live_is Muted Unpowered h = absurd (cc h)

allowances_are : (xs ys : List (List ℕ × ℕ)) → are_same_allowances xs ys ≡ true → xs ≡ ys
allowances_are [] [] h = refl
allowances_are (x ∷ xs) (y ∷ ys) h =
    let p = and_parts (bytes_eq x.0 y.0 && (x.1 == y.1)) (are_same_allowances xs ys) h in
    let q = and_parts (bytes_eq x.0 y.0) (x.1 == y.1) p.0 in
    let name : x.0 ≡ y.0 = bytes_are x.0 y.0 q.0 in
    let amount : x.1 ≡ y.1 = eqb-true x.1 y.1 q.1 in
    let rest : xs ≡ ys = allowances_are xs ys p.1 in
    λ i. (name i, amount i) ∷ rest i
allowances_are [] (y ∷ ys) h = absurd (cc h)
allowances_are (x ∷ xs) [] h = absurd (cc h)

-- states that the test takes for one are equal
pub state_is : (c d : CardState) → is_same_state c d ≡ true → c ≡ d
unfolding is_same_state
state_is c d h =
    let p = and_parts (are_same_allowances c.allowances d.allowances && is_same_live c.live d.live && (c.budget == d.budget)) (is_same_base c.base d.base) h in
    let q = and_parts (are_same_allowances c.allowances d.allowances && is_same_live c.live d.live) (c.budget == d.budget) p.0 in
    let r = and_parts (are_same_allowances c.allowances d.allowances) (is_same_live c.live d.live) q.0 in
    let allowances : c.allowances ≡ d.allowances = allowances_are c.allowances d.allowances r.0 in
    let live : c.live ≡ d.live = live_is c.live d.live r.1 in
    let budget : c.budget ≡ d.budget = eqb-true c.budget d.budget q.1 in
    let base : c.base ≡ d.base = base_is c.base d.base p.1 in
    λ i. record { base = base i; live = live i; budget = budget i; allowances = allowances i }

-- a state that is known is among those that were found
known_by : (c d : CardState) (ds : List CardState) (b : Bool) → is_same_state c d ≡ b → (b || is_known c ds) ≡ true → (is_known c ds ≡ true → Among c ds) → Among c (d ∷ ds)
known_by c d ds true e h rest = inl (state_is c d e)
known_by c d ds false e h rest = inr (rest h)

-- a state that is found known is among the known ones
pub known_among : (c : CardState) (ds : List CardState) → is_known c ds ≡ true → Among c ds
unfolding is_known
known_among c [] h = absurd (cc h)
known_among c (d ∷ ds) h = known_by c d ds (is_same_state c d) refl h (known_among c ds)
