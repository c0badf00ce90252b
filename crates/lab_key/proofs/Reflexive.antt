-- What is compared with itself is the same.
use Rattle.std.proofs.Common.{◌≡◌, ℕ, true, List, [], ◌∷◌, Option, Some, None, refl}
use Rattle.std.specs.Prelude.{◌==◌, bytes_eq}
use Rattle.std.proofs.lemmas.Bool.{eq-eqb}
use Rattle.law_explore.specs.model_device.specs.Card.{App}
use Rattle.law_explore.specs.model_device.specs.PowerUp.{Base, OnCard, AtFault}
use Rattle.law_explore.specs.model_device.specs.Words.{cause_text}
use Rattle.law_explore.specs.model_card.specs.declared.card.Sizes.{Sizes}
use Rattle.law_explore.specs.model_card.specs.Manager.{Selected, Got, Open}
use Rattle.law_explore.specs.model_play.specs.Play.{Live, Running, Unpowered, Muted}
use Rattle.law_explore.specs.States.{is_same_app, are_same_apps, is_same_base, is_same_selection, are_same_sizes, is_same_got, is_same_load, is_same_live}
use Rattle.lab_key.proofs.SameSessions.{both, equal_bytes}

pub bytes_self : (a : List ℕ) → bytes_eq a a ≡ true
bytes_self a = equal_bytes a a refl

pub self : (n : ℕ) → (n == n) ≡ true
self n = eq-eqb n n refl

app_self : (a : App) → is_same_app a a ≡ true
app_self a =
    both _ _ (both _ _ (both _ _ (both _ _ (bytes_self a.fixed) (self a.place)) (self a.session)) (self a.deny))
    (both _ _ (both _ _ (bytes_self a.code) (bytes_self a.dir)) (bytes_self a.fci))

apps_self : (es : List (List ℕ × App)) → are_same_apps es es ≡ true
apps_self [] = refl
apps_self (e ∷ es) = both _ _ (both _ _ (bytes_self e.0) (app_self e.1)) (apps_self es)

pub base_self : (b : Base) → is_same_base b b ≡ true
base_self (OnCard c) = both _ _ (both _ _ (self c.size) (self c.layout)) (apps_self c.apps)
base_self (AtFault cause place) = both _ _ (bytes_self (cause_text cause)) (self place)

selection_self : (s : Option Selected) → is_same_selection s s ≡ true
selection_self None = refl
selection_self (Some s) = both _ _ (bytes_self s.name) (bytes_self s.session)

sizes_self : (s : Sizes) → are_same_sizes s s ≡ true
sizes_self s =
    both _ _ (both _ _ (both _ _ (both _ _ (both _ _ (both _ _ (self s.code) (self s.fixed)) (self s.init)) (self s.session)) (self s.dir)) (self s.fci)) (self s.deny)

got_self : (g : Got) → is_same_got g g ≡ true
got_self g = both _ _ (both _ _ (both _ _ (bytes_self g.code) (bytes_self g.init)) (bytes_self g.dir)) (bytes_self g.fci)

load_self : (o : Option Open) → is_same_load o o ≡ true
load_self None = refl
load_self (Some o) = both _ _ (both _ _ (sizes_self o.site.sizes) (self o.site.place)) (got_self o.got)

pub live_self : (l : Live) → is_same_live l l ≡ true
live_self Unpowered = refl
live_self Muted = refl
live_self (Running s) = both _ _ (selection_self s.selected) (load_self s.load)
