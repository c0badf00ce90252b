-- The relation between a state of a play and a card that holds one family alone, and what one line is to keep of it.
use Rattle.std.specs.Prelude.{◌≡◌, ℕ, Bool, true, cond, ◌||◌, List, [], ◌∷◌, ◌++◌, bytes_eq, Option, Some, None, ⊤}
use Rattle.std.proofs.Common.{refl, ap, sym, ◌∙◌}
use Rattle.std.proofs.lemmas.List.{append_assoc}
use Rattle.model_play.specs.model_device.specs.Bytes.{has_name, lookup}
use Rattle.model_play.specs.model_device.specs.Card.{App}
use Rattle.model_play.specs.model_card.specs.Items.{Item, StopAt}
use Rattle.model_play.specs.model_card.specs.Manager.{Selected}
use Rattle.model_play.specs.Play.{Live, Running, Unpowered, Muted, State, BeforePower, AfterPower, LineResult, Step, static_of}
use Rattle.model_play.specs.model_device.specs.PowerUp.{Base, OnCard, AtFault}
use Rattle.model_play.specs.Family.{live_in, is_own}
use Rattle.model_play.specs.Given.{Event, Leaves, apps_in, events_of}
use Rattle.model_play.specs.Solo.{Solo, Heard, silent, hears, heard_before, hears_all}
use Rattle.model_play.specs.View.{is_seen, results_if, rest_of, work_if}
use Rattle.law_family.proofs.Agreement.{bare, MapsAgree}
use Rattle.model_play.specs.model_device.proofs.MapLemmas.{name_is_itself}
use Rattle.std.proofs.lemmas.Bool.{or_right}

-- ---- the relation

-- the selection, if it is the family's
abbrev pub own_of : List (List ℕ) → Option Selected → Option Selected
own_of K None = None
own_of K (Some s) = cond (has_name s.name K) (Some s) None

abbrev pub own_selected : List (List ℕ) → Live → Option Selected
own_selected K (Running session_state) = own_of K session_state.selected
own_selected K Unpowered = None
own_selected K Muted = None

-- a card that runs is one
abbrev pub IsRunnable : Live → Base → Type 0
IsRunnable (Running session_state) (OnCard c) = ⊤
IsRunnable (Running session_state) (AtFault cause p) = ⊥
IsRunnable Unpowered base = ⊤
IsRunnable Muted base = ⊤

-- a play after its first power line
abbrev pub IsWarm : State → Type 0
IsWarm (BeforePower m b a) = ⊥
IsWarm (AfterPower s) = IsRunnable s.live s.base

-- The card of its own has the family's applications of the play's card, and the selection if it is the family's.
pub record Simulates (K : List (List ℕ)) (s : State) (t : Solo) : Type 0 where
  pub warm : IsWarm s
  pub map : MapsAgree K true (apps_in s) t.map
  pub selected : t.selected ≡ own_selected K (live_in s)

-- What a line with these events keeps, by the tests of whether its result is seen and whether it is the family's own:
-- the relation, and that both sides have equal results and work.
pub record KeepsSimulation (K : List (List ℕ)) (t : Solo) (u : Step) (es : List Event) (seen own : Bool) : Type 0 where
  pub sim : Simulates K u.after (hears_all t es).after
  pub answer : (hears_all t es).answer ≡ results_if seen u.result
  pub work : (hears_all t es).work ≡ work_if own u

abbrev pub LineKeepsSimulation : List (List ℕ) → Solo → Step → Type 0
LineKeepsSimulation K t u = KeepsSimulation K t u (events_of K u u.line) (is_seen K u u.line) (is_own K u)

-- ---- events in a row

pub hears_all_append : (t : Solo) (es fs : List Event) → hears_all t (es ++ fs) ≡ heard_before (hears_all t es) (hears_all (hears_all t es).after fs)
unfolding hears_all
hears_all_append t [] fs = refl
hears_all_append t (e ∷ es) fs =
    let h = hears t e in
    let r = hears_all h.after es in
    let s = hears_all r.after fs in
    ap (λ (z : Heard). heard_before h z) (hears_all_append h.after es fs)
    ∙ (ap (λ (z : List LineResult). record { after = s.after; answer = z; work = h.work ++ (r.work ++ s.work) }) (sym (append_assoc h.answer r.answer s.answer))
    ∙ ap (λ (z : List (List Item × Option StopAt)). record { after = s.after; answer = (h.answer ++ r.answer) ++ s.answer; work = z }) (sym (append_assoc h.work r.work s.work)))

pub hears_none : (t : Solo) → hears_all t [] ≡ silent t
unfolding hears_all
hears_none t = refl

pub hears_leave : (t : Solo) → hears_all t (Leaves ∷ []) ≡ silent (record t { selected = None })
unfolding hears_all hears
hears_leave t = refl

-- ---- what a family's names have

static_of_bare : (o : Option App) → static_of (bare o) ≡ static_of o
static_of_bare None = refl
static_of_bare (Some a) = refl

pub static_alike : (o p : Option App) → bare o ≡ bare p → static_of o ≡ static_of p
static_alike o p e = sym (static_of_bare o) ∙ (ap static_of e ∙ static_of_bare p)

rest_from : (ks : List (List ℕ)) (m d : List (List ℕ × App)) → MapsAgree ks true m d → rest_of ks m ≡ rest_of ks d
rest_from [] m d h = refl
rest_from (k ∷ ks) m d h =
    let first : static_of (lookup m k) ≡ static_of (lookup d k) = static_alike (lookup m k) (lookup d k) (h k (ap (λ (b : Bool). b || has_name k ks) (name_is_itself k))) in
    let others : rest_of ks m ≡ rest_of ks d = rest_from ks m d (λ j on. h j (or_right (bytes_eq k j) (has_name j ks) on)) in
    ap (λ (z : LineResult). z ∷ rest_of ks m) first ∙ ap (λ (z : List LineResult). static_of (lookup d k) ∷ z) others

-- the static bytes of the family are equal if the maps agree
pub rest_alike : (K : List (List ℕ)) (m d : List (List ℕ × App)) → MapsAgree K true m d → rest_of K m ≡ rest_of K d
rest_alike K m d h = rest_from K m d h
