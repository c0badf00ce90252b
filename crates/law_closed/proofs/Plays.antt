-- Over a play: no application outside the family can ever delegate, so the pairs of each line are the family's.
use Rattle.std.proofs.Common.{◌≡◌, ◌⊎◌, ℕ, zero, suc, Bool, true, false, cond, List, [], ◌∷◌, take, drop, Option, Some, None, refl, sym, subst, ◌∙◌, inl, inr, arith}
use Rattle.std.specs.Prelude.{⊤}
use Rattle.std.specs.List.{AllByRecursion}
use Rattle.law_family.specs.model_device.specs.Bytes.{has_name, lookup, insert}
use Rattle.law_family.specs.model_device.specs.Card.{App, Card}
use Rattle.law_family.specs.model_device.specs.Image.{Journal}
use Rattle.law_family.specs.model_device.specs.PowerUp.{OnCard}
use Rattle.law_family.specs.model_device.proofs.MapLemmas.{each_found, each_inserted, each_removed}
use Rattle.law_family.specs.model_machine.specs.Chain.{with_pieces, changed_app}
use Rattle.law_family.specs.model_card.specs.Items.{Fixed, Created, Deleted, Item, Plain, Atomic, moves, apps_after_change, apps_after_items, StopAt, at_stop}
use Rattle.law_family.specs.model_card.specs.Manager.{Selected, SessionState, Route}
use Rattle.law_family.specs.model_play.specs.DeckGrammar.{DeckLine}
use Rattle.law_family.specs.model_play.specs.DeckGrammar as line
use Rattle.law_family.specs.model_play.specs.Family.{ClosedPairs, Closed, routes_in, selects_in, command_of, live_in, is_own_command, is_own}
use Rattle.law_family.specs.model_play.specs.Given.{apps_on, apps_in, is_power, first_apps}
use Rattle.law_family.specs.model_play.specs.Laws.{creations_among}
use Rattle.law_family.specs.model_play.specs.Play.{Armed, Live, Running, Warm, State, BeforePower, AfterPower, Step, FailedWrite, hit_of, power_moves, command_step, line_command, step, plays, first_failure, start}
use Rattle.law_family.proofs.AfterPowerLines.{powered}
use Rattle.law_family.proofs.PlayLaw.{isolation_law}
use Rattle.law_closed.specs.Delegations.{can_delegate, NoneOutsideCan}
use Rattle.law_closed.specs.Laws.{front_of_play, NoneNewCan, NoPairs, OwnPairsStay, ClosedByCodeLaw}
use Rattle.law_closed.proofs.Commands.{PairsOf, no_pairs, line_pairs}
use Rattle.law_family.specs.model_play.proofs.LineKinds.{past_power, StepKind, Early, Quiet, Powers, Sends, by_kind}

-- whether the first power line was played
abbrev IsAfterPower : State → Type 0
IsAfterPower (BeforePower m b a) = ⊥
IsAfterPower (AfterPower s) = ⊤

abbrev IsBeforePower : State → Type 0
IsBeforePower (BeforePower m b a) = ⊤
IsBeforePower (AfterPower s) = ⊥

-- ---- the applications of a card

abbrev Can : List (List ℕ) → List ℕ × App → Type 0
Can K e = has_name e.0 K ≡ false → can_delegate e.1 ≡ false

changed_can : (K : List (List ℕ)) (m : List (List ℕ × App)) (n : List ℕ) (ps : List (ℕ × List ℕ)) (o : Option App) → lookup m n ≡ o → NoneOutsideCan K m → NoneOutsideCan K (changed_app m n ps o)
changed_can K m n ps None e h = h
changed_can K m n ps (Some a) e h = each_inserted (Can K) m n (with_pieces ps a) (each_found (Can K) m n a h e) h

-- the applications after items, of which none that is created can
items_can : (K : List (List ℕ)) (m : List (List ℕ × App)) (is : List Item) → NoneOutsideCan K m → NoneOutsideCan K (creations_among is) → NoneOutsideCan K (apps_after_items m is)
items_can K m [] h new = h
items_can K m (Plain ∷ is) h new = items_can K m is h new
items_can K m (Atomic w (Fixed n ps) ∷ is) h new = items_can K (changed_app m n ps (lookup m n)) is (changed_can K m n ps (lookup m n) refl h) new
items_can K m (Atomic w (Created n a) ∷ is) h new = items_can K (insert m n a) is (each_inserted (Can K) m n a new.0 h) new.1
items_can K m (Atomic w (Deleted n) ∷ is) h new = items_can K (apps_after_change (Deleted n) m) is (each_removed (Can K) m n h) new

-- ---- a line after the first power line

record LineCalls (K : List (List ℕ)) (t : Step) : Type 0 where
  pairs : PairsOf K (is_own K t) t.pairs
  next : NoneOutsideCan K (creations_among t.whole) → NoneOutsideCan K (apps_in t.after)
  after : IsAfterPower t.after

command_calls : (K : List (List ℕ)) (n : ℕ) (l : DeckLine) (c : Card) (o : ℕ) (j : Journal) (session_state : SessionState) (g : ℕ) (a : Armed) (t : Option StopAt) → NoneOutsideCan K c.apps
    → let r = line_command c session_state g l in LineCalls K (command_step n l (past_power (OnCard c) o j (Running session_state) g a) c r t)
command_calls K n l c o j session_state g a None h =
    let r = line_command c session_state g l in
    record { pairs = line_pairs K c session_state g l h; next = λ new. items_can K c.apps r.items h new; after = tt }
command_calls K n l c o j session_state g a (Some t) h =
    let r = line_command c session_state g l in
    record { pairs = line_pairs K c session_state g l h; next = λ new. items_can K c.apps (at_stop r.items t.at t.left).whole h new; after = tt }

kind_calls : {w : Option FailedWrite} {s : Warm} {n : ℕ} {l : DeckLine} {u : Step} (K : List (List ℕ)) → StepKind w (AfterPower s) n l u → NoneOutsideCan K (apps_on s.base) → LineCalls K u
kind_calls K (Quiet p q) h = record { pairs = no_pairs K _ [] refl; next = λ new. h; after = tt }
kind_calls K (Powers (AfterPower s)) h =
    let t = hit_of s.armed (power_moves s) _ in
    record { pairs = no_pairs K _ [] refl; next = λ new. subst (NoneOutsideCan K) (sym (powered K s t).map) h; after = tt }
kind_calls {w} K (Sends {n = n} {o = o} {g = g} {j = j} {a = a} k c session_state) h =
    command_calls K n (line.Sent k) c o j session_state g a (hit_of a (moves (line_command c session_state g (line.Sent k)).items) w) h

-- ---- a line before it, or that line

record LineWaits (u : Step) : Type 0 where
  power : is_power u.line ≡ false
  none : u.pairs ≡ []
  before : IsBeforePower u.after

record LineFinds (u : Step) : Type 0 where
  power : is_power u.line ≡ true
  none : u.pairs ≡ []
  after : IsAfterPower u.after

kind_finds : {w : Option FailedWrite} {z : State} {n : ℕ} {l : DeckLine} {u : Step} → StepKind w z n l u → IsBeforePower z → LineWaits u ⊎ LineFinds u
kind_finds (Early p) before = inl (record { power = p; none = refl; before = tt })
kind_finds (Quiet p q) before = absurd before
kind_finds (Powers z) before = inr (record { power = refl; none = refl; after = tt })
kind_finds (Sends k c session_state) before = absurd before

-- ---- all lines

abbrev EachCalls : List (List ℕ) → List Step → Type 0
EachCalls K [] = ⊤
EachCalls K (t ∷ ts) = PairsOf K (is_own K t) t.pairs × EachCalls K ts

step_calls : (K : List (List ℕ)) (z : State) (l : ℕ × DeckLine) (w : Option FailedWrite) → IsAfterPower z → NoneOutsideCan K (apps_in z) → LineCalls K (step z l w)
step_calls K (BeforePower m b a) l w after h = absurd after
step_calls K (AfterPower s) l w after h = kind_calls K (by_kind (AfterPower s) l w) h

step_finds : (z : State) (l : ℕ × DeckLine) (w : Option FailedWrite) → IsBeforePower z → LineWaits (step z l w) ⊎ LineFinds (step z l w)
step_finds z l w before = kind_finds (by_kind z l w) before

each_after : (K : List (List ℕ)) (n : ℕ) (ls : List (ℕ × DeckLine)) (ws : List (Option FailedWrite)) (z : State) → IsAfterPower z → NoneOutsideCan K (apps_in z) → NoneNewCan K (take n (plays z ls ws)) → EachCalls K (take n (plays z ls ws))
unfolding plays
each_after K zero ls ws z after h new = tt
each_after K (suc n) [] ws z after h new = tt
each_after K (suc n) (l ∷ ls) ws z after h new =
    let u = step z l (first_failure ws) in
    let k : LineCalls K u = step_calls K z l (first_failure ws) after h in
    (k.pairs, each_after K n ls (drop 1 ws) u.after k.after (k.next new.0) new.1)

each_before : (K : List (List ℕ)) (n : ℕ) (ls : List (ℕ × DeckLine)) (ws : List (Option FailedWrite)) (z : State) → IsBeforePower z → NoneOutsideCan K (first_apps (take n (plays z ls ws))) → NoneNewCan K (take n (plays z ls ws)) → EachCalls K (take n (plays z ls ws))
unfolding plays
each_before K zero ls ws z before first new = tt
each_before K (suc n) [] ws z before first new = tt
each_before K (suc n) (l ∷ ls) ws z before first new =
    let u = step z l (first_failure ws) in
    let us = take n (plays u.after ls (drop 1 ws)) in
    elim (step_finds z l (first_failure ws) before) [
      | inl h ↦
          let later : NoneOutsideCan K (first_apps us) = subst (λ (b : Bool). NoneOutsideCan K (cond b (apps_in u.after) (first_apps us))) h.power first in
          (no_pairs K (is_own K u) u.pairs h.none, each_before K n ls (drop 1 ws) u.after h.before later new.1)
      | inr h ↦
          let here : NoneOutsideCan K (apps_in u.after) = subst (λ (b : Bool). NoneOutsideCan K (cond b (apps_in u.after) (first_apps us))) h.power first in
          (no_pairs K (is_own K u) u.pairs h.none, each_after K n ls (drop 1 ws) u.after h.after here new.1)
    ]

-- ---- the laws

-- no command is one of the empty family
none_selects : (o : Option Selected) → selects_in [] o ≡ false
none_selects None = refl
none_selects (Some s) = refl

none_routes : (session_state : SessionState) (r : Route) → routes_in [] session_state r ≡ false
none_routes session_state r = grind (arith, none_selects)

none_own_command : (v : Live) (o : Option (List ℕ)) → is_own_command [] v o ≡ false
none_own_command v o = grind (arith, none_routes)

none_at_all : (ts : List Step) → EachCalls [] ts → NoPairs ts
none_at_all [] h = tt
none_at_all (t ∷ ts) h = (h.0.strangers (none_own_command (live_in t.before) (command_of t.line)), none_at_all ts h.1)

closed_none : (K : List (List ℕ)) (ts : List Step) → NoPairs ts → Closed K ts
closed_none K [] h = tt
closed_none K (t ∷ ts) h = (subst (ClosedPairs K) (sym h.0) tt, closed_none K ts h.1)

stays_closed : (K : List (List ℕ)) (ps : List (List ℕ × List ℕ)) → AllByRecursion (λ p. has_name p.0 K ≡ true) ps → AllByRecursion (λ p. has_name p.1 K ≡ true) ps → ClosedPairs K ps
stays_closed K [] g h = tt
stays_closed K (p ∷ ps) g h = (g.0 ∙ sym h.0, stays_closed K ps g.1 h.1)

line_closed : (K : List (List ℕ)) (t : Step) (own : Bool) → is_own K t ≡ own → PairsOf K (is_own K t) t.pairs → (is_own K t ≡ true → AllByRecursion (λ p. has_name p.1 K ≡ true) t.pairs) → ClosedPairs K t.pairs
line_closed K t true e h stay = stays_closed K t.pairs h.callers (stay e)
line_closed K t false e h stay = subst (ClosedPairs K) (sym (h.strangers e)) tt

closed_own : (K : List (List ℕ)) (ts : List Step) → EachCalls K ts → OwnPairsStay K ts → Closed K ts
closed_own K [] h stay = tt
closed_own K (t ∷ ts) h stay = (line_closed K t (is_own K t) refl h.0 stay.0, closed_own K ts h.1 stay.1)

-- a family is closed if no application outside it can ever delegate
pub closed_by_code_law : ClosedByCodeLaw
closed_by_code_law ls m ws may n =
    let us = front_of_play ls m ws n in
    record {
      all = λ can.
          let none : NoPairs us = none_at_all us (each_before [] n ls ws (start m) tt can.first can.created) in
          record { none = none; closed = λ K. closed_none K us none; isolated = λ K. (isolation_law ls m ws may n).family K (closed_none K us none) };
      own = λ K can stay.
          let closed : Closed K us = closed_own K us (each_before K n ls ws (start m) tt can.first can.created) stay in
          record { closed = closed; isolated = (isolation_law ls m ws may n).family K closed };
    }
