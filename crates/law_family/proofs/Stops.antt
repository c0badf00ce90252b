-- Stops and items: the stop that is given hits the lone card as it hit the play, and items of others touch no
-- application of the family.
use Rattle.std.specs.Prelude.{◌≡◌, ℕ, ◌-◌, ◌≤◌, Bool, true, false, cond, nat_le, ◌==◌, List, [], ◌∷◌, ◌++◌, Option, Some, None, ⊤}
use Rattle.std.proofs.Common.{arith, refl, ap, ◌∙◌}
use Rattle.std.proofs.lemmas.Bool.{le-leb}
use Rattle.model_play.specs.model_device.specs.declared.device.Stop.TheVariants as stop
use Rattle.model_play.specs.model_device.specs.Bytes.{has_name, lookup, insert, remove}
use Rattle.model_play.specs.model_device.specs.Image.{Two}
use Rattle.model_play.specs.model_device.specs.Stopped.{cost, stands}
use Rattle.model_play.specs.model_device.specs.Card.{App, app_at_place}
use Rattle.model_play.specs.model_machine.specs.Chain.{Write, map_changed}
use Rattle.model_play.specs.model_card.specs.Items.{Change, Fixed, Created, Deleted, Item, Plain, Atomic, apps_after_items, StopAt, Stopped, with_item, in_flight, at_stop, write_items}
use Rattle.model_play.specs.model_card.specs.Manager.{Selected}
use Rattle.model_play.specs.Play.{Armed, ArmedCut, FailedWrite, hit_of}
use Rattle.model_play.specs.Given.{Event, Arrives, Departs, given_stop, events_of_items}
use Rattle.model_play.specs.Solo.{Solo, Heard, silent, hears, heard_before, hears_all, hits}
use Rattle.law_family.proofs.Agreement.{MapsAgree, agree_inserted, agree_removed, agree_beside, agree_left, agree_changed_app, agree_joined}
use Rattle.law_family.proofs.RunLemma.{WritesOn}
use Rattle.law_family.proofs.Sim.{hears_none}

-- ---- the stop that is given

-- a failed write falls within the writes that are made
abbrev pub FailsWithin : ℕ → Option FailedWrite → Type 0
FailsWithin m None = ⊤
FailsWithin m (Some w) = w.at ≤ m

hit_where : (b : Bool) (s : StopAt) (o : Option StopAt) → b ≡ true → cond b (Some s) o ≡ Some s
hit_where b s o h = ap (λ (c : Bool). cond c (Some s) o) h

no_hit_where : (b : Bool) (s : StopAt) (o : Option StopAt) → b ≡ false → cond b (Some s) o ≡ o
no_hit_where b s o h = ap (λ (c : Bool). cond c (Some s) o) h

cut_given : (b : Bool) (m k : ℕ) (x : List ℕ) → nat_le k m ≡ b
    → hits m (given_stop (ArmedCut k x) (cond b (Some (record { kind = stop.Off; at = k; left = x })) None)) ≡ cond b (Some (record { kind = stop.Off; at = k; left = x })) None
cut_given true m k x h = hit_where (nat_le k m) (record { kind = stop.Off; at = k; left = x }) None h
cut_given false m k x h = no_hit_where (nat_le k m) (record { kind = stop.Off; at = k; left = x }) None h

-- the lone card is hit by the very stop that hit the play
pub hits_given : (armed : Armed) (m : ℕ) (w : Option FailedWrite) → FailsWithin m w → hits m (given_stop armed (hit_of armed m w)) ≡ hit_of armed m w
hits_given armed m w h = grind (arith, hit_where, le-leb, cut_given)

-- ---- items of others

-- no static change among the items is one of the family
abbrev pub IsOther : List (List ℕ) → Item → Type 0
IsOther K Plain = ⊤
IsOther K (Atomic w (Fixed n ps)) = has_name n K ≡ false
IsOther K (Atomic w (Created n a)) = ⊤
IsOther K (Atomic w (Deleted n)) = ⊤

abbrev pub AreOthers : List (List ℕ) → List Item → Type 0
AreOthers K [] = ⊤
AreOthers K (i ∷ is) = IsOther K i × AreOthers K is

pub are_others_append : (K : List (List ℕ)) (is js : List Item) → AreOthers K is → AreOthers K js → AreOthers K (is ++ js)
are_others_append K [] js g h = h
are_others_append K (i ∷ is) js g h = (g.0, are_others_append K is js g.1 h)

pub writes_others : (K : List (List ℕ)) (ws : List Write) → WritesOn K false ws → AreOthers K (write_items ws)
writes_others K [] h = tt
writes_others K (w ∷ ws) h = (h.0, writes_others K ws h.1)

in_flight_others : (K : List (List ℕ)) (w : ℕ) (c : Change) (b : Bool) → IsOther K (Atomic w c) → AreOthers K (cond b (Atomic w c ∷ []) [])
in_flight_others K w c true h = (h, tt)
in_flight_others K w c false h = tt

plain_others : (K : List (List ℕ)) (b : Bool) (s : Stopped) → AreOthers K s.whole → AreOthers K (cond b (record { whole = []; owed = 0 }) (with_item Plain s)).whole
plain_others K true s h = tt
plain_others K false s h = (tt, h)

atomic_others : (K : List (List ℕ)) (b : Bool) (w : ℕ) (c : Change) (f s : Stopped) → IsOther K (Atomic w c) → AreOthers K f.whole → AreOthers K s.whole → AreOthers K (cond b f (with_item (Atomic w c) s)).whole
atomic_others K true w c f s i g h = g
atomic_others K false w c f s i g h = (i, h)

-- what is whole of them after a stop
pub whole_others : (K : List (List ℕ)) (is : List Item) (k : ℕ) (x : List ℕ) → AreOthers K is → AreOthers K (at_stop is k x).whole
whole_others K [] k x h = tt
whole_others K (Plain ∷ is) k x h = plain_others K (k == 1) (at_stop is (k - 1) x) (whole_others K is (k - 1) x h.1)
whole_others K (Atomic w c ∷ is) k x h =
    atomic_others K (nat_le k (cost Two w)) w c (in_flight w c k x) (at_stop is (k - cost Two w) x) h.0
    (in_flight_others K w c (stands Two w k x) h.0) (whole_others K is (k - cost Two w) x h.1)

-- ---- the lone card is given creations and deletions

-- after what was given the map still agrees, and nothing else has changed
pub record StillAgrees (K : List (List ℕ)) (t : Solo) (m : List (List ℕ × App)) (es : List Event) : Type 0 where
  pub map : List (List ℕ × App)
  pub heard : hears_all t es ≡ silent (record t { map = map })
  pub agree : MapsAgree K true m map

hears_first : (t s : Solo) (e : Event) (es : List Event) (d : List (List ℕ × App)) → hears t e ≡ silent s → hears_all s es ≡ silent (record s { map = d }) → hears_all t (e ∷ es) ≡ silent (record s { map = d })
unfolding hears_all
hears_first t s e es d f r = ap (λ (z : Heard). heard_before z (hears_all z.after es)) f ∙ ap (λ (z : Heard). heard_before (silent s) z) r

hears_arrival : (t : Solo) (n : List ℕ) (a : App) → hears t (Arrives n a) ≡ silent (record t { map = insert t.map n a })
unfolding hears
hears_arrival t n a = refl

hears_departure : (t : Solo) (n : List ℕ) → hears t (Departs n) ≡ silent (record t { map = remove t.map n })
unfolding hears
hears_departure t n = refl

-- one creation or deletion, of the family or not, and what is given after it
then_reported : (K : List (List ℕ)) (t : Solo) (s : Solo) (m : List (List ℕ × App)) (e : Event) (es : List Event) → hears t e ≡ silent s → s.selected ≡ t.selected → StillAgrees K s m es → StillAgrees K t m (e ∷ es)
then_reported K t s m e es f same r =
    record {
      map = r.map;
      heard = hears_first t s e es r.map f r.heard ∙ ap (λ (z : Option Selected). silent (record { map = r.map; selected = z })) same;
      agree = r.agree;
    }

creation_reported : (K : List (List ℕ)) (b : Bool) (t : Solo) (m : List (List ℕ × App)) (n : List ℕ) (a : App) (es : List Event) (last : List (List ℕ × App)) → has_name n K ≡ b → MapsAgree K true m t.map
    → ((s : Solo) → MapsAgree K true (insert m n a) s.map → StillAgrees K s last es) → StillAgrees K t last (cond b (Arrives n (app_at_place 0 a) ∷ []) [] ++ es)
creation_reported K true t m n a es last is h again =
    then_reported K t (record t { map = insert t.map n (app_at_place 0 a) }) last (Arrives n (app_at_place 0 a)) es (hears_arrival t n (app_at_place 0 a)) refl
    (again (record t { map = insert t.map n (app_at_place 0 a) }) (agree_inserted K true m t.map n a (app_at_place 0 a) refl h))
creation_reported K false t m n a es last is h again = again t (agree_joined K true (insert m n a) m t.map (agree_beside K true m n a is) h)

deletion_reported : (K : List (List ℕ)) (b : Bool) (t : Solo) (m : List (List ℕ × App)) (n : List ℕ) (es : List Event) (last : List (List ℕ × App)) → has_name n K ≡ b → MapsAgree K true m t.map
    → ((s : Solo) → MapsAgree K true (remove m n) s.map → StillAgrees K s last es) → StillAgrees K t last (cond b (Departs n ∷ []) [] ++ es)
deletion_reported K true t m n es last is h again =
    then_reported K t (record t { map = remove t.map n }) last (Departs n) es (hears_departure t n) refl
    (again (record t { map = remove t.map n }) (agree_removed K true m t.map n h))
deletion_reported K false t m n es last is h again = again t (agree_joined K true (remove m n) m t.map (agree_left K true m n is) h)

pub reported_alike : (K : List (List ℕ)) (is : List Item) (t : Solo) (m : List (List ℕ × App)) → AreOthers K is → MapsAgree K true m t.map → StillAgrees K t (apps_after_items m is) (events_of_items K is)
reported_alike K [] t m o h = record { map = t.map; heard = hears_none t; agree = h }
reported_alike K (Plain ∷ is) t m o h = reported_alike K is t m o.1 h
reported_alike K (Atomic w (Fixed n ps) ∷ is) t m o h =
    reported_alike K is t (map_changed m n (Some ps)) o.1
    (agree_joined K true (map_changed m n (Some ps)) m t.map (agree_changed_app K true m n ps (lookup m n) o.0) h)
reported_alike K (Atomic w (Created n a) ∷ is) t m o h =
    creation_reported K (has_name n K) t m n a (events_of_items K is) (apps_after_items (insert m n a) is) refl h (λ s g. reported_alike K is s (insert m n a) o.1 g)
reported_alike K (Atomic w (Deleted n) ∷ is) t m o h =
    deletion_reported K (has_name n K) t m n (events_of_items K is) (apps_after_items (remove m n) is) refl h (λ s g. reported_alike K is s (remove m n) o.1 g)
