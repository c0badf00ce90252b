-- Every chain of stops leads to one card.
use Rattle.std.proofs.Common.{◌≡◌, ℕ, ◌-◌, ◌<◌, Bool, true, false, cond, List, [], ◌∷◌, Option, Some, None, refl, sym, ◌∙◌, ap, subst, arith}
use Rattle.std.specs.Prelude.{⊤, nat_le}
use Rattle.std.proofs.lemmas.Bool.{leb-false}
use Rattle.model_play.specs.model_device.specs.declared.device.Stop.{Stop}
use Rattle.model_play.specs.model_device.specs.declared.device.Stop.TheVariants as stop
use Rattle.model_play.specs.model_device.specs.Image.{Journal, One}
use Rattle.model_play.specs.model_device.specs.Stopped.{stands}
use Rattle.model_play.specs.model_device.specs.Card.{Card}
use Rattle.model_play.specs.model_device.specs.Layout.{fault}
use Rattle.model_play.specs.model_device.specs.PowerUp.{Base, OnCard, AtFault, base_after_migration, base_of}
use Rattle.model_play.specs.model_card.specs.Items.{Item, moves, apps_after_items, StopAt, at_stop}
use Rattle.model_play.specs.model_card.specs.Commands.{Command}
use Rattle.model_play.specs.DeckGrammar.{DeckLine}
use Rattle.model_play.specs.DeckGrammar as line
use Rattle.model_play.specs.Given.{apps_on, apps_in}
use Rattle.model_play.specs.Play.{Armed, Unarmed, ArmedCut, Live, Warm, State, BeforePower, AfterPower, FailedWrite, step, card_line, line_after, hit_of, power_moves, power_live, power_after, stopped_power, play_at_power, is_card_line, Step}
use Rattle.law_recovery.specs.Chains.{after_line, stopped_by, stopped_line, after_stops, base_in, base_with, items_in, whole_items_in}
use Rattle.law_recovery.specs.Laws.{IsPowered, ChainLaw}
use Rattle.law_recovery.proofs.Rule.{past_all}
use Rattle.model_play.proofs.LineKinds.{past_power, StepKind, by_kind}

-- ---- power lines

-- a whole power line makes of both bases one card
record Heals (b c : Base) : Type 0 where
  base : base_after_migration b ≡ base_after_migration c
  live : power_live b ≡ power_live c

-- a whole power line leads to this card, or fault, before the migration
abbrev LeadsTo : Base → State → Type 0
LeadsTo b (BeforePower m g a) = (base_of (fault m) m ≡ b) × (a ≡ Unarmed)
LeadsTo b (AfterPower s) = Heals s.base b × (s.armed ≡ Unarmed)

healed : (b : Base) → Heals b b
healed b = record { base = refl; live = refl }

migrated_heals : (b : Base) → Heals (base_after_migration b) b
migrated_heals (OnCard c) = record { base = refl; live = refl }
migrated_heals (AtFault cause p) = record { base = refl; live = refl }

cond_heals : (t : Bool) (b : Base) → Heals (cond t (base_after_migration b) b) b
cond_heals true b = migrated_heals b
cond_heals false b = healed b

joined : (b c d : Base) → Heals b c → Heals c d → Heals b d
joined b c d h k = record { base = h.base ∙ k.base; live = h.live ∙ k.live }

stopped_heals : (s : Warm) (t : StopAt) (x : Bool) → Heals (stopped_power s t x).base s.base
stopped_heals s t true = healed s.base
stopped_heals s t false = cond_heals (stands One 1 (t.at - s.owed) t.left) s.base

stopped_unarmed : (s : Warm) (t : StopAt) (x : Bool) → (stopped_power s t x).armed ≡ Unarmed
stopped_unarmed s t true = refl
stopped_unarmed s t false = refl

-- a power line, whole or with a stop
power_leads : (b : Base) (s : Warm) (o : Option StopAt) → Heals s.base b → LeadsTo b (AfterPower (power_after s o))
power_leads b s None h = (joined (base_after_migration s.base) s.base b (migrated_heals s.base) h, refl)
power_leads b s (Some t) h = (joined (stopped_power s t (nat_le t.at s.owed)).base s.base b (stopped_heals s t (nat_le t.at s.owed)) h, stopped_unarmed s t (nat_le t.at s.owed))

found : (m : List (List ℕ)) (g : ℕ) (a : Armed) (b : Base) → base_of (fault m) m ≡ b → Heals (play_at_power m g a).base b
unfolding play_at_power
found m g a b e = subst (λ (c : Base). Heals (base_of (fault m) m) c) e (healed (base_of (fault m) m))

-- a power line with a stop
stop_leads : (b : Base) (n : ℕ) (k : Stop) (t : StopAt) (z : State) → LeadsTo b z → LeadsTo b (stopped_by k z (n, line.Power) t).after
unfolding step
stop_leads b n stop.Off t (BeforePower m g a) h =
    let s = play_at_power m g (ArmedCut t.at t.left) in
    power_leads b s (hit_of (ArmedCut t.at t.left) (power_moves s) None) (found m g (ArmedCut t.at t.left) b h.0)
stop_leads b n stop.Worn t (BeforePower m g a) h =
    let s = play_at_power m g a in
    power_leads b s (hit_of a (power_moves s) (Some (record { at = t.at; left = t.left }))) (found m g a b h.0)
stop_leads b n stop.Off t (AfterPower s) h =
    let r : Warm = record s { armed = ArmedCut t.at t.left } in
    power_leads b r (hit_of (ArmedCut t.at t.left) (power_moves r) None) h.0
stop_leads b n stop.Worn t (AfterPower s) h = power_leads b s (hit_of s.armed (power_moves s) (Some (record { at = t.at; left = t.left }))) h.0

stops_lead : (b : Base) (n : ℕ) (ts : List StopAt) (z : State) → LeadsTo b z → LeadsTo b (after_stops n ts z)
unfolding after_stops
stops_lead b n [] z h = h
stops_lead b n (t ∷ ts) z h = stops_lead b n ts (stopped_line z (n, line.Power) t).after (stop_leads b n t.kind t z h)

-- the whole power line at last
record Powered (b : Base) (z : State) : Type 0 where
  warm : Warm
  is : z ≡ AfterPower warm
  powered : IsPowered b warm

powered_by : (b : Base) (s : Warm) (a : Armed) → a ≡ Unarmed → Heals s.base b → Powered b (AfterPower (power_after s (hit_of a (power_moves s) None)))
powered_by b s a e h =
    record {
      warm = power_after s None;
      is = ap (λ (x : Armed). AfterPower (power_after s (hit_of x (power_moves s) None))) e;
      powered = record { base = h.base; owed = refl; live = h.live; armed = refl };
    }

power_at_last : (b : Base) (n : ℕ) (z : State) → LeadsTo b z → Powered b (after_line z (n, line.Power))
unfolding step
power_at_last b n (BeforePower m g a) h = powered_by b (play_at_power m g a) a h.1 (found m g a b h.0)
power_at_last b n (AfterPower s) h = powered_by b s s.armed h.1 h.0

-- ---- the line

no_items : (b : Base) → base_with b [] ≡ b
no_items (OnCard c) = refl
no_items (AtFault cause p) = refl

nothing_done : (b c : Base) → Heals b c → Heals b (base_with c [])
nothing_done b c h = subst (λ (d : Base). Heals b d) (sym (no_items c)) h

-- what is whole after a line of a running card
command_leads : (s : Warm) (c : Card) (r : Command) (k : ℕ) (x : List ℕ) (o : Option StopAt) → (o ≡ None → moves r.items < k) → ((t : StopAt) → o ≡ Some t → (at_stop r.items t.at t.left).whole ≡ (at_stop r.items k x).whole)
    → LeadsTo (base_with (OnCard c) (at_stop r.items k x).whole) (AfterPower (line_after s c r o))
command_leads s c r k x None past hit = grind (arith, past_all r.items k x (past refl))
command_leads s c r k x (Some t) past hit = grind (arith, (at_stop r.items t.at t.left).whole)

-- a cut that is armed
cut_none : (k m : ℕ) (x : List ℕ) (b : Bool) → nat_le k m ≡ b → cond {A = Option StopAt} b (Some (record { kind = stop.Off; at = k; left = x })) None ≡ None → m < k
cut_none k m x true e h = absurd (cc h)
cut_none k m x false e h = leb-false k m e

cut_some : (is : List Item) (k m : ℕ) (x : List ℕ) (b : Bool) (t : StopAt) → cond {A = Option StopAt} b (Some (record { kind = stop.Off; at = k; left = x })) None ≡ Some t → (at_stop is t.at t.left).whole ≡ (at_stop is k x).whole
cut_some is k m x true t h = let same : record { kind = stop.Off; at = k; left = x } ≡ t = cc h in ap (λ (u : StopAt). (at_stop is u.at u.left).whole) (sym same)
cut_some is k m x false t h = absurd (cc h)

failure_some : (is : List Item) (k : ℕ) (x : List ℕ) (t : StopAt) → Some (record { kind = stop.Worn; at = k; left = x }) ≡ Some t → (at_stop is t.at t.left).whole ≡ (at_stop is k x).whole
failure_some is k x t h = let same : record { kind = stop.Worn; at = k; left = x } ≡ t = cc h in ap (λ (u : StopAt). (at_stop is u.at u.left).whole) (sym same)

-- the failed write, and the stop that is armed, of a line with a stop of this kind
abbrev failed_by : Stop → ℕ → List ℕ → Option FailedWrite
failed_by stop.Off k x = None
failed_by stop.Worn k x = Some (record { at = k; left = x })

abbrev armed_by : Stop → ℕ → List ℕ → Armed → Armed
armed_by stop.Off k x a = ArmedCut k x
armed_by stop.Worn k x a = a

card_leads : (n : ℕ) (l : DeckLine) (b : Base) (o : ℕ) (j : Journal) (v : Live) (g : ℕ) (a : Armed) (kind : Stop) (k : ℕ) (x : List ℕ)
    → LeadsTo (base_with b (at_stop (card_line n l (past_power b o j v g a) v b None).items k x).whole) (card_line n l (past_power b o j v g (armed_by kind k x a)) v b (failed_by kind k x)).after
card_leads n l b o j v g a kind k x = grind (arith, command_leads, past_power, cut_none, cut_some, failure_some, healed, nothing_done)

-- a power line after the first one
repowered : (n : ℕ) (s : Warm) (k : Stop) (t : StopAt) → LeadsTo (base_with s.base []) (stopped_by k (AfterPower s) (n, line.Power) t).after
unfolding step
repowered n s stop.Off t =
    let r : Warm = record s { armed = ArmedCut t.at t.left } in
    power_leads (base_with s.base []) r (hit_of (ArmedCut t.at t.left) (power_moves r) None) (nothing_done s.base s.base (healed s.base))
repowered n s stop.Worn t = power_leads (base_with s.base []) s (hit_of s.armed (power_moves s) (Some (record { at = t.at; left = t.left }))) (nothing_done s.base s.base (healed s.base))

after_power_leads : (n : ℕ) (l : DeckLine) (s : Warm) (kind : Stop) (t : StopAt) → is_card_line l ≡ true → LeadsTo (base_with s.base (whole_items_in (AfterPower s) (n, l) t)) (stopped_by kind (AfterPower s) (n, l) t).after
unfolding step
after_power_leads n line.Power s kind t h = repowered n s kind t
after_power_leads n (line.Sent sent) s stop.Off t h = card_leads n (line.Sent sent) s.base s.owed s.by s.live s.budget s.armed stop.Off t.at t.left
after_power_leads n (line.Sent sent) s stop.Worn t h = card_leads n (line.Sent sent) s.base s.owed s.by s.live s.budget s.armed stop.Worn t.at t.left
after_power_leads n _ s kind t h = absurd (cc h)

-- lines before the first power line, and that line
first_powered : (n : ℕ) (m : List (List ℕ)) (g : ℕ) (a : Armed) (k : Stop) (t : StopAt) → LeadsTo (base_with (base_of (fault m) m) []) (stopped_by k (BeforePower m g a) (n, line.Power) t).after
unfolding step
first_powered n m g a stop.Off t =
    let s = play_at_power m g (ArmedCut t.at t.left) in
    power_leads (base_with (base_of (fault m) m) []) s (hit_of (ArmedCut t.at t.left) (power_moves s) None) (found m g (ArmedCut t.at t.left) (base_with (base_of (fault m) m) []) (sym (no_items (base_of (fault m) m))))
first_powered n m g a stop.Worn t =
    let s = play_at_power m g a in
    power_leads (base_with (base_of (fault m) m) []) s (hit_of a (power_moves s) (Some (record { at = t.at; left = t.left }))) (found m g a (base_with (base_of (fault m) m) []) (sym (no_items (base_of (fault m) m))))

before_power_leads : (n : ℕ) (l : DeckLine) (m : List (List ℕ)) (g : ℕ) (a : Armed) (kind : Stop) (t : StopAt) → is_card_line l ≡ true
    → LeadsTo (base_with (base_of (fault m) m) (whole_items_in (BeforePower m g a) (n, l) t)) (stopped_by kind (BeforePower m g a) (n, l) t).after
unfolding step
before_power_leads n line.Power m g a kind t h = first_powered n m g a kind t
before_power_leads n (line.Sent sent) m g a stop.Off t h = (sym (no_items (base_of (fault m) m)), refl)
before_power_leads n (line.Sent sent) m g a stop.Worn t h = (sym (no_items (base_of (fault m) m)), refl)
before_power_leads n _ m g a kind t h = absurd (cc h)

line_leads : (z : State) (l : ℕ × DeckLine) (t : StopAt) → is_card_line l.1 ≡ true → LeadsTo (base_with (base_in z) (whole_items_in z l t)) (stopped_line z l t).after
line_leads (BeforePower m g a) l t h = before_power_leads l.0 l.1 m g a t.kind t h
line_leads (AfterPower s) l t h = after_power_leads l.0 l.1 s t.kind t h

-- ---- applications

migrated_apps : (b : Base) → apps_on (base_after_migration b) ≡ apps_on b
migrated_apps (OnCard c) = refl
migrated_apps (AtFault cause p) = refl

-- a line at a fault has no items
abbrev NoneAtFault : Base → List Item → Type 0
NoneAtFault (OnCard c) is = ⊤
NoneAtFault (AtFault cause p) is = is ≡ []

none_on : (b : Base) → NoneAtFault b []
none_on (OnCard c) = tt
none_on (AtFault cause p) = refl

kind_none : {z : State} {n : ℕ} {l : DeckLine} {u : Step} → StepKind None z n l u → NoneAtFault (base_in z) u.items
kind_none h = grind (arith, none_on)

none_in : (z : State) (l : ℕ × DeckLine) → NoneAtFault (base_in z) (items_in z l)
none_in z l = kind_none (by_kind z l None)

done_apps : (b : Base) (is : List Item) (k : ℕ) (x : List ℕ) → NoneAtFault b is → apps_on (base_with b (at_stop is k x).whole) ≡ apps_after_items (apps_on b) (at_stop is k x).whole
done_apps (OnCard c) is k x h = refl
done_apps (AtFault cause p) is k x h = ap (λ (js : List Item). apps_after_items [] (at_stop js k x).whole) (sym h)

-- ---- the law

-- every chain of stops leads to one card
pub chain_law : ChainLaw
chain_law n z l t ts h =
    let b : Base = base_with (base_in z) (whole_items_in z l t) in
    let p : Powered b (after_line (after_stops n ts (stopped_line z l t).after) (n, line.Power)) =
    power_at_last b n (after_stops n ts (stopped_line z l t).after) (stops_lead b n ts (stopped_line z l t).after (line_leads z l t h))
    in
    record {
      apps = ap apps_in p.is ∙ ap apps_on p.powered.base ∙ migrated_apps b ∙ done_apps (base_in z) (items_in z l) t.at t.left (none_in z l);
      warm = p.warm;
      is = p.is;
      powered = p.powered;
    }
