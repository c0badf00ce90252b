-- No new application has a stale byte, for every front of a play.
use Rattle.std.specs.Prelude.{◌≡◌, ℕ, zero, suc, Bool, true, false, nat_le, List, [], ◌∷◌, take, drop, Option, Some, None, ⊤}
use Rattle.std.proofs.Common.{refl, ap, sym, subst, ◌∙◌, inl}
use Rattle.model_play.specs.model_device.specs.declared.device.Stop.{Stop}
use Rattle.model_play.specs.model_device.specs.declared.device.Stop.TheVariants as stop
use Rattle.model_play.specs.model_device.specs.Image.{Journal}
use Rattle.model_play.specs.model_device.specs.Card.{Card}
use Rattle.model_play.specs.model_card.specs.Items.{Item, moves, StopAt, at_stop}
use Rattle.model_play.specs.model_card.specs.Manager.{SessionState}
use Rattle.model_play.specs.Play.{Armed, Live, Running, Unpowered, Muted, Warm, State, BeforePower, AfterPower, Step, command_step, select_bytes, delete_bytes, load_commands, line_command, hit_of, live_after, FailedWrite, step, power_after, stopped_power, power_live, play_at_power, plays, first_failure, start}
use Rattle.model_play.specs.model_device.specs.PowerUp.{Base, OnCard, AtFault}
use Rattle.model_play.specs.model_card.specs.Commands.{Command}
use Rattle.model_play.specs.Given.{is_power, apps_in}
use Rattle.model_play.specs.Laws.{Sent, sections_after_commands, creations_of_commands, accepted_commands, bytes_of, accepted_commands_on, accepted_commands_in, kept_sent, creations_among, without_places, AllAreIn, KeepsFresh, NoStaleByte}
use Rattle.model_play.specs.DeckGrammar.{DeckCommand, DeckLine}
use Rattle.model_play.specs.DeckGrammar as line
use Rattle.model_play.proofs.LineKinds.{past_power, IsUnheard, StepKind, Early, Quiet, Powers, Sends, by_kind, unheard_bytes}
use Rattle.law_family.proofs.LoadCommands.{load_front, create_bytes, front_fillers}
use Rattle.law_family.proofs.FreshCommands.{load_sent, AllFresh, send_fresh, command_all_fresh}
use Rattle.law_family.proofs.CreationLast.{LastCreates, created_stands, whole_last, command_last, send_last}

-- what was sent is what the open load of a running card has
abbrev SentOn : Option Sent → Live → Type 0
SentOn s (Running session_state) = s ≡ load_sent session_state.load
SentOn s Unpowered = ⊤
SentOn s Muted = ⊤

abbrev SentIn : Option Sent → State → Type 0
SentIn s (BeforePower m b a) = ⊤
SentIn s (AfterPower w) = SentOn s w.live

-- a line and what was sent after it
record FreshStep (s : Option Sent) (u : Step) : Type 0 where
  keeps : KeepsFresh s u
  next : SentIn (kept_sent (is_power u.line) u.stop (sections_after_commands s (accepted_commands_in u.before u.line))) u.after

stopped_sent : (s : Option Sent) (k : Stop) → SentOn s (live_after k)
stopped_sent s stop.Off = tt
stopped_sent s stop.Worn = tt

-- ---- power lines

power_live_sent : (b : Base) → SentOn None (power_live b)
power_live_sent (OnCard c) = refl
power_live_sent (AtFault cause p) = tt

stopped_power_sent : (s : Warm) (t : StopAt) (x : Bool) → SentOn None (stopped_power s t x).live
stopped_power_sent s t true = stopped_sent None t.kind
stopped_power_sent s t false = stopped_sent None t.kind

power_after_sent : (s : Warm) (t : Option StopAt) → SentOn None (power_after s t).live
power_after_sent s None = power_live_sent s.base
power_after_sent s (Some t) = stopped_power_sent s t (nat_le t.at s.owed)

-- ---- lines that send nothing

none_taken : (v : Live) (b : Base) (g : ℕ) (l : DeckLine) → IsUnheard l v b → accepted_commands_on v b g l ≡ []
unfolding accepted_commands
none_taken (Running session_state) (OnCard c) g l h = ap (λ (bs : List (List ℕ)). accepted_commands c session_state g bs) (unheard_bytes l c session_state h)
none_taken (Running session_state) (AtFault cause p) g l h = refl
none_taken Unpowered b g l h = refl
none_taken Muted b g l h = refl

-- a step that makes nothing, and after which as much was sent
nothing_fresh : (s : Option Sent) (u : Step) → accepted_commands_in u.before u.line ≡ [] → u.items ≡ [] → u.whole ≡ [] → SentIn (kept_sent (is_power u.line) u.stop s) u.after → FreshStep s u
nothing_fresh s u e items whole next =
    record {
      keeps = record {
        made = ap (λ (is : List Item). without_places (creations_among is)) items ∙ sym (ap (λ (bs : List (List ℕ)). creations_of_commands s bs) e);
        stands = subst (λ (is : List Item). AllAreIn (apps_in u.after) (creations_among is)) (sym whole) tt;
      };
      next = subst (λ (bs : List (List ℕ)). SentIn (kept_sent (is_power u.line) u.stop (sections_after_commands s bs)) u.after) (sym e) next;
    }

-- ---- lines of commands

command_step_fresh : (n : ℕ) (l : DeckLine) (c : Card) (o : ℕ) (j : Journal) (session_state : SessionState) (g : ℕ) (a : Armed) (r : Command) (t : Option StopAt) (s : Option Sent)
    → is_power l ≡ false → AllFresh session_state r (accepted_commands c session_state g (bytes_of l)) → LastCreates r.items → s ≡ load_sent session_state.load → FreshStep s (command_step n l (past_power (OnCard c) o j (Running session_state) g a) c r t)
command_step_fresh n l c o j session_state g a r None s p h last e =
    let bs = accepted_commands c session_state g (bytes_of l) in
    record {
      keeps = record { made = h.made ∙ sym (ap (λ (z : Option Sent). creations_of_commands z bs) e); stands = created_stands r.items c.apps last };
      next = subst (λ (x : Bool). SentOn (kept_sent x None (sections_after_commands s bs)) (Running r.session_state)) (sym p) (ap (λ (z : Option Sent). sections_after_commands z bs) e ∙ sym h.sent);
    }
command_step_fresh n l c o j session_state g a r (Some t) s p h last e =
    let bs = accepted_commands c session_state g (bytes_of l) in
    record {
      keeps = record { made = h.made ∙ sym (ap (λ (z : Option Sent). creations_of_commands z bs) e); stands = created_stands (at_stop r.items t.at t.left).whole c.apps (whole_last r.items t.at t.left last) };
      next = stopped_sent _ t.kind;
    }

sent_fresh : (k : DeckCommand) (c : Card) (session_state : SessionState) (g : ℕ) → AllFresh session_state (line_command c session_state g (line.Sent k)) (accepted_commands c session_state g (bytes_of (line.Sent k)))
sent_fresh (line.Load u fixed session) c session_state g = send_fresh c session_state g (load_commands u fixed session)
sent_fresh (line.Select x) c session_state g = command_all_fresh c session_state (select_bytes x) g
sent_fresh (line.Delete x) c session_state g = command_all_fresh c session_state (delete_bytes x) g
sent_fresh (line.Apdu x) c session_state g = command_all_fresh c session_state x g

sent_last : (k : DeckCommand) (c : Card) (session_state : SessionState) (g : ℕ) → LastCreates (line_command c session_state g (line.Sent k)).items
sent_last (line.Load u fixed session) c session_state g = send_last c session_state g (load_front u fixed session) create_bytes (front_fillers u fixed session)
sent_last (line.Select x) c session_state g = command_last c session_state (select_bytes x) g
sent_last (line.Delete x) c session_state g = command_last c session_state (delete_bytes x) g
sent_last (line.Apdu x) c session_state g = command_last c session_state x g

-- ---- every line

kind_fresh : {w : Option FailedWrite} {z : State} {n : ℕ} {l : DeckLine} {u : Step} (s : Option Sent) → StepKind w z n l u → SentIn s z → FreshStep s u
kind_fresh s (Early p) e = nothing_fresh s _ refl refl refl tt
kind_fresh s (Quiet {l = l} {s = x} p h) e =
    nothing_fresh s _ (none_taken x.live x.base x.budget l h) refl refl (subst (λ (t : Bool). SentOn (kept_sent t None s) x.live) (sym p) e)
kind_fresh s (Powers (BeforePower m b a)) e = nothing_fresh s _ refl refl refl (power_after_sent (play_at_power m b a) _)
kind_fresh s (Powers (AfterPower x)) e = nothing_fresh s _ (none_taken x.live x.base x.budget line.Power (inl refl)) refl refl (power_after_sent x _)
kind_fresh {w} s (Sends {n = n} {o = o} {g = g} {j = j} {a = a} k c session_state) e =
    let r = line_command c session_state g (line.Sent k) in
    command_step_fresh n (line.Sent k) c o j session_state g a r (hit_of a (moves r.items) w) s refl (sent_fresh k c session_state g) (sent_last k c session_state g) e

step_fresh : (s : Option Sent) (z : State) (l : ℕ × DeckLine) (w : Option FailedWrite) → SentIn s z → FreshStep s (step z l w)
step_fresh s z l w e = kind_fresh s (by_kind z l w) e

fresh_from : (n : ℕ) (s : Option Sent) (z : State) (ls : List (ℕ × DeckLine)) (ws : List (Option FailedWrite)) → SentIn s z → NoStaleByte s (take n (plays z ls ws))
unfolding plays
fresh_from zero s z ls ws e = tt
fresh_from (suc n) s z [] ws e = tt
fresh_from (suc n) s z (l ∷ ls) ws e =
    let w = first_failure ws in
    let u = step z l w in
    let h : FreshStep s u = step_fresh s z l w e in
    (h.keeps, fresh_from n (kept_sent (is_power u.line) u.stop (sections_after_commands s (accepted_commands_in u.before u.line))) u.after ls (drop 1 ws) h.next)

-- no application of a play from an image on has a stale byte
pub no_stale_byte : (n : ℕ) (m : List (List ℕ)) (ls : List (ℕ × DeckLine)) (ws : List (Option FailedWrite)) → NoStaleByte None (take n (plays (start m) ls ws))
no_stale_byte n m ls ws = fresh_from n None (start m) ls ws tt
