-- A cut hits its line exactly if the line makes that write.
use Rattle.std.specs.Prelude.{◌≡◌, ℕ, ◌+◌, ◌≤◌, Bool, true, false, cond, nat_le, List, Some, None, refl}
use Rattle.std.proofs.Common.{arith, ap, sym, ◌∙◌}
use Rattle.std.proofs.lemmas.Bool.{lt-leb}
use Rattle.law_explore.specs.model_device.specs.declared.device.Stop.TheVariants as stop
use Rattle.law_explore.specs.model_device.specs.Image.{Journal}
use Rattle.law_explore.specs.model_device.specs.Card.{Card}
use Rattle.law_explore.specs.model_card.specs.Items.{moves, StopAt}
use Rattle.law_explore.specs.model_play.specs.Play.{Armed, Unarmed, ArmedCut, Live, Warm, State, BeforePower, AfterPower, step, moves_of, armed_stop_in, is_card_line, play_at_power, power_moves, power_step, power_result, card_line, command_step}
use Rattle.law_explore.specs.model_device.specs.PowerUp.{Base, OnCard, AtFault}
use Rattle.law_explore.specs.model_card.specs.Commands.{Command}
use Rattle.law_explore.specs.model_play.specs.DeckGrammar.{DeckLine}
use Rattle.law_explore.specs.model_play.specs.DeckGrammar as line
use Rattle.mc_lab.specs.Sweeps.{steady_step, state_on_blank, cut_statement}
use Rattle.mc_script.specs.Cuts.{is_off}
use Rattle.mc_lab.specs.SweepLaws.{HitsWithin}
use Rattle.mc_lab.proofs.SweepPlays.{next, played_one, warmed_moves}
use Rattle.law_explore.specs.model_play.proofs.LineKinds.{past_power}

abbrev cut_at : ℕ → List ℕ → StopAt
cut_at k x = record { kind = stop.Off; at = k; left = x }

command_hit : (n : ℕ) (l : DeckLine) (s : Warm) (c : Card) (r : Command) (k : ℕ) (x : List ℕ) (b : Bool) → is_off (command_step n l s c r (cond b (Some (cut_at k x)) None)).result ≡ b
command_hit n l s c r k x true = refl
command_hit n l s c r k x false = refl

no_writes : (k : ℕ) → 1 ≤ k → false ≡ nat_le k 0
no_writes k low = sym (lt-leb k 0 low)

card_hit : (n : ℕ) (l : DeckLine) (b : Base) (o : ℕ) (j : Journal) (v : Live) (g k : ℕ) (x : List ℕ) → 1 ≤ k
    → is_off (card_line n l (past_power b o j v g (ArmedCut k x)) v b None).result ≡ nat_le k (moves (card_line n l (past_power b o j v g Unarmed) v b None).items)
card_hit n l b o j v g k x low = grind (arith, command_hit, past_power, no_writes)

result_off : (m : ℕ) (b : Base) → is_off (Some (power_result m b)) ≡ false
result_off m (OnCard c) = refl
result_off m (AtFault cause place) = refl

power_hit : (n : ℕ) (before : State) (w : Warm) (k : ℕ) (x : List ℕ) (b : Bool) → is_off (power_step n before w (cond b (Some (cut_at k x)) None)).result ≡ b
power_hit n before w k x true = refl
power_hit n before w k x false = result_off (power_moves w) w.base

with_none : (k m n : ℕ) → m ≡ n → nat_le k m ≡ nat_le k n
with_none k m n e = ap (λ (i : ℕ). nat_le k i) e

before_power_hit : (n i : ℕ) (l : DeckLine) (m : List (List ℕ)) (b k : ℕ) (x : List ℕ) → is_card_line l ≡ true → 1 ≤ k
    → is_off (steady_step (next (BeforePower m b Unarmed) (cut_statement i k x)) (n, l)).result ≡ nat_le k (moves_of (BeforePower m b Unarmed) (n, l))
unfolding step moves_of
before_power_hit n i line.Power m b k x is low =
    let w = play_at_power m b (ArmedCut k x) in
    power_hit n (BeforePower m b (ArmedCut k x)) w k x (nat_le k (power_moves w))
    ∙ with_none k (power_moves w) (power_moves (play_at_power m b Unarmed) + 0) (let e : power_moves w ≡ power_moves (play_at_power m b Unarmed) = warmed_moves m b (ArmedCut k x) Unarmed in omega (arith, e))
before_power_hit n i (line.Sent sent) m b k x is low = no_writes k low
before_power_hit n i _ m b k x is low = absurd (cc is)

after_power_hit : (n i : ℕ) (l : DeckLine) (b : Base) (o : ℕ) (j : Journal) (v : Live) (g : ℕ) (k : ℕ) (x : List ℕ) → is_card_line l ≡ true → 1 ≤ k
    → is_off (steady_step (next (AfterPower (past_power b o j v g Unarmed)) (cut_statement i k x)) (n, l)).result ≡ nat_le k (moves_of (AfterPower (past_power b o j v g Unarmed)) (n, l))
unfolding step moves_of
after_power_hit n i line.Power b o j v g k x is low =
    let w = past_power b o j v g (ArmedCut k x) in
    power_hit n (AfterPower w) w k x (nat_le k (power_moves w)) ∙ with_none k (power_moves w) (power_moves w + 0) (omega arith)
after_power_hit n i (line.Sent sent) b o j v g k x is low = card_hit n (line.Sent sent) b o j v g k x low ∙ with_none k _ _ (omega arith)
after_power_hit n i _ b o j v g k x is low = absurd (cc is)

armed_hit : (n i : ℕ) (l : DeckLine) (b : Base) (o : ℕ) (j : Journal) (v : Live) (g : ℕ) (a : Armed) (k : ℕ) (x : List ℕ) → a ≡ Unarmed → is_card_line l ≡ true → 1 ≤ k
    → is_off (steady_step (next (AfterPower (past_power b o j v g a)) (cut_statement i k x)) (n, l)).result ≡ nat_le k (moves_of (AfterPower (past_power b o j v g a)) (n, l))
armed_hit n i l b o j v g a k x is card low = grind (arith, after_power_hit)

-- a cut hits its line exactly if the line makes that write
pub line_hit : (s : State) (l : ℕ × DeckLine) (i k : ℕ) (x : List ℕ) → armed_stop_in s ≡ Unarmed → is_card_line l.1 ≡ true → 1 ≤ k
    → is_off (steady_step (next s (cut_statement i k x)) l).result ≡ nat_le k (moves_of s l)
line_hit s l i k x is card low = grind (arith, before_power_hit, armed_hit)

-- a cut after other lines
pub hits_within : HitsWithin
hits_within front l k x card unarmed low =
    ap (λ (s : State). is_off (steady_step s l).result) (played_one front (cut_statement l.0 k x)) ∙ line_hit (state_on_blank front) l l.0 k x unarmed card low
