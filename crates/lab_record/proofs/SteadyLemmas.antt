-- Lines that are played on a device that refuses just the writes of `fail` lines, one more after some.
use Rattle.std.specs.Prelude.{◌≡◌, ◌≢◌, ℕ, zero, suc, ◌+◌, List, [], ◌∷◌, ◌++◌, slice_get, take, Option, Some, None, Result, Ok, Err, OnOk, refl}
use Rattle.std.proofs.Common.{arith, ap, sym, subst, ◌∙◌}
use Rattle.mc_words.specs.model_device.specs.Device.{BenchState, DeviceState}
use Rattle.mc_apdu.specs.model_machine.specs.Chain.{Turn}
use Rattle.law_events.specs.law_promise.specs.model_play.specs.DeckGrammar.{DeckLine}
use Rattle.law_events.specs.law_promise.specs.model_play.specs.Play.{FailedWrite, State, armed_stop_in, moves_of, steady_at, step}
use Rattle.mc_deck.specs.Lines.{line_of}
use Rattle.mc_deck.specs.declared.line.Line.{Line}
use Rattle.mc_script.specs.declared.answer.Answer.{Answer}
use Rattle.mc_script.specs.declared.player.Player.{Player}
use Rattle.mc_script.specs.Lines.{LineDone}
use Rattle.mc_script.specs.Players.{IsPlayerAt}
use Rattle.lab_record.specs.Steady.{armed_by, armed_in, state_after, steady_step, IsSteadyAt}

-- ---- one more line

take_one : {A : Type 0} (i : ℕ) (xs : List A) (x : A) → slice_get xs i ≡ Some x → take (i + 1) xs ≡ take i xs ++ x ∷ []
take_one i [] x h = absurd (cc h)
take_one zero (y ∷ ys) x h = let e : y ≡ x = cc h in ap (λ (z : _). z ∷ []) e
take_one (suc i) (y ∷ ys) x h =
    ap (λ (n : ℕ). take n (y ∷ ys)) (let e : suc i + 1 ≡ suc (i + 1) = omega arith in e) ∙ ap (λ l. y ∷ l) (take_one i ys x h)

after_none : (s : State) → state_after s [] ≡ s
unfolding state_after
after_none s = refl

after_on : (s : State) (l : ℕ × DeckLine) (ls : List (ℕ × DeckLine)) → state_after s (l ∷ ls) ≡ state_after (steady_step s l).after ls
unfolding state_after
after_on s l ls = refl

after_append : (s : State) (ls : List (ℕ × DeckLine)) (l : ℕ × DeckLine) → state_after s (ls ++ l ∷ []) ≡ (steady_step (state_after s ls) l).after
after_append s [] l = after_on s l [] ∙ after_none (steady_step s l).after ∙ ap (λ (t : State). (steady_step t l).after) (sym (after_none s))
after_append s (x ∷ ls) l =
    after_on s x (ls ++ l ∷ []) ∙ after_append (steady_step s x).after ls l ∙ ap (λ (t : State). (steady_step t l).after) (sym (after_on s x ls))

armed_none : (a : Option ℕ) → armed_in a [] ≡ a
unfolding armed_in
armed_none a = refl

armed_on : (a : Option ℕ) (l : ℕ × DeckLine) (ls : List (ℕ × DeckLine)) → armed_in a (l ∷ ls) ≡ armed_in (armed_by a l.1) ls
unfolding armed_in
armed_on a l ls = refl

armed_append : (a : Option ℕ) (ls : List (ℕ × DeckLine)) (l : ℕ × DeckLine) → armed_in a (ls ++ l ∷ []) ≡ armed_by (armed_in a ls) l.1
armed_append a [] l = armed_on a l [] ∙ armed_none (armed_by a l.1) ∙ ap (λ (b : Option ℕ). armed_by b l.1) (sym (armed_none a))
armed_append a (x ∷ ls) l =
    armed_on a x (ls ++ l ∷ []) ∙ armed_append (armed_by a x.1) ls l ∙ ap (λ (b : Option ℕ). armed_by b l.1) (sym (armed_on a x ls))

-- the state after the lines up to one
pub after_next : (s : State) (ls : List (ℕ × DeckLine)) (i : ℕ) (l : ℕ × DeckLine) → slice_get ls i ≡ Some l → state_after s (take (i + 1) ls) ≡ (steady_step (state_after s (take i ls)) l).after
after_next s ls i l here = ap (state_after s) (take_one i ls l here) ∙ after_append s (take i ls) l

-- the stop that they armed last
pub armed_next : (ls : List (ℕ × DeckLine)) (i : ℕ) (l : ℕ × DeckLine) → slice_get ls i ≡ Some l → armed_in None (take (i + 1) ls) ≡ armed_by (armed_in None (take i ls)) l.1
armed_next ls i l here = ap (armed_in None) (take_one i ls l here) ∙ armed_append None (take i ls) l

-- no line armed one
pub armed_first : (ls : List (ℕ × DeckLine)) → armed_in None (take 0 ls) ≡ None
armed_first ls = armed_none None

-- another line arms none
pub armed_other : (a : Option ℕ) (l : Line) → ((k : ℕ) (fill : List ℕ) → l ≢ Line.Cut k fill) → ((k : ℕ) → l ≢ Line.Fail k) → armed_by a (line_of l) ≡ a
armed_other a (Line.Cut k fill) cut fail = absurd (cut k fill refl)
armed_other a (Line.Fail k) cut fail = absurd (fail k refl)
armed_other a _ cut fail = refl

-- the line at a place is one
pub same_line : (ls : List (ℕ × DeckLine)) (i : ℕ) (l m : ℕ × DeckLine) → slice_get ls i ≡ Some l → slice_get ls i ≡ Some m → l ≡ m
same_line ls i l m a b = cc (sym a ∙ b)

-- no line was played
pub after_first : (s : State) (ls : List (ℕ × DeckLine)) → state_after s (take 0 ls) ≡ s
after_first s ls = after_none s

-- ---- a player

module _ {N : Type 0} (state : N → DeviceState) (bench : N → BenchState) where
  -- a line is played as a step that its device determines
  pub line_steady : {R : Type 0} (reported : R → List Turn → R → Type 0) (p q : Player N) (l : DeckLine) (before after : R) (a : Option Answer)
      → LineDone state bench reported p l before after a q → (s : State) (n : ℕ) → IsSteadyAt state bench p s → IsSteadyAt state bench q (steady_step s (n, l)).after
  line_steady reported p q l before after a done s n h =
      let d = done s n h.at in
      let w : d.0 ≡ steady_at (armed_stop_in s) l (moves_of s (n, l)) = d.1.stepped.played.steady h.steady in
      record {
        at = subst (λ (v : Option FailedWrite). IsPlayerAt state bench q (step s (n, l) v).after) w d.1.stepped.at;
        steady = d.1.stepped.played.counts.counts.steady ∙ h.steady;
      }

-- ---- results

pub on_ok : {A E : Type 0} (r : Result A E) (P : Type 0) → P → OnOk r P
on_ok (Ok x) P h = h
on_ok (Err e) P h = tt
