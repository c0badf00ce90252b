-- Composition of plays, for code that plays decks line by line: the result of a play, one more line, and the whole play
-- with its laws.
use Rattle.std.proofs.Common.{◌≡◌, ℕ, List, [], ◌∷◌, ◌++◌, length, Option, refl, arith, sym, ap, subst, ◌∙◌, append_assoc, append-nil, length-append}
use Rattle.model_play.specs.model_device.specs.Device.{DeviceState, BenchState}
use Rattle.model_play.specs.model_machine.specs.Chain.{Turn}
use Rattle.model_play.specs.DeckGrammar.{DeckLine}
use Rattle.model_play.specs.Play.{State, FailedWrite, Step, step, plays, last_state, StandsForState}
use Rattle.mc_script.specs.declared.answer.Answer.{Answer}
use Rattle.mc_script.specs.declared.player.Player.{Player}
use Rattle.mc_script.specs.Players.{IsUnfused, IsPlayerAt}
use Rattle.mc_script.specs.Plays.{Bench, PlayedLine, Played, LeadsTo}
use Rattle.mc_script.specs.Lines.{bench_of, DeckPlayed, LineDone}
use Rattle.mc_script.proofs.PlayLemmas.{plays_on, plays_none, played_none, played_on}
use Rattle.mc_script.proofs.LinedLemmas.{at_stands}

-- ---- steps

-- the state after lines, and after more of them
pub last_append : (s : State) (ts us : List Step) → last_state s (ts ++ us) ≡ last_state (last_state s ts) us
last_append s [] us = refl
last_append s (t ∷ ts) us = last_append t.after ts us

-- the steps of lines, and of the lines after them
pub plays_append : (s : State) (ls ks : List (ℕ × DeckLine)) (ws vs : List (Option FailedWrite)) → length ws ≡ length ls → plays s (ls ++ ks) (ws ++ vs) ≡ plays s ls ws ++ plays (last_state s (plays s ls ws)) ks vs
plays_append s [] ks [] vs many =
    ap (λ (ts : List Step). ts ++ plays (last_state s ts) ks vs) (sym (plays_none s))
plays_append s [] ks (w ∷ ws) vs many = absurd (cc many)
plays_append s (l ∷ ls) ks [] vs many = absurd (cc many)
plays_append s (l ∷ ls) ks (w ∷ ws) vs many =
    let t = step s l w in
    let rest = plays_append t.after ls ks ws vs (omega (arith, many)) in
    let first = plays_on s l w ls ws in
    plays_on s l w (ls ++ ks) (ws ++ vs)
    ∙ ap (λ (ts : List Step). t ∷ ts) rest
    ∙ ap (λ (ts : List Step). ts ++ plays (last_state s ts) ks vs) (sym first)

-- ---- the state that a play leads to

-- no line was played
pub leads_none : (s : State) (a : Bench) → LeadsTo s [] [] a s a
leads_none s a = record { many = refl; last = ap (λ (ts : List Step). last_state s ts) (sym (plays_none s)); rest = λ ks vs c h. h }

-- one more line was played
pub leads_on : (s : State) (ls : List (ℕ × DeckLine)) (ws : List (Option FailedWrite)) (a : Bench) (u : State) (b : Bench) (l : ℕ × DeckLine) (w : Option FailedWrite) (c : Bench) → LeadsTo s ls ws a u b
    → PlayedLine u l w (step u l w) b c → LeadsTo s (ls ++ l ∷ []) (ws ++ w ∷ []) a (step u l w).after c
leads_on s ls ws a u b l w c h line =
    let one : plays u (l ∷ []) (w ∷ []) ≡ step u l w ∷ [] = plays_on u l w [] [] ∙ ap (λ (ts : List Step). step u l w ∷ ts) (plays_none (step u l w).after) in
    let x = length-append ws (w ∷ []) in
    let y = length-append ls (l ∷ []) in
    let z = h.many in
    record {
      many = omega (arith, x, y, z);
      last = grind (arith, plays_append, last_append);
      rest = λ ks vs d played.
          subst (λ (k : List (ℕ × DeckLine)). Played s k ((ws ++ w ∷ []) ++ vs) a d) (sym (append_assoc ls (l ∷ []) ks))
          (subst (λ (v : List (Option FailedWrite)). Played s (ls ++ l ∷ ks) v a d) (sym (append_assoc ws (w ∷ []) vs)) (h.rest (l ∷ ks) (w ∷ vs) d (played_on u l w ks vs b c d line played)));
    }

-- the lines that were played so far are a play, with its words, its counts and its tape
pub leads_played : (s : State) (ls : List (ℕ × DeckLine)) (ws : List (Option FailedWrite)) (a : Bench) (u : State) (b : Bench) → LeadsTo s ls ws a u b → StandsForState b.device.words u → IsUnfused b.bench → Played s ls ws a b
leads_played s ls ws a u b h stands unfused =
    subst (λ (k : List (ℕ × DeckLine)). Played s k ws a b) (append-nil ls)
    (subst (λ (v : List (Option FailedWrite)). Played s (ls ++ []) v a b) (append-nil ws) (h.rest [] [] b (played_none u b stands unfused)))

module _ {N : Type 0} (state : N → DeviceState) (bench : N → BenchState) where
  -- the lines that were played so far are a play, if the player is at the state that was reached
  pub player_played : (s : State) (ls : List (ℕ × DeckLine)) (ws : List (Option FailedWrite)) (a : Bench) (u : State) (p : Player N) → LeadsTo s ls ws a u (bench_of state bench p) → IsPlayerAt state bench p u
      → Played s ls ws a (bench_of state bench p)
  player_played s ls ws a u p h at = leads_played s ls ws a u (bench_of state bench p) h (at_stands state bench p u at) at.unfused

  -- one line of a player
  pub line_leads : {R : Type 0} (reported : R → List Turn → R → Type 0) (p q : Player N) (s : State) (n : ℕ) (l : DeckLine) (before after : R) (answer : Option Answer) → LineDone state bench reported p l before after answer q
      → IsPlayerAt state bench p s → (w : Option FailedWrite) × LeadsTo s ((n, l) ∷ []) (w ∷ []) (bench_of state bench p) (step s (n, l) w).after (bench_of state bench q) × IsPlayerAt state bench q (step s (n, l) w).after
  line_leads reported p q s n l before after answer done at =
      let line = done s n at in
      let w = line.0 in
      let end = line.1.stepped in
      (w, leads_on s [] [] (bench_of state bench p) s (bench_of state bench p) (n, l) w (bench_of state bench q) (leads_none s (bench_of state bench p)) end.played, end.at)

  -- ---- the loop over the lines of a deck

  -- a player that has played, from a state, the lines before those that are left
  pub record Between (s : State) (ls : List (ℕ × DeckLine)) (a : Bench) (left : List (ℕ × DeckLine)) (p : Player N) : Type 0 where
    pub front : List (ℕ × DeckLine)
    pub worn : List (Option FailedWrite)
    pub here : State
    pub are : front ++ left ≡ ls
    pub at : IsPlayerAt state bench p here
    pub leads : LeadsTo s front worn a here (bench_of state bench p)

  pub between_start : (s : State) (ls : List (ℕ × DeckLine)) (p : Player N) → IsPlayerAt state bench p s → Between s ls (bench_of state bench p) ls p
  between_start s ls p at = record { front = []; worn = []; here = s; are = refl; at = at; leads = leads_none s (bench_of state bench p) }

  pub between_on : {R : Type 0} (reported : R → List Turn → R → Type 0) (s : State) (ls : List (ℕ × DeckLine)) (a : Bench) (left : List (ℕ × DeckLine)) (n : ℕ) (l : DeckLine) (p q : Player N) (before after : R) (answer : Option Answer)
      → Between s ls a ((n, l) ∷ left) p → LineDone state bench reported p l before after answer q → Between s ls a left q
  between_on reported s ls a left n l p q before after answer h done =
      let line = done h.here n h.at in
      let w = line.0 in
      let end = line.1.stepped in
      record {
        front = h.front ++ (n, l) ∷ [];
        worn = h.worn ++ w ∷ [];
        here = (step h.here (n, l) w).after;
        are = append_assoc h.front ((n, l) ∷ []) left ∙ h.are;
        at = end.at;
        leads = leads_on s h.front h.worn a h.here (bench_of state bench p) (n, l) w (bench_of state bench q) h.leads end.played;
      }

  pub between_end : (s : State) (ls : List (ℕ × DeckLine)) (p q : Player N) → Between s ls (bench_of state bench p) [] q → DeckPlayed state bench p s ls q
  between_end s ls p q h =
      let are : h.front ≡ ls = sym (append-nil h.front) ∙ h.are in
      record {
        worn = h.worn;
        here = h.here;
        at = h.at;
        leads = subst (λ (k : List (ℕ × DeckLine)). LeadsTo s k h.worn (bench_of state bench p) h.here (bench_of state bench q)) are h.leads;
      }
