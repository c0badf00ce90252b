-- How the text of an exploration follows its depths.
use Rattle.std.specs.Prelude.{Vec}
use Rattle.std.specs.declared.alloc.Global.{Global}
use Rattle.std.proofs.Common.{◌≡◌, ◌≢◌, ℕ, zero, suc, ◌+◌, ◌-◌, ◌<◌, ◌≤◌, Bool, List, [], ◌∷◌, ◌++◌, codes, decimal, drop, length, Option, Some, None, Result, Ok, Err, IsErr, refl, arith, sym, ap, subst, ◌∙◌, append_assoc, length-drop}
use Rattle.std.specs.Result.{IsErrAnd}
use Rattle.law_explore_text.specs.model_play.specs.Play.{State}
use Rattle.law_explore_text.specs.law_explore.specs.Rules as rule
use Rattle.law_explore_text.specs.law_explore.specs.States as model
use Rattle.law_explore_text.specs.law_explore.specs.States.{play_of_deck}
use Rattle.law_explore_text.specs.law_explore.specs.Search.{Ending, All, AtDepth, Broken, TooMany, HaltedRound, Node, Round, Search as Found, after_depth, after_round, ending_of, first_state, round_of_states, search_end, search_from, search_of, search_on, with_depth, no_tries, Tally}
use Rattle.law_explore_text.specs.Report.{depth_lines, ending_text, kept_text, text_within}
use Rattle.lab_rules.specs.Meanings.{AlikeLists, AreRules}
use Rattle.lab_rules.specs.Occasions.{IsRow}
use Rattle.lab_rules.specs.declared.reading.Exploration.{Exploration}
use Rattle.lab_rules.specs.declared.rules.Rules.{Rules}
use Rattle.mc_text.specs.Texts.{Sunk, Writes, Fails}
use Rattle.mc_text.proofs.TextLemmas.{fails_before, fails_then, writes_then}
use Rattle.lab_search.specs.declared.endings.Explored.{Explored}
use Rattle.lab_search.specs.declared.endings.Explored.TheVariants as explored
use Rattle.mc_script.specs.declared.job.JobFault.{JobFault}
use Rattle.mc_script.specs.declared.job.JobFault.TheVariants as fault
use Rattle.lab_search.specs.declared.rounds.Halt.{Halt}
use Rattle.lab_search.specs.declared.rounds.Search.{Search}
use Rattle.lab_search.specs.Kept.{IsExplorationOf}
use Rattle.lab_search.specs.Reports.{depth_line}
use Rattle.lab_search.specs.Rounds.{round_in, tally_of, AreCandidates, CanTryStates, Comes, Depth, Ends, Extends, Holds, KeepsNode}
use Rattle.lab_search.specs.Endings.{explored_as, text_from, DepthsAhead, Explores, IsExplored, IsPut}
use Rattle.lab_search.proofs.AlikeLemmas.{alike_length, drop_past}
use Rattle.lab_search.proofs.EndingLemmas.{put_failed}
use Rattle.lab_search.proofs.HaltLemmas.{err_ending, explored_err, nothing_yet}

-- ---- texts

-- a text that is put after one that was written
pub put_then : {X : Type 0} (a b c : Sunk) (s t : List ℕ) (r : Result X JobFault) → Writes a s b → IsPut b t r c → IsPut a (s ++ t) r c
put_then a b c s t (Ok x) w p = writes_then w p
put_then a b c s t (Err fault.WriteFault) w p = fails_then w p
put_then a b c s t (Err fault.NoMemory) w p =
    record { front = s ++ p.front; rest = p.rest; parts = ap (λ x. s ++ x) p.parts ∙ sym (append_assoc s p.front p.rest); written = writes_then w p.written }

-- the end of a search with one depth before it
ending_same : (ons : List rule.OnRule) (z : State) (n : ℕ) (e : Found) (x : Ending) → ending_text ons z (with_depth n e) x ≡ ending_text ons z e x
ending_same ons z n e All = refl
ending_same ons z n e (AtDepth d) = refl
ending_same ons z n e (Broken name path) = refl
ending_same ons z n e (TooMany d) = refl

-- the text of a search with one depth before it
text_split : (ons : List rule.OnRule) (k : ℕ) (z : State) (n : ℕ) (e : Found) → text_from ons k z (with_depth n e) ≡ depth_line k n ++ text_from ons (k + 1) z e
text_split ons k z n e =
    ap (λ t. depth_lines k (n ∷ e.news) ++ t) (ending_same ons z n e e.ending) ∙ append_assoc (depth_line k n) (depth_lines (k + 1) e.news) (ending_text ons z e e.ending)

-- the line of a depth was written, and then the rest
pub explores_then : (ons : List rule.OnRule) (k : ℕ) (z : State) (n : ℕ) (e : Found) (a b c : Sunk) (r : Result Explored JobFault) → Writes a (depth_line k n) b → Explores ons (k + 1) z e b r c → Explores ons k z (with_depth n e) a r c
explores_then ons k z n e a b c r w x =
    record { text = subst (λ (t : List ℕ). IsPut a t r c) (sym (text_split ons k z n e)) (put_then a b c (depth_line k n) (text_from ons (k + 1) z e) r w x.text); ending = x.ending }

-- the line of a depth failed
pub explores_failed : (ons : List rule.OnRule) (k : ℕ) (z : State) (n : ℕ) (e : Found) (a b : Sunk) (r : Result Explored JobFault) → IsErr r → IsErrAnd r (λ y. y ≡ fault.WriteFault) → Fails a (depth_line k n) b
    → Explores ons k z (with_depth n e) a r b
explores_failed ons k z n e a b r i y f =
    record {
      text = subst (λ (t : List ℕ). IsPut a t r b) (sym (text_split ons k z n e)) (put_failed a b (depth_line k n ++ text_from ons (k + 1) z e) r i y (fails_before (text_from ons (k + 1) z e) f));
      ending = err_ending r e.ending i;
    }

-- ---- searches

-- the search after a depth, by its new nodes
abbrev pub after_new : List Node → Round → (List Node → Round → Found) → Found
after_new [] r again = search_end All r.count r.tally
after_new (n ∷ ns) r again = again (n ∷ ns) r

depth_is : (ms : List Node) (r : Round) (again : List Node → Round → Found) → after_depth ms r again ≡ with_depth (length ms) (after_new ms r again)
depth_is [] r again = refl
depth_is (n ∷ ns) r again = refl

-- a search from a round, whatever is new in it
search_fresh : (n k most : ℕ) (rules : rule.Rules) (ns : List Node) (r : Round) (fresh : List Node) → search_on n k most rules ns (record r { fresh = fresh }) ≡ search_on n k most rules ns r
unfolding search_on
search_fresh zero k most rules ns r fresh = refl
search_fresh (suc n) k most rules ns r fresh = refl

search_step : (n k most : ℕ) (rules : rule.Rules) (ns : List Node) (r : Round)
    → search_on (suc n) k most rules ns r ≡ after_round (round_of_states most rules ns (record r { fresh = [] })) (k + 1) (λ ms q. search_on n (k + 1) most rules ms q)
unfolding search_on
search_step n k most rules ns r = refl

search_done : (k most : ℕ) (rules : rule.Rules) (ns : List Node) (r : Round) → search_on zero k most rules ns r ≡ search_end (AtDepth k) r.count r.tally
unfolding search_on
search_done k most rules ns r = refl

-- what is left of a search, from the nodes of a depth on
abbrev pub left_of : rule.Rules → ℕ → ℕ → ℕ → ℕ → Tally → List Node → Found
left_of rules most depth done from a ns =
    search_on (depth - done) done most rules (drop from ns) (round_in (record { rules = rules; most = most; from = from }) a ns)

-- a depth of nodes that begins after those that are held
abbrev pub next_depth : rule.Rules → ℕ → List Node → Depth
next_depth rules most ns = record { rules = rules; most = most; from = length ns }

-- a search that holds the nodes of a depth holds them as the next depth begins
pub holds_next : (rules : rule.Rules) (most from : ℕ) (s : Search) (ns : List Node) → Holds (record { rules = rules; most = most; from = from }) s ns → Holds (next_depth rules most ns) s ns
holds_next rules most from s ns h = record { room = h.room; within = omega arith; counts = h.counts; kept = h.kept; reached = h.reached }

-- what is left, by the tries of a depth
left_step : (rules : rule.Rules) (most depth done from : ℕ) (tries : Tally) (ns : List Node) → done < depth
    → left_of rules most depth done from tries ns
    ≡ after_round (round_of_states most rules (drop from ns) (round_in (next_depth rules most ns) tries ns)) (done + 1) (λ ms q. search_on (depth - (done + 1)) (done + 1) most rules ms q)
left_step rules most depth done from tries ns h =
    let one : depth - done ≡ suc (depth - (done + 1)) = omega (arith, h) in
    let r = round_in (record { rules = rules; most = most; from = from }) tries ns in
    let same : record r { fresh = [] } ≡ round_in (next_depth rules most ns) tries ns = ap (λ (f : List Node). record r { fresh = f }) (sym (drop_past ns (length ns) (omega arith))) in
    ap (λ k. search_on k done most rules (drop from ns) r) one
    ∙ search_step (depth - (done + 1)) done most rules (drop from ns) r
    ∙ ap (λ (q : Round). after_round (round_of_states most rules (drop from ns) q) (done + 1) (λ ms q. search_on (depth - (done + 1)) (done + 1) most rules ms q)) same

-- ---- one depth

-- a search that ended
pub record Halted (d : Depth) (ns : List Node) (x : Result Round HaltedRound) (h : Halt) (s : Search) : Type 0 where
  pub end : HaltedRound
  pub is : x ≡ Err end
  pub ends : Ends d ns end h s

halt_same : (k h : Halt) → Some k ≡ Some h → k ≡ h
halt_same k h e = cc e

halted_is : (d : Depth) (ns : List Node) (x : Result Round HaltedRound) (o : Option Halt) (h : Halt) (s : Search) → o ≡ Some h → Comes d ns x o s → Halted d ns x h s
halted_is d ns (Ok r) None h s e c = absurd (cc e)
halted_is d ns (Ok r) (Some k) h s e c = absurd c
halted_is d ns (Err y) None h s e c = absurd c
halted_is d ns (Err y) (Some k) h s e c = record { end = y; is = refl; ends = subst (λ (z : Halt). Ends d ns y z s) (halt_same k h e) c }

-- a search that went on
pub record Went (d : Depth) (ns : List Node) (x : Result Round HaltedRound) (s : Search) : Type 0 where
  pub all : List Node
  pub grew : Extends ns all
  pub holds : Holds d s all
  pub is : x ≡ Ok (round_in d (tally_of s) all)

went_is : (d : Depth) (ns : List Node) (x : Result Round HaltedRound) (o : Option Halt) (s : Search) → o ≡ None → Comes d ns x o s → Went d ns x s
went_is d ns (Ok r) None s e c = record { all = c.all; grew = c.grew; holds = c.holds; is = ap Ok c.round }
went_is d ns (Ok r) (Some k) s e c = absurd c
went_is d ns (Err y) None s e c = absurd c
went_is d ns (Err y) (Some k) s e c = absurd (cc e)

new_some : (ms : List Node) (r : Round) (again : List Node → Round → Found) → ms ≢ [] → after_new ms r again ≡ again ms r
new_some [] r again h = absurd (h refl)
new_some (n ∷ ns) r again h = refl

some_left : (n : ℕ) (ms : List Node) → n ≡ length ms → n ≢ 0 → ms ≢ []
some_left n ms e h k = h (e ∙ ap length k)

-- the tries of the nodes of a depth
abbrev pub depth_round : rule.Rules → ℕ → ℕ → Search → List Node → Result Round HaltedRound
depth_round rules most from s ns = round_of_states most rules (drop from ns) (round_in (next_depth rules most ns) (tally_of s) ns)

module _ (x : rule.Exploration) (most depth done from : ℕ) (s u : Search) (a b : Sunk) (k : DepthsAhead x most depth done from s a b) (below : done < depth) where
  -- a depth ends the search
  pub depth_halts : (o : Option Halt) (h : Halt) (r : Result Explored JobFault) (c : Sunk) → o ≡ Some h → Comes (next_depth x.rules most k.nodes) k.nodes (depth_round x.rules most from s k.nodes) o u
      → ((e : HaltedRound) → Ends (next_depth x.rules most k.nodes) k.nodes e h u → Explores x.rules.ons (done + 1) (play_of_deck x.lines) (search_end (ending_of e.halt (done + 1)) e.count e.tally) b r c)
      → IsExplored a (text_within most depth x) (search_of most depth x).ending r c
  depth_halts o h r c e comes f =
      let w = halted_is (next_depth x.rules most k.nodes) k.nodes (depth_round x.rules most from s k.nodes) o h u e comes in
      let again = λ (ms : List Node) (q : Round). search_on (depth - (done + 1)) (done + 1) most x.rules ms q in
      k.rest r c
      (subst (λ (y : Found). Explores x.rules.ons (done + 1) (play_of_deck x.lines) y b r c)
      (sym (left_step x.rules most depth done from (tally_of s) k.nodes below ∙ ap (λ (y : Result Round HaltedRound). after_round y (done + 1) again) w.is)) (f w.end w.ends))

  -- what is left after a depth that goes on
  left_went : (w : Went (next_depth x.rules most k.nodes) k.nodes (depth_round x.rules most from s k.nodes) u)
      → left_of x.rules most depth done from (tally_of s) k.nodes
      ≡ with_depth (length (drop (length k.nodes) w.all))
      (after_new (drop (length k.nodes) w.all) (round_in (next_depth x.rules most k.nodes) (tally_of u) w.all) (λ ms q. search_on (depth - (done + 1)) (done + 1) most x.rules ms q))
  left_went w =
      let again = λ (ms : List Node) (q : Round). search_on (depth - (done + 1)) (done + 1) most x.rules ms q in
      left_step x.rules most depth done from (tally_of s) k.nodes below ∙ ap (λ (y : Result Round HaltedRound). after_round y (done + 1) again) w.is
      ∙ depth_is (drop (length k.nodes) w.all) (round_in (next_depth x.rules most k.nodes) (tally_of u) w.all) again

  -- the number of the new nodes
  new_count : (w : Went (next_depth x.rules most k.nodes) k.nodes (depth_round x.rules most from s k.nodes) u) (n : ℕ) → n ≡ length u.states.keys - length s.states.keys
      → n ≡ length (drop (length k.nodes) w.all)
  new_count w n e =
      let before = alike_length (KeepsNode x.rules s) s.states.keys k.nodes k.holds.kept in
      let after = alike_length (KeepsNode x.rules u) u.states.keys w.all w.holds.kept in
      omega (arith, e, before, after, length-drop (length k.nodes) w.all)

  -- the line of a depth fails
  pub depth_fails : (o : Option Halt) (n : ℕ) (r : Result Explored JobFault) (c : Sunk) → o ≡ None → Comes (next_depth x.rules most k.nodes) k.nodes (depth_round x.rules most from s k.nodes) o u
      → n ≡ length u.states.keys - length s.states.keys → IsErr r → IsErrAnd r (λ y. y ≡ fault.WriteFault) → Fails b (depth_line (done + 1) n) c
      → IsExplored a (text_within most depth x) (search_of most depth x).ending r c
  depth_fails o n r c e comes count i y f =
      let w = went_is (next_depth x.rules most k.nodes) k.nodes (depth_round x.rules most from s k.nodes) o u e comes in
      k.rest r c
      (subst (λ (q : Found). Explores x.rules.ons (done + 1) (play_of_deck x.lines) q b r c) (sym (left_went w))
      (explores_failed x.rules.ons (done + 1) (play_of_deck x.lines) (length (drop (length k.nodes) w.all)) _ b c r i y (subst (λ (m : ℕ). Fails b (depth_line (done + 1) m) c) (new_count w n count) f)))

  -- a depth without new nodes is the last
  pub depth_last : (o : Option Halt) (n : ℕ) (m c : Sunk) (r : Result Explored JobFault) → o ≡ None → Comes (next_depth x.rules most k.nodes) k.nodes (depth_round x.rules most from s k.nodes) o u
      → n ≡ length u.states.keys - length s.states.keys → n ≡ 0 → Writes b (depth_line (done + 1) n) m
      → ((end : Ending) → explored_as end ≡ explored.All → IsExplored m (kept_text x.rules.ons (length u.states.keys) (tally_of u) (codes " all")) end r c) → IsExplored a (text_within most depth x) (search_of most depth x).ending r c
  depth_last o n m c r e comes count zero_new written f =
      let w = went_is (next_depth x.rules most k.nodes) k.nodes (depth_round x.rules most from s k.nodes) o u e comes in
      let new = new_count w n count in
      let after = alike_length (KeepsNode x.rules u) u.states.keys w.all w.holds.kept in
      let none : drop (length k.nodes) w.all ≡ [] = drop_past w.all (length k.nodes) (omega (arith, new, zero_new, length-drop (length k.nodes) w.all)) in
      let q = round_in (next_depth x.rules most k.nodes) (tally_of u) w.all in
      let again = λ (ms : List Node) (q : Round). search_on (depth - (done + 1)) (done + 1) most x.rules ms q in
      let all : IsExplored m (kept_text x.rules.ons (length w.all) (tally_of u) (codes " all")) All r c = subst (λ (i : ℕ). IsExplored m (kept_text x.rules.ons i (tally_of u) (codes " all")) All r c) after (f All refl) in
      k.rest r c
      (subst (λ (y : Found). Explores x.rules.ons (done + 1) (play_of_deck x.lines) y b r c) (sym (left_went w))
      (explores_then x.rules.ons (done + 1) (play_of_deck x.lines) (length (drop (length k.nodes) w.all)) (after_new (drop (length k.nodes) w.all) q again) b m c r
      (subst (λ (i : ℕ). Writes b (depth_line (done + 1) i) m) new written)
      (subst (λ (ms : List Node). Explores x.rules.ons (done + 1 + 1) (play_of_deck x.lines) (after_new ms q again) m r c) (sym none) all)))

  -- a depth with new nodes
  pub depth_next : (o : Option Halt) (n : ℕ) (m : Sunk) → o ≡ None → Comes (next_depth x.rules most k.nodes) k.nodes (depth_round x.rules most from s k.nodes) o u
      → n ≡ length u.states.keys - length s.states.keys → n ≢ 0 → Writes b (depth_line (done + 1) n) m → (to : ℕ) → to ≡ length s.states.keys → DepthsAhead x most depth (done + 1) to u a m
  depth_next o n m e comes count some_new written to at =
      let w = went_is (next_depth x.rules most k.nodes) k.nodes (depth_round x.rules most from s k.nodes) o u e comes in
      let new = new_count w n count in
      let before = alike_length (KeepsNode x.rules s) s.states.keys k.nodes k.holds.kept in
      let q = round_in (next_depth x.rules most k.nodes) (tally_of u) w.all in
      let again = λ (ms : List Node) (q : Round). search_on (depth - (done + 1)) (done + 1) most x.rules ms q in
      subst (λ (i : ℕ). DepthsAhead x most depth (done + 1) i u a m) (sym (at ∙ before))
      (record {
        nodes = w.all;
        holds = w.holds;
        rest = λ r c h.
            k.rest r c
            (subst (λ (y : Found). Explores x.rules.ons (done + 1) (play_of_deck x.lines) y b r c) (sym (left_went w))
            (explores_then x.rules.ons (done + 1) (play_of_deck x.lines) (length (drop (length k.nodes) w.all)) (after_new (drop (length k.nodes) w.all) q again) b m c r
            (subst (λ (i : ℕ). Writes b (depth_line (done + 1) i) m) new written)
            (subst (λ (y : Found). Explores x.rules.ons (done + 1 + 1) (play_of_deck x.lines) y m r c) (sym (new_some (drop (length k.nodes) w.all) q again (some_left n (drop (length k.nodes) w.all) new some_new))) h)));
      })

-- ---- the ends of the loop

-- what is left at the start is the whole search
left_first : (rules : rule.Rules) (most depth : ℕ) (tries : Tally) (n : Node) → tries ≡ no_tries rules.ons
    → left_of rules most depth 0 0 tries (n ∷ []) ≡ search_on depth 0 most rules (n ∷ []) (record { known = n.state ∷ []; fresh = []; count = 1; tally = no_tries rules.ons })
left_first rules most depth tries n none =
    let less : depth - 0 ≡ depth = omega arith in
    let start : Round = record { known = n.state ∷ []; fresh = []; count = 1; tally = no_tries rules.ons } in
    ap (λ k. search_on k 0 most rules (n ∷ []) (round_in (record { rules = rules; most = most; from = 0 }) tries (n ∷ []))) less
    ∙ ap (λ i. search_on depth 0 most rules (n ∷ []) (round_in (record { rules = rules; most = most; from = 0 }) i (n ∷ []))) none
    ∙ search_fresh depth 0 most rules (n ∷ []) start (n ∷ [])

-- the text of a search from its start
text_whole : (x : rule.Exploration) (most depth : ℕ) (a c : Sunk) (r : Result Explored JobFault) → Explores x.rules.ons 1 (play_of_deck x.lines) (search_from depth most x.rules (first_state x)) a r c
    → IsExplored a (text_within most depth x) (search_of most depth x).ending r c
unfolding text_within search_of
text_whole x most depth a c r e = e

from_start : (most depth : ℕ) (rules : rule.Rules) (c : model.CardState)
    → search_on depth 0 most rules (record { state = c; path = [] } ∷ []) (record { known = c ∷ []; fresh = []; count = 1; tally = no_tries rules.ons }) ≡ search_from depth most rules c
unfolding search_from
from_start most depth rules c = refl

-- the search begins
pub depth_first : (x : rule.Exploration) (most depth : ℕ) (s : Search) (a : Sunk) → Holds (record { rules = x.rules; most = most; from = 0 }) s (record { state = first_state x; path = [] } ∷ []) → (tally_of s) ≡ no_tries x.rules.ons
    → DepthsAhead x most depth 0 0 s a a
depth_first x most depth s a h none =
    let n : Node = record { state = first_state x; path = [] } in
    record {
      nodes = n ∷ [];
      holds = h;
      rest = λ r c e.
          text_whole x most depth a c r
          (subst (λ (y : Found). Explores x.rules.ons 1 (play_of_deck x.lines) y a r c) (left_first x.rules most depth (tally_of s) n none ∙ from_start most depth x.rules (first_state x)) e);
    }

-- the last depth is done
pub depth_end : (x : rule.Exploration) (most depth done from : ℕ) (s : Search) (a b c : Sunk) (r : Result Explored JobFault) → DepthsAhead x most depth done from s a b → done ≡ depth
    → ((end : Ending) → explored_as end ≡ explored.Partial → IsExplored b (kept_text x.rules.ons (length s.states.keys) (tally_of s) (codes " depth " ++ decimal depth)) end r c) → IsExplored a (text_within most depth x) (search_of most depth x).ending r c
depth_end x most depth done from s a b c r k e f =
    let count = alike_length (KeepsNode x.rules s) s.states.keys k.nodes k.holds.kept in
    let q = round_in (record { rules = x.rules; most = most; from = from }) (tally_of s) k.nodes in
    let none : depth - done ≡ 0 = omega (arith, e) in
    let said : IsExplored b (kept_text x.rules.ons (length k.nodes) (tally_of s) (codes " depth " ++ decimal done)) (AtDepth done) r c =
    subst (λ (i : ℕ). IsExplored b (kept_text x.rules.ons (length k.nodes) (tally_of s) (codes " depth " ++ decimal i)) (AtDepth done) r c) (sym e)
    (subst (λ (i : ℕ). IsExplored b (kept_text x.rules.ons i (tally_of s) (codes " depth " ++ decimal depth)) (AtDepth done) r c) count (f (AtDepth done) refl))
    in
    k.rest r c
    (subst (λ (y : Found). Explores x.rules.ons (done + 1) (play_of_deck x.lines) y b r c)
    (sym (ap (λ i. search_on i done most x.rules (drop from k.nodes) q) none ∙ search_done done most x.rules (drop from k.nodes) q)) said)

-- out of memory within a depth
pub depth_stops : (x : rule.Exploration) (most depth done from : ℕ) (s : Search) (a b : Sunk) (r : Result Explored JobFault) → DepthsAhead x most depth done from s a b → IsErr r → IsErrAnd r (λ y. y ≡ fault.NoMemory)
    → IsExplored a (text_within most depth x) (search_of most depth x).ending r b
depth_stops x most depth done from s a b r k i y = k.rest r b (explored_err b b _ _ r fault.NoMemory i y (nothing_yet b _))

-- ---- the tries of a depth

-- the moves of an exploration with their rows are candidates
pub candidates_of : (x : rule.Exploration) (e : Exploration) (rows used : List (Vec Bool Global)) → IsExplorationOf e x → used ≡ rows
    → ((r : rule.Rules) → AreRules e.rules r → AlikeLists (IsRow r.ons) rows r.moves) → AreCandidates x.rules e.rules used
candidates_of x e rows used h u f =
    record {
      rules = h.rules;
      cards = h.cards;
      rows = subst (λ (rs : List (Vec Bool Global)). AlikeLists (IsRow x.rules.ons) rs x.rules.moves) (sym u) (f x.rules h.rules);
    }

-- what the tries of a depth come to
pub depth_comes : (x : rule.Exploration) (most depth done from to : ℕ) (s u : Search) (a b : Sunk) (o : Option Halt) (rules : Rules) (used : List (Vec Bool Global)) → (k : DepthsAhead x most depth done from s a b) → to ≡ length s.states.keys
    → AreCandidates x.rules rules used
    → ((d : Depth) (ns : List Node) → Holds d s ns → from ≤ to → to ≡ length ns → AreCandidates d.rules rules used → Comes d ns (round_of_states d.most d.rules (drop from ns) (round_in d (tally_of s) ns)) o u)
    → Comes (next_depth x.rules most k.nodes) k.nodes (depth_round x.rules most from s k.nodes) o u
depth_comes x most depth done from to s u a b o rules used k at can f =
    let count = at ∙ alike_length (KeepsNode x.rules s) s.states.keys k.nodes k.holds.kept in
    let within = k.holds.within in
    f (next_depth x.rules most k.nodes) k.nodes (holds_next x.rules most from s k.nodes k.holds) (omega (arith, count, within)) count can

-- the tries of a depth can be made
pub states_can : (x : rule.Exploration) (most depth done from to : ℕ) (s : Search) (a b : Sunk) (rules : Rules) (used : List (Vec Bool Global)) → (k : DepthsAhead x most depth done from s a b) → to ≡ length s.states.keys
    → AreCandidates x.rules rules used → CanTryStates s rules used from to
states_can x most depth done from to s a b rules used k at can =
    let count = at ∙ alike_length (KeepsNode x.rules s) s.states.keys k.nodes k.holds.kept in
    let within = k.holds.within in
    (next_depth x.rules most k.nodes, k.nodes, holds_next x.rules most from s k.nodes k.holds, omega (arith, count, within), count, can)
