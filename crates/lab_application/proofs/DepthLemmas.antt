-- How the text of an exploration follows its depths.
use Rattle.std.proofs.Common.{◌≡◌, ℕ, ◌+◌, ◌<◌, ◌≤◌, List, [], ◌∷◌, ◌++◌, length, Option, Some, None, Result, IsErr, IfOk, refl, arith, sym, ap, ◌∙◌}
use Rattle.std.specs.Result.{IsErrAnd}
use Rattle.law_histories.specs.model_play.specs.DeckGrammar.{DeckLine}
use Rattle.law_histories.specs.model_play.specs.Play.{State}
use Rattle.law_histories.specs.law_explore.specs.Rules as rule
use Rattle.law_histories.specs.law_explore.specs.Search.{Ending, All, AtDepth, Broken, TooMany, Node}
use Rattle.law_histories.specs.law_explore.specs.States.{play_of_deck}
use Rattle.law_histories.specs.law_explore_text.specs.Report.{broken_text, sums_text}
use Rattle.law_histories.specs.Searches.{Round, Search as Found, kept_text, search_end, with_depth}
use Rattle.mc_text.specs.Texts.{Sunk, Writes, Fails}
use Rattle.lab_history.specs.declared.standing.Break.{Break}
use Rattle.lab_rules.specs.declared.rules.Rules.{Rules as MoveRules}
use Rattle.lab_search.specs.declared.endings.Explored.{Explored}
use Rattle.lab_search.specs.declared.endings.Explored.TheVariants as explored
use Rattle.mc_script.specs.declared.job.JobFault.{JobFault}
use Rattle.mc_script.specs.declared.job.JobFault.TheVariants as fault
use Rattle.lab_search.specs.declared.endings.Start.{Start}
use Rattle.lab_search.specs.declared.rounds.Search.{Search}
use Rattle.lab_search.specs.Endings.{kept_as, IsExplored, IsPut}
use Rattle.lab_search.specs.Reports.{depth_line, how_text}
use Rattle.lab_search.specs.Rounds.{Depth, Holds, KeepsNode}
use Rattle.lab_search.proofs.AlikeLemmas.{alike_length}
use Rattle.lab_search.proofs.HaltLemmas.{explored_err, nothing_yet}
use Rattle.lab_app_rules.specs.declared.rules.Rules.{Rules}
use Rattle.lab_application.specs.declared.attempts.Halt.{Halt}
use Rattle.lab_application.specs.declared.attempts.Halt.TheVariants as halt
use Rattle.lab_application.specs.Finding.{CanTryFrom, ComesTo, HoldsMore}
use Rattle.lab_application.specs.Names.{broken_name}
use Rattle.lab_application.specs.Shadows.{AreShadows, shadow}
use Rattle.lab_application.specs.Starts.{StartsWith}
use Rattle.lab_application.specs.Texts.{heard_from, kept_text_of, text_from, DepthsLeft, IsAppExplored, IsEndingFrom, IsFoundFrom, Reports}
use Rattle.lab_application.proofs.WordLemmas.{explored_by, explored_failed, explored_then, put_as, silent_is, way_is}

-- ---- searches

-- what a search that ended has found, by the code's search
abbrev round_of : Rules → Search → Round
round_of r s = record { known = []; fresh = []; count = length s.states.keys; tries = s.tally.tries; heard = heard_from 0 r.ons.items s.tally.heard.items }

-- a search that ends after a depth
abbrev pub ended : Rules → Search → Ending → Found
ended r s e = search_end e (round_of r s)

-- the text of the end of a search that broke no rule
pub kept_is : (r : Rules) (s : Search) (how : List ℕ) → kept_text_of r s how ≡ kept_text (round_of r s) how
kept_is r s how = ap (λ t. t ++ sums_text (length s.states.keys) s.tally.tries how) (silent_is 0 r.ons.items s.tally.heard.items)

ending_more : (r : Rules) (ms : List rule.Move) (k depth n : ℕ) (news : List ℕ) (e : Ending) → IsEndingFrom r ms (k + 1) depth news e → IsEndingFrom r ms k depth (n ∷ news) e
ending_more r ms k depth n news All h = (n ∷ h.0, ap (λ l. n ∷ l) h.1)
ending_more r ms k depth n news (AtDepth d) h = (h.0, omega (arith, h.1))
ending_more r ms k depth n news (TooMany d) h = omega (arith, h)
ending_more r ms k depth n news (Broken name path) h = h

-- one depth more before a search
pub found_more : (r : Rules) (ms : List rule.Move) (k depth n : ℕ) (q : Found) → IsFoundFrom r ms (k + 1) depth q → IsFoundFrom r ms k depth (with_depth n q)
found_more r ms k depth n q h =
    let few = h.few in
    record { few = omega (arith, few); ending = ending_more r ms k depth n q.news q.ending h.ending; heard = h.heard }

-- ---- the loop

-- the text of a search, from its first depth
text_whole : (r : Rules) (ms : List rule.Move) (depth : ℕ) (z : State) (a c : Sunk) (result : Result Explored JobFault) (q : Found) → IsFoundFrom r ms 0 depth q → IsExplored a (text_from 1 z q) q.ending result c
    → IsAppExplored r ms depth z a result c
text_whole r ms depth z a c result q found h = record { search = q; found = found; explored = h }

module _ (r : Rules) (ls : List (ℕ × DeckLine)) (ms : List rule.Move) (n most depth : ℕ) where
  abbrev pub Left : ℕ → Search → Sunk → Sunk → Type 0
  Left done s a b = DepthsLeft r ls ms n most depth done s a b

  abbrev z : State
  z = play_of_deck ls

  abbrev d : Depth
  d = record { rules = shadow ms n; most = most; from = 0 }

  -- the search begins
  pub left_first : (s : Search) (w : Start) (a : Sunk) → StartsWith ls ms n most s w → Left 0 s a a
  left_first s w a h = record { nodes = h.node ∷ []; holds = h.holds; rest = λ q result c found x. text_whole r ms depth z a c result q found x }

  -- out of memory within a depth
  pub left_stops : (done : ℕ) (s : Search) (a b : Sunk) (result : Result Explored JobFault) → done < depth → Left done s a b → IsErr result → IsErrAnd result (λ y. y ≡ fault.NoMemory) → IsAppExplored r ms depth z a result b
  left_stops done s a b result below k i y =
      k.rest (ended r s (TooMany (done + 1))) result b
      (record { few = omega (arith, below); ending = omega arith; heard = (s.tally.heard.items, refl) })
      (explored_err b b _ _ result fault.NoMemory i y (nothing_yet b _))

  -- a depth with one state too many, or with a broken rule
  pub left_halts : (done : ℕ) (s u : Search) (a b c : Sunk) (h : Halt) (result : Result Explored JobFault) → done < depth → Left done s a b → Reports r u z ms (done + 1) h b result c → IsAppExplored r ms depth z a result c
  left_halts done s u a b c halt.Full result below k h =
      k.rest (ended r u (TooMany (done + 1))) result c
      (record { few = omega (arith, below); ending = omega arith; heard = (u.tally.heard.items, refl) })
      (explored_by b c _ (TooMany (done + 1)) explored.Partial result refl (put_as b c result (kept_is r u (how_text (Some (done + 1)))) h.0) h.1)
  left_halts done s u a b c (halt.Broken x step) result below k h =
      let name = broken_name r x in
      let path = h.0 ∷ h.1 in
      k.rest (ended r u (Broken name path)) result c
      (record { few = omega (arith, below); ending = ((x, refl), h.2); heard = (u.tally.heard.items, refl) })
      (explored_by b c _ (Broken name path) explored.Broken result refl (put_as b c result (ap (broken_text name) (sym (way_is z h.0 h.1))) h.3) h.4)

  -- the line of a depth fails
  pub left_fails : (done new : ℕ) (s u : Search) (a b c : Sunk) (result : Result Explored JobFault) → done < depth → Left done s a b → IsErr result → IsErrAnd result (λ y. y ≡ fault.WriteFault) → Fails b (depth_line (done + 1) new) c
      → IsAppExplored r ms depth z a result c
  left_fails done new s u a b c result below k i y f =
      let q = ended r u (TooMany (done + 2)) in
      let ended_next : IsFoundFrom r ms (done + 1) depth q = record { few = omega (arith, below); ending = omega arith; heard = (u.tally.heard.items, refl) } in
      k.rest (with_depth new q) result c (found_more r ms done depth new q ended_next) (explored_failed (done + 1) z new q b c result i y f)

  -- a depth without new states is the last
  pub left_last : (done new : ℕ) (s u : Search) (a b m c : Sunk) (result : Result Explored JobFault) → done < depth → Left done s a b → new ≡ 0 → Writes b (depth_line (done + 1) new) m
      → IsPut m (kept_text_of r u (how_text None)) result c → IfOk result (λ e. e ≡ kept_as None) → IsAppExplored r ms depth z a result c
  left_last done new s u a b m c result below k none w put is =
      let q = ended r u All in
      let found : IsFoundFrom r ms done depth (with_depth new q) = record {
        few = omega (arith, below);
        ending = ([], ap (λ i. i ∷ []) none);
        heard = (u.tally.heard.items, refl);
      } in
      k.rest (with_depth new q) result c found
      (explored_then (done + 1) z new q b m c result w (explored_by m c _ All explored.All result refl (put_as m c result (kept_is r u (how_text None)) put) is))

  -- a depth with new states
  pub left_next : (done new : ℕ) (s u : Search) (a b m : Sunk) → (k : Left done s a b) → HoldsMore d k.nodes u → Writes b (depth_line (done + 1) new) m → Left (done + 1) u a m
  left_next done new s u a b m k h w =
      record {
        nodes = h.all;
        holds = h.holds;
        rest = λ q result c found x. k.rest (with_depth new q) result c (found_more r ms done depth new q found) (explored_then (done + 1) z new q b m c result w x);
      }

  -- all depths are done
  pub left_end : (done : ℕ) (s : Search) (a b c : Sunk) (result : Result Explored JobFault) → Left done s a b → done ≡ depth → IsPut b (kept_text_of r s (how_text (Some depth))) result c → IfOk result (λ e. e ≡ kept_as (Some depth))
      → IsAppExplored r ms depth z a result c
  left_end done s a b c result k e put is =
      k.rest (ended r s (AtDepth depth)) result c
      (record { few = omega (arith, e); ending = (refl, omega (arith, e)); heard = (s.tally.heard.items, refl) })
      (explored_by b c _ (AtDepth depth) explored.Partial result refl (put_as b c result (kept_is r s (how_text (Some depth))) put) is)

  -- the states of a depth can be tried
  pub left_can : (done from to : ℕ) (s : Search) (a b : Sunk) (c : MoveRules) → (k : Left done s a b) → AreShadows c (shadow ms n) → from ≤ to → to ≡ length s.states.keys → CanTryFrom s c from to
  left_can done from to s a b c k shadows within at =
      (d, k.nodes, k.holds, within, at ∙ alike_length (KeepsNode (shadow ms n) s) s.states.keys k.nodes k.holds.kept, shadows)

  -- what the tries of a depth come to
  pub left_comes : (done from to : ℕ) (s u : Search) (a b : Sunk) (c : MoveRules) (o : Option Halt) → (k : Left done s a b) → AreShadows c (shadow ms n) → from ≤ to → to ≡ length s.states.keys
      → ((e : Depth) (ns : List Node) → Holds e s ns → from ≤ to → to ≡ length ns → AreShadows c e.rules → ComesTo e ns o u) → ComesTo d k.nodes o u
  left_comes done from to s u a b c o k shadows within at f =
      f d k.nodes k.holds within (at ∙ alike_length (KeepsNode (shadow ms n) s) s.states.keys k.nodes k.holds.kept) shadows

-- the deck itself breaks a rule
pub deck_breaks : (r : Rules) (ms : List rule.Move) (depth : ℕ) (z : State) (a b : Sunk) (x : Break) (result : Result Explored JobFault) → IsPut a (broken_text (broken_name r x) []) result b → IfOk result (λ e. e ≡ explored.Broken)
    → IsAppExplored r ms depth z a result b
deck_breaks r ms depth z a b x result put is =
    let q : Found = search_end (Broken (broken_name r x) []) (record { known = []; fresh = []; count = 0; tries = 0; heard = heard_from 0 r.ons.items [] }) in
    record {
      search = q;
      found = record { few = omega arith; ending = ((x, refl), tt); heard = ([], refl) };
      explored = explored_by a b _ (Broken (broken_name r x) []) explored.Broken result refl put is;
    }

-- out of memory before the first byte is written
pub app_stops : (r : Rules) (ms : List rule.Move) (depth : ℕ) (z : State) (a : Sunk) (result : Result Explored JobFault) → IsErr result → IsErrAnd result (λ y. y ≡ fault.NoMemory) → IsAppExplored r ms depth z a result a
app_stops r ms depth z a result i y =
    let q : Found = search_end (TooMany 1) (record { known = []; fresh = []; count = 0; tries = 0; heard = heard_from 0 r.ons.items [] }) in
    record { search = q; found = record { few = omega arith; ending = omega arith; heard = ([], refl) }; explored = explored_err a a _ _ result fault.NoMemory i y (nothing_yet a _) }
