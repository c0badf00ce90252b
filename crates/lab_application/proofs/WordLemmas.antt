-- The texts of an exploration, by the parts that are written.
use Rattle.std.proofs.Common.{◌≡◌, ◌≢◌, ℕ, suc, ◌+◌, ◌≤◌, Bool, true, false, List, [], ◌∷◌, ◌++◌, drop, length, reverse, Some, Result, Ok, Err, IsErr, IfOk, refl, arith, sym, ap, subst, ◌∙◌, append_assoc, add-one, slice_get}
use Rattle.std.specs.Prelude.{slice_index_or}
use Rattle.std.specs.List.{AllByRecursion}
use Rattle.std.specs.Result.{IsErrAnd}
use Rattle.std.proofs.lemmas.List.{length-reverse}
use Rattle.law_histories.specs.model_play.specs.Play.{State}
use Rattle.law_histories.specs.law_explore.specs.Rules as rule
use Rattle.law_histories.specs.law_explore.specs.Search.{Ending, All, AtDepth, Broken, TooMany, statements_to}
use Rattle.law_histories.specs.law_explore.specs.Tries.{Try}
use Rattle.law_histories.specs.law_explore_text.specs.Report.{depth_lines, silent_lines, sums_text}
use Rattle.law_histories.specs.Searches.{Search as Found, ending_text, silent_of, way, with_depth}
use Rattle.lab_rules.specs.Meanings.{AlikeLists}
use Rattle.mc_text.specs.Texts.{Sunk, Writes, Fails}
use Rattle.mc_text.proofs.TextLemmas.{fails_before, fails_then, writes_then}
use Rattle.lab_search.specs.declared.endings.Explored.{Explored}
use Rattle.mc_script.specs.declared.job.JobFault.{JobFault}
use Rattle.mc_script.specs.declared.job.JobFault.TheVariants as fault
use Rattle.lab_search.specs.declared.journey.Step.{Step}
use Rattle.lab_search.specs.Endings.{explored_as, IsExplored, IsPut}
use Rattle.lab_search.specs.Reports.{depth_line}
use Rattle.lab_search.specs.Rounds.{IsTry}
use Rattle.lab_search.specs.Tallies.{silent_if}
use Rattle.lab_search.proofs.AlikeLemmas.{drop_at, drop_past}
use Rattle.lab_search.proofs.EndingLemmas.{put_failed}
use Rattle.lab_search.proofs.HaltLemmas.{err_ending}
use Rattle.lab_app_rules.specs.declared.rules.On.{On}
use Rattle.lab_app_rules.specs.declared.rules.Rules.{Rules}
use Rattle.lab_search.specs.declared.rounds.Search.{Search}
use Rattle.lab_application.specs.Texts.{heard_from, kept_text_of, silent_from, text_from, IsOfMoves}

-- ---- lines

silent_by : (b : Bool) (n : ℕ) (hs : List (ℕ × Bool)) → silent_if b n ++ silent_lines (silent_of hs) ≡ silent_lines (silent_of ((n, b) ∷ hs))
silent_by true n hs = refl
silent_by false n hs = refl

-- the lines of those that applied to no try
pub silent_is : (i : ℕ) (os : List On) (hs : List Bool) → silent_from i os hs ≡ silent_lines (silent_of (heard_from i os hs))
silent_is i [] hs = refl
silent_is i (o ∷ os) hs = ap (λ t. silent_if (slice_index_or hs i true) o.line ++ t) (silent_is (suc i) os hs) ∙ silent_by (slice_index_or hs i true) o.line (heard_from (suc i) os hs)

-- the lines of the rules from an index on
pub silent_next : (os : List On) (hs : List Bool) (i : ℕ) (o : On) (b : Bool) → slice_get os i ≡ Some o → b ≡ slice_index_or hs i true
    → silent_from i (drop i os) hs ≡ silent_if b o.line ++ silent_from (i + 1) (drop (i + 1) os) hs
silent_next os hs i o b here e =
    ap (λ (l : List On). silent_from i l hs) (drop_at os i o here)
    ∙ ap (λ (c : Bool). silent_if c o.line ++ silent_from (suc i) (drop (i + 1) os) hs) (sym e)
    ∙ ap (λ (k : ℕ). silent_if b o.line ++ silent_from k (drop (i + 1) os) hs) (sym (add-one i))

pub silent_end : (os : List On) (hs : List Bool) (i : ℕ) → length os ≤ i → [] ≡ silent_from i (drop i os) hs
silent_end os hs i h = sym (ap (λ (l : List On). silent_from i l hs) (drop_past os i h))

-- ---- tries

-- the tries of steps are of moves
pub of_moves : (ms : List rule.Move) (ss : List Step) (ts : List Try) → AlikeLists (IsTry ms) ss ts → AllByRecursion (IsOfMoves ms) ts
of_moves ms [] [] h = tt
of_moves ms [] (t ∷ ts) h = absurd h
of_moves ms (s ∷ ss) [] h = absurd h
of_moves ms (s ∷ ss) (t ∷ ts) h = ((s.chosen, h.0.move), of_moves ms ss ts h.1)

way_some : (z : State) (ts : List Try) → length ts ≢ 0 → way z ts ≡ statements_to z ts
way_some z [] h = absurd (h refl)
way_some z (t ∷ ts) h = refl

-- the way of some tries
pub way_is : (z : State) (t : Try) (ts : List Try) → way z (reverse (t ∷ ts)) ≡ statements_to z (reverse (t ∷ ts))
way_is z t ts = way_some z (reverse (t ∷ ts)) (λ e. let no : suc (length ts) ≡ 0 = sym (length-reverse (t ∷ ts)) ∙ e in absurd (omega (arith, no)))

-- ---- what is put

-- a text that is put after one that was written
pub put_then : {X : Type 0} (a b c : Sunk) (s t : List ℕ) (r : Result X JobFault) → Writes a s b → IsPut b t r c → IsPut a (s ++ t) r c
put_then a b c s t (Ok x) w p = writes_then w p
put_then a b c s t (Err fault.WriteFault) w p = fails_then w p
put_then a b c s t (Err fault.NoMemory) w p =
    record { front = s ++ p.front; rest = p.rest; parts = ap (λ x. s ++ x) p.parts ∙ sym (append_assoc s p.front p.rest); written = writes_then w p.written }

-- the end of a search with one depth before it
ending_same : (z : State) (n : ℕ) (q : Found) (x : Ending) → ending_text z (with_depth n q).found x ≡ ending_text z q.found x
ending_same z n q All = refl
ending_same z n q (AtDepth d) = refl
ending_same z n q (Broken name path) = refl
ending_same z n q (TooMany d) = refl

-- the text of a search with one depth before it
pub text_split : (k : ℕ) (z : State) (n : ℕ) (q : Found) → text_from k z (with_depth n q) ≡ depth_line k n ++ text_from (k + 1) z q
text_split k z n q =
    ap (λ t. depth_lines k (n ∷ q.news) ++ t) (ending_same z n q q.ending) ∙ append_assoc (depth_line k n) (depth_lines (k + 1) q.news) (ending_text z q.found q.ending)

-- the line of a depth was written, and then the rest
pub explored_then : (k : ℕ) (z : State) (n : ℕ) (q : Found) (a b c : Sunk) (r : Result Explored JobFault) → Writes a (depth_line k n) b → IsExplored b (text_from (k + 1) z q) q.ending r c
    → IsExplored a (text_from k z (with_depth n q)) (with_depth n q).ending r c
explored_then k z n q a b c r w x =
    record { text = subst (λ (t : List ℕ). IsPut a t r c) (sym (text_split k z n q)) (put_then a b c (depth_line k n) (text_from (k + 1) z q) r w x.text); ending = x.ending }

-- the line of a depth failed
pub explored_failed : (k : ℕ) (z : State) (n : ℕ) (q : Found) (a b : Sunk) (r : Result Explored JobFault) → IsErr r → IsErrAnd r (λ y. y ≡ fault.WriteFault) → Fails a (depth_line k n) b
    → IsExplored a (text_from k z (with_depth n q)) (with_depth n q).ending r b
explored_failed k z n q a b r i y f =
    record {
      text = subst (λ (t : List ℕ). IsPut a t r b) (sym (text_split k z n q)) (put_failed a b (depth_line k n ++ text_from (k + 1) z q) r i y (fails_before (text_from (k + 1) z q) f));
      ending = err_ending r q.ending i;
    }

-- what was put, and how it ends
pub explored_by : (a b : Sunk) (t : List ℕ) (end : Ending) (e : Explored) (r : Result Explored JobFault) → e ≡ explored_as end → IsPut a t r b → IfOk r (λ x. x ≡ e) → IsExplored a t end r b
explored_by a b t end e (Ok x) how p is = record { text = p; ending = is ∙ how }
explored_by a b t end e (Err f) how p is = record { text = p; ending = tt }

pub put_as : {X : Type 0} (a b : Sunk) {s t : List ℕ} (r : Result X JobFault) → s ≡ t → IsPut a s r b → IsPut a t r b
put_as a b r e p = subst (λ (x : List ℕ). IsPut a x r b) e p

-- ---- the end of a search that broke no rule

module _ (r : Rules) (s : Search) (used : List On) (heard : List Bool) where
  silent_used : used ≡ r.ons.items → heard ≡ s.tally.heard.items → silent_from 0 used heard ≡ silent_from 0 r.ons.items s.tally.heard.items
  silent_used e f = ap (λ (os : List On). silent_from 0 os heard) e ∙ ap (λ (hs : List Bool). silent_from 0 r.ons.items hs) f

  -- the lines of the rules fail
  pub silent_fails : (how : List ℕ) → used ≡ r.ons.items → heard ≡ s.tally.heard.items → (a b : Sunk) → Fails a (silent_from 0 used heard) b → Fails a (kept_text_of r s how) b
  silent_fails how e f a b h = fails_before (sums_text (length s.states.keys) s.tally.tries how) (subst (λ (x : List ℕ). Fails a x b) (silent_used e f) h)

  -- the sums fail
  pub sums_fail : (n : ℕ) (how : List ℕ) → n ≡ length s.states.keys → used ≡ r.ons.items → heard ≡ s.tally.heard.items → (a b c : Sunk) → Writes a (silent_from 0 used heard) b → Fails b (sums_text n s.tally.tries how) c
      → Fails a (kept_text_of r s how) c
  sums_fail n how many e f a b c w h = fails_then (subst (λ (x : List ℕ). Writes a x b) (silent_used e f) w) (subst (λ (i : ℕ). Fails b (sums_text i s.tally.tries how) c) many h)

  -- all is written
  pub kept_written : (n : ℕ) (how : List ℕ) → n ≡ length s.states.keys → used ≡ r.ons.items → heard ≡ s.tally.heard.items → (a b c : Sunk) → Writes a (silent_from 0 used heard) b → Writes b (sums_text n s.tally.tries how) c
      → Writes a (kept_text_of r s how) c
  kept_written n how many e f a b c w v = writes_then (subst (λ (x : List ℕ). Writes a x b) (silent_used e f) w) (subst (λ (i : ℕ). Writes b (sums_text i s.tally.tries how) c) many v)

-- ---- a broken rule

-- steps of a list that is another one, by moves that are other ones
pub steps_of : (ms ns : List rule.Move) (xs ys : List Step) (ts : List Try) → ms ≡ ns → xs ≡ ys → AlikeLists (IsTry ms) ys ts → AlikeLists (IsTry ns) xs ts
steps_of ms ns xs ys ts e f h = subst (λ (rs : List rule.Move). AlikeLists (IsTry rs) xs ts) e (subst (λ (zs : List Step). AlikeLists (IsTry ms) zs ts) (sym f) h)
