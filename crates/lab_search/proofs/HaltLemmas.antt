-- How an exploration ends within a depth.
use Rattle.std.proofs.Common.{◌≡◌, ℕ, List, [], ◌∷◌, ◌++◌, codes, decimal, length, reverse, Result, Ok, Err, IsErr, refl, sym, subst, ◌∙◌}
use Rattle.std.specs.Result.{IsErrAnd}
use Rattle.law_explore_text.specs.model_play.specs.Play.{State}
use Rattle.law_explore_text.specs.law_explore.specs.Rules as rule
use Rattle.law_explore_text.specs.law_explore.specs.Tries.{Try}
use Rattle.law_explore_text.specs.law_explore.specs.Search.{Ending, HaltedRound, Node, Halt as SearchHalt, Full, RuleBroken, Broken, TooMany, ending_of, search_end, statements_to, Tally}
use Rattle.law_explore_text.specs.Report.{broken_text, kept_text}
use Rattle.lab_rules.specs.Meanings.{AlikeLists}
use Rattle.mc_text.specs.Texts.{Sunk}
use Rattle.mc_text.proofs.TextLemmas.{writes_none}
use Rattle.lab_search.specs.declared.endings.Explored.{Explored}
use Rattle.lab_search.specs.declared.endings.Explored.TheVariants as explored
use Rattle.mc_script.specs.declared.job.JobFault.{JobFault}
use Rattle.lab_search.specs.declared.journey.Step.{Step}
use Rattle.lab_search.specs.declared.rounds.Halt.{Halt}
use Rattle.lab_search.specs.declared.rounds.Halt.TheVariants as halt
use Rattle.lab_search.specs.declared.rounds.Search.{Search}
use Rattle.lab_search.specs.Rounds.{tally_of, BreaksBy, Depth, Ends, IsFrom, IsHalt, IsTry, KeepsNode}
use Rattle.lab_search.specs.Endings.{explored_as, Explores, IsExplored, IsPut, SaysEnding, StopsBy, WritesFront}
use Rattle.lab_search.proofs.AlikeLemmas.{alike_length}

-- ---- faults

-- an exploration that was ended by a fault says nothing of its end
pub err_ending : (r : Result Explored JobFault) (end : Ending) → IsErr r → SaysEnding r end
err_ending (Ok e) end h = absurd (cc h)
err_ending (Err f) end h = tt

-- a text that is put in part, by the fault that is passed on
pub put_err : {X : Type 0} (a b : Sunk) (t : List ℕ) (r : Result X JobFault) (g : JobFault) → IsErr r → IsErrAnd r (λ e. e ≡ g) → StopsBy g a t b → IsPut a t r b
put_err a b t (Ok x) g i e f = absurd (cc i)
put_err a b t (Err y) g i e f = subst (λ (z : JobFault). StopsBy z a t b) (sym e) f

-- an exploration that failed was put in part, by its fault
pub explored_err : (a b : Sunk) (t : List ℕ) (end : Ending) (r : Result Explored JobFault) (g : JobFault) → IsErr r → IsErrAnd r (λ e. e ≡ g) → StopsBy g a t b → IsExplored a t end r b
explored_err a b t end r g i e f = record { text = put_err a b t r g i e f; ending = err_ending r end i }

-- nothing was written yet
pub nothing_yet : (a : Sunk) (t : List ℕ) → WritesFront a t a
nothing_yet a t = record { front = []; rest = t; parts = refl; written = writes_none a }

-- ---- what ended

-- a rule that is broken
pub record IsRuleBroken (rules : rule.Rules) (ns : List Node) (i : ℕ) (s : Step) (e : SearchHalt) : Type 0 where
  pub name : List ℕ
  pub path : List Try
  pub is : e ≡ RuleBroken name path
  pub breaks : BreaksBy rules ns i s name path

broken_place : (j i : ℕ) (r s : Step) → halt.Broken j r ≡ halt.Broken i s → j ≡ i
broken_place j i r s e = cc e

broken_step : (j i : ℕ) (r s : Step) → halt.Broken j r ≡ halt.Broken i s → r ≡ s
broken_step j i r s e = cc e

-- a search that halted at a broken rule has that rule broken
pub halt_broken : (rules : rule.Rules) (ns : List Node) (h : Halt) (e : SearchHalt) (i : ℕ) (s : Step) → IsHalt rules ns h e → h ≡ halt.Broken i s → IsRuleBroken rules ns i s e
halt_broken rules ns halt.Full e i s h k = absurd (cc k)
halt_broken rules ns (halt.Broken j r) Full i s h k = absurd h
halt_broken rules ns (halt.Broken j r) (RuleBroken name path) i s h k =
    record { name = name; path = path; is = refl; breaks = subst (λ (x : Step). BreaksBy rules ns i x name path) (broken_step j i r s k) (subst (λ (x : ℕ). BreaksBy rules ns x r name path) (broken_place j i r s k) h) }

-- a search that halted for too many states is full
pub halt_full : (rules : rule.Rules) (ns : List Node) (h : Halt) (e : SearchHalt) → IsHalt rules ns h e → h ≡ halt.Full → e ≡ Full
halt_full rules ns (halt.Broken j r) e h k = absurd (cc k)
halt_full rules ns halt.Full Full h k = refl
halt_full rules ns halt.Full (RuleBroken name path) h k = absurd h

-- the tries of a broken rule are those of the path
pub path_tries : (d : Depth) (ns : List Node) (e : HaltedRound) (h : Halt) (s : Search) (i : ℕ) (r : Step) (steps : List Step) → (k : Ends d ns e h s) → (b : IsRuleBroken d.rules k.all i r e.halt)
    → ((q : Depth) (ms : List Node) (n : Node) (t : Try) → IsFrom q s ms n r.before → IsTry q.rules.moves r t → AlikeLists (IsTry q.rules.moves) steps (reverse (t ∷ n.path)))
    → AlikeLists (IsTry d.rules.moves) steps (reverse b.path)
path_tries d ns e h s i r steps k b f =
    subst (λ (ts : List Try). AlikeLists (IsTry d.rules.moves) steps (reverse ts)) (sym b.breaks.tries)
    (f d k.all b.breaks.before b.breaks.last (record { holds = k.holds; found = b.breaks.found }) b.breaks.is)

-- the exploration reports a broken rule
pub reports_broken : (ons : List rule.OnRule) (depth : ℕ) (z : State) (e : HaltedRound) (name : List ℕ) (path : List Try) (a b : Sunk) (r : Result Explored JobFault) → e.halt ≡ RuleBroken name path
    → IsPut a (broken_text name (statements_to z (reverse path))) r b → SaysEnding r (Broken name path) → Explores ons depth z (search_end (ending_of e.halt depth) e.count e.tally) a r b
reports_broken ons depth z e name path a b r is p q =
    subst (λ (h : SearchHalt). Explores ons depth z (search_end (ending_of h depth) e.count e.tally) a r b) (sym is) (record { text = p; ending = q })

-- the exploration reports one state too many
pub reports_full : (d : Depth) (ns : List Node) (depth : ℕ) (z : State) (e : HaltedRound) (h : Halt) (s : Search) (a b : Sunk) (r : Result Explored JobFault) → Ends d ns e h s → h ≡ halt.Full
    → ((end : Ending) → explored_as end ≡ explored.Partial → IsExplored a (kept_text d.rules.ons (length s.states.keys) (tally_of s) (codes " depth " ++ decimal depth)) end r b)
    → Explores d.rules.ons depth z (search_end (ending_of e.halt depth) e.count e.tally) a r b
reports_full d ns depth z e h s a b r k is f =
    let full = halt_full d.rules k.all h e.halt k.halt is in
    let count : length s.states.keys ≡ e.count = alike_length (KeepsNode d.rules s) s.states.keys k.all k.holds.kept ∙ sym k.count in
    let said = subst (λ (n : ℕ). IsExplored a (kept_text d.rules.ons n (tally_of s) (codes " depth " ++ decimal depth)) (TooMany depth) r b) count (f (TooMany depth) refl) in
    let sums = subst (λ (t : Tally). IsExplored a (kept_text d.rules.ons e.count t (codes " depth " ++ decimal depth)) (TooMany depth) r b) (sym k.tally) said in
    subst (λ (x : SearchHalt). Explores d.rules.ons depth z (search_end (ending_of x depth) e.count e.tally) a r b) (sym full) sums

-- steps of a list that is another one
pub steps_as : (ms : List rule.Move) {xs ys : List Step} (ts : List Try) → xs ≡ ys → AlikeLists (IsTry ms) ys ts → AlikeLists (IsTry ms) xs ts
steps_as ms ts e h = subst (λ (zs : List Step). AlikeLists (IsTry ms) zs ts) (sym e) h
