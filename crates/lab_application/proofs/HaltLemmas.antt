-- What is reported of a search that ended within a depth.
use Rattle.std.proofs.Common.{◌≡◌, ℕ, zero, suc, ◌+◌, ◌≤◌, List, ◌∷◌, reverse, Some, Result, IfOk, arith, sym, subst, slice_get}
use Rattle.std.specs.List.{AllByRecursion}
use Rattle.std.proofs.lemmas.Option.{slice_get_within}
use Rattle.law_histories.specs.model_play.specs.Play.{State}
use Rattle.law_histories.specs.law_explore.specs.Rules as rule
use Rattle.law_histories.specs.law_explore.specs.Search.{Node, statements_to}
use Rattle.law_histories.specs.law_explore.specs.Tries.{Try}
use Rattle.law_histories.specs.law_explore_text.specs.Report.{broken_text}
use Rattle.mc_text.specs.Texts.{Sunk}
use Rattle.lab_history.specs.declared.standing.Break.{Break}
use Rattle.lab_search.specs.declared.endings.Explored.{Explored}
use Rattle.lab_search.specs.declared.endings.Explored.TheVariants as explored
use Rattle.mc_script.specs.declared.job.JobFault.{JobFault}
use Rattle.lab_search.specs.declared.journey.Step.{Step}
use Rattle.lab_search.specs.declared.rounds.Search.{Search}
use Rattle.lab_search.specs.Endings.{IsPut}
use Rattle.lab_search.specs.Reports.{how_text}
use Rattle.lab_search.specs.Rounds.{AreReached, Depth, IsFrom, IsTry}
use Rattle.lab_search.proofs.AlikeLemmas.{get_within}
use Rattle.lab_app_rules.specs.declared.rules.Rules.{Rules}
use Rattle.lab_application.specs.declared.attempts.Halt.{Halt}
use Rattle.lab_application.specs.declared.attempts.Halt.TheVariants as halt
use Rattle.lab_application.specs.Finding.{BreaksAt, ComesTo}
use Rattle.lab_application.specs.Names.{broken_name}
use Rattle.lab_application.specs.Texts.{kept_text_of, IsOfMoves, Reports}

-- ---- paths

-- the tries that lead to a node are of the moves
pub path_of : (moves : List rule.Move) (steps : List Step) (ns : List Node) → AreReached moves steps ns → (most i : ℕ) → i ≤ most → (n : Node) → slice_get ns i ≡ Some n → AllByRecursion (IsOfMoves moves) n.path
path_of moves steps ns h most zero w n at = subst (λ (ts : List Try). AllByRecursion (IsOfMoves moves) ts) (sym (h.first n at)) tt
path_of moves steps ns h zero (suc i) w n at = absurd (omega (arith, w))
path_of moves steps ns h (suc most) (suc i) w n at =
    let count = h.count in
    let within = slice_get_within ns (suc i) n at in
    let s = get_within steps i (omega (arith, count, within)) in
    let next : suc i ≡ i + 1 = omega arith in
    let r = h.each i s.0 n s.1 (subst (λ (k : ℕ). slice_get ns k ≡ Some n) next at) in
    let earlier = r.earlier in
    subst (λ (ts : List Try). AllByRecursion (IsOfMoves moves) ts) (sym r.path)
    (((s.0).chosen, (r.is).move), path_of moves steps ns h most (s.0).before (omega (arith, earlier, w)) r.before r.found)

-- ---- reports

-- the last try and the ones before it
pub breaks_of_moves : (d : Depth) (ns : List Node) (r : Step) (s : Search) → (b : BreaksAt d ns r s) → AllByRecursion (IsOfMoves d.rules.moves) (b.last ∷ b.before.path)
breaks_of_moves d ns r s b = ((r.chosen, b.is.move), path_of d.rules.moves s.last_steps.items b.all b.holds.reached r.before r.before (omega arith) b.before b.found)

breaks_by_halt : (d : Depth) (ns : List Node) (h : Halt) (x : Break) (r : Step) (s : Search) → h ≡ halt.Broken x r → ComesTo d ns (Some h) s → BreaksAt d ns r s
breaks_by_halt d ns h x r s e k = let at = subst (λ (y : Halt). ComesTo d ns (Some y) s) e k in at

pub reports_full : (r : Rules) (s : Search) (z : State) (ms : List rule.Move) (depth : ℕ) (h : Halt) (a b : Sunk) (result : Result Explored JobFault) → h ≡ halt.Full → IsPut a (kept_text_of r s (how_text (Some depth))) result b
    → IfOk result (λ e. e ≡ explored.Partial) → Reports r s z ms depth h a result b
reports_full r s z ms depth h a b result e put is = subst (λ (y : Halt). Reports r s z ms depth y a result b) (sym e) (put, is)

pub reports_broken : (rules : Rules) (s : Search) (z : State) (x : rule.Rules) (d : Depth) (ns : List Node) (depth : ℕ) (h : Halt) (b : Break) (r : Step) (a c : Sunk) (result : Result Explored JobFault) → h ≡ halt.Broken b r → d.rules ≡ x
    → ComesTo d ns (Some h) s
    → ((all : List Node) (n : Node) (t : Try) → IsFrom d s all n r.before → IsTry d.rules.moves r t → IsPut a (broken_text (broken_name rules b) (statements_to z (reverse (t ∷ n.path)))) result c)
    → IfOk result (λ e. e ≡ explored.Broken) → Reports rules s z x.moves depth h a result c
reports_broken rules s z x d ns depth h b r a c result e same k f is =
    let at = breaks_by_halt d ns h b r s e k in
    let moves : AllByRecursion (IsOfMoves x.moves) (at.last ∷ at.before.path) = subst (λ (y : rule.Rules). AllByRecursion (IsOfMoves y.moves) (at.last ∷ at.before.path)) same (breaks_of_moves d ns r s at) in
    subst (λ (y : Halt). Reports rules s z x.moves depth y a result c) (sym e)
    (at.last, at.before.path, moves, f at.all at.before at.last (record { holds = at.holds; found = at.found }) at.is, is)
