-- The search at its end: no place waits, so the table has all facts.
use Rattle.std.proofs.Common.{◌≡◌, ℕ, List, [], Option, Some, arith, inl, inr}
use Rattle.law_family.specs.model_machine.specs.declared.instruction.Ins.{Ins}
use Rattle.model_stack.specs.StackRows.{counts}
use Rattle.model_stack.specs.StackShape.{Routine, At, Fact, fact, Stands, look, Reached, begins, goes, jumps, calls, passes, returns, IsAt, Differs, TakesMore}
use Rattle.mc_check.specs.declared.shape.Counts.{Counts as Pair}
use Rattle.mc_check.specs.Table.{IsIn, IsWholeTable}
use Rattle.mc_check.specs.Closing.{Tables, HasCounts, IsFollowed, IsClosed, ClosedOrWaiting}
use Rattle.mc_check.proofs.FactLooks.{stands_at}

some_same : (a b : Pair) → ◌≡◌ {A = Option (Option Pair)} (Some (Some a)) (Some (Some b)) → a ≡ b
some_same a b h = cc

module _ (code : List ℕ) (s : Tables) (state : ClosedOrWaiting code [] s) where
  closed_in : (f : Fact) → IsIn s.table f → IsClosed code s.table s.counts f
  closed_in f m = elim (state.closed f m) [ inl closed ↦ closed | inr waits ↦ absurd waits ]

  -- the successors of a fact are in the tables, by the instruction at its place
  followed_at : (f : Fact) (i : Ins) → IsIn s.table f → IsAt code f.place i → (next : ℕ) × (look code f ≡ Stands i next) × IsFollowed s.table s.counts f i next
  followed_at f i m at =
      let stands = stands_at code f i (state.fit.sound f m).1 at in
      (stands.0, stands.1, closed_in f m i stands.0 stands.1)

  all_in : {f : Fact} → Reached code f → IsIn s.table f
  all_in begins = state.first
  all_in (goes {r} {p} {h} i next from gives plain on) = ((closed_in (fact r p h) (all_in from) i next gives.stands).leads gives.height).goes plain on
  all_in (jumps {r} {p} {h} i next to from gives e) = ((closed_in (fact r p h) (all_in from) i next gives.stands).leads gives.height).jumps to e
  all_in (calls {r} {p} {h} i next q from gives e) = ((closed_in (fact r p h) (all_in from) i next gives.stands).leads gives.height).calls q e
  all_in (passes {r} {p} {h} i next q from gives e conditional) = ((closed_in (fact r p h) (all_in from) i next gives.stands).leads gives.height).passes q e conditional
  all_in (returns {r} {p} {h} {at} {t} i next q back less more from gives e there stands e_back enough) =
      let known = (followed_at (fact (At q) at t) back (all_in there) stands).2.counted less more e_back in
      ((closed_in (fact r p h) (all_in from) i next gives.stands).back q (record { less = less; more = more }) e known).back gives.height

  -- the counts of a return are those in the tables
  counts_known : (f : Fact) (back : Ins) (less more : ℕ) → Reached code f → IsAt code f.place back → counts back ≡ Some (less, more) → HasCounts s.counts f.routine less more
  counts_known f back less more reached at e = (followed_at f back (all_in reached) at).2.counted less more e

  one_pair : (r : Routine) (less more less' more' : ℕ) → HasCounts s.counts r less more → HasCounts s.counts r less' more' → (less ≡ less') × (more ≡ more')
  one_pair r less more less' more' a b = grind (arith, some_same)

  differ_not : (f : Fact) → Reached code f → Differs code f → ⊥
  differ_not f reached d =
      let this = counts_known f d.back d.less d.more reached d.stands d.counts in
      let other = counts_known (fact f.routine d.other.place d.other.height) d.other.back d.other_less d.other_more d.other.reached d.other.stands d.other.counts in
      let same = one_pair f.routine d.less d.more d.other_less d.other_more this other in
      elim d.differ [ inl less ↦ less same.0 | inr more ↦ more same.1 ]

  takes_not : (f : Fact) → Reached code f → TakesMore code f → ⊥
  takes_not f reached t =
      let known = counts_known (fact (At t.to) t.counts.place t.counts.height) t.counts.back t.less t.more t.counts.reached t.counts.stands t.counts.counts in
      let comes = (followed_at f t.call (all_in reached) t.stands).2.back t.to (record { less = t.less; more = t.more }) t.target known in
      omega (arith, comes.enough, t.fewer)

  pub whole : IsWholeTable code s.table
  whole = grind (arith, all_in, differ_not, takes_not)
