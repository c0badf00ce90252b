-- A turn, by the protection before it and the mode of its instruction.
use Rattle.std.specs.Prelude.{◌≡◌, ℕ, ◌≤◌, Bool, true, false, cond, not, List, length, Option, Some, None, refl}
use Rattle.std.specs.List.{AllByRecursion}
use Rattle.std.proofs.Common.{subst, arith}
use Rattle.model_sums.specs.model_events.specs.Deeds.{Deed}
use Rattle.model_sums.specs.model_rules.specs.Rules.{AppRules}
use Rattle.model_sums.specs.model_rules.specs.Keeping.{Sum, Standing, line_of_deed, mode_of, protected_sums, after_moves, after_deed}
use Rattle.model_sums.specs.model_prove.specs.Facts.{Memory}
use Rattle.model_sums.specs.Origins.{Origins}
use Rattle.model_sums.specs.Sums.{Sums}
use Rattle.model_sums.specs.Says.{OffsHold, read_sums}
use Rattle.model_sums.specs.Events.{public_size, is_commit, drops, asks, counted}
use Rattle.law_sums.specs.EventLaws.{has_sum, PublicHolds}
use Rattle.law_sums.specs.TurnLaws.{StaysProtected, row_sums, TurnHolds}
use Rattle.law_sums.proofs.KnownLemmas.{even_totals}
use Rattle.law_sums.proofs.EventLemmas.{event_moves}

-- the sums that stand, if both are the same
all_the_same : (q : Bool) (s : Standing) (x : List Sum) → read_sums q (record s { kept = x; waiting = x }) ≡ x
all_the_same true s x = refl
all_the_same false s x = refl

-- what stands where totals are asked
asked_turn : (r : AppRules) (p q : Bool) (mode : Option ℕ) (first : List ℕ) (k : Memory) (v : Sums) (s : Standing) (x : List Sum) → asks p mode ≡ true
    → OffsHold first k x r.totals v.offs → TurnHolds r p q mode first k v s (record s { kept = x; waiting = x })
asked_turn r p q mode first k v s x e h = grind (arith, all_the_same, even_totals)

by_mode : (b : Bool) (r : AppRules) (q : Bool) (mode : ℕ) (line public first : List ℕ) (k : Memory) (s : Standing) (u : Sums) (o : Origins) → is_commit mode ≡ b
    → AllByRecursion (λ l. has_sum s.waiting l.name ≡ true) r.moves → PublicHolds o first public → public_size ≤ length public
    → OffsHold first k (cond (not b) s.kept s.waiting) r.totals u.offs
    → TurnHolds r true q (Some mode) first k (counted (not b) r.totals r.moves line o u) s
    (cond b (record s { kept = after_moves r.moves line public s.waiting; waiting = after_moves r.moves line public s.waiting }) (record s { waiting = s.kept }))
by_mode true r q mode line public first k s u o e n p l h =
    asked_turn r true q (Some mode) first k (counted false r.totals r.moves line o u) s (after_moves r.moves line public s.waiting) e
    (event_moves r.totals r.moves line public first k s.waiting o n p l u.offs h)
by_mode false r q mode line public first k s u o e n p l h =
    record {
      offs = both q h;
      asked = λ a i. absurd (cc (e, a));
      kept = λ a. refl;
    }
  where
    both : (q : Bool) → OffsHold first k s.kept r.totals u.offs → OffsHold first k (read_sums q (record s { waiting = s.kept })) r.totals u.offs
    both true h = h
    both false h = h

by_protection : (p : Bool) (mode : Option ℕ) (r : AppRules) (q : Bool) (line public first : List ℕ) (k : Memory) (s : Standing) (u : Sums) (o : Origins)
    → AllByRecursion (λ l. has_sum (read_sums p s) l.name ≡ true) r.moves → PublicHolds o first public → public_size ≤ length public → StaysProtected mode p q
    → OffsHold first k (row_sums p mode s) r.totals u.offs
    → TurnHolds r p q mode first k (counted (drops p mode) r.totals r.moves line o u) s
    (cond p (protected_sums mode (after_moves r.moves line public s.waiting) s)
    (record s { kept = after_moves r.moves line public s.kept; waiting = after_moves r.moves line public s.kept }))
by_protection false mode r q line public first k s u o n p l t h =
    asked_turn r false q mode first k (counted false r.totals r.moves line o u) s (after_moves r.moves line public s.kept) refl
    (event_moves r.totals r.moves line public first k s.kept o n p l u.offs h)
by_protection true (Some mode) r q line public first k s u o n p l t h = by_mode (is_commit mode) r q mode line public first k s u o refl n p l h
by_protection true None r q line public first k s u o n p l t h = grind (arith, event_moves)

deed_by : (p : Bool) (r : AppRules) (d : Deed) (s : Standing)
    → cond p (protected_sums (mode_of d.ins) (after_moves r.moves (line_of_deed d) d.public s.waiting) s)
    (record s { kept = after_moves r.moves (line_of_deed d) d.public s.kept; waiting = after_moves r.moves (line_of_deed d) d.public s.kept })
    ≡ after_deed r p d s
deed_by true r d s = refl
deed_by false r d s = refl

-- what is known after a turn holds of the sums that its event leaves
pub turn_holds : (r : AppRules) (d : Deed) (s : Standing) (q : Bool) (u : Sums) (o : Origins) (first : List ℕ) (k : Memory)
    → AllByRecursion (λ l. has_sum (read_sums d.frame.protected s) l.name ≡ true) r.moves → PublicHolds o first d.public → public_size ≤ length d.public
    → StaysProtected (mode_of d.ins) d.frame.protected q → OffsHold first k (row_sums d.frame.protected (mode_of d.ins) s) r.totals u.offs
    → TurnHolds r d.frame.protected q (mode_of d.ins) first k
    (counted (drops d.frame.protected (mode_of d.ins)) r.totals r.moves (line_of_deed d) o u) s (after_deed r d.frame.protected d s)
turn_holds r d s q u o first k n p l t h =
    subst (λ (x : Standing). TurnHolds r d.frame.protected q (mode_of d.ins) first k (counted (drops d.frame.protected (mode_of d.ins)) r.totals r.moves (line_of_deed d) o u) s x)
    (deed_by d.frame.protected r d s)
    (by_protection d.frame.protected (mode_of d.ins) r q (line_of_deed d) d.public first k s u o n p l t h)
