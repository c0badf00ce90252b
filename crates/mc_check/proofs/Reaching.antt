-- The facts that are reached if a fact is.
use Rattle.std.proofs.Common.{ℕ, List}
use Rattle.model_stack.specs.StackShape.{Routine, Main, At, Fact, fact, Reached}

-- the routine begins at its own place
abbrev pub RoutineEntered : List ℕ → Routine → Type 0
RoutineEntered code Main = Unit {0}
RoutineEntered code (At q) = Reached code (fact (At q) q 0)

-- a routine of which some fact is reached is entered
pub entered : {code : List ℕ} {f : Fact} → Reached code f → RoutineEntered code f.routine
entered Reached.begins = tt
entered (Reached.goes i next r g c o) = entered r
entered (Reached.jumps i next to r g j) = entered r
entered (Reached.calls i next q r g c) = Reached.calls i next q r g c
entered (Reached.passes i next q r g c k) = entered r
entered (Reached.returns i next q back less more r g c b s n l) = entered r
