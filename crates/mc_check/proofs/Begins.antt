-- The search from one routine: how it begins, and that it ends with no routine open.
use Rattle.std.proofs.Common.{◌≡◌, ℕ, ◌+◌, ◌-◌, ◌<◌, List, [], ◌∷◌, ◌++◌, length, set, Some, None, refl, sym, subst, ◌∙◌, arith}
use Rattle.std.specs.Prelude.{slice_get}
use Rattle.std.proofs.lemmas.List.{length-set}
use Rattle.std.proofs.lemmas.Option.{slice_get-get_or, slice_get_within, none-some}
use Rattle.model_stack.specs.StackShape.{At}
use Rattle.mc_check.specs.declared.calls.Call.{Call}
use Rattle.mc_check.specs.declared.bases.Progress.{Progress}
use Rattle.mc_check.specs.declared.bases.Progress.TheVariants as progress
use Rattle.mc_check.specs.CallList.{IsCalled, EntersIn}
use Rattle.mc_check.specs.CallList as list
use Rattle.mc_check.specs.Searching.{count_of_unseen, Searches, IsSeen, StaySeen}
use Rattle.mc_check.proofs.ListPlaces.{get_push, before, last}
use Rattle.mc_check.proofs.SearchSteps.{unseen_set, written, this, other, entered_bound, stay_seen}

pub none_there : (k q : ℕ) → slice_get {X = ℕ} [] k ≡ Some q → ⊥
none_there k q e = cc

-- the routines that are open at first
one_open : (k q r : ℕ) → slice_get ([] ++ q ∷ []) k ≡ Some r → (k ≡ 0) × (q ≡ r)
one_open k q r get = grind (arith, get_push, before, none_there, last)

module _ (states : List Progress) (l : List Call) (q : ℕ) (so : Searches l states []) (called : IsCalled l q) (there : slice_get states q ≡ Some progress.Unseen) where
  inside : q < length states
  inside = slice_get_within states q progress.Unseen there

  fewer : count_of_unseen (set states q progress.Open) + 1 ≡ count_of_unseen states
  fewer = let less = unseen_set states q progress.Open progress.Unseen there in omega arith

  first : Searches l (set states q progress.Open) ([] ++ q ∷ [])
  first = record {
    called = λ k r get. subst (λ (x : ℕ). IsCalled l x) (one_open k q r get).1 called;
    enters = λ i j a b le one two. subst (λ (x : ℕ). EntersIn l (At b) (At x)) (sym (one_open j q b two).1 ∙ (one_open i q a one).1) list.same;
    on_stack = grind (arith, written, inside, this, other, none_there);
    bases = λ r b get. elim (written states q progress.Open r (progress.Done b) inside get) [
      | this same is ↦ absurd (cc is)
      | other ne old ↦ so.bases r b old
    ];
    room = let len = length-set states q progress.Open in let f = fewer in let r = so.room in omega arith;
    bound = grind (arith, written, inside, this, other, entered_bound, length-set, fewer);
  }

  this_seen : IsSeen (set states q progress.Open) q
  this_seen get = grind (arith, written, inside, this, other)

  -- the invariant of the search, once the first routine was entered
  pub begun : (new : List Progress) (stack now : List ℕ) → stack ≡ [] → new ≡ set states q progress.Open → now ≡ stack ++ q ∷ [] → Searches l new now × StaySeen states new × IsSeen new q
  begun new stack now none e f = grind (arith, first, stay_seen, inside, this_seen)

-- a list with no last element is empty
pub no_last : (stack : List ℕ) → slice_get stack (length stack - 1) ≡ None → stack ≡ []
no_last [] none = refl
no_last (q ∷ rest) none =
    let inside : length (q ∷ rest) - 1 < length (q ∷ rest) = omega arith in
    let there = slice_get-get_or (q ∷ rest) (length (q ∷ rest) - 1) 0 inside in
    absurd (none-some _ (sym none ∙ there))
