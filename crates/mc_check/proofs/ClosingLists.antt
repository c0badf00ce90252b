-- Lists under the search for all facts: an empty table, the places that wait, and the places that are free.
use Rattle.std.proofs.Common.{◌≡◌, ◌⊎◌, ◌<◌, ◌+◌, ℕ, zero, suc, List, [], ◌∷◌, ◌++◌, length, set, slice_get, replicate, Option, Some, None, refl, inl, inr, arith}
use Rattle.std.proofs.lemmas.Bool.{cases_eq}
use Rattle.model_stack.specs.StackShape.{Fact}
use Rattle.mc_check.specs.declared.table.Entry.{Entry}
use Rattle.mc_check.specs.Table.{fact_of, IsIn}
use Rattle.mc_check.specs.Closing.{IsAmong, free}
use Rattle.mc_check.proofs.ListPlaces.{get_set_same, get_set_other}

-- ---- empty tables

pub get_replicated : {A : Type 0} (n i : ℕ) (a b : A) → slice_get (replicate n a) i ≡ Some b → a ≡ b
get_replicated zero i a b h = absurd (cc h)
get_replicated (suc n) zero a b h = cc
get_replicated (suc n) (suc i) a b h = get_replicated n i a b h

-- ---- places

pub among_more : (ps : List ℕ) (last place : ℕ) → IsAmong ps place → IsAmong (ps ++ last ∷ []) place
among_more [] last place m = absurd m
among_more (p ∷ ps) last place (inl e) = inl e
among_more (p ∷ ps) last place (inr m) = inr (among_more ps last place m)

pub among_last : (ps : List ℕ) (last : ℕ) → IsAmong (ps ++ last ∷ []) last
among_last [] last = inl refl
among_last (p ∷ ps) last = inr (among_last ps last)

-- the last place taken to the front
pub among_taken : (ps : List ℕ) (last place : ℕ) → IsAmong (ps ++ last ∷ []) place → IsAmong (last ∷ ps) place
among_taken [] last place m = m
among_taken (p ∷ ps) last place (inl e) = inr (inl e)
among_taken (p ∷ ps) last place (inr m) =
    elim (among_taken ps last place m) [ inl e ↦ inl e | inr rest ↦ inr (inr rest) ]

-- ---- facts in the table

pub free_written : (t : List (Option Entry)) (i : ℕ) (e : Entry) → slice_get t i ≡ Some None → free (set t i (Some e)) + 1 ≡ free t
free_written [] i e h = absurd (cc h)
free_written (None ∷ t) zero e h = refl
free_written (Some x ∷ t) zero e h = absurd (cc h)
free_written (None ∷ t) (suc i) e h = omega (arith, free_written t i e h)
free_written (Some x ∷ t) (suc i) e h = free_written t i e h

pub in_at : (t : List (Option Entry)) (place : ℕ) (e : Entry) → slice_get t place ≡ Some (Some e) → IsIn t (fact_of place e)
in_at t place e h = (e, h, refl)

-- the table has one fact a place
pub in_alike : (t : List (Option Entry)) (f g : Fact) → IsIn t f → IsIn t g → f.place ≡ g.place → f ≡ g
in_alike t f g a b h = grind arith

pub in_empty : (n : ℕ) (f : Fact) → IsIn (replicate n None) f → ⊥
in_empty n f a = grind (arith, get_replicated)

module _ (t : List (Option Entry)) (place : ℕ) (e : Entry) (free_there : slice_get t place ≡ Some None) (inside : place < length t) where
  pub in_written_there : IsIn (set t place (Some e)) (fact_of place e)
  in_written_there = (e, get_set_same t place (Some e) inside, refl)

  pub in_written_before : (f : Fact) → IsIn t f → IsIn (set t place (Some e)) f
  in_written_before f a = grind (arith, get_set_other)

  pub in_written : (f : Fact) → IsIn (set t place (Some e)) f → (f ≡ fact_of place e) ⊎ IsIn t f
  in_written f a = grind (arith, cases_eq, in_alike, in_written_there, get_set_other)
