-- Facts after CALLs: what one CALL, and all CALLs of a routine in the table, leave in the tables.
use Rattle.std.proofs.Common.{◌≡◌, ◌⊎◌, ◌<◌, ◌≤◌, ◌+◌, ℕ, List, length, slice_get, Option, Some, Result, OnOk, Ok, Err, sym, ap₂, ◌∙◌, subst, inl, inr, arith}
use Rattle.std.proofs.lemmas.Bool.{cases_eq}
use Rattle.std.proofs.lemmas.Option.{slice_get_within}
use Rattle.model_stack.specs.StackRows.{counts, call_target}
use Rattle.model_stack.specs.StackShape.{Routine, At, Fact, Reached}
use Rattle.mc_check.specs.declared.table.Entry.{Entry}
use Rattle.mc_check.specs.declared.shape.Counts.{Counts as Pair}
use Rattle.mc_check.specs.declared.closing.Found.{Found}
use Rattle.mc_check.specs.Table.{fact_of, IsIn, IsGoodFact}
use Rattle.mc_check.specs.Closing.{found_fact, IsFound, Tables, IsAmong, IsReal, ComesBack, ComesBackFrom, AddsFacts}
use Rattle.mc_check.proofs.ClosingLists.{in_at, in_alike}
use Rattle.mc_check.proofs.FactLooks.{is_at}
use Rattle.mc_check.proofs.ClosingPlaces.{return_less}
use Rattle.mc_check.proofs.ClosingTables.{comes_kept}

pub on_ok_both : {T E P Q S : Type 0} (r : Result T E) → (P → Q → S) → OnOk r P → OnOk r Q → OnOk r S
on_ok_both (Ok x) f a b = f a b
on_ok_both (Err e) f a b = b

-- ---- a fact that was found

found_same : (place : ℕ) (e : Entry) (found : Found) → found.place ≡ place → found.entry ≡ e → found_fact found ≡ fact_of place e
found_same place e found at is = ap₂ (λ (p : ℕ) (x : Entry). fact_of p x) at is

pub good_found : (code : List ℕ) (place : ℕ) (e : Entry) (found : Found) → found.place ≡ place → found.entry ≡ e → IsFound code found → IsGoodFact code (fact_of place e)
good_found code place e found at is there = subst (λ (f : Fact). IsGoodFact code f) (found_same place e found at is) (found.seen.ins, found.seen.next, there.stands)

-- a return that was found is one of its routine
pub real_found : (code : List ℕ) (found : Found) (q : ℕ) (c : Pair) → (found_fact found).routine ≡ At q → Reached code (found_fact found) → IsFound code found
    → counts found.seen.ins ≡ Some (c.less, c.more) → IsReal code q c
real_found code found q c at reached there e = record {
  counts = record {
    place = found.place;
    height = found.entry.height;
    reached = subst (λ (r : Routine). Reached code (record { routine = r; place = found.place; height = found.entry.height })) at reached;
    back = found.seen.ins;
    stands = is_at code (found_fact found) found.seen.ins found.seen.next there.stands;
    counts = e;
  };
  less = omega (arith, return_less found.seen.ins (c.less, c.more) there.shaped e);
}

-- ---- a CALL at a place

module _ (code : List ℕ) (t t' : List (Option Entry)) (place routine : ℕ) (c : Pair) (e : Entry) (found : Found) (here : slice_get t place ≡ Some (Some e)) (at : found.place ≡ place) (is : found.entry ≡ e) (there : IsFound code found) where
  found_is : (f : Fact) → IsIn t f → f.place ≡ place → found_fact found ≡ f
  found_is f m at_f = found_same place e found at is ∙ sym (in_alike t f (fact_of place e) m (in_at t place e here) at_f)

  pub back_at : ComesBack t' (found_fact found) found.seen.next c.less c.more → (f : Fact) → IsIn t f → f.place ≡ place → ComesBackFrom code t' routine c f
  back_at comes f m at_f i next stands call = grind (arith, found_is)

  -- the instruction at the place is no CALL of the routine
  pub back_not : (call_target found.seen.ins ≡ Some routine → ⊥) → (f : Fact) → IsIn t f → f.place ≡ place → ComesBackFrom code t' routine c f
  back_not other f m at_f i next stands call = grind (arith, found_is)

-- ---- the CALLs of a routine below a place

-- each fact below the place has been followed, if it is a CALL of the routine, or waits
abbrev pub BackBelow : List ℕ → Tables → ℕ → Pair → ℕ → Type 0
BackBelow code s routine c place = (f : Fact) → IsIn s.table f → f.place < place → ComesBackFrom code s.table routine c f ⊎ IsAmong s.work f.place

pub back_more : (code : List ℕ) (s s' : Tables) (routine : ℕ) (c : Pair) (place : ℕ) → BackBelow code s routine c place → AddsFacts s s'
    → ((f : Fact) → IsIn s.table f → f.place ≡ place → ComesBackFrom code s'.table routine c f) → BackBelow code s' routine c (place + 1)
back_more code s s' routine c place below adds here f m low =
    elim (adds.fresh f m) [
      | inl before ↦ elim (cases_eq f.place place) [
        | inl at ↦ inl (here f before at)
        | inr beside ↦ elim (below f before (omega (arith, low, beside))) [
          | inl comes ↦ inl (λ i next stands call. comes_kept s s' f next c.less c.more adds (comes i next stands call))
          | inr waits ↦ inr (adds.waiting f.place waits)
        ]
      ]
      | inr waits ↦ inr waits
    ]

pub back_all : (code : List ℕ) (s : Tables) (routine : ℕ) (c : Pair) (place : ℕ) → length s.table ≤ place → BackBelow code s routine c place
    → (f : Fact) → IsIn s.table f → ComesBackFrom code s.table routine c f ⊎ IsAmong s.work f.place
back_all code s routine c place end below f m = below f m (omega (arith, end, slice_get_within s.table f.place (Some m.0) m.1))

-- ---- a CALL of a routine whose counts are known

pair_same : (a b : Pair) → ◌≡◌ {A = Option (Option Pair)} (Some (Some a)) (Some (Some b)) → a ≡ b
pair_same a b h = cc

pub back_known : (old new : Tables) (f : Fact) (next routine : ℕ) (c : Pair) → slice_get old.counts routine ≡ Some (Some c) → AddsFacts old new → ComesBack new.table f next c.less c.more
    → (d : Pair) → slice_get new.counts routine ≡ Some (Some d) → ComesBack new.table f next d.less d.more
back_known old new f next routine c known adds comes d there = grind (arith, pair_same)
