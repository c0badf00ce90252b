-- What is known for sums where less is on the stack, where a block was loaded, and as far as a place says.
use Rattle.std.specs.Prelude.{◌≡◌, ℕ, ◌+◌, ◌-◌, ◌%◌, ◌^◌, Bool, true, false, cond, ◌&&◌, nat_le, slice_index, ◌==◌, List, [], ◌∷◌, Option, Some, None, refl}
use Rattle.std.specs.List.{AllByRecursion}
use Rattle.std.proofs.Common.{arith, sym, ◌∙◌, inl, inr}
use Rattle.std.proofs.lemmas.Bool.{eqb-true, leb-true, and_parts, or_cases}
use Rattle.std.proofs.Math.Nat.{zero-mod}
use Rattle.model_sums.specs.model_rules.specs.Rules.{Total}
use Rattle.model_sums.specs.model_rules.specs.Keeping.{Sum, added_by}
use Rattle.model_sums.specs.model_prove.specs.Facts.{Memory}
use Rattle.model_sums.specs.model_prove.specs.Compares.{bytes_from}
use Rattle.model_sums.specs.Forms.{Form, value, number, same_forms}
use Rattle.model_sums.specs.Sums.{More, Sums, first_known, has_more, mores_follow, off_follows, offs_follow, sums_follow, evens, is_even, are_even}
use Rattle.model_sums.specs.model_machine.specs.Frame.{public_base}
use Rattle.model_sums.specs.Origins.{Origin, Unknown, PublicByte}
use Rattle.model_sums.specs.Says.{IsFrom, MoreHolds, OffHolds, OffsHold, Holds, TotalHolds, TotalsHold}
use Rattle.model_sums.specs.Writes.{popped, loaded}
use Rattle.law_sums.proofs.Modulo.{add_same}
use Rattle.law_sums.proofs.FormLemmas.{value_same, value_zero}
use Rattle.law_sums.proofs.MoveLemmas.{all_filter}
use Rattle.law_sums.proofs.OriginMoves.{origins_popped, follow_origins}

-- what is known if less is on the stack holds
pub popped_holds : (ts : List Total) (u : Sums) (first : List ℕ) (m : Memory) (sums : List Sum) (dt : ℕ) → Holds ts u first m sums → Holds ts (popped dt u) first m sums
popped_holds ts u first m sums dt h = grind (arith, origins_popped, all_filter)

-- what is known after a block was loaded holds if the bytes are the same
pub loaded_holds : (ts : List Total) (u : Sums) (first : List ℕ) (m : Memory) (sums : List Sum) (b : Bool) (to from n : ℕ) → bytes_from m to n ≡ bytes_from m from n
    → Holds ts u first m sums → Holds ts (loaded b to from n u) first m sums
loaded_holds ts u first m sums b to from n e h = grind arith

-- ---- what follows

-- a form that is the same adds the same
same_added : (n : ℕ) (f g : Form) (first : List ℕ) (x : ℕ) → same_forms n f g ≡ true → (x + value f first) % 256 ^ n ≡ (x + value g first) % 256 ^ n
same_added n f g first x e = add_same (256 ^ n) x x (value f first) (value g first) refl (value_same n f g first e)

-- the same block, by the tests of its numbers
more_is : (first : List ℕ) (m : Memory) (r q : More) → (r.at == q.at && r.from == q.from && r.n == q.n && same_forms q.n r.form q.form) ≡ true → MoreHolds first m r
    → MoreHolds first m q
more_is first m r q e h = grind (arith, and_parts, eqb-true, same_added)

more_there : (first : List ℕ) (m : Memory) (rs : List More) (q : More) → has_more rs q ≡ true → AllByRecursion (MoreHolds first m) rs → MoreHolds first m q
more_there first m [] q e h = absurd (cc e)
more_there first m (r ∷ rs) q e h =
    elim (or_cases (r.at == q.at && r.from == q.from && r.n == q.n && same_forms q.n r.form q.form) (has_more rs q) e) [
      | inl i ↦ more_is first m r q i h.0
      | inr i ↦ more_there first m rs q i h.1
    ]

mores_there : (first : List ℕ) (m : Memory) (rs qs : List More) → mores_follow rs qs ≡ true → AllByRecursion (MoreHolds first m) rs
    → AllByRecursion (MoreHolds first m) qs
mores_there first m rs [] e h = tt
mores_there first m rs (q ∷ qs) e h =
    let p = and_parts (has_more rs q) (mores_follow rs qs) e in
    (more_there first m rs q p.0 h, mores_there first m rs qs p.1 h)

off_there : (first : List ℕ) (m : Memory) (sums : List Sum) (t : Total) (o p : Option Form) → off_follows t o p ≡ true → OffHolds first m sums t o → OffHolds first m sums t p
off_there first m sums t o p e h = grind (arith, same_added)

offs_there : (first : List ℕ) (m : Memory) (sums : List Sum) (ts : List Total) (os ps : List (Option Form)) → offs_follow ts os ps ≡ true → OffsHold first m sums ts os
    → OffsHold first m sums ts ps
offs_there first m sums [] os ps e h = tt
offs_there first m sums (t ∷ ts) os [] e h = tt
offs_there first m sums (t ∷ ts) [] (p ∷ ps) e h =
    let q = and_parts (off_follows t None p) (offs_follow ts [] ps) e in
    (off_there first m sums t None p q.0 tt, offs_there first m sums ts [] ps q.1 (none_hold first m sums ts))
  where
    none_hold : (first : List ℕ) (m : Memory) (sums : List Sum) (ts : List Total) → OffsHold first m sums ts []
    none_hold first m sums [] = tt
    none_hold first m sums (t ∷ ts) = tt
offs_there first m sums (t ∷ ts) (o ∷ os) (p ∷ ps) e h =
    let q = and_parts (off_follows t o p) (offs_follow ts os ps) e in
    (off_there first m sums t o p q.0 h.0, offs_there first m sums ts os ps q.1 h.1)

-- what follows from what holds does
pub follow_holds : (ts : List Total) (u v : Sums) (first : List ℕ) (m : Memory) (sums : List Sum) → sums_follow ts u v ≡ true → Holds ts u first m sums
    → Holds ts v first m sums
follow_holds ts u v first m sums e h = grind (arith, and_parts, follow_origins, mores_there, offs_there)

-- ---- totals that are not off

even_total : (first : List ℕ) (m : Memory) (sums : List Sum) (t : Total) (off : Option Form) → is_even t off ≡ true → OffHolds first m sums t off → TotalHolds m sums t
even_total first m sums t None e h = absurd (cc e)
even_total first m sums t (Some f) e h =
    grind (arith, add_same (256 ^ t.n) (t.constant + added_by sums t.terms) (t.constant + added_by sums t.terms) (value f first) 0 refl (value_zero t.n f first e ∙ sym (zero-mod (256 ^ t.n))))

-- totals that are not off hold
pub even_totals : (first : List ℕ) (m : Memory) (sums : List Sum) (ts : List Total) (os : List (Option Form)) → are_even ts os ≡ true → OffsHold first m sums ts os
    → TotalsHold m sums ts
even_totals first m sums [] os e h = tt
even_totals first m sums (t ∷ ts) [] e h = absurd (cc e)
even_totals first m sums (t ∷ ts) (o ∷ os) e h =
    let p = and_parts (is_even t o) (are_even ts os) e in
    (even_total first m sums t o p.0 h.0, even_totals first m sums ts os p.1 h.1)

total_off : (first : List ℕ) (m : Memory) (sums : List Sum) (t : Total) → TotalHolds m sums t → OffHolds first m sums t (Some (number 0))
total_off first m sums t h = grind arith

-- totals that hold are not off
pub totals_even : (first : List ℕ) (m : Memory) (sums : List Sum) (ts : List Total) → TotalsHold m sums ts → OffsHold first m sums ts (evens ts)
totals_even first m sums [] h = tt
totals_even first m sums (t ∷ ts) h = (total_off first m sums t h.0, totals_even first m sums ts h.1)

-- ---- the beginning of a frame

own_from : (b : Bool) (m : Memory) (public : List ℕ) (c : ℕ) → nat_le public_base c ≡ b → ((p : ℕ) → m (public_base + p) ≡ slice_index public p)
    → IsFrom public (cond b (PublicByte (c - public_base)) Unknown) (m c)
own_from b m public c e h = grind (arith, leb-true)

own_if : (b : Bool) (first : List ℕ) (g : Origin) (v : ℕ) → IsFrom first g v → IsFrom first (cond b Unknown g) v
own_if true first g v h = tt
own_if false first g v h = h

-- what is known as a frame begins holds if each total does
pub start_holds : (ts : List Total) (m : Memory) (sums : List Sum) (public : List ℕ) → ((p : ℕ) → m (public_base + p) ≡ slice_index public p) → TotalsHold m sums ts
    → Holds ts (first_known ts) public m sums
start_holds ts m sums public h t = grind (arith, own_if, own_from, totals_even)
