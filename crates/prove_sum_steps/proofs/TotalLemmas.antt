-- The totals as the application is created, by the numbers of sums and by their names.
use Rattle.std.proofs.Common.{◌≡◌, ℕ, zero, suc, ◌+◌, ◌%◌, ◌^◌, ◌<◌, ◌≤◌, Bool, true, false, cond, not, List, [], ◌∷◌, length, take, drop, get_or, map, Option, Some, None, refl, sym, ap, subst, ◌∙◌, arith, add-one}
use Rattle.std.specs.Prelude.{◌&&◌, ◌||◌, bytes_eq, nat_le, slice_get}
use Rattle.std.proofs.lemmas.Bool.{and_from, eq-eqb}
use Rattle.std.proofs.lemmas.Option.{same_Some}
use Rattle.std.proofs.lemmas.Slice.Eq.{bytes_eq-Decides}
use Rattle.model_device.specs.Bytes.{num}
use Rattle.prove_facts.specs.model_rules.specs.Keeping.{Amounts, Sum, added_by, added_to, first_sums, is_total, taken_by, taken_from}
use Rattle.prove_facts.specs.model_rules.specs.Rules.{SumLine, Total}
use Rattle.prove_sums.specs.model_sums.specs.Closed.{all_pass, is_sum}
use Rattle.lab_history.specs.Blocks as code
use Rattle.lab_app_rules.specs.declared.rules.Amount.{Amount}
use Rattle.lab_app_rules.specs.declared.rules.Balance.{Balance}
use Rattle.lab_app_rules.specs.declared.rules.Named.{Named}
use Rattle.lab_app_rules.specs.declared.rules.On.{On}
use Rattle.lab_app_rules.specs.declared.rules.SignedSum.{SignedSum}
use Rattle.lab_app_rules.specs.Rules.{AreDistinct, allowance_of, is_named, name_of}
use Rattle.lab_app_rules.specs.Sums.{AreSumLines, AreTerms, AreTotals, FirstSumLine, IsTotal, move_of}

-- ---- names

same_bytes : (a b : List ℕ) → a ≡ b → bytes_eq a b ≡ true
same_bytes a b e = (bytes_eq-Decides a b).1 e

or_true : (b : Bool) → (b || true) ≡ true
or_true true = refl
or_true false = refl

none_of : (b c : Bool) → (b || c) ≡ false → (b ≡ false) × (c ≡ false)
none_of true c e = absurd (cc e)
none_of false c e = (refl, e)

apart : (b : Bool) → (b ≡ true → ⊥) → b ≡ false
apart true h = absurd (h refl)
apart false h = refl

-- a name that is not among some is none of them
other_name : (names : List (List ℕ)) (x y : List ℕ) (i : ℕ) → is_named x names ≡ false → slice_get names i ≡ Some y → bytes_eq x y ≡ false
other_name [] x y i fresh there = absurd (cc there)
other_name (m ∷ ms) x y zero fresh there =
    let p = none_of (bytes_eq m x) (is_named x ms) fresh in
    apart (bytes_eq x y) (λ h. cc (sym p.0 ∙ same_bytes m x (same_Some m y there ∙ sym ((bytes_eq-Decides x y).0 h))))
other_name (m ∷ ms) x y (suc i) fresh there = other_name ms x y i (none_of (bytes_eq m x) (is_named x ms) fresh).1 there

-- ---- sums as the application is created

-- nothing was taken
either_none : (b : Bool) (k : ℕ) → k ≡ 0 → cond b 0 k ≡ 0
either_none true k e = refl
either_none false k e = e

none_taken : (sums : Amounts) (name : List ℕ) → taken_from (first_sums sums) name ≡ 0
none_taken [] name = refl
none_taken (x ∷ sums) name = either_none (bytes_eq x.0 name) (taken_from (first_sums sums) name) (none_taken sums name)

-- what was added is the amount
first_added : (ns : List Named) (i : ℕ) (name : List ℕ) → AreDistinct (map name_of ns) → slice_get (map name_of ns) i ≡ Some name
    → added_to (first_sums (map allowance_of ns)) name ≡ code.first_amount ns i
first_added [] i name distinct there = absurd (cc there)
first_added (n ∷ ns) zero name distinct there =
    ap (λ (b : Bool). cond b n.amount (added_to (first_sums (map allowance_of ns)) name)) (same_bytes n.name.now name (same_Some n.name.now name there))
first_added (n ∷ ns) (suc i) name distinct there =
    ap (λ (b : Bool). cond b n.amount (added_to (first_sums (map allowance_of ns)) name)) (other_name (map name_of ns) n.name.now name i distinct.0 there)
    ∙ first_added ns i name distinct.1 there

module _ (ns : List Named) (distinct : AreDistinct (map name_of ns)) where
  abbrev pub sums : List Sum
  sums = first_sums (map allowance_of ns)

  taken_one : (adds minus : Bool) (i : ℕ) (name : List ℕ) → adds ≡ not minus → slice_get (map name_of ns) i ≡ Some name
      → cond adds (taken_from sums name) (added_to sums name) ≡ cond minus (code.first_amount ns i) 0
  taken_one adds true i name e there = ap (λ (b : Bool). cond b (taken_from sums name) (added_to sums name)) e ∙ first_added ns i name distinct there
  taken_one adds false i name e there = ap (λ (b : Bool). cond b (taken_from sums name) (added_to sums name)) e ∙ none_taken (map allowance_of ns) name

  added_one : (adds minus : Bool) (i : ℕ) (name : List ℕ) → adds ≡ not minus → slice_get (map name_of ns) i ≡ Some name
      → cond adds (added_to sums name) (taken_from sums name) ≡ cond minus 0 (code.first_amount ns i)
  added_one adds true i name e there = ap (λ (b : Bool). cond b (added_to sums name) (taken_from sums name)) e ∙ none_taken (map allowance_of ns) name
  added_one adds false i name e there = ap (λ (b : Bool). cond b (added_to sums name) (taken_from sums name)) e ∙ first_added ns i name distinct there

  taken_alike : (ts : List (Bool × List ℕ)) (ss : List SignedSum) → AreTerms (map name_of ns) ts ss → taken_by sums ts ≡ code.taken_by ns ss
  taken_alike [] [] are = refl
  taken_alike [] (s ∷ ss) are = absurd are
  taken_alike (t ∷ ts) [] are = absurd are
  taken_alike (t ∷ ts) (s ∷ ss) are =
      ap (λ (k : ℕ). k + taken_by sums ts) (taken_one t.0 s.minus s.sum t.1 are.0 are.1)
      ∙ ap (λ (k : ℕ). cond s.minus (code.first_amount ns s.sum) 0 + k) (taken_alike ts ss are.2)

  added_alike : (ts : List (Bool × List ℕ)) (ss : List SignedSum) → AreTerms (map name_of ns) ts ss → added_by sums ts ≡ code.added_by ns ss
  added_alike [] [] are = refl
  added_alike [] (s ∷ ss) are = absurd are
  added_alike (t ∷ ts) [] are = absurd are
  added_alike (t ∷ ts) (s ∷ ss) are =
      ap (λ (k : ℕ). k + added_by sums ts) (added_one t.0 s.minus s.sum t.1 are.0 are.1)
      ∙ ap (λ (k : ℕ). cond s.minus 0 (code.first_amount ns s.sum) + k) (added_alike ts ss are.2)

  -- a block is what a total says
  pub total_holds : (t : Total) (b : Balance) (fixed block : List ℕ) → IsTotal (map name_of ns) t b
      → (num block + code.taken_by ns b.sums.items) % 256 ^ b.n ≡ (b.constant + code.added_by ns b.sums.items) % 256 ^ b.n
      → bytes_eq (take b.n (drop b.at fixed)) block ≡ true → is_total fixed sums t ≡ true
  total_holds t b fixed block is h same =
      let here : take t.n (drop t.at fixed) ≡ block =
      ap (λ (n : ℕ). take n (drop t.at fixed)) is.n ∙ ap (λ (a : ℕ). take b.n (drop a fixed)) is.at ∙ (bytes_eq-Decides (take b.n (drop b.at fixed)) block).0 same in
      let left : (num (take t.n (drop t.at fixed)) + taken_by sums t.terms) % 256 ^ t.n ≡ (num block + code.taken_by ns b.sums.items) % 256 ^ b.n =
      ap (λ (l : List ℕ). (num l + taken_by sums t.terms) % 256 ^ t.n) here
      ∙ ap (λ (k : ℕ). (num block + k) % 256 ^ t.n) (taken_alike t.terms b.sums.items is.terms)
      ∙ ap (λ (n : ℕ). (num block + code.taken_by ns b.sums.items) % 256 ^ n) is.n in
      let right : (t.constant + added_by sums t.terms) % 256 ^ t.n ≡ (b.constant + code.added_by ns b.sums.items) % 256 ^ b.n =
      ap (λ (k : ℕ). (k + added_by sums t.terms) % 256 ^ t.n) is.constant
      ∙ ap (λ (k : ℕ). (b.constant + k) % 256 ^ t.n) (added_alike t.terms b.sums.items is.terms)
      ∙ ap (λ (n : ℕ). (b.constant + code.added_by ns b.sums.items) % 256 ^ n) is.n in
      eq-eqb _ _ (left ∙ h ∙ sym right)

-- the total of the block at a place
pub record At (names : List (List ℕ)) (ts : List Total) (bs : List Balance) (i : ℕ) (d : Balance) : Type 0 where
  pub total : Total
  pub is : IsTotal names total (get_or bs i d)
  pub rest : drop i ts ≡ total ∷ drop (suc i) ts

at_place : (names : List (List ℕ)) (ts : List Total) (bs : List Balance) (i : ℕ) (d : Balance) → i < length bs → AreTotals names ts bs → At names ts bs i d
at_place names [] [] i d below are = absurd (omega arith)
at_place names [] (b ∷ bs) i d below are = absurd are
at_place names (t ∷ ts) [] i d below are = absurd are
at_place names (t ∷ ts) (b ∷ bs) zero d below are = record { total = t; is = are.0; rest = refl }
at_place names (t ∷ ts) (b ∷ bs) (suc i) d below are =
    let p = at_place names ts bs i d (omega arith) are.1 in
    record { total = p.total; is = p.is; rest = p.rest }

no_more : (names : List (List ℕ)) (ts : List Total) (bs : List Balance) (i : ℕ) → length bs ≤ i → AreTotals names ts bs → drop i ts ≡ []
no_more names [] bs zero end are = refl
no_more names [] bs (suc i) end are = refl
no_more names (t ∷ ts) [] i end are = absurd are
no_more names (t ∷ ts) (b ∷ bs) zero end are = absurd (omega arith)
no_more names (t ∷ ts) (b ∷ bs) (suc i) end are = no_more names ts bs i (omega arith) are.1

-- tests of totals, by their blocks one after another
module _ (names : List (List ℕ)) (test : List Total → Bool) (one : Total → Bool) (step : (t : Total) (ts : List Total) → test (t ∷ ts) ≡ (one t && test ts)) where
  pub totals_next : (ts : List Total) (bs : List Balance) (i : ℕ) (b : Balance) → i < length bs → b ≡ get_or bs i b → AreTotals names ts bs
      → ((t : Total) → IsTotal names t b → one t ≡ true) → (test (drop i ts) ≡ true → test ts ≡ true) → test (drop (i + 1) ts) ≡ true → test ts ≡ true
  totals_next ts bs i b below e are holds before rest =
      let p = at_place names ts bs i b below are in
      let here : one p.total ≡ true = holds p.total (subst (IsTotal names p.total) (sym e) p.is) in
      let more : test (drop (suc i) ts) ≡ true = subst (λ (n : ℕ). test (drop n ts) ≡ true) (add-one i) rest in
      before (subst (λ (l : List Total). test l ≡ true) (sym p.rest) (step p.total (drop (suc i) ts) ∙ and_from _ _ here more))

  pub totals_end : (ts : List Total) (bs : List Balance) (i : ℕ) → length bs ≤ i → AreTotals names ts bs → test [] ≡ true
      → (test (drop i ts) ≡ true → test ts ≡ true) → test ts ≡ true
  totals_end ts bs i end are none before = before (subst (λ (l : List Total). test l ≡ true) (sym (no_more names ts bs i end are)) none)

-- a block that lies in static bytes
pub within_is : (names : List (List ℕ)) (size : ℕ) (t : Total) (b : Balance) → IsTotal names t b → nat_le (b.at + b.n) size ≡ true → nat_le (t.at + t.n) size ≡ true
within_is names size t b is h = ap (λ (a : ℕ). nat_le (a + t.n) size) is.at ∙ ap (λ (n : ℕ). nat_le (b.at + n) size) is.n ∙ h

-- ---- lines

-- a name of a sum is that of a sum
is_one : (ns : List Named) (i : ℕ) (name : List ℕ) → slice_get (map name_of ns) i ≡ Some name → is_sum (map allowance_of ns) name ≡ true
is_one [] i name there = absurd (cc there)
is_one (n ∷ ns) zero name there =
    ap (λ (b : Bool). b || is_sum (map allowance_of ns) name) (same_bytes n.name.now name (same_Some n.name.now name there))
is_one (n ∷ ns) (suc i) name there =
    ap (λ (b : Bool). bytes_eq n.name.now name || b) (is_one ns i name there) ∙ or_true (bytes_eq n.name.now name)

-- the first of some lines, if a line is about a sum
line_moves : (ns : List Named) (l : SumLine) (ls : List SumLine) (on : On) (more : List SumLine → Type 0) (m : Option (Bool × Amount))
    → FirstSumLine m (map name_of ns) (l ∷ ls) on more → (more (l ∷ ls) → all_pass (λ l. is_sum (map allowance_of ns) l.name) (l ∷ ls) ≡ true)
    → (more ls → all_pass (λ l. is_sum (map allowance_of ns) l.name) ls ≡ true) → all_pass (λ l. is_sum (map allowance_of ns) l.name) (l ∷ ls) ≡ true
line_moves ns l ls on more None are all rest = all are
line_moves ns l ls on more (Some move) are all rest = and_from _ _ (is_one ns on.name l.name are.0.name) (rest are.1)

-- each line moves a sum that there is
pub lines_move : (ns : List Named) (ls : List SumLine) (ons : List On) → AreSumLines (map name_of ns) ls ons
    → all_pass (λ l. is_sum (map allowance_of ns) l.name) ls ≡ true
lines_move ns [] [] are = refl
lines_move ns (l ∷ ls) [] are = absurd are
lines_move ns [] (on ∷ ons) are = refl
lines_move ns (l ∷ ls) (on ∷ ons) are =
    line_moves ns l ls on (λ more. AreSumLines (map name_of ns) more ons) (move_of on.effect) are (λ h. lines_move ns (l ∷ ls) ons h) (λ h. lines_move ns ls ons h)
