-- Lines about sums and the blocks that they bind, with one more.
use Rattle.std.proofs.Common.{arith, ◌≡◌, ◌<◌, ◌+◌, ℕ, suc, List, [], ◌∷◌, ◌++◌, Bool, not, map, length, drop, drop-cons, get_or, add-one, append-nil, append_assoc, Option, Some, None, refl, sym, ap, subst, ◌∙◌}
use Rattle.std.specs.Prelude.{slice_get}
use Rattle.prove_facts.specs.model_rules.specs.Rules.{Action, SumLine, Total}
use Rattle.lab_app_rules.specs.declared.rules.Amount.{Amount}
use Rattle.lab_app_rules.specs.declared.rules.Balance.{Balance}
use Rattle.lab_app_rules.specs.declared.rules.Effect.{Effect}
use Rattle.lab_app_rules.specs.declared.rules.Named.{Named}
use Rattle.lab_app_rules.specs.declared.rules.On.{On}
use Rattle.lab_app_rules.specs.declared.rules.SignedSum.{SignedSum}
use Rattle.lab_app_rules.specs.Rules.{allowance_of, deed_of, name_of}
use Rattle.prove_rules.specs.declared.always.SignedName.{SignedName}
use Rattle.prove_rules.specs.Always.{term_of}
use Rattle.prove_rules.specs.Partials.{place_of}
use Rattle.lab_app_rules.specs.Sums.{move_of, AreSumLines, AreTerms, AreTotals, FirstSumLine, IsSumRule, IsTotal}
use Rattle.prove_rules.proofs.PlaceLemmas.{get_more, place_get}

-- ---- lines

-- a line about an allowance is none about a sum
no_move_by : (e : Effect) (d : Action × ℕ) → deed_of e ≡ Some d → move_of e ≡ None
no_move_by e d h = grind arith

sum_line_more : (names : List (List ℕ)) (m : List ℕ) (move : Bool × Amount) (l : SumLine) (on : On) → IsSumRule names move l on → IsSumRule (names ++ m ∷ []) move l on
sum_line_more names m move l on h = grind (arith, get_more)

first_names : (d : Option (Bool × Amount)) (names : List (List ℕ)) (m : List ℕ) (ls : List SumLine) (on : On) (p q : List SumLine → Type 0) → ((ls : List SumLine) → p ls → q ls) → FirstSumLine d names ls on p → FirstSumLine d (names ++ m ∷ []) ls on q
first_names d names m ls on p q f h = grind (arith, sum_line_more)

-- lines stay those of the definition when one more name follows
pub sum_lines_names : (names : List (List ℕ)) (m : List ℕ) (ls : List SumLine) (ons : List On) → AreSumLines names ls ons → AreSumLines (names ++ m ∷ []) ls ons
sum_lines_names names m [] [] h = tt
sum_lines_names names m (l ∷ ls) [] h = absurd h
sum_lines_names names m [] (on ∷ ons) h = first_names (move_of on.effect) names m [] on (λ more. AreSumLines names more ons) (λ more. AreSumLines (names ++ m ∷ []) more ons) (λ more i. sum_lines_names names m more ons i) h
sum_lines_names names m (l ∷ ls) (on ∷ ons) h = first_names (move_of on.effect) names m (l ∷ ls) on (λ more. AreSumLines names more ons) (λ more. AreSumLines (names ++ m ∷ []) more ons) (λ more i. sum_lines_names names m more ons i) h

first_then : (d : Option (Bool × Amount)) (names : List (List ℕ)) (ls : List SumLine) (on : On) (p q : List SumLine → Type 0) → ((ls : List SumLine) → p ls → q ls) → FirstSumLine d names ls on p → FirstSumLine d names ls on q
first_then d names ls on p q f h = grind arith

first_last : (d : Option (Bool × Amount)) (names : List (List ℕ)) (ls : List SumLine) (m : SumLine) (on : On) (p q : List SumLine → Type 0) → ((ls : List SumLine) → p ls → q (ls ++ m ∷ [])) → FirstSumLine d names ls on p → FirstSumLine d names (ls ++ m ∷ []) on q
first_last d names ls m on p q f h = grind arith

module _ (names : List (List ℕ)) (one : On) where
  -- one more line that moves no sum
  still_by : (ls : List SumLine) (ons : List On) → move_of one.effect ≡ None → AreSumLines names ls ons → AreSumLines names ls (ons ++ one ∷ [])
  still_by [] [] e h = subst (λ (d : Option (Bool × Amount)). FirstSumLine d names [] one (λ more. AreSumLines names more [])) (sym e) tt
  still_by (l ∷ ls) [] e h = absurd h
  still_by [] (on ∷ ons) e h = first_then (move_of on.effect) names [] on (λ more. AreSumLines names more ons) (λ more. AreSumLines names more (ons ++ one ∷ [])) (λ more i. still_by more ons e i) h
  still_by (l ∷ ls) (on ∷ ons) e h = first_then (move_of on.effect) names (l ∷ ls) on (λ more. AreSumLines names more ons) (λ more. AreSumLines names more (ons ++ one ∷ [])) (λ more i. still_by more ons e i) h

  -- one more line about an allowance
  pub sum_lines_still : (ls : List SumLine) (ons : List On) (d : Action × ℕ) → deed_of one.effect ≡ Some d → AreSumLines names ls ons → AreSumLines names ls (ons ++ one ∷ [])
  sum_lines_still ls ons d e h = still_by ls ons (no_move_by one.effect d e) h

  -- one more line about a sum
  pub sum_lines_more : (ls : List SumLine) (ons : List On) (l : SumLine) (move : Bool × Amount) → move_of one.effect ≡ Some move → IsSumRule names move l one → AreSumLines names ls ons → AreSumLines names (ls ++ l ∷ []) (ons ++ one ∷ [])
  sum_lines_more [] [] l move e i h = subst (λ (d : Option (Bool × Amount)). FirstSumLine d names (l ∷ []) one (λ more. AreSumLines names more [])) (sym e) (i, tt)
  sum_lines_more (k ∷ ls) [] l move e i h = absurd h
  sum_lines_more [] (on ∷ ons) l move e i h = first_last (move_of on.effect) names [] l on (λ more. AreSumLines names more ons) (λ more. AreSumLines names more (ons ++ one ∷ [])) (λ more j. sum_lines_more more ons l move e i j) h
  sum_lines_more (k ∷ ls) (on ∷ ons) l move e i h = first_last (move_of on.effect) names (k ∷ ls) l on (λ more. AreSumLines names more ons) (λ more. AreSumLines names more (ons ++ one ∷ [])) (λ more j. sum_lines_more more ons l move e i j) h

-- ---- blocks

terms_names : (names : List (List ℕ)) (m : List ℕ) (ts : List (Bool × List ℕ)) (ss : List SignedSum) → AreTerms names ts ss → AreTerms (names ++ m ∷ []) ts ss
terms_names names m [] [] h = tt
terms_names names m (t ∷ ts) (s ∷ ss) h = (h.0, get_more names m s.sum t.1 h.1, terms_names names m ts ss h.2)
terms_names names m [] (s ∷ ss) h = absurd h
terms_names names m (t ∷ ts) [] h = absurd h

-- blocks stay those of the definition when one more name follows
pub totals_names : (names : List (List ℕ)) (m : List ℕ) (ts : List Total) (bs : List Balance) → AreTotals names ts bs → AreTotals (names ++ m ∷ []) ts bs
totals_names names m [] [] h = tt
totals_names names m (t ∷ ts) (b ∷ bs) h = grind (arith, terms_names, totals_names names m ts bs h.1)
totals_names names m [] (b ∷ bs) h = absurd h
totals_names names m (t ∷ ts) [] h = absurd h

-- one more block
pub totals_more : (names : List (List ℕ)) (ts : List Total) (bs : List Balance) (t : Total) (b : Balance) → IsTotal names t b → AreTotals names ts bs → AreTotals names (ts ++ t ∷ []) (bs ++ b ∷ [])
totals_more names [] [] t b h i = (h, tt)
totals_more names (u ∷ ts) (c ∷ bs) t b h i = (i.0, totals_more names ts bs t b h i.1)
totals_more names [] (c ∷ bs) t b h i = absurd i
totals_more names (u ∷ ts) [] t b h i = absurd i

-- as many blocks are read
pub totals_count : (names : List (List ℕ)) (ts : List Total) (bs : List Balance) → AreTotals names ts bs → length ts ≡ length bs
totals_count names [] [] h = refl
totals_count names (t ∷ ts) (b ∷ bs) h = ap suc (totals_count names ts bs h.1)
totals_count names [] (b ∷ bs) h = absurd h
totals_count names (t ∷ ts) [] h = absurd h

-- ---- terms, one after the other

-- the sums of the terms so far, with those of the terms that are left, are those of all
abbrev pub SumsLeft : List (List ℕ) → List SignedName → List SignedName → List SignedSum → Type 0
SumsLeft names all left list = (more : List SignedSum) → AreTerms names (map term_of left) more → AreTerms names (map term_of all) (list ++ more)

-- no sum yet
pub terms_start : (names : List (List ℕ)) (all : List SignedName) (list : List SignedSum) → list ≡ [] → SumsLeft names all all list
terms_start names all list e more h = subst (λ (l : List SignedSum). AreTerms names (map term_of all) (l ++ more)) (sym e) h

next_by : (names : List (List ℕ)) (all : List SignedName) (one : SignedName) (left : List SignedName) (list new : List SignedSum) (sum : SignedSum) → sum.minus ≡ one.minus → slice_get names sum.sum ≡ Some one.name.now → new ≡ list ++ sum ∷ []
    → SumsLeft names all (one ∷ left) list → SumsLeft names all left new
next_by names all one left list new sum minus name e h more i =
    subst (λ (l : List SignedSum). AreTerms names (map term_of all) (l ++ more)) (sym e) (
    subst (λ (l : List SignedSum). AreTerms names (map term_of all) l) (sym (append_assoc list (sum ∷ []) more)) (h (sum ∷ more) (ap not (sym minus), name, i)))

drop_at : (all : List SignedName) (i : ℕ) (d : SignedName) → i < length all → drop i all ≡ get_or all i d ∷ drop (i + 1) all
drop_at all i d h = drop-cons all i d h ∙ ap (λ k. get_or all i d ∷ drop k all) (sym (add-one i))

-- one more sum
pub terms_next : (held : List Named) (all : List SignedName) (i : ℕ) (d : SignedName) (list new : List SignedSum) (sum : SignedSum) → i < length all → sum.minus ≡ (get_or all i d).minus
    → Some sum.sum ≡ place_of (map allowance_of held) (get_or all i d).name.now → new ≡ list ++ sum ∷ [] → SumsLeft (map name_of held) all (drop i all) list → SumsLeft (map name_of held) all (drop (i + 1) all) new
terms_next held all i d list new sum lt minus place e h = grind (arith, next_by, place_get, drop_at)

-- no term is left
pub terms_end : (names : List (List ℕ)) (all left : List SignedName) (list : List SignedSum) → left ≡ [] → SumsLeft names all left list → AreTerms names (map term_of all) list
terms_end names all left list e h =
    subst (λ (l : List SignedSum). AreTerms names (map term_of all) l) (append-nil list) (h [] (subst (λ (l : List SignedName). AreTerms names (map term_of l) []) (sym e) tt))
