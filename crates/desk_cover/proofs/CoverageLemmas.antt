-- The record of lines that were counted is the record of the lines that a play covered.
use Rattle.std.proofs.Common.{◌≡◌, ℕ, suc, ◌+◌, ◌-◌, Bool, true, false, cond, ◌==◌, List, [], ◌∷◌, ◌++◌, length, Option, Some, None, refl, arith, sym, ap, ◌∙◌, append_assoc, length-append}
use Rattle.std.specs.Prelude.{codes, decimal, filter, flat_map, nat_lt, not}
use Rattle.std.proofs.lemmas.List.{append-nil}
use Rattle.std.proofs.lemmas.List.Elements.{filter-append}
use Rattle.desk_draft.specs.Coverage.{CoveredBranch, CoveredLine, branch_record, branches_of, branches_under, count_record, line_condition, line_record, record_of}
use Rattle.desk_cover.specs.declared.lcov.LineCount.{LineCount}
use Rattle.desk_cover.specs.Counting.{took}
use Rattle.desk_cover.specs.Records.{branch_text, branch_under, branches_text, count_gone, count_run, count_ways, line_text, lines_text, record_text, ways_of, ways_under}
use Rattle.desk_cover.proofs.CountLemmas.{AreCounts, IsCount}

-- a line with the counts of a covered line
abbrev counted_as : Option ℕ → CoveredLine → LineCount → LineCount
counted_as o c l = record l { number = c.line.number; condition = o; turns = length c.turns; taken = length (filter (λ t. took o t) c.turns) }

is_counted : (l : LineCount) (c : CoveredLine) → IsCount l c → l ≡ counted_as (line_condition c.line) c l
is_counted l c h =
    ap (λ (n : ℕ). record l { number = n }) h.number
    ∙ ap (λ (o : Option ℕ). record l { number = c.line.number; condition = o }) h.condition
    ∙ ap (λ (n : ℕ). record l { number = c.line.number; condition = line_condition c.line; turns = n }) h.turns
    ∙ ap (λ (n : ℕ). record l { number = c.line.number; condition = line_condition c.line; turns = length c.turns; taken = n }) h.taken

-- ---- lines

lines_same : (ls : List LineCount) (cs : List CoveredLine) → AreCounts ls cs → lines_text ls ≡ flat_map line_record cs
lines_same [] [] h = refl
lines_same [] (c ∷ cs) h = absurd h
lines_same (l ∷ ls) [] h = absurd h
lines_same (l ∷ ls) (c ∷ cs) h =
    ap (λ (x : LineCount). line_text x ++ lines_text ls) (is_counted l c h.0) ∙ ap (λ (t : List ℕ). line_record c ++ t) (lines_same ls cs h.1)

many_same : (ls : List LineCount) (cs : List CoveredLine) → AreCounts ls cs → length ls ≡ length cs
many_same [] [] h = refl
many_same [] (c ∷ cs) h = absurd h
many_same (l ∷ ls) [] h = absurd h
many_same (l ∷ ls) (c ∷ cs) h = ap suc (many_same ls cs h.1)

run_by : (b : Bool) (c : CoveredLine) (cs : List CoveredLine) → cond b 1 0 + length cs ≡ length (cond b (c ∷ cs) cs)
run_by true c cs = omega arith
run_by false c cs = omega arith

run_same : (ls : List LineCount) (cs : List CoveredLine) → AreCounts ls cs → count_run ls ≡ length (filter (λ c. nat_lt 0 (length c.turns)) cs)
run_same [] [] h = refl
run_same [] (c ∷ cs) h = absurd h
run_same (l ∷ ls) [] h = absurd h
run_same (l ∷ ls) (c ∷ cs) h =
    ap (λ (n : ℕ). cond (nat_lt 0 n) 1 0 + count_run ls) h.0.turns ∙ ap (λ (n : ℕ). cond (nat_lt 0 (length c.turns)) 1 0 + n) (run_same ls cs h.1)
    ∙ run_by (nat_lt 0 (length c.turns)) c (filter (λ c. nat_lt 0 (length c.turns)) cs)

-- ---- branches

above_zero : (n : ℕ) → nat_lt 0 n ≡ not (n == 0)
above_zero n = grind arith

dash_same : (n : ℕ) (x y : List ℕ) → cond (n == 0) x y ≡ cond (nat_lt 0 n) y x
dash_same n x y = by_bool (n == 0) ∙ ap (λ (b : Bool). cond b y x) (sym (above_zero n))
  where
    by_bool : (b : Bool) → cond b x y ≡ cond (not b) y x
    by_bool true = refl
    by_bool false = refl

way_same : (number way turns n : ℕ) → codes "BRDA:" ++ decimal number ++ codes ",0," ++ decimal way ++ codes "," ++ cond (turns == 0) (codes "-") (decimal n) ++ codes "\n" ≡ branch_record (record { number = number; way = way; ran = nat_lt 0 turns; count = n })
way_same number way turns n = ap (λ (t : List ℕ). codes "BRDA:" ++ decimal number ++ codes ",0," ++ decimal way ++ codes "," ++ t ++ codes "\n") (dash_same turns (codes "-") (decimal n))

branch_by : (o : Option ℕ) (c : CoveredLine) (l : LineCount) → branch_under o (counted_as o c l) ≡ flat_map branch_record (branches_under c o)
branch_by None c l = refl
branch_by (Some k) c l =
    let n = length c.turns in
    let taken = length (filter (λ t. took (Some k) t) c.turns) in
    let first = branch_record (record { number = c.line.number; way = 0; ran = nat_lt 0 n; count = taken }) in
    let second = branch_record (record { number = c.line.number; way = 1; ran = nat_lt 0 n; count = n - taken }) in
    ap (λ (t : List ℕ). t ++ (codes "BRDA:" ++ decimal c.line.number ++ codes ",0," ++ decimal 1 ++ codes "," ++ cond (n == 0) (codes "-") (decimal (n - taken)) ++ codes "\n")) (way_same c.line.number 0 n taken)
    ∙ ap (λ (t : List ℕ). first ++ t) (way_same c.line.number 1 n (n - taken) ∙ sym (append-nil second))

flat_records : (xs ys : List CoveredBranch) → flat_map branch_record xs ++ flat_map branch_record ys ≡ flat_map branch_record (xs ++ ys)
flat_records [] ys = refl
flat_records (x ∷ xs) ys = append_assoc (branch_record x) (flat_map branch_record xs) (flat_map branch_record ys) ∙ ap (λ (t : List ℕ). branch_record x ++ t) (flat_records xs ys)

branches_same : (ls : List LineCount) (cs : List CoveredLine) → AreCounts ls cs → branches_text ls ≡ flat_map branch_record (flat_map branches_of cs)
branches_same [] [] h = refl
branches_same [] (c ∷ cs) h = absurd h
branches_same (l ∷ ls) [] h = absurd h
branches_same (l ∷ ls) (c ∷ cs) h =
    ap (λ (x : LineCount). branch_text x ++ branches_text ls) (is_counted l c h.0)
    ∙ ap (λ (t : List ℕ). t ++ branches_text ls) (branch_by (line_condition c.line) c l)
    ∙ ap (λ (t : List ℕ). flat_map branch_record (branches_of c) ++ t) (branches_same ls cs h.1)
    ∙ flat_records (branches_of c) (flat_map branches_of cs)

ways_by : (o : Option ℕ) (c : CoveredLine) (l : LineCount) → length (ways_under o (counted_as o c l)) ≡ length (branches_under c o)
ways_by None c l = refl
ways_by (Some k) c l = refl

ways_same : (ls : List LineCount) (cs : List CoveredLine) → AreCounts ls cs → count_ways ls ≡ length (flat_map branches_of cs)
ways_same [] [] h = refl
ways_same [] (c ∷ cs) h = absurd h
ways_same (l ∷ ls) [] h = absurd h
ways_same (l ∷ ls) (c ∷ cs) h =
    ap (λ (x : LineCount). length (ways_of x) + count_ways ls) (is_counted l c h.0)
    ∙ ap (λ (n : ℕ). n + count_ways ls) (ways_by (line_condition c.line) c l)
    ∙ ap (λ (n : ℕ). length (branches_of c) + n) (ways_same ls cs h.1)
    ∙ sym (length-append (branches_of c) (flat_map branches_of cs))

gone_two : (b c : Bool) (x y : ℕ) (p q : CoveredBranch) → length (cond b (x ∷ cond c (y ∷ []) []) (cond c (y ∷ []) [])) ≡ length (cond b (p ∷ cond c (q ∷ []) []) (cond c (q ∷ []) []))
gone_two true true x y p q = refl
gone_two true false x y p q = refl
gone_two false true x y p q = refl
gone_two false false x y p q = refl

gone_by : (o : Option ℕ) (c : CoveredLine) (l : LineCount) → length (filter (nat_lt 0) (ways_under o (counted_as o c l))) ≡ length (filter (λ b. nat_lt 0 b.count) (branches_under c o))
gone_by None c l = refl
gone_by (Some k) c l =
    let n = length c.turns in
    let taken = length (filter (λ t. took (Some k) t) c.turns) in
    gone_two (nat_lt 0 taken) (nat_lt 0 (n - taken)) taken (n - taken) (record { number = c.line.number; way = 0; ran = nat_lt 0 n; count = taken }) (record { number = c.line.number; way = 1; ran = nat_lt 0 n; count = n - taken })

gone_same : (ls : List LineCount) (cs : List CoveredLine) → AreCounts ls cs → count_gone ls ≡ length (filter (λ b. nat_lt 0 b.count) (flat_map branches_of cs))
gone_same [] [] h = refl
gone_same [] (c ∷ cs) h = absurd h
gone_same (l ∷ ls) [] h = absurd h
gone_same (l ∷ ls) (c ∷ cs) h =
    let here = filter (λ b. nat_lt 0 b.count) (branches_of c) in
    let rest = filter (λ b. nat_lt 0 b.count) (flat_map branches_of cs) in
    ap (λ (x : LineCount). length (filter (nat_lt 0) (ways_of x)) + count_gone ls) (is_counted l c h.0)
    ∙ ap (λ (n : ℕ). n + count_gone ls) (gone_by (line_condition c.line) c l)
    ∙ ap (λ (n : ℕ). length here + n) (gone_same ls cs h.1)
    ∙ sym (length-append here rest)
    ∙ sym (ap length (filter-append (λ (b : CoveredBranch). nat_lt 0 b.count) (branches_of c) (flat_map branches_of cs)))

-- ---- the record

-- the record with its parts one after the other
laid_out : (name a b p q r s e : List ℕ) → (codes "TN:\nSF:" ++ name ++ codes "\n") ++ ((a ++ b) ++ (((p ++ q) ++ (r ++ s)) ++ e)) ≡ codes "TN:\nSF:" ++ name ++ codes "\n" ++ a ++ b ++ p ++ q ++ r ++ s ++ e
laid_out name a b p q r s e =
    let h = codes "TN:\nSF:" ++ name ++ codes "\n" in
    let k = h ++ a ++ b in
    let rest = ((p ++ q) ++ (r ++ s)) ++ e in
    sym (append_assoc h (a ++ b) rest)
    ∙ ap (λ (t : List ℕ). t ++ rest) (sym (append_assoc h a b))
    ∙ sym (append_assoc k ((p ++ q) ++ (r ++ s)) e)
    ∙ ap (λ (t : List ℕ). t ++ e) (sym (append_assoc k (p ++ q) (r ++ s)) ∙ ap (λ (t : List ℕ). t ++ (r ++ s)) (sym (append_assoc k p q)) ∙ sym (append_assoc (k ++ p ++ q) r s))

-- the record of lines that were counted
pub record_same : (name : List ℕ) (ls : List LineCount) (cs : List CoveredLine) → AreCounts ls cs → record_text name ls ≡ record_of name cs (flat_map branches_of cs)
record_same name ls cs h =
    let a = lines_text ls in
    let b = branches_text ls in
    let ways = count_record (codes "BRF:") in
    let gone = count_record (codes "BRH:") in
    let many = count_record (codes "LF:") in
    let run = count_record (codes "LH:") in
    let f : List ℕ → List ℕ → ℕ → ℕ → ℕ → ℕ → List ℕ = λ a b i j k m. codes "TN:\nSF:" ++ name ++ codes "\n" ++ a ++ b ++ ways i ++ gone j ++ many k ++ run m ++ codes "end_of_record\n" in
    laid_out name a b (ways (count_ways ls)) (gone (count_gone ls)) (many (length ls)) (run (count_run ls)) (codes "end_of_record\n")
    ∙ ap (λ (x : List ℕ). f x b (count_ways ls) (count_gone ls) (length ls) (count_run ls)) (lines_same ls cs h)
    ∙ ap (λ (x : List ℕ). f (flat_map line_record cs) x (count_ways ls) (count_gone ls) (length ls) (count_run ls)) (branches_same ls cs h)
    ∙ ap (λ (n : ℕ). f (flat_map line_record cs) (flat_map branch_record (flat_map branches_of cs)) n (count_gone ls) (length ls) (count_run ls)) (ways_same ls cs h)
    ∙ ap (λ (n : ℕ). f (flat_map line_record cs) (flat_map branch_record (flat_map branches_of cs)) (length (flat_map branches_of cs)) n (length ls) (count_run ls)) (gone_same ls cs h)
    ∙ ap (λ (n : ℕ). f (flat_map line_record cs) (flat_map branch_record (flat_map branches_of cs)) (length (flat_map branches_of cs)) (length (filter (λ b. nat_lt 0 b.count) (flat_map branches_of cs))) n (count_run ls)) (many_same ls cs h)
    ∙ ap (λ (n : ℕ). f (flat_map line_record cs) (flat_map branch_record (flat_map branches_of cs)) (length (flat_map branches_of cs)) (length (filter (λ b. nat_lt 0 b.count) (flat_map branches_of cs))) (length cs) n) (run_same ls cs h)
