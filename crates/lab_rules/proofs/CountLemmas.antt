-- Counts of occasions, line by line.
use Rattle.std.proofs.Common.{◌≡◌, ℕ, suc, ◌+◌, min, List, [], ◌∷◌, ◌++◌, ◌||◌, length, drop, map, replicate, Bool, true, false, cond, ◌&&◌, refl, ap, ◌∙◌, arith}
use Rattle.std.specs.Prelude.{filter, slice_index_or}
use Rattle.std.specs.declared.alloc.Global.{Global}
use Rattle.std.specs.declared.vec.Vec.{Vec}
use Rattle.model_device.specs.Counts.{last_count}
use Rattle.mc_text.specs.model_machine.specs.Chain.{Turn}
use Rattle.law_explore.specs.model_play.specs.Play.{Step}
use Rattle.law_explore.specs.model_play.specs.TraceText.{shown_turns}
use Rattle.law_explore.specs.Rules as model
use Rattle.law_explore.specs.Rules.{AtResult, AtTurn}
use Rattle.law_explore.specs.model_events.specs.Matching.{fits, plain}
use Rattle.law_explore.specs.Tries.{occasions, result_text, times}
use Rattle.law_explore.specs.model_events.specs.Amounts.{turn_text}
use Rattle.lab_match.proofs.MatchingLemmas.{fits_again}
use Rattle.lab_rules.specs.declared.rules.Move.{Move}
use Rattle.lab_rules.specs.declared.rules.OnRule.{OnRule}
use Rattle.lab_rules.specs.Meanings.{occasion_value, AlikeLists, IsMove, IsOn}
use Rattle.lab_rules.specs.Occasions.{applications, capped, count_with, counts_after, counts_after_turns, counts_from, counts_with, has_turns, is_counted, is_same_occasion, row_of, CountsLaw, IsRow}

-- ---- which lines apply

-- the row of a text
row_as : (held : List (List ℕ × ℕ)) (ons : List OnRule) (rules : List model.OnRule) (text : List ℕ) → AlikeLists (IsOn held) ons rules → row_of ons (plain text) ≡ map (λ r. fits r.move text) rules
row_as held [] [] text h = refl
row_as held (o ∷ ons) (r ∷ rules) text h =
    ap (λ (p : List ℕ). fits p (plain text) ∷ row_of ons (plain text)) h.0.moves
    ∙ ap (λ b. b ∷ row_of ons (plain text)) (fits_again r.move text)
    ∙ ap (λ (bs : List Bool). fits r.move text ∷ bs) (row_as held ons rules text h.1)
row_as held [] (r ∷ rules) text h = absurd h
row_as held (o ∷ ons) [] text h = absurd h

list_parts : {A : Type 0} (x y : A) (xs ys : List A) → x ∷ xs ≡ y ∷ ys → (x ≡ y) × (xs ≡ ys)
list_parts x y xs ys h = (cc h, cc h)

-- the rows of moves
pub rows_as : (held : List (List ℕ × ℕ)) (ons : List OnRule) (rules : List model.OnRule) (rows : List (Vec Bool Global)) (moves : List Move) (ms : List model.Move) → AlikeLists (IsOn held) ons rules → AlikeLists IsMove moves ms
    → map (λ r. r.items) rows ≡ map (λ m. row_of ons (plain m.text.now)) moves → AlikeLists (IsRow rules) rows ms
rows_as held ons rules [] [] [] h k e = tt
rows_as held ons rules (r ∷ rows) (c ∷ moves) (m ∷ ms) h k e =
    let parts = list_parts r.items (row_of ons (plain c.text.now)) (map (λ r. r.items) rows) (map (λ m. row_of ons (plain m.text.now)) moves) e in
    (parts.0 ∙ ap (λ (t : List ℕ). row_of ons (plain t)) k.0.text ∙ row_as held ons rules m.text h, rows_as held ons rules rows moves ms h k.1 parts.1)
rows_as held ons rules [] (c ∷ moves) ms h k e = absurd (cc e)
rows_as held ons rules (r ∷ rows) [] ms h k e = absurd (cc e)
rows_as held ons rules rows [] (m ∷ ms) h k e = absurd k
rows_as held ons rules rows (c ∷ moves) [] h k e = absurd k

-- ---- lines from the first on

-- without counts nothing is counted
counts_none : (o : model.Occasion) (t : List ℕ) (i : ℕ) (rs : List OnRule) (applies : List Bool) → counts_from o t i rs applies [] ≡ []
counts_none o t i [] applies = refl
counts_none o t i (r ∷ rs) applies = counts_none o t (suc i) rs applies

-- lines from the second on leave the first count
counts_rest : (o : model.Occasion) (t : List ℕ) (i : ℕ) (rs : List OnRule) (applies : List Bool) (n : ℕ) (ns : List ℕ) → counts_from o t (suc i) rs applies (n ∷ ns) ≡ n ∷ counts_from o t i rs (drop 1 applies) ns
counts_rest o t i [] applies n ns = refl
counts_rest o t i (r ∷ rs) [] n ns = counts_rest o t (suc i) rs [] n (counts_with (is_counted o t r false) i ns)
counts_rest o t i (r ∷ rs) (a ∷ applies) n ns = counts_rest o t (suc i) rs (a ∷ applies) n (counts_with (is_counted o t r (slice_index_or applies i false)) i ns)

-- lines from the first on count as all do
pub counts_from_first : (o : model.Occasion) (t : List ℕ) (rs : List OnRule) (applies : List Bool) (ns : List ℕ) → counts_from o t 0 rs applies ns ≡ counts_after o t rs applies ns
counts_from_first o t [] applies ns = refl
counts_from_first o t (r ∷ rs) applies [] = counts_none o t 1 rs applies
counts_from_first o t (r ∷ rs) applies (n ∷ ns) =
    let k = count_with (is_counted o t r (slice_index_or applies 0 false)) n in
    counts_rest o t 0 rs applies k ns ∙ ap (λ (ms : List ℕ). k ∷ ms) (counts_from_first o t rs (drop 1 applies) ns)

-- ---- no line that counts turns

uncounted_by : (b : Bool) (r : OnRule) (t : List ℕ) → (b && is_same_occasion (occasion_value r.occasion) AtTurn) ≡ false → is_counted AtTurn t r b ≡ false
uncounted_by b r t h = ap (λ c. c && fits r.pattern.items t) h

or_none : (a b : Bool) → (a || b) ≡ false → (a ≡ false) × (b ≡ false)
or_none true b h = absurd (cc h)
or_none false b h = (refl, h)

-- without such a line a turn is not counted
turn_uncounted : (rs : List OnRule) (applies : List Bool) (t : List ℕ) (ns : List ℕ) → has_turns rs applies ≡ false → counts_after AtTurn t rs applies ns ≡ ns
turn_uncounted [] applies t ns h = refl
turn_uncounted (r ∷ rs) applies t [] h = refl
turn_uncounted (r ∷ rs) applies t (n ∷ ns) h =
    let parts = or_none (slice_index_or applies 0 false && is_same_occasion (occasion_value r.occasion) AtTurn) (has_turns rs (drop 1 applies)) h in
    ap (λ c. count_with c n ∷ counts_after AtTurn t rs (drop 1 applies) ns) (uncounted_by (slice_index_or applies 0 false) r t parts.0)
    ∙ ap (λ (ms : List ℕ). n ∷ ms) (turn_uncounted rs (drop 1 applies) t ns parts.1)

-- without such a line no turn is counted
pub turns_uncounted : (rs : List OnRule) (applies : List Bool) (ts : List Turn) (ns : List ℕ) → has_turns rs applies ≡ false → counts_after_turns rs applies ts ns ≡ ns
turns_uncounted rs applies [] ns h = refl
turns_uncounted rs applies (t ∷ ts) ns h =
    ap (counts_after_turns rs applies ts) (turn_uncounted rs applies (plain (turn_text t)) ns h) ∙ turns_uncounted rs applies ts ns h

-- turns after turns
pub turns_then : (rs : List OnRule) (applies : List Bool) (ts us : List Turn) (ns : List ℕ) → counts_after_turns rs applies us (counts_after_turns rs applies ts ns) ≡ counts_after_turns rs applies (ts ++ us) ns
turns_then rs applies [] us ns = refl
turns_then rs applies (t ∷ ts) us ns = turns_then rs applies ts us (counts_after AtTurn (plain (turn_text t)) rs applies ns)

-- ---- one line

-- the count of a line after executed instructions
abbrev turn_count : OnRule → Bool → List Turn → ℕ → ℕ
turn_count r b [] n = n
turn_count r b (t ∷ ts) n = turn_count r b ts (count_with (is_counted AtTurn (plain (turn_text t)) r b) n)

turns_none : (rs : List OnRule) (applies : List Bool) (ts : List Turn) → counts_after_turns rs applies ts [] ≡ []
turns_none [] applies [] = refl
turns_none [] applies (t ∷ ts) = turns_none [] applies ts
turns_none (r ∷ rs) applies [] = refl
turns_none (r ∷ rs) applies (t ∷ ts) = turns_none (r ∷ rs) applies ts

-- the first line counts turns, and so do those after it
turns_first : (r : OnRule) (rs : List OnRule) (applies : List Bool) (ts : List Turn) (n : ℕ) (ns : List ℕ)
    → counts_after_turns (r ∷ rs) applies ts (n ∷ ns) ≡ turn_count r (slice_index_or applies 0 false) ts n ∷ counts_after_turns rs (drop 1 applies) ts ns
turns_first r rs applies [] n ns = refl
turns_first r rs applies (t ∷ ts) n ns = turns_first r rs applies ts _ _

-- a line that counts no turn
turn_count_none : (r : OnRule) (b : Bool) (ts : List Turn) (n : ℕ) → ((t : List ℕ) → is_counted AtTurn t r b ≡ false) → turn_count r b ts n ≡ n
turn_count_none r b [] n h = refl
turn_count_none r b (t ∷ ts) n h = ap (λ c. turn_count r b ts (count_with c n)) (h (plain (turn_text t))) ∙ turn_count_none r b ts n h

capped_more : (n m : ℕ) → min (min n m + 1) m ≡ min (n + 1) m
capped_more n m = omega arith

abbrev number_of : Bool → ℕ
number_of true = 1
number_of false = 0

no_more : (n : ℕ) → n ≡ n + 0
no_more n = omega arith

count_more : (c : Bool) (n : ℕ) → count_with c (capped n) ≡ capped (n + number_of c)
count_more true n = capped_more n last_count
count_more false n = ap capped (no_more n)

filter_more : (c : Bool) (t : Turn) (ts : List Turn) (n : ℕ) → n + number_of c + length ts ≡ n + length (cond c (t ∷ ts) ts)
filter_more true t ts n = omega arith
filter_more false t ts n = omega arith

-- a line counts the turns that pass a test
turn_count_by : (p : Turn → Bool) (r : OnRule) (b : Bool) → ((t : Turn) → is_counted AtTurn (plain (turn_text t)) r b ≡ p t) → (ts : List Turn) (n : ℕ) → turn_count r b ts (capped n) ≡ capped (n + length (filter p ts))
turn_count_by p r b h [] n = ap capped (no_more n)
turn_count_by p r b h (t ∷ ts) n =
    ap (λ c. turn_count r b ts (count_with c (capped n))) (h t)
    ∙ ap (turn_count r b ts) (count_more (p t) n)
    ∙ turn_count_by p r b h ts (n + number_of (p t))
    ∙ ap capped (filter_more (p t) t (filter p ts) n)

-- ---- the counts of a move

-- a line of the definition counts an occasion as its line of the code does
counted_as : (r : OnRule) (b : Bool) (o at : model.Occasion) (pattern text : List ℕ) → occasion_value r.occasion ≡ o → r.pattern.items ≡ plain pattern
    → is_counted at (plain text) r b ≡ ((b && is_same_occasion o at) && fits pattern text)
counted_as r b o at pattern text i h =
    ap (λ v. (b && is_same_occasion v at) && fits r.pattern.items (plain text)) i
    ∙ ap (λ (p : List ℕ). (b && is_same_occasion o at) && fits p (plain text)) h
    ∙ ap (λ c. (b && is_same_occasion o at) && c) (fits_again pattern text)

-- the count of a line after a move that was played
abbrev line_count : OnRule → Bool → Step → ℕ
line_count r b t = count_with (is_counted AtResult (plain (result_text t.result)) r b) (turn_count r b (shown_turns t.turns t.stop) 0)

result_once : (c : Bool) → count_with c 0 ≡ capped (cond c 1 0)
result_once true = refl
result_once false = refl

-- it is how many times the line applies
line_times_by : (r : OnRule) (b : Bool) (o : model.Occasion) (pattern : List ℕ) (t : Step) → occasion_value r.occasion ≡ o → r.pattern.items ≡ plain pattern
    → line_count r b t ≡ capped (cond b (occasions o pattern t) 0)
line_times_by r false o pattern t i h = turn_count_none r false (shown_turns t.turns t.stop) 0 (λ text. refl)
line_times_by r true AtResult pattern t i h =
    ap (λ c. count_with c (turn_count r true (shown_turns t.turns t.stop) 0)) (counted_as r true AtResult AtResult pattern (result_text t.result) i h)
    ∙ ap (count_with (fits pattern (result_text t.result))) (turn_count_none r true (shown_turns t.turns t.stop) 0 (λ text. ap (λ v. is_same_occasion v AtTurn && fits r.pattern.items text) i))
    ∙ result_once (fits pattern (result_text t.result))
line_times_by r true AtTurn pattern t i h =
    ap (λ c. count_with c (turn_count r true (shown_turns t.turns t.stop) 0)) (counted_as r true AtTurn AtResult pattern (result_text t.result) i h)
    ∙ turn_count_by (λ u. fits pattern (turn_text u)) r true (λ u. counted_as r true AtTurn AtTurn pattern (turn_text u) i h) (shown_turns t.turns t.stop) 0
    ∙ ap capped (none_before (length (filter (λ u. fits pattern (turn_text u)) (shown_turns t.turns t.stop))))
  where
    none_before : (n : ℕ) → 0 + n ≡ n
    none_before n = omega arith

line_times : (held : List (List ℕ × ℕ)) (r : OnRule) (q : model.OnRule) (m : model.Move) (t : Step) → IsOn held r q → line_count r (fits q.move m.text) t ≡ capped (times q m t)
line_times held r q m t h = line_times_by r (fits q.move m.text) q.occasion q.pattern t h.occasion h.pattern

-- the counts of a move are how many times each line applies to it
pub counts_are_times : CountsLaw
counts_are_times held [] [] m t h = turns_none [] [] (shown_turns t.turns t.stop)
counts_are_times held (r ∷ ons) (q ∷ rules) m t h =
    let applies = applications rules m in
    ap (counts_after AtResult (plain (result_text t.result)) (r ∷ ons) (fits q.move m.text ∷ applies)) (turns_first r ons (fits q.move m.text ∷ applies) (shown_turns t.turns t.stop) 0 (replicate (length ons) 0))
    ∙ ap (λ (k : ℕ). k ∷ counts_after AtResult (plain (result_text t.result)) ons applies (counts_after_turns ons applies (shown_turns t.turns t.stop) (replicate (length ons) 0))) (line_times held r q m t h.0)
    ∙ ap (λ (ks : List ℕ). capped (times q m t) ∷ ks) (counts_are_times held ons rules m t h.1)
counts_are_times held [] (q ∷ rules) m t h = absurd h
counts_are_times held (r ∷ ons) [] m t h = absurd h
