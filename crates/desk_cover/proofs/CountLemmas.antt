-- Lines that are counted turn by turn: one turn by the code, and all turns as the lines that a play covered.
use Rattle.std.proofs.Common.{◌≡◌, ℕ, suc, ◌+◌, ◌<◌, ◌≤◌, Bool, true, false, cond, ◌&&◌, ◌==◌, List, [], ◌∷◌, ◌++◌, length, Option, Some, None, refl, arith, sym, ap, subst, ◌∙◌}
use Rattle.std.specs.Prelude.{map, filter, not}
use Rattle.std.specs.List.{AllByRecursion}
use Rattle.std.proofs.lemmas.List.{map-append}
use Rattle.mc_arith.specs.model_machine.specs.declared.instruction.Ins.{Ins}
use Rattle.desk_draft.specs.Listings.{CodeLine, Source}
use Rattle.desk_draft.specs.FullTurns.{FullTurn}
use Rattle.desk_draft.specs.Traces.{is_turn_of}
use Rattle.desk_draft.specs.Coverage.{CoveredLine, covered_line, covered_lines, is_decoded, is_decoded_at, line_condition}
use Rattle.mc_machine.specs.declared.outcome.BriefTurn.{BriefTurn}
use Rattle.desk_cover.specs.declared.lcov.LineCount.{LineCount}
use Rattle.desk_cover.specs.declared.covering.Counter.{Counter}
use Rattle.desk_cover.specs.Sections.{index_of, is_of}
use Rattle.desk_cover.specs.Counting.{AreAtMost, Counted, CountsLines, is_at, line_after, line_by, line_risen, line_with_turn, lines_after, lines_by, most_count, new_line, new_lines, risen, runs_line, took, took_by}

-- ---- one turn

risen_is : (n : ℕ) → n + 1 ≤ most_count → risen n ≡ n + 1
risen_is n h = grind (arith, h)

took_same : (o : Option ℕ) (t : FullTurn) → took_by o t.frame.c t.frame.z ≡ took o t
took_same None t = refl
took_same (Some k) t = refl

taken_is : (b : Bool) (n : ℕ) → n + 1 ≤ most_count → cond b (risen n) n ≡ n + cond b 1 0
taken_is true n h = risen_is n h
taken_is false n h = omega arith

-- a line with one more turn, whose counts are not at their end
line_is : (t : FullTurn) (l : LineCount) → l.turns + 1 ≤ most_count → l.taken + 1 ≤ most_count → line_risen t.frame.c t.frame.z l ≡ line_with_turn t l
line_is t l turns taken =
    ap (λ (n : ℕ). record l { turns = n; taken = cond (took_by l.condition t.frame.c t.frame.z) (risen l.taken) l.taken }) (risen_is l.turns turns)
    ∙ ap (λ (n : ℕ). record l { turns = l.turns + 1; taken = n }) (ap (λ (b : Bool). cond b (risen l.taken) l.taken) (took_same l.condition t) ∙ taken_is (took l.condition t) l.taken taken)

-- a line with other counts is at most at a greater count
moved_by : (b : Bool) (k : ℕ) (t : FullTurn) (l : LineCount) → (l.turns ≤ k) × (l.taken ≤ k) → ((cond b (line_with_turn t l) l).turns ≤ k + 1) × ((cond b (line_with_turn t l) l).taken ≤ k + 1)
moved_by true k t l h = (omega (arith, h), by_took (took l.condition t))
  where
    by_took : (c : Bool) → l.taken + cond c 1 0 ≤ k + 1
    by_took true = omega (arith, h)
    by_took false = omega (arith, h)
moved_by false k t l h = (omega (arith, h), omega (arith, h))

moved_most : (ss : List Source) (k : ℕ) (t : FullTurn) (ls : List LineCount) → AreAtMost k ls → AreAtMost (k + 1) (map (line_after ss t) ls)
moved_most ss k t [] h = tt
moved_most ss k t (l ∷ ls) h = (moved_by (runs_line ss t l) k t l h.0, moved_most ss k t ls h.1)

-- the lines by the code are those after a turn, whose section has this index
abbrev by_index : (o : Option ℕ) (b : Bool) (c z : Bool) (at : ℕ) (ls : List LineCount) → List LineCount
by_index None b c z at ls = ls
by_index (Some i) b c z at ls = cond b (map (line_by i at c z) ls) ls

test_same : (i at j place : ℕ) → (j == i && at == place) ≡ (is_at (Some i) j && (true && at == place))
test_same i at j place = refl

one_is : (i k : ℕ) (t : FullTurn) (l : LineCount) (b : Bool) → (l.turns ≤ k) × (l.taken ≤ k) → k + 1 ≤ most_count → cond b (line_risen t.frame.c t.frame.z l) l ≡ cond b (line_with_turn t l) l
one_is i k t l true h fits = line_is t l (omega (arith, h, fits)) (omega (arith, h, fits))
one_is i k t l false h fits = refl

none_map : (ls : List LineCount) (f : LineCount → LineCount) → ((l : LineCount) → f l ≡ l) → ls ≡ map f ls
none_map [] f e = refl
none_map (l ∷ ls) f e = ap (λ (x : LineCount). x ∷ ls) (sym (e l)) ∙ ap (λ (xs : List LineCount). f l ∷ xs) (none_map ls f e)

not_decoded : (o : Option ℕ) (j : ℕ) (b : Bool) (t : FullTurn) (l : LineCount) → cond (is_at o j && (false && b)) (line_with_turn t l) l ≡ l
not_decoded None j b t l = refl
not_decoded (Some i) j b t l = by_bool (j == i)
  where
    by_bool : (c : Bool) → cond (c && (false && b)) (line_with_turn t l) l ≡ l
    by_bool true = refl
    by_bool false = refl

-- a line by an index, whether an instruction was decoded, and the place
abbrev line_at_index : Option ℕ → Bool → FullTurn → LineCount → LineCount
line_at_index o d t l = cond (is_at o l.section && (d && t.turn.at == l.place)) (line_with_turn t l) l

some_same : (i k : ℕ) (t : FullTurn) (ls : List LineCount) → AreAtMost k ls → k + 1 ≤ most_count → map (line_by i t.turn.at t.frame.c t.frame.z) ls ≡ map (line_at_index (Some i) true t) ls
some_same i k t [] h fits = refl
some_same i k t (l ∷ ls) h fits =
    ap (λ (x : LineCount). x ∷ map (line_by i t.turn.at t.frame.c t.frame.z) ls) (one_is i k t l (l.section == i && t.turn.at == l.place) h.0 fits)
    ∙ ap (λ (xs : List LineCount). line_at_index (Some i) true t l ∷ xs) (some_same i k t ls h.1 fits)

lines_same : (o : Option ℕ) (d : Bool) (k : ℕ) (t : FullTurn) (ls : List LineCount) → AreAtMost k ls → k + 1 ≤ most_count → by_index o d t.frame.c t.frame.z t.turn.at ls ≡ map (line_at_index o d t) ls
lines_same None d k t ls h fits = none_map ls (line_at_index None d t) (λ l. refl)
lines_same (Some i) false k t ls h fits = none_map ls (line_at_index (Some i) false t) (λ l. not_decoded (Some i) l.section (t.turn.at == l.place) t l)
lines_same (Some i) true k t ls h fits = some_same i k t ls h fits

by_code : (o : Option ℕ) (turn : BriefTurn) (ls : List LineCount) → lines_by o turn ls ≡ by_index o (is_decoded turn.ins) turn.flags.c turn.flags.z turn.at ls
by_code None turn ls = refl
by_code (Some i) turn ls = refl

-- what a turn of the code says of a full turn
pub record IsTurn (turn : BriefTurn) (t : FullTurn) : Type 0 where
  pub ins : turn.ins ≡ t.turn.ins
  pub at : turn.at ≡ t.turn.at
  pub c : turn.flags.c ≡ t.frame.c
  pub z : turn.flags.z ≡ t.frame.z

counted_lines : (ss : List Source) (o : Option ℕ) (turn : BriefTurn) (t : FullTurn) (old new : List LineCount) → IsTurn turn t → o ≡ index_of 0 ss t.frame.name t.code → new ≡ lines_by o turn old → CountsLines ss old (t ∷ []) new
counted_lines ss o turn t old new is index by k most fits =
    let one : k + 1 ≤ most_count = fits in
    let d = is_decoded t.turn.ins in
    let named : by_index o (is_decoded turn.ins) turn.flags.c turn.flags.z turn.at old ≡ by_index o d t.frame.c t.frame.z t.turn.at old =
    ap (λ (i : Option Ins). by_index o (is_decoded i) turn.flags.c turn.flags.z turn.at old) is.ins ∙ ap (λ (c : Bool). by_index o d c turn.flags.z turn.at old) is.c
    ∙ ap (λ (z : Bool). by_index o d t.frame.c z turn.at old) is.z ∙ ap (λ (at : ℕ). by_index o d t.frame.c t.frame.z at old) is.at
    in
    let all : new ≡ map (line_after ss t) old =
    by ∙ by_code o turn old ∙ named ∙ lines_same o d k t old most one ∙ ap (λ (p : Option ℕ). map (line_at_index p d t) old) index
    in
    (all, subst (λ (ls : List LineCount). AreAtMost (k + 1) ls) (sym all) (moved_most ss k t old most))

-- a counter that counted one turn
pub counted_turn : (q r : Counter) (o : Option ℕ) (turn : BriefTurn) (t : FullTurn) → IsTurn turn t → r.sections.now ≡ q.sections.now → o ≡ index_of 0 q.sections.now t.frame.name t.code → r.lines.items ≡ lines_by o turn q.lines.items → Counted q (t ∷ []) r
counted_turn q r o turn t is same index by = record { sections = same; lines = counted_lines q.sections.now o turn t q.lines.items r.lines.items is index by }

-- ---- all turns

-- the turns that run a line, where the first section has an index
abbrev own : ℕ → List Source → LineCount → List FullTurn → List FullTurn
own i ss l ts = filter (λ t. is_at (index_of i ss t.frame.name t.code) l.section && is_decoded_at l.place t) ts

-- a line with all of these turns
abbrev with_turns : LineCount → List FullTurn → LineCount
with_turns l ts = record l { turns = l.turns + length ts; taken = l.taken + length (filter (λ t. took l.condition t) ts) }

abbrev counted : ℕ → List Source → List FullTurn → LineCount → LineCount
counted i ss ts l = with_turns l (own i ss l ts)

with_none : (l : LineCount) → l ≡ with_turns l []
with_none l = ap (λ (n : ℕ). record l { turns = n; taken = l.taken }) (zero_more l.turns) ∙ ap (λ (n : ℕ). record l { turns = l.turns + 0; taken = n }) (zero_more l.taken)
  where
    zero_more : (n : ℕ) → n ≡ n + 0
    zero_more n = omega arith

took_moves : (b : Bool) (t : FullTurn) (l : LineCount) (ts : List FullTurn) → took l.condition t ≡ b → with_turns (line_with_turn t l) ts ≡ with_turns l (t ∷ ts)
took_moves b t l ts e =
    let rest = filter (λ t. took l.condition t) ts in
    let turns : (l.turns + 1) + length ts ≡ l.turns + suc (length ts) = omega arith in
    let taken : (l.taken + cond (took l.condition t) 1 0) + length rest ≡ l.taken + length (cond (took l.condition t) (t ∷ rest) rest) = subst (λ (c : Bool). (l.taken + cond c 1 0) + length rest ≡ l.taken + length (cond c (t ∷ rest) rest)) (sym e) (by_bool b l.taken rest) in
    ap (λ (n : ℕ). record l { turns = n; taken = (l.taken + cond (took l.condition t) 1 0) + length rest }) turns ∙ ap (λ (n : ℕ). record l { turns = l.turns + suc (length ts); taken = n }) taken
  where
    by_bool : (c : Bool) (n : ℕ) (us : List FullTurn) → (n + cond c 1 0) + length us ≡ n + length (cond c (t ∷ us) us)
    by_bool true n us = omega arith
    by_bool false n us = omega arith

one_moves : (b : Bool) (ss : List Source) (t : FullTurn) (l : LineCount) (ts : List FullTurn) → runs_line ss t l ≡ b → counted 0 ss ts (line_after ss t l) ≡ counted 0 ss (t ∷ ts) l
one_moves b ss t l ts e =
    subst (λ (c : Bool). counted 0 ss ts (cond c (line_with_turn t l) l) ≡ with_turns l (cond c (t ∷ own 0 ss l ts) (own 0 ss l ts))) (sym e) (by_bool b)
  where
    by_bool : (c : Bool) → counted 0 ss ts (cond c (line_with_turn t l) l) ≡ with_turns l (cond c (t ∷ own 0 ss l ts) (own 0 ss l ts))
    by_bool true = took_moves (took l.condition t) t l (own 0 ss l ts) refl
    by_bool false = refl

map_moves : (ss : List Source) (t : FullTurn) (ls : List LineCount) (ts : List FullTurn) → map (counted 0 ss ts) (map (line_after ss t) ls) ≡ map (counted 0 ss (t ∷ ts)) ls
map_moves ss t [] ts = refl
map_moves ss t (l ∷ ls) ts = ap (λ (x : LineCount). x ∷ map (counted 0 ss ts) (map (line_after ss t) ls)) (one_moves (runs_line ss t l) ss t l ts refl) ∙ ap (λ (xs : List LineCount). counted 0 ss (t ∷ ts) l ∷ xs) (map_moves ss t ls ts)

-- lines after turns have the turns that run them
pub after_all : (ss : List Source) (ls : List LineCount) (ts : List FullTurn) → lines_after ss ls ts ≡ map (counted 0 ss ts) ls
after_all ss ls [] = none_map ls (counted 0 ss []) (λ l. sym (with_none l))
after_all ss ls (t ∷ ts) = after_all ss (map (line_after ss t) ls) ts ∙ map_moves ss t ls ts

-- ---- the lines that a play covered

-- a line was counted as the play covered it
pub record IsCount (l : LineCount) (c : CoveredLine) : Type 0 where
  pub number : l.number ≡ c.line.number
  pub condition : l.condition ≡ line_condition c.line
  pub turns : l.turns ≡ length c.turns
  pub taken : l.taken ≡ length (filter (λ t. took (line_condition c.line) t) c.turns)

-- lines in turn
abbrev pub AreCounts : List LineCount → List CoveredLine → Type 0
AreCounts [] [] = Unit {0}
AreCounts [] (c ∷ cs) = ⊥
AreCounts (l ∷ ls) [] = ⊥
AreCounts (l ∷ ls) (c ∷ cs) = IsCount l c × AreCounts ls cs

counts_append : (ls ms : List LineCount) (cs ds : List CoveredLine) → AreCounts ls cs → AreCounts ms ds → AreCounts (ls ++ ms) (cs ++ ds)
counts_append [] ms [] ds first rest = rest
counts_append [] ms (c ∷ cs) ds first rest = absurd first
counts_append (l ∷ ls) ms [] ds first rest = absurd first
counts_append (l ∷ ls) ms (c ∷ cs) ds first rest = (first.0, counts_append ls ms cs ds first.1 rest)

-- an index of a later section is none before it
equal_self : (n : ℕ) → (n == n) ≡ true
equal_self n = grind arith

other_number : (i j : ℕ) → i < j → (j == i) ≡ false
other_number i j h = grind (arith, h)

other_below : (i j : ℕ) → i < j → (i == j) ≡ false
other_below i j h = grind (arith, h)

later_index : (ss : List Source) (i j : ℕ) (name code : List ℕ) → j < i → is_at (index_of i ss name code) j ≡ false
later_index [] i j name code h = refl
later_index (s ∷ ss) i j name code h = by_bool (is_of name code s) (index_of (i + 1) ss name code) (later_index ss (i + 1) j name code (omega (arith, h)))
  where
    by_bool : (b : Bool) (o : Option ℕ) → is_at o j ≡ false → is_at (cond b (Some i) o) j ≡ false
    by_bool true o e = other_below j i h
    by_bool false o e = e

-- the turns of a line of the first section
own_here : (i : ℕ) (s : Source) (ss : List Source) (l : CodeLine) (ts : List FullTurn) → own i (s ∷ ss) (new_line i l) ts ≡ filter (is_decoded_at l.place) (filter (λ t. is_turn_of t s) ts)
own_here i s ss l [] = refl
own_here i s ss l (t ∷ ts) =
    let rest = own_here i s ss l ts in
    by_bool (is_turn_of t s) (own i (s ∷ ss) (new_line i l) ts) (filter (λ t. is_turn_of t s) ts) rest
  where
    by_bool : (b : Bool) (us vs : List FullTurn) → us ≡ filter (is_decoded_at l.place) vs → cond (is_at (cond b (Some i) (index_of (i + 1) ss t.frame.name t.code)) i && is_decoded_at l.place t) (t ∷ us) us ≡ filter (is_decoded_at l.place) (cond b (t ∷ vs) vs)
    by_bool true us vs e = ap (λ (c : Bool). cond (c && is_decoded_at l.place t) (t ∷ us) us) (equal_self i) ∙ ap (λ (xs : List FullTurn). cond (is_decoded_at l.place t) (t ∷ xs) xs) e
    by_bool false us vs e = ap (λ (c : Bool). cond (c && is_decoded_at l.place t) (t ∷ us) us) (later_index ss (i + 1) i t.frame.name t.code (omega arith)) ∙ e

-- the turns of a line of a later section
own_later : (i : ℕ) (s : Source) (ss : List Source) (l : LineCount) (ts : List FullTurn) → i + 1 ≤ l.section → own i (s ∷ ss) l ts ≡ own (i + 1) ss l (filter (λ t. not (is_turn_of t s)) ts)
own_later i s ss l [] h = refl
own_later i s ss l (t ∷ ts) h = by_bool (is_turn_of t s) (own i (s ∷ ss) l ts) (filter (λ t. not (is_turn_of t s)) ts) (own_later i s ss l ts h)
  where
    by_bool : (b : Bool) (us vs : List FullTurn) → us ≡ own (i + 1) ss l vs → cond (is_at (cond b (Some i) (index_of (i + 1) ss t.frame.name t.code)) l.section && is_decoded_at l.place t) (t ∷ us) us ≡ own (i + 1) ss l (cond (not b) (t ∷ vs) vs)
    by_bool true us vs e = ap (λ (c : Bool). cond (c && is_decoded_at l.place t) (t ∷ us) us) (other_number i l.section (omega (arith, h))) ∙ e
    by_bool false us vs e = ap (λ (xs : List FullTurn). cond (is_at (index_of (i + 1) ss t.frame.name t.code) l.section && is_decoded_at l.place t) (t ∷ xs) xs) e

-- the lines of sections are of these sections
lines_from_append : (i : ℕ) (ls ms : List LineCount) → AllByRecursion (λ l. i ≤ l.section) ls → AllByRecursion (λ l. i ≤ l.section) ms → AllByRecursion (λ l. i ≤ l.section) (ls ++ ms)
lines_from_append i [] ms first rest = rest
lines_from_append i (l ∷ ls) ms first rest = (first.0, lines_from_append i ls ms first.1 rest)

lines_here : (i k : ℕ) (ls : List CodeLine) → i ≤ k → AllByRecursion (λ l. i ≤ l.section) (map (new_line k) ls)
lines_here i k [] h = tt
lines_here i k (l ∷ ls) h = (h, lines_here i k ls h)

lines_from : (i k : ℕ) (ss : List Source) → i ≤ k → AllByRecursion (λ l. i ≤ l.section) (new_lines k ss)
lines_from i k [] h = tt
lines_from i k (s ∷ ss) h = lines_from_append i (map (new_line k) s.lines) (new_lines (k + 1) ss) (lines_here i k s.lines h) (lines_from i (k + 1) ss (omega (arith, h)))

later_same : (i : ℕ) (s : Source) (ss : List Source) (ls : List LineCount) (ts : List FullTurn) → AllByRecursion (λ l. i + 1 ≤ l.section) ls → map (counted i (s ∷ ss) ts) ls ≡ map (counted (i + 1) ss (filter (λ t. not (is_turn_of t s)) ts)) ls
later_same i s ss [] ts h = refl
later_same i s ss (l ∷ ls) ts h =
    ap (λ (us : List FullTurn). with_turns l us ∷ map (counted i (s ∷ ss) ts) ls) (own_later i s ss l ts h.0)
    ∙ ap (λ (xs : List LineCount). counted (i + 1) ss (filter (λ t. not (is_turn_of t s)) ts) l ∷ xs) (later_same i s ss ls ts h.1)

new_count : (i : ℕ) (l : CodeLine) (us vs : List FullTurn) → us ≡ filter (is_decoded_at l.place) vs → IsCount (with_turns (new_line i l) us) (covered_line vs l)
new_count i l us vs e =
    record {
      number = refl;
      condition = refl;
      turns = no_more (length us) ∙ ap length e;
      taken = no_more (length (filter (λ t. took (line_condition l) t) us)) ∙ ap (λ (xs : List FullTurn). length (filter (λ t. took (line_condition l) t) xs)) e;
    }
  where
    no_more : (n : ℕ) → 0 + n ≡ n
    no_more n = omega arith

section_covered : (i : ℕ) (s : Source) (ss : List Source) (ls : List CodeLine) (ts : List FullTurn) → AreCounts (map (counted i (s ∷ ss) ts) (map (new_line i) ls)) (map (covered_line (filter (λ t. is_turn_of t s) ts)) ls)
section_covered i s ss [] ts = tt
section_covered i s ss (l ∷ ls) ts = (new_count i l (own i (s ∷ ss) (new_line i l) ts) (filter (λ t. is_turn_of t s) ts) (own_here i s ss l ts), section_covered i s ss ls ts)

-- the lines of sections that turns ran are those that the play covered
pub all_covered : (i : ℕ) (ss : List Source) (ts : List FullTurn) → AreCounts (map (counted i ss ts) (new_lines i ss)) (covered_lines ss ts)
all_covered i [] ts = tt
all_covered i (s ∷ ss) ts =
    let rest = filter (λ t. not (is_turn_of t s)) ts in
    let here = map (new_line i) s.lines in
    let later = new_lines (i + 1) ss in
    let behind : AreCounts (map (counted i (s ∷ ss) ts) later) (covered_lines ss rest) = subst (λ (ls : List LineCount). AreCounts ls (covered_lines ss rest)) (sym (later_same i s ss later ts (lines_from (i + 1) (i + 1) ss (omega arith)))) (all_covered (i + 1) ss rest) in
    subst (λ (ls : List LineCount). AreCounts ls (covered_lines (s ∷ ss) ts)) (sym (map-append (counted i (s ∷ ss) ts) here later))
    (counts_append (map (counted i (s ∷ ss) ts) here) (map (counted i (s ∷ ss) ts) later) (map (covered_line (filter (λ t. is_turn_of t s) ts)) s.lines) (covered_lines ss rest) (section_covered i s ss s.lines ts) behind)

-- the lines that were new before turns
pub new_covered : (ss : List Source) (ts : List FullTurn) → AreCounts (lines_after ss (new_lines 0 ss) ts) (covered_lines ss ts)
new_covered ss ts = subst (λ (ls : List LineCount). AreCounts ls (covered_lines ss ts)) (sym (after_all ss (new_lines 0 ss) ts)) (all_covered 0 ss ts)
