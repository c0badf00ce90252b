-- How often the lines of sections ran, turn by turn.
use Rattle.std.specs.Prelude.{◌≡◌, ℕ, ◌+◌, ◌≤◌, Bool, true, false, cond, not, ◌&&◌, ◌||◌, ◌==◌, List, [], ◌∷◌, ◌++◌, map, length, min, Option, Some, None}
use Rattle.std.specs.List.{AllByRecursion}
use Rattle.std.proofs.Common.{refl, sym, ap, subst, ◌∙◌, arith, length-append}
use Rattle.std.proofs.Math.Nat.{add-zero}
use Rattle.mc_arith.specs.model_machine.specs.Row.{holds}
use Rattle.desk_draft.specs.Listings.{CodeLine, Source}
use Rattle.desk_draft.specs.FullTurns.{FullTurn}
use Rattle.desk_draft.specs.Coverage.{is_decoded, is_decoded_at, line_condition}
use Rattle.mc_machine.specs.declared.outcome.BriefTurn.{BriefTurn}
use Rattle.desk_cover.specs.declared.lcov.LineCount.{LineCount}
use Rattle.desk_cover.specs.declared.covering.Counter.{Counter}
use Rattle.desk_cover.specs.Sections.{index_of}

-- ---- before a play

-- a line of the section with an index, which never ran
abbrev pub new_line : ℕ → CodeLine → LineCount
new_line i l = record { number = l.number; section = i; place = l.place; condition = line_condition l; turns = 0; taken = 0 }

-- the lines of sections, the first of which has an index
abbrev pub new_lines : ℕ → List Source → List LineCount
new_lines i [] = []
new_lines i (s ∷ ss) = map (new_line i) s.lines ++ new_lines (i + 1) ss

-- ---- turns

-- whether there is an index, and it is this one
abbrev pub is_at : Option ℕ → ℕ → Bool
is_at None j = false
is_at (Some i) j = j == i

-- whether a turn runs a line: it runs the line's section, and decoded the instruction at its place
abbrev pub runs_line : List Source → FullTurn → LineCount → Bool
runs_line ss t l = is_at (index_of 0 ss t.frame.name t.code) l.section && is_decoded_at l.place t

-- whether a condition, if there is one, holds after a turn
abbrev pub took : Option ℕ → FullTurn → Bool
took None t = false
took (Some k) t = holds k t.frame

-- a line with one more turn
abbrev pub line_with_turn : FullTurn → LineCount → LineCount
line_with_turn t l = record l { turns = l.turns + 1; taken = l.taken + cond (took l.condition t) 1 0 }

-- a line after a turn
abbrev pub line_after : List Source → FullTurn → LineCount → LineCount
line_after ss t l = cond (runs_line ss t l) (line_with_turn t l) l

-- lines after turns
abbrev pub lines_after : List Source → List LineCount → List FullTurn → List LineCount
lines_after ss ls [] = ls
lines_after ss ls (t ∷ ts) = lines_after ss (map (line_after ss t) ls) ts

-- ---- counters

-- the greatest count
abbrev pub most_count : ℕ
most_count = 18446744073709551615

-- no count of these lines is above k
abbrev pub AreAtMost : ℕ → List LineCount → Type 0
AreAtMost k ls = AllByRecursion (λ l. (l.turns ≤ k) × (l.taken ≤ k)) ls

-- The lines were counted by turns, as long as no count can reach its end.
abbrev pub CountsLines : List Source → List LineCount → List FullTurn → List LineCount → Type 0
CountsLines ss old ts new = (k : ℕ) → AreAtMost k old → k + length ts ≤ most_count → (new ≡ lines_after ss old ts) × AreAtMost (k + length ts) new

-- a counter counted turns
pub record Counted (q : Counter) (ts : List FullTurn) (r : Counter) : Type 0 where
  pub sections : r.sections.now ≡ q.sections.now
  pub lines : CountsLines q.sections.now q.lines.items ts r.lines.items

-- ---- one turn, by the code

-- whether a condition from 1 to 6 holds by these flags C and Z, which ALL always does
abbrev pub holds_by : ℕ → Bool → Bool → Bool
holds_by k c z =
    cond (k == 1) z (cond (k == 2) c (cond (k == 3) (c || z) (cond (k == 4) (not (c || z)) (
    cond (k == 5) (not c) (cond (k == 6) (not z) true)
    ))))

-- whether the condition of a line, if it has one, holds by these flags
abbrev pub took_by : Option ℕ → Bool → Bool → Bool
took_by None c z = false
took_by (Some k) c z = holds_by k c z

-- a count that rises by one unless it is at its end
abbrev pub risen : ℕ → ℕ
risen n = min (n + 1) most_count

-- a line with one more turn that left these flags
abbrev pub line_risen : Bool → Bool → LineCount → LineCount
line_risen c z l = record l { turns = risen l.turns; taken = cond (took_by l.condition c z) (risen l.taken) l.taken }

-- a line after a turn at a place of the section with an index, which left these flags
abbrev pub line_by : ℕ → ℕ → Bool → Bool → LineCount → LineCount
line_by i at c z l = cond (l.section == i && at == l.place) (line_risen c z l) l

-- lines after a turn, if it runs a section and decoded an instruction
abbrev pub lines_by : Option ℕ → BriefTurn → List LineCount → List LineCount
lines_by None t ls = ls
lines_by (Some i) t ls = cond (is_decoded t.ins) (map (line_by i t.at t.flags.c t.flags.z) ls) ls

-- ---- the laws of counters

after_append : (ss : List Source) (ls : List LineCount) (ts us : List FullTurn) → lines_after ss ls (ts ++ us) ≡ lines_after ss (lines_after ss ls ts) us
after_append ss ls [] us = refl
after_append ss ls (t ∷ ts) us = after_append ss (map (line_after ss t) ls) ts us

counts_none : (ss : List Source) (ls : List LineCount) → CountsLines ss ls [] ls
counts_none ss ls k most fits = (refl, subst (λ (n : ℕ). AreAtMost n ls) (sym (add-zero k)) most)

counts_on : (ss : List Source) (xs ys zs : List LineCount) (ts us : List FullTurn) → CountsLines ss xs ts ys → CountsLines ss ys us zs → CountsLines ss xs (ts ++ us) zs
counts_on ss xs ys zs ts us first rest k most fits =
    let sum : length (ts ++ us) ≡ length ts + length us = length-append ts us in
    let one = first k most (omega (arith, fits, sum)) in
    let two = rest (k + length ts) one.1 (omega (arith, fits, sum)) in
    (two.0 ∙ ap (λ (ls : List LineCount). lines_after ss ls us) one.0 ∙ sym (after_append ss xs ts us), subst (λ (n : ℕ). AreAtMost n zs) (omega (arith, sum)) two.1)

-- a counter that counted no turn is unchanged
pub counted_none : (r : Counter) → Counted r [] r
counted_none r = record { sections = refl; lines = counts_none r.sections.now r.lines.items }

-- turns are counted after turns
pub counted_on : (q r s : Counter) (ts us : List FullTurn) → Counted q ts r → Counted r us s → Counted q (ts ++ us) s
counted_on q r s ts us first rest =
    record {
      sections = rest.sections ∙ first.sections;
      lines = counts_on q.sections.now q.lines.items r.lines.items s.lines.items ts us first.lines (subst (λ (ss : List Source). CountsLines ss r.lines.items us s.lines.items) first.sections rest.lines);
    }
