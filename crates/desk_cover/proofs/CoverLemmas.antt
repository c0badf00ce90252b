-- The record of a play that a counter counted.
use Rattle.std.proofs.Common.{◌≡◌, ℕ, ◌+◌, ◌≤◌, List, [], ◌∷◌, ◌++◌, length, Result, arith, sym, ap, subst, ◌∙◌}
use Rattle.std.specs.Prelude.{flat_map, map}
use Rattle.std.specs.List.{AllByRecursion}
use Rattle.mc_words.specs.model_device.specs.Device.{IsImage}
use Rattle.mc_deck.specs.model_play.specs.DeckGrammar.{DeckLine}
use Rattle.mc_deck.specs.model_play.specs.Laws.{HoldsOf}
use Rattle.mc_deck.specs.model_play.specs.Play.{Step, plays, start}
use Rattle.mc_deck.specs.model_play.specs.ReadyAgain.{AreLines, IsLine}
use Rattle.mc_deck.specs.law_family.proofs.DeckBytes.{played_bytes}
use Rattle.mc_deck.specs.law_family.proofs.PlayLaw.{play_law}
use Rattle.mc_streams.specs.declared.refusals.WriteFault.{WriteFault}
use Rattle.mc_text.specs.Texts.{Sunk, Puts}
use Rattle.desk_draft.specs.FullTurns.{FullTurn, turns_of_step}
use Rattle.desk_draft.specs.Listings.{CodeLine, Source}
use Rattle.desk_draft.specs.Coverage.{coverage, covered_lines}
use Rattle.mc_script.specs.Plays.{Bench, Played}
use Rattle.desk_cover.specs.declared.covering.Counter.{Counter}
use Rattle.desk_cover.specs.declared.lcov.LineCount.{LineCount}
use Rattle.desk_cover.specs.Counting.{AreAtMost, Counted, lines_after, most_count, new_line, new_lines}
use Rattle.desk_cover.specs.Plays.{CountsPlay, CoversDeck}
use Rattle.desk_cover.specs.Records.{record_text}
use Rattle.desk_cover.proofs.CountLemmas.{AreCounts, new_covered}
use Rattle.desk_cover.proofs.CoverageLemmas.{record_same}

-- the counts of new lines are 0
most_append : (k : ℕ) (ls ms : List LineCount) → AreAtMost k ls → AreAtMost k ms → AreAtMost k (ls ++ ms)
most_append k [] ms first rest = rest
most_append k (l ∷ ls) ms first rest = (first.0, most_append k ls ms first.1 rest)

new_most : (i : ℕ) (ls : List CodeLine) → AreAtMost 0 (map (new_line i) ls)
new_most i [] = tt
new_most i (l ∷ ls) = ((omega arith, omega arith), new_most i ls)

all_new_most : (i : ℕ) (ss : List Source) → AreAtMost 0 (new_lines i ss)
all_new_most i [] = tt
all_new_most i (s ∷ ss) = most_append 0 (map (new_line i) s.lines) (new_lines (i + 1) ss) (new_most i s.lines) (all_new_most (i + 1) ss)

-- the record of what was counted is the record of the play
record_covers : (name : List ℕ) (ss : List Source) (ts : List Step) (q r : Counter) → q.lines.items ≡ new_lines 0 ss → q.sections.now ≡ ss → Counted q (flat_map turns_of_step ts) r → length (flat_map turns_of_step ts) ≤ most_count → record_text name r.lines.items ≡ coverage name ss ts
unfolding coverage
record_covers name ss ts q r lines sections counted fits =
    let us : List FullTurn = flat_map turns_of_step ts in
    let none : AreAtMost 0 q.lines.items = subst (λ (ls : List LineCount). AreAtMost 0 ls) (sym lines) (all_new_most 0 ss) in
    let sum : 0 + length us ≤ most_count = omega (arith, fits) in
    let after : r.lines.items ≡ lines_after ss (new_lines 0 ss) us =
    (counted.lines 0 none sum).0 ∙ ap (λ (xs : List Source). lines_after xs q.lines.items us) sections ∙ ap (λ (ls : List LineCount). lines_after ss ls us) lines
    in
    let are : AreCounts r.lines.items (covered_lines ss us) = subst (λ (ls : List LineCount). AreCounts ls (covered_lines ss us)) (sym after) (new_covered ss us) in
    record_same name r.lines.items (covered_lines ss us) are

-- a deck that was played before a counter, and the record that was put
pub covers_deck : (name : List ℕ) (ss : List Source) (ls : List (ℕ × DeckLine)) (a : Bench) (x : Sunk) (result : Result (Unit {0}) WriteFault) (b c : Bench) (y z : Sunk) (q r : Counter) → q.lines.items ≡ new_lines 0 ss → q.sections.now ≡ ss
    → CountsPlay (start a.device.words) ls a b q r → Puts x (record_text name r.lines.items) result y → IsImage a.device.words → AllByRecursion (λ l. IsLine l.1) ls → b.device ≡ c.device → b.bench ≡ c.bench → y.taken ≡ z.taken → y.faults ≡ z.faults → CoversDeck name ss ls a x result c z
covers_deck name ss ls a x result b c y z q r lines sections counts puts image bytes device bench taken faults =
    let m : List (List ℕ) = a.device.words in
    let text = record_text name r.lines.items in
    let played : Played (start m) ls counts.worn a c = rw (← device, ← bench) counts.played in
    let put : Puts x text result z = rw (← taken, ← faults) puts in
    let laws : HoldsOf m (plays (start m) ls counts.worn) = play_law ls m counts.worn counts.played.possible in
    let are : AreLines (plays (start m) ls counts.worn) = played_bytes (start m) ls counts.worn bytes in
    record {
      text = text;
      sums = record { worn = counts.worn; played = played; laws = laws; few = laws.few image are; ready = laws.ready image are; text = put };
      covers = λ fits. record_covers name ss (plays (start m) ls counts.worn) q r lines sections counts.counted fits;
    }
