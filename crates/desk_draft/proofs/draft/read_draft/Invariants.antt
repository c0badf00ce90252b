use Rattle.std.proofs.Common.{◌≡◌, drop, length, []}
use Rattle.desk_draft.specs.Drafts.{nothing_before}
use Rattle.desk_draft.proofs.DraftLemmas.{left_draft}
use Rattle.desk_draft.proofs.ReadLemmas.{Leads, numbered}
use Rattle.desk_draft.proofs.draft.read_draft.Given as goal

-- the lines up to here lead to the rest of the draft
abbrev pub invariant-loop-i : goal.invariant-loop-i
invariant-loop-i l =
    let ls = l.lines.items in
    record {
      leads : Leads l.writer.deck.items l.writer.known l.writer.sections.items l.section (drop l.i (numbered ls)) (left_draft [] nothing_before (numbered ls));
      judged : length l.later.items ≡ length ls;
    }
