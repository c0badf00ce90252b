use Rattle.std.proofs.Common.{◌≤◌, ◌+◌, List, ℕ, Ok, drop, length, ap, sym, subst, rules}
use Rattle.mc_deck.specs.Lines.{line_of}
use Rattle.mc_text.specs.Texts.{Writes, sunk_in}
use Rattle.mc_text.proofs.TextLemmas.{puts_as, puts_failed, puts_then, fails_before, writes_none}
use Rattle.mc_script.specs.Sums.{dumps_text}
use Rattle.mc_script.proofs.DeckLemmas.{next_line, no_line}
use Rattle.mc_script.proofs.summing.put_dumps.Goals as goal

pub returns-in_err-put_dump : goal.returns-in_err-put_dump
returns-in_err-put_dump g c s at =
    let deck = c.args.deck.now in
    let line = c.line-number.result in
    let here = next_line deck c.loop-i.i line.0 (line_of line.1) c.line-number.ensures.line in
    let r = c.from_residual in
    let failed = puts_failed r.result r.ensures.0 (fails_before (dumps_text s (drop (c.loop-i.i + 1) deck)) (c.in_err-put_dump.ensures s at)) in
    c.loop-i.invariant s at r.result _ (puts_as _ _ r.result (sym (ap (dumps_text s) here)) failed)

pub loop-i-preserved : goal.loop-i-preserved
loop-i-preserved g c s at r b rest =
    let deck = c.args.deck.now in
    let line = c.line-number.result in
    let here = next_line deck c.loop-i.i line.0 (line_of line.1) c.line-number.ensures.line in
    c.loop-i.invariant s at r b (puts_as _ _ r (sym (ap (dumps_text s) here)) (puts_then b (dumps_text s (drop (c.loop-i.i + 1) deck)) r (c.in_ok-put_dump.ensures s at) rest))

pub returns : goal.returns
returns g c s at =
    let deck = c.args.deck.now in
    let all : length deck ≤ c.loop-i.i = search rules in
    let now = sunk_in g.T.Sink.taken g.T.Sink.faults c.loop-i.out in
    c.loop-i.invariant s at (Ok tt) now (subst (λ (bs : List ℕ). Writes now bs now) (sym (ap (dumps_text s) (no_line deck c.loop-i.i all))) (writes_none now))
