use Rattle.std.proofs.Common.{subst, sym, arith}
use Rattle.mc_segs.specs.Overlaid.{IsOverlaid}
use Rattle.mc_segs.proofs.AccessLemmas.{overlaid, not_overlaid}
use Rattle.mc_segs.proofs.access.overlay.Goals as goal

pub returns-then-from-to : goal.returns-then-from-to
returns-then-from-to c =
    let old = c.args.bytes.now in
    let word = c.args.word.now in
    let most = c.max-from.ensures in
    let least = c.min-to.ensures in
    let less = c.if-from-to.true in
    subst (IsOverlaid old c.args.at c.args.place word) (sym c.write.ensures)
    (overlaid old word c.args.at c.args.place c.max-from.result c.min-to.result c.told-word (omega arith) (omega arith) (omega arith) (omega arith) (omega arith) (λ j a b. omega arith) (λ j a b. omega arith))

pub returns-else-from-to : goal.returns-else-from-to
returns-else-from-to c =
    let most = c.max-from.ensures in
    let least = c.min-to.ensures in
    let less = c.if-from-to.false in
    not_overlaid c.args.bytes.now c.args.word.now c.args.at c.args.place c.told-word (λ j a b d e. omega arith)
