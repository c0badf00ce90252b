use Rattle.std.proofs.Common.{ap, rules, ◌∙◌}
use Rattle.mc_text.specs.Texts.{sunk}
use Rattle.desk_steps.proofs.SheetLemmas.{sheet_put}
use Rattle.desk_steps.proofs.playing.write_line.Goals as goal

pub returns : goal.returns
returns g c =
    let sink = g.T.Sink in
    let q = c.new-sheet.result in
    let e = c.new-sheet.ensures in
    let last = c.put_line.new.sheet in
    let did = c.put_line.ensures in
    let adds = did.adds in
    let same = adds.same ∙ e.same in
    sheet_put sink c.args.fault c.fault.result (sunk sink c.args.out.now) _ _ q last e.fault e.text (ap (λ o. sunk sink o) e.out) adds did.text c.fault.ensures (search (rules, same)) (search (rules, same))
