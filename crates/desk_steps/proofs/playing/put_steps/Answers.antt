use Rattle.std.proofs.Common.{ap, rules, refl}
use Rattle.mc_text.specs.Texts.{sunk}
use Rattle.mc_script.specs.Plays.{Bench}
use Rattle.desk_steps.proofs.DeckLemmas.{steps_deck}
use Rattle.desk_steps.proofs.playing.put_steps.Goals as goal

pub returns : goal.returns
returns g c =
    let sink = g.T.Sink in
    let a : Bench = record { device = g.N.Nvm.state c.args.dev.now; bench = g.N.Bench.bench c.args.dev.now } in
    let x = sunk sink c.args.out.now in
    let q = c.new-recorder.result in
    let e = c.new-recorder.ensures in
    let r = c.play_lines-dev.new.recorder in
    let did = c.play_lines-dev.ensures in
    let same = did.records.adds.same in
    steps_deck sink c.args.sections.now c.args.text.now c.args.deck.now a x c.written.result _ _ (sunk sink r.out.now) _ q r e.sections did.records e.fault (ap (λ o. sunk sink o) e.out) c.written.ensures refl did.image did.lines
    (search (rules, same)) (search (rules, same)) (search (rules, same)) (search (rules, same))
