use Rattle.std.proofs.Common.{rules, MutBor, sym, ap, ◌∙◌}
use Rattle.mc_reader.specs.Lines.{last_number}
use Rattle.mc_script.specs.Benches.{BenchMembers}
use Rattle.mc_reader.specs.Sessions.{around, AroundSession, Serves}
use Rattle.mc_reader.proofs.SessionLemmas.{served_session, served_unless, untouched_if}
use Rattle.mc_reader.proofs.serving.serve.Goals as goal

pub serve_frames-result-requires-clause-playing : goal.serve_frames-result-requires-clause-playing
serve_frames-result-requires-clause-playing g c =
    let deck = c.deck.ensures.done _ c.new-player.ensures.at in
    (deck.here, deck.at)

-- the device that is returned is the one that was borrowed
pub returns : goal.returns
returns g c =
    let deck = c.deck.ensures.done _ c.new-player.ensures.at in
    let served = c.serve_frames-result.ensures.served deck.here (last_number c.args.deck.now) deck.at in
    let ghost = λ (d : MutBor g.row.N.Denot). d.ghost_name in
    let name = sym (ap ghost c.new-player.ensures.device) ∙ sym c.deck.ensures.keeps_device.1 ∙ sym c.serve_frames-result.ensures.keeps_device.1 ∙ sym (ap ghost c.into_dev-dev.ensures) in
    let back = sym c.into_dev-dev.ensures in
    let device = ap (λ (d : MutBor g.row.N.Denot). g.N.Nvm.state d.now) back in
    let bench = ap (λ (d : MutBor g.row.N.Denot). g.N.Bench.bench d.now) back in
    let members : BenchMembers g.row.N.Denot = record { state = g.N.Nvm.state; wrote = g.N.Nvm.wrote; same = g.N.Nvm.same; bench = g.N.Bench.bench } in
    let a : AroundSession = around g.H.Host g.T.Sink members c.args.input.now c.serve_frames-result.new.input c.args.out.now c.serve_frames-result.new.out c.args.dev.now _ in
    let all : Serves c.args.deck.now c.serve_frames-result.result a =
    served_session _ _ _ _ _ _ deck.here deck.worn c.len-words.ensures.image c.len-lines.ensures.bytes deck.leads served (search rules) (search rules) (device ∙ search (rules, name)) (bench ∙ search (rules, name)) in
    record {
      memory = untouched_if c.args.deck.now c.serve_frames-result.result a all;
      session = served_unless c.args.deck.now c.serve_frames-result.result a all;
    }
