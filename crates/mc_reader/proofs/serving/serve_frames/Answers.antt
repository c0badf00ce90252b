use Rattle.std.proofs.Common.{◌<◌, ◌≤◌, length, length-take, take, arith, rules}
use Rattle.std.proofs.lemmas.Result.{err_from_is_err_and}
use Rattle.mc_words.specs.model_device.specs.Counts.{last_count}
use Rattle.mc_text.specs.Texts.{sunk_in}
use Rattle.mc_reader.proofs.LoopLemmas.{Heard, reached_start, reached_on, served_whole, served_all, served_short, served_unread, served_cut}
use Rattle.mc_reader.proofs.serving.serve_frames.Goals as goal

pub loop-before-init : goal.loop-before-init
loop-before-init g c =
    let host = g.H.Host in
    let out = sunk_in g.T.Sink.taken g.T.Sink.faults in
    let heard : Heard = record { left = host.left c.args.input.now; reads = host.faults c.args.input.now; asked = host.moments c.args.input.now } in
    record {
      reached = λ s n at. reached_start g.N.Nvm.state g.N.Bench.bench s n c.args.player.now heard (out c.args.out.now) at;
      room = c.requires.room;
      keeps_device = g.met.N.Nvm.itself _;
    }

pub serve_frame-requires : goal.serve_frame-requires
serve_frame-requires g c =
    let h = c.loop-before.invariant.reached c.requires.playing.0 0 c.requires.playing.1 in
    (h.here, h.at)

pub returns-in-Ok-None-clause-served : goal.returns-in-Ok-None-clause-served
returns-in-Ok-None-clause-served g c =
    let host = g.H.Host in
    let out = sunk_in g.T.Sink.taken g.T.Sink.faults in
    let heard : Heard = record { left = host.left c.loop-before.input; reads = host.faults c.loop-before.input; asked = host.moments c.loop-before.input } in
    let more : Heard = record { left = host.left c.frame.new.self; reads = host.faults c.frame.new.self; asked = host.moments c.frame.new.self } in
    let took = rw c.in-Ok-None.field-0-is at c.in-Ok-None.ensures.reads in
    λ s n at.
    served_whole g.N.Nvm.state g.N.Bench.bench s n _ c.loop-before.before c.loop-before.player c.loop-before.powered heard more (out c.loop-before.out) (c.loop-before.invariant.reached s n at) took c.frame.ensures.counted c.frame.ensures.asked

pub returns-in-Err-Short-clause-served : goal.returns-in-Err-Short-clause-served
returns-in-Err-Short-clause-served g c =
    let host = g.H.Host in
    let out = sunk_in g.T.Sink.taken g.T.Sink.faults in
    let heard : Heard = record { left = host.left c.loop-before.input; reads = host.faults c.loop-before.input; asked = host.moments c.loop-before.input } in
    let more : Heard = record { left = host.left c.frame.new.self; reads = host.faults c.frame.new.self; asked = host.moments c.frame.new.self } in
    let took = rw c.in-Err-Short.field-0-is at c.in-Err-Short.ensures.reads in
    λ s n at.
    served_short g.N.Nvm.state g.N.Bench.bench s n _ c.loop-before.before c.loop-before.player c.loop-before.powered heard more (out c.loop-before.out) (c.loop-before.invariant.reached s n at) took c.frame.ensures.counted c.frame.ensures.asked

pub returns-in-Err-ReadFault-clause-served : goal.returns-in-Err-ReadFault-clause-served
returns-in-Err-ReadFault-clause-served g c =
    let host = g.H.Host in
    let out = sunk_in g.T.Sink.taken g.T.Sink.faults in
    let heard : Heard = record { left = host.left c.loop-before.input; reads = host.faults c.loop-before.input; asked = host.moments c.loop-before.input } in
    let more : Heard = record { left = host.left c.frame.new.self; reads = host.faults c.frame.new.self; asked = host.moments c.frame.new.self } in
    let took = rw c.in-Err-ReadFault.field-0-is at c.in-Err-ReadFault.ensures.reads in
    λ s n at.
    served_unread g.N.Nvm.state g.N.Bench.bench s n _ c.loop-before.before c.loop-before.player c.loop-before.powered heard more (out c.loop-before.out) (c.loop-before.invariant.reached s n at) took.0 took.1 c.frame.ensures.counted c.frame.ensures.asked

pub returns-in_err-serve_frame-clause-served : goal.returns-in_err-serve_frame-clause-served
returns-in_err-serve_frame-clause-served g c =
    let host = g.H.Host in
    let state = g.N.Nvm.state in
    let bench = g.N.Bench.bench in
    let out = sunk_in g.T.Sink.taken g.T.Sink.faults in
    let heard : Heard = record { left = host.left c.loop-before.input; reads = host.faults c.loop-before.input; asked = host.moments c.loop-before.input } in
    let more : Heard = record { left = host.left c.frame.new.self; reads = host.faults c.frame.new.self; asked = host.moments c.frame.new.self } in
    let p = err_from_is_err_and c.from_residual.result c.from_residual.ensures.1 in
    let took = rw c.in-Ok-Some.field-0-is at c.in-Ok-Some.ensures.reads in
    let frame = take c.in-Ok-Some.size c.frame.new.room in
    let short : length frame < 65536 = rw (length-take c.in-Ok-Some.size c.frame.new.room) (omega (arith, c.loop-before.invariant.room, c.frame.auto.room)) in
    rw (p.1, p.2) (λ s n at.
    let h = c.loop-before.invariant.reached s n at in
    served_cut state bench s n _ c.loop-before.before c.loop-before.player c.serve_frame.new.player c.loop-before.powered heard more (out c.loop-before.out) (out c.serve_frame.new.out) c.in_err-serve_frame.field-0.0 h frame (short, c.serve_frame.ensures.bytes) took.took c.frame.ensures.counted c.frame.ensures.asked
    (c.in_err-serve_frame.ensures.serves h.here h.number h.at))

pub loop-before-preserved : goal.loop-before-preserved
loop-before-preserved g c =
    let host = g.H.Host in
    let state = g.N.Nvm.state in
    let bench = g.N.Bench.bench in
    let out = sunk_in g.T.Sink.taken g.T.Sink.faults in
    let heard : Heard = record { left = host.left c.loop-before.input; reads = host.faults c.loop-before.input; asked = host.moments c.loop-before.input } in
    let more : Heard = record { left = host.left c.frame.new.self; reads = host.faults c.frame.new.self; asked = host.moments c.frame.new.self } in
    let took = rw c.in-Ok-Some.field-0-is at c.in-Ok-Some.ensures.reads in
    let frame = take c.in-Ok-Some.size c.frame.new.room in
    let short : length frame < 65536 = rw (length-take c.in-Ok-Some.size c.frame.new.room) (omega (arith, c.loop-before.invariant.room, c.frame.auto.room)) in
    record {
      reached =
          λ s n at.
          let h = c.loop-before.invariant.reached s n at in
          reached_on state bench s n _ c.loop-before.before c.loop-before.player c.serve_frame.new.player c.loop-before.powered c.serve_frame.new.powered heard more (out c.loop-before.out) (out c.serve_frame.new.out) h frame (short, c.serve_frame.ensures.bytes) took.took c.frame.ensures.counted c.frame.ensures.asked c.serve_frame.ensures.power
          (c.in_ok-serve_frame.ensures.serves h.here h.number h.at);
      room = omega (arith, c.loop-before.invariant.room, c.frame.auto.room);
      keeps_device = g.met.N.Nvm.onward _ _ _ c.loop-before.invariant.keeps_device c.serve_frame.ensures.keeps_device;
    }

pub returns-clause-served : goal.returns-clause-served
returns-clause-served g c =
    let host = g.H.Host in
    let out = sunk_in g.T.Sink.taken g.T.Sink.faults in
    let heard : Heard = record { left = host.left c.loop-before.input; reads = host.faults c.loop-before.input; asked = host.moments c.loop-before.input } in
    let all : last_count ≤ c.loop-before.before = search rules in
    λ s n at.
    served_all g.N.Nvm.state g.N.Bench.bench s n _ c.loop-before.before c.loop-before.player c.loop-before.powered heard (out c.loop-before.out) (c.loop-before.invariant.reached s n at) all
