use Rattle.std.proofs.Common.{rules, sym}
use Rattle.mc_text.specs.model_machine.specs.Chain.{turn_of}
use Rattle.desk_steps.proofs.ShotLemmas.{abend_called, copied, after_abend, after_exited, after_going, exit_called, going_called}
use Rattle.desk_steps.proofs.memory.Memory.look_after.Goals as goal

pub returns-then-is_some-clause-after : goal.returns-then-is_some-clause-after
returns-then-is_some-clause-after g c n ch was before named =
    after_abend g.N.Nvm.state c.args.card.now n ch c.args.turn.now c.args.aid.now c.copy.new.self _ c.abend_of.result was (copied c.args.self.now.before c.copy.new.self ch c.copy.ensures.lb c.copy.ensures.dt c.copy.ensures.size c.copy.ensures.reading before) named c.abend_of.ensures (search rules) c.take_kept.ensures.lb c.take_kept.ensures.reading

pub returns-in-Some-clause-after : goal.returns-in-Some-clause-after
returns-in-Some-clause-after g c n ch was before named =
    after_exited g.N.Nvm.state c.args.card.now n ch c.args.turn.now c.args.aid.now c.copy.new.self _ c.abend_of.result c.exit_of.result c.in-Some.ins was (copied c.args.self.now.before c.copy.new.self ch c.copy.ensures.lb c.copy.ensures.dt c.copy.ensures.size c.copy.ensures.reading before) named c.abend_of.ensures (search rules) c.exit_of.ensures (sym c.in-Some.is) c.look_exit.ensures.lb c.look_exit.ensures.reading

pub returns-clause-after : goal.returns-clause-after
returns-clause-after g c n ch was before named =
    let f = (turn_of n ch).follows in
    after_going g.N.Nvm.state c.args.card.now n ch c.args.turn.now c.args.aid.now c.copy.new.self _ c.abend_of.result c.exit_of.result was (copied c.args.self.now.before c.copy.new.self ch c.copy.ensures.lb c.copy.ensures.dt c.copy.ensures.size c.copy.ensures.reading before) named c.abend_of.ensures (search rules) c.exit_of.ensures (sym c.in_default.is)
    (c.look_running.ensures.lb f was.shows) (c.look_running.ensures.reading f was.shows was.wide)

pub returns-then-is_some-clause-called : goal.returns-then-is_some-clause-called
returns-then-is_some-clause-called g c n ch was named = abend_called g.N.Nvm.state c.args.card.now n ch c.args.turn.now c.abend_of.result was c.abend_of.ensures (search rules)

pub returns-in-Some-clause-called : goal.returns-in-Some-clause-called
returns-in-Some-clause-called g c n ch was named = exit_called g.N.Nvm.state c.args.card.now n ch c.args.turn.now c.exit_of.result c.in-Some.ins was c.exit_of.ensures (sym c.in-Some.is)

pub returns-clause-called : goal.returns-clause-called
returns-clause-called g c n ch was named =
    going_called g.N.Nvm.state c.args.card.now n ch c.args.turn.now c.args.aid.now c.exit_of.result c.look_running.result was named c.exit_of.ensures (sym c.in_default.is) (c.look_running.ensures.called (turn_of n ch).follows was.shows)
