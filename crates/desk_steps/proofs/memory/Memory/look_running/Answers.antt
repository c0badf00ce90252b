use Rattle.desk_steps.proofs.ShotLemmas.{left_lb, left_other, left_reading, shown_called, shown_other, shown_running}
use Rattle.std.proofs.Common.{◌≡◌, None, ap, refl, rules, sym, ◌∙◌}
use Rattle.std.specs.Prelude.{not}
use Rattle.desk_steps.specs.Shots.{shot_reading}
use Rattle.desk_steps.proofs.memory.Memory.look_running.Goals as goal

pub returns-then-is_named-clause-lb : goal.returns-then-is_named-clause-lb
returns-then-is_named-clause-lb g c next shows =
    let old = c.args.self.now.after in
    let took = c.take_running.ensures in
    (shown_running g.N.Nvm.state c.args.card.now c.in-Some.chain.now c.args.aid.now _ (shot_reading old) c.args.dt old.lb c.is_named.result next c.in-Some.ensures shows c.is_named.ensures c.if-is_named.true took.lb took.reading).0

pub returns-then-is_named-clause-reading : goal.returns-then-is_named-clause-reading
returns-then-is_named-clause-reading g c next shows wide =
    let old = c.args.self.now.after in
    let took = c.take_running.ensures in
    (shown_running g.N.Nvm.state c.args.card.now c.in-Some.chain.now c.args.aid.now _ (shot_reading old) c.args.dt old.lb c.is_named.result next c.in-Some.ensures shows c.is_named.ensures c.if-is_named.true took.lb took.reading).1 wide

pub returns-then-is_named-clause-called : goal.returns-then-is_named-clause-called
returns-then-is_named-clause-called g c next shows =
    sym (ap not c.if-is_named.true) ∙ shown_other g.N.Nvm.state c.args.card.now c.in-Some.chain.now c.args.aid.now c.is_named.result next c.in-Some.ensures shows c.is_named.ensures

pub returns-clause-lb : goal.returns-clause-lb
returns-clause-lb g c next shows =
    let old = c.args.self.now.after in
    let low = c.lower.ensures in
    (shown_called g.N.Nvm.state c.args.card.now c.in-Some.chain.now c.args.aid.now _ (shot_reading old) c.args.dt old.lb c.is_named.result next c.in-Some.ensures shows c.is_named.ensures c.if-is_named.false low.lb low.reading).0

pub returns-clause-reading : goal.returns-clause-reading
returns-clause-reading g c next shows wide =
    let old = c.args.self.now.after in
    let low = c.lower.ensures in
    (shown_called g.N.Nvm.state c.args.card.now c.in-Some.chain.now c.args.aid.now _ (shot_reading old) c.args.dt old.lb c.is_named.result next c.in-Some.ensures shows c.is_named.ensures c.if-is_named.false low.lb low.reading).1

pub returns-clause-called : goal.returns-clause-called
returns-clause-called g c next shows =
    sym (ap not c.if-is_named.false) ∙ shown_other g.N.Nvm.state c.args.card.now c.in-Some.chain.now c.args.aid.now c.is_named.result next c.in-Some.ensures shows c.is_named.ensures

pub returns-in_default-clause-lb : goal.returns-in_default-clause-lb
returns-in_default-clause-lb g c next shows =
    let gone : None ≡ c.args.card.now.chain = search (rules, c.chain.ensures, c.in_default.is) in
    left_lb g.N.Nvm.state c.args.card.now c.args.aid.now _ c.args.self.now.after.lb next gone shows refl

pub returns-in_default-clause-reading : goal.returns-in_default-clause-reading
returns-in_default-clause-reading g c next shows wide =
    let gone : None ≡ c.args.card.now.chain = search (rules, c.chain.ensures, c.in_default.is) in
    left_reading g.N.Nvm.state c.args.card.now c.args.aid.now _ (shot_reading c.args.self.now.after) c.args.dt next gone shows refl

pub returns-in_default-clause-called : goal.returns-in_default-clause-called
returns-in_default-clause-called g c next shows =
    let gone : None ≡ c.args.card.now.chain = search (rules, c.chain.ensures, c.in_default.is) in
    left_other g.N.Nvm.state c.args.card.now c.args.aid.now next gone shows
