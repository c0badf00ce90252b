use Rattle.desk_steps.proofs.ShotLemmas.{running_shot}
use Rattle.desk_steps.proofs.memory.Memory.look_before.Goals as goal

pub returns-in-Some-clause-before : goal.returns-in-Some-clause-before
returns-in-Some-clause-before g c ch left runs = let took = c.take_running.ensures in running_shot g.N.Nvm.state c.args.card.now ch left c.in-Some.chain.now _ runs c.in-Some.ensures took.lb took.dt took.size took.few took.high took.whole took.reading
