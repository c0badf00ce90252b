use Rattle.std.proofs.Common.{◌≡◌, ℕ, Bool, List, [], Some, true, false, cond, ◌==◌, refl, arith, sym, ap}
use Rattle.std.proofs.lemmas.Bool.Decides.{nat_tests}
use Rattle.desk_steps.specs.Lines.{frame_text}
use Rattle.desk_steps.specs.Recorded.{first_by, puts_as, puts_none}
use Rattle.desk_steps.specs.Shots.{frame_changes}
use Rattle.desk_steps.proofs.recording.Recorder.begin_first.Goals as goal

pub returns-then-self-eq0-clause-adds : goal.returns-then-self-eq0-clause-adds
returns-then-self-eq0-clause-adds g c =
    let q = c.args.self.now in
    let text : List ℕ = frame_text 1 c.args.aid.now (Some q.memory.command.items) (frame_changes true q.memory.before) in
    let e : (q.turns == 0) ≡ true = grind (arith, nat_tests, c.if-self-eq0.true) in
    puts_as g.T.Sink q _ text (first_by q.turns q.memory.command.items c.args.aid.now q.memory.before) (sym (ap (λ (b : Bool). cond b text []) e)) (record { puts = c.write_first-self.ensures; same = refl })

pub returns-else-self-eq0-clause-adds : goal.returns-else-self-eq0-clause-adds
returns-else-self-eq0-clause-adds g c =
    let q = c.args.self.now in
    let text : List ℕ = frame_text 1 c.args.aid.now (Some q.memory.command.items) (frame_changes true q.memory.before) in
    let e : (q.turns == 0) ≡ false = grind (arith, nat_tests, c.if-self-eq0.false) in
    puts_as g.T.Sink q q [] (first_by q.turns q.memory.command.items c.args.aid.now q.memory.before) (sym (ap (λ (b : Bool). cond b text []) e)) (puts_none g.T.Sink q)
