use Rattle.std.proofs.Common.{List, ℕ, Some, true, ap}
use Rattle.desk_steps.specs.Sheets.{adds_as, adds_on}
use Rattle.desk_steps.specs.Lines.{frame_text}
use Rattle.desk_steps.specs.Shots.{frame_changes}
use Rattle.desk_steps.proofs.recording.put_first.Goals as goal

pub returns-clause-adds : goal.returns-clause-adds
returns-clause-adds g c =
    let m = c.args.memory.now in
    adds_as g.T.Sink _ _ _ _ (ap (λ (t : List ℕ). frame_text 1 c.args.aid.now (Some t) (frame_changes true m.before)) c.as_slice.ensures.value)
    (adds_on g.T.Sink _ _ _ _ _ (adds_on g.T.Sink _ _ _ _ _ (adds_on g.T.Sink _ _ _ _ _ (adds_on g.T.Sink _ _ _ _ _ c.add_key.ensures (c.add_aid.ensures)) (c.add_command.ensures)) (c.add_first.ensures)) (c.end_line.ensures.adds))
