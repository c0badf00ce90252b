use Rattle.std.proofs.Common.{ap, rules, ◌∙◌}
use Rattle.mc_deck.specs.Lines.{line_of}
use Rattle.lab_record.proofs.PlayingLemmas.{line_playing}
use Rattle.lab_record.proofs.RecordingLemmas.{played_line, recorded_line, some_by}
use Rattle.lab_record.proofs.SteadyLemmas.{line_steady}
use Rattle.lab_record.proofs.recording.play_recorded.Goals as goal

pub course_of-requires : goal.course_of-requires
course_of-requires g c =
    line_playing g.N.Nvm.state g.N.Bench.bench _ c.args.player.now c.line-answer.new.self (line_of c.args.line.now) _ _ c.line-answer.result c.line-answer.ensures.done c.requires.playing

pub returns-then-recorder-clause-playing : goal.returns-then-recorder-clause-playing
returns-then-recorder-clause-playing g c =
    line_playing g.N.Nvm.state g.N.Bench.bench _ c.args.player.now c.line-answer.new.self (line_of c.args.line.now) _ _ c.line-answer.result c.line-answer.ensures.done c.requires.playing

pub returns-in_err-course-clause-playing : goal.returns-in_err-course-clause-playing
returns-in_err-course-clause-playing g c =
    line_playing g.N.Nvm.state g.N.Bench.bench _ c.args.player.now c.line-answer.new.self (line_of c.args.line.now) _ _ c.line-answer.result c.line-answer.ensures.done c.requires.playing

pub returns-clause-playing : goal.returns-clause-playing
returns-clause-playing g c =
    line_playing g.N.Nvm.state g.N.Bench.bench _ c.args.player.now c.line-answer.new.self (line_of c.args.line.now) _ _ c.line-answer.result c.line-answer.ensures.done c.requires.playing

pub returns-clause-played : goal.returns-clause-played
returns-clause-played g c =
    λ s n at.
    let h = played_line g.N.Nvm.state g.N.Bench.bench c.args.subject.rules.now c.args.subject.aid.now c.args.player.now c.line-answer.new.self (line_of c.args.line.now) c.line-answer.result c.new-recorder.result c.line-answer.new.runner
    c.in_ok-was_selected.was_selected c.is_outcome-ended.result c.is_stopped.result c.is_some.result c.in_ok-course.course c.line-answer.ensures.done (ap (λ u. u.now) c.new-recorder.ensures.rules) (ap (λ u. u.now) c.new-recorder.ensures.aid)
    c.new-recorder.ensures.marks (search rules) c.in_ok-was_selected.ensures c.is_outcome-ended.ensures c.is_stopped.ensures (c.is_some.ensures ∙ some_by _ _ c.passed_command.ensures) c.in_ok-course.ensures s n at in
    (h.0, h.1, h.2)

pub returns-clause-recorded : goal.returns-clause-recorded
returns-clause-recorded g c =
    λ s n at.
    let h = played_line g.N.Nvm.state g.N.Bench.bench c.args.subject.rules.now c.args.subject.aid.now c.args.player.now c.line-answer.new.self (line_of c.args.line.now) c.line-answer.result c.new-recorder.result c.line-answer.new.runner
    c.in_ok-was_selected.was_selected c.is_outcome-ended.result c.is_stopped.result c.is_some.result c.in_ok-course.course c.line-answer.ensures.done (ap (λ u. u.now) c.new-recorder.ensures.rules) (ap (λ u. u.now) c.new-recorder.ensures.aid)
    c.new-recorder.ensures.marks (search rules) c.in_ok-was_selected.ensures c.is_outcome-ended.ensures c.is_stopped.ensures (c.is_some.ensures ∙ some_by _ _ c.passed_command.ensures) c.in_ok-course.ensures s n at.at in (
      line_steady g.N.Nvm.state g.N.Bench.bench _ c.args.player.now c.line-answer.new.self (line_of c.args.line.now) _ _ c.line-answer.result c.line-answer.ensures.done s n at,
      recorded_line g.N.Nvm.state g.N.Bench.bench c.args.subject.rules.now c.args.subject.aid.now c.args.player.now s (n, line_of c.args.line.now) _ h.0 at h.2 h.3,
    )
