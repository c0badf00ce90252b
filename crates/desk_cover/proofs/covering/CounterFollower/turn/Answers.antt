use Rattle.std.proofs.Common.{◌∙◌}
use Rattle.desk_cover.proofs.CounterLemmas.{counted_full}
use Rattle.desk_cover.proofs.covering.CounterFollower.turn.Goals as goal

pub returns-clause-watches : goal.returns-clause-watches
returns-clause-watches g c ch left runs wide =
    counted_full c.args.self.now c.count.new.self c.section.result c.in_ok-turn.turn c.brief_turn.new.into left ch (c.in_ok-turn.ensures.done ch left runs).turn c.count.ensures.sections (c.section.ensures ∙ (c.requires.known ch left runs).section) c.count.ensures.lines
