use Rattle.std.proofs.Common.{ℕ, ◌≤◌, Option, length, ap, sym, subst, ◌∙◌}
use Rattle.std.specs.Prelude.{option_map, IfSome}
use Rattle.mc_words.specs.model_device.specs.Limits.{most_code}
use Rattle.mc_arith.specs.model_machine.specs.Chain.{turn_of}
use Rattle.desk_draft.specs.FullTurns.{running_code}
use Rattle.mc_machine.specs.Turns.{full_turn}
use Rattle.desk_cover.specs.Looking.{section_at}
use Rattle.desk_cover.specs.Tracing.{line_value}
use Rattle.desk_cover.specs.Watching.{full_turn_of}
use Rattle.desk_cover.proofs.TraceLemmas.{code_few, is_turn, lies_after, operand_full, scene_of_turn, stack_full, traced_plain, traced_turn, turn_shown}
use Rattle.desk_cover.proofs.WatchLemmas.{turned_watched}
use Rattle.desk_cover.proofs.tracing.TracerFollower.turn.Goals as goal

pub take-requires-clause-name : goal.take-requires-clause-name
take-requires-clause-name g c ch left runs = c.name.ensures.value ∙ (c.requires.known ch left runs).name

pub take-requires-clause-short : goal.take-requires-clause-short
take-requires-clause-short g c =
    let ss = c.args.self.now.sections.now in
    let r = c.requires.running in
    code_few c.code_of.result (section_at ss c.section-section.result) c.code_of.ensures (subst (λ (o : Option ℕ). IfSome (section_at ss o) (λ s. length s.code ≤ most_code)) (sym c.section-section.ensures) (c.requires.known r.0 r.1 r.2).short)

pub take-requires-in-Some : goal.take-requires-in-Some
take-requires-in-Some g c = turned_watched g.N.Nvm.state g.N.Nvm.wrote c.args.card.now c.brief_turn.new.self (full_turn c.in_ok-turn.turn c.brief_turn.new.into) c.requires.running c.in_ok-turn.ensures.done

pub returns-in-Some-clause-watches : goal.returns-in-Some-clause-watches
returns-in-Some-clause-watches g c ch left runs wide =
    let sink = g.T.Sink in
    let q = c.args.self.now in
    let o = c.section-section.result in
    let turn = full_turn c.in_ok-turn.turn c.brief_turn.new.into in
    let t = full_turn_of left ch in
    let done = c.in_ok-turn.ensures.done ch left runs in
    let index = c.section-section.ensures ∙ (c.requires.known ch left runs).section in
    let is = is_turn left ch turn q.sections.now o done.turn index in
    let scene = c.take.ensures ch left runs in
    let apart = runs.runs.apart in
    let shows = turn_shown g.N.Nvm.state g.N.Nvm.wrote c.args.card.now c.brief_turn.new.self ch left turn done in
    let follows = (turn_of left ch).follows in
    let after = c.take-in-Some.new.self in
    let some = sym (ap (option_map line_value) c.in-Some.is) ∙ c.line_at.ensures in
    let here = scene_of_turn left ch q.sections.now o turn.at (line_value c.in-Some.line) c.take.new.self (option_map (λ b. b.now) c.code_of.result) index some c.code_of.ensures scene in
    let operand = operand_full left ch after.operand.items apart (c.take-in-Some.ensures.operand ch.frame (running_code ch) follows here shows (lies_after left ch wide scene.high)) in
    let stack = stack_full left ch turn after.stack.items apart done.turn (c.take-in-Some.ensures.stack ch.frame (running_code ch) follows here shows) in
    let h = c.put_turn.ensures c.brief_turn.new.into is.wrote in
    traced_turn sink q c.put_turn.new.self turn o t (line_value c.in-Some.line) after.operand.items after.stack.items is some operand stack (record { adds = h.adds; sections = h.sections; same = h.same })

pub returns-in-None-clause-watches : goal.returns-in-None-clause-watches
returns-in-None-clause-watches g c ch left runs wide =
    let sink = g.T.Sink in
    let q = c.args.self.now in
    let o = c.section-section.result in
    let turn = full_turn c.in_ok-turn.turn c.brief_turn.new.into in
    let t = full_turn_of left ch in
    let done = c.in_ok-turn.ensures.done ch left runs in
    let index = c.section-section.ensures ∙ (c.requires.known ch left runs).section in
    let is = is_turn left ch turn q.sections.now o done.turn index in
    let none = sym (ap (option_map line_value) c.in-None.is) ∙ c.line_at.ensures in
    let line = c.as_slice.ensures.value ∙ c.line_of_brief.ensures c.brief_turn.new.into is.wrote in
    let h = c.write.ensures.adds in
    traced_plain sink q c.write.new.self turn o t c.as_slice.result.now is none line (record { adds = h.adds; sections = h.sections; same = h.same })
