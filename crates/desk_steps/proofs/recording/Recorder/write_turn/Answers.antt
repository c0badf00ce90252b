use Rattle.std.proofs.Common.{◌≡◌, ℕ, List, [], Bool, false, Option, refl, ap, subst, rules, ◌∙◌}
use Rattle.std.specs.Prelude.{get_or}
use Rattle.mc_text.specs.Texts.{sunk}
use Rattle.law_steps.specs.Nexts.{open_by}
use Rattle.desk_steps.specs.Sheets.{PutsOn}
use Rattle.desk_steps.specs.declared.shot.Shot.{Shot}
use Rattle.desk_steps.specs.Counted.{moves_by_shots, writes_after}
use Rattle.desk_steps.specs.Lines.{turn_text, Found}
use Rattle.desk_steps.specs.Recorded.{next_number}
use Rattle.desk_steps.specs.Shots.{shot_changes}
use Rattle.desk_steps.specs.Turning.{bare_value, end_of, frame_place}
use Rattle.desk_steps.proofs.recording.Recorder.write_turn.Goals as goal

pub returns-clause-adds : goal.returns-clause-adds
returns-clause-adds g c wrote =
    let q = c.args.self.now in
    let one = c.writes_of-writes.ensures in
    let two = c.protection_of-is_on.ensures in
    let m = c.protection_of-is_on.new.self in
    let w = c.write_counted-self in
    let turn = c.args.turn.now in
    let b : Bool = c.protection_of-is_on.result in
    let k : ℕ = c.saturating_add-self.result in
    let next : ℕ = next_number q.turns in
    let n : k ≡ next = search rules in
    let range : Option (ℕ × ℕ) = writes_after q.memory.writes (moves_by_shots turn q.memory.before q.memory.after (get_or q.memory.opens (frame_place turn.depth) false) (get_or q.memory.guards (frame_place turn.depth) [])) in
    let found : Shot → Shot → Bool → Option (ℕ × ℕ) → Found = λ before after on x. record { lb = after.lb; is_on = on; sets = shot_changes before after; writes = x } in
    let text : ℕ → Found → List ℕ = λ i x. turn_text i c.args.aid.now c.args.source (bare_value turn wrote) x in
    let on = two.on ∙ ap (λ (os : List Bool). open_by (end_of turn.end) turn.ins (get_or os (frame_place turn.depth) false)) one.opens in
    let own : Option (ℕ × ℕ) = c.writes_of-writes.result in
    let is =
    ap (λ (i : ℕ). text i (found m.before m.after b own)) n ∙ ap (λ (s : Shot). text next (found s m.after b own)) (two.before ∙ one.before) ∙ ap (λ (s : Shot). text next (found q.memory.before s b own)) (two.after ∙ one.after)
    ∙ ap (λ (x : Bool). text next (found q.memory.before q.memory.after x own)) on ∙ ap (λ (x : Option (ℕ × ℕ)). text next (found q.memory.before q.memory.after (open_by (end_of turn.end) turn.ins (get_or q.memory.opens (frame_place turn.depth) false)) x)) one.range
    in
    record { puts = subst (λ (t : List ℕ). PutsOn q.fault (sunk g.T.Sink q.out.now) t w.result (sunk g.T.Sink w.new.out)) is (w.ensures wrote); same = refl }
