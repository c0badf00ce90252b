use Rattle.std.specs.Prelude.{option_map, take, None}
use Rattle.std.proofs.Common.{ap, sym, ◌∙◌}
use Rattle.mc_deck.specs.Lines.{line_of}
use Rattle.mc_deck.specs.declared.line.Line.{Line}
use Rattle.lab_record.specs.declared.past.ArmedStop.{ArmedStop}
use Rattle.lab_record.specs.Steady.{armed_by, armed_in}
use Rattle.lab_record.proofs.SteadyLemmas.{armed_first, armed_next, armed_other}
use Rattle.lab_record.proofs.past.armed_for.Goals.{in-Cut, in-Fail, in_default}
use Rattle.lab_record.proofs.past.armed_for.Goals as goal

pub loop-j-init : goal.loop-j-init
loop-j-init c = sym (armed_first c.args.deck.now)

pub loop-j-preserved : goal.loop-j-preserved
loop-j-preserved c =
    let l = c.line.result in
    let before = armed_in None (take c.loop-j.j c.args.deck.now) in
    let next = armed_next c.args.deck.now c.loop-j.j (l.0, line_of l.1) c.line.ensures.line in
    elim c.match-line.branch [
      | in-Cut w ↦ ap (option_map (λ (a : ArmedStop). a.write)) w.armed-is ∙ sym (next ∙ ap (λ (x : Line). armed_by before (line_of x)) w.in-Cut.is)
      | in-Fail w ↦ ap (option_map (λ (a : ArmedStop). a.write)) w.armed-is ∙ sym (next ∙ ap (λ (x : Line). armed_by before (line_of x)) w.in-Fail.is)
      | in_default w ↦ ap (option_map (λ (a : ArmedStop). a.write)) w.armed-is ∙ c.loop-j.invariant ∙ sym (next ∙ armed_other before l.1 w.in_default.not-Cut w.in_default.not-Fail)
    ]
