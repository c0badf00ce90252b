use Rattle.std.proofs.Common.{◌≡◌, ℕ, List, Bool, map, ap, ◌∙◌}
use Rattle.std.proofs.lemmas.Result.{IfOk-weaker}
use Rattle.std.specs.declared.alloc.Global.{Global}
use Rattle.std.specs.declared.vec.Vec.{Vec}
use Rattle.lab_app_rules.specs.model_events.specs.Matching.{fits}
use Rattle.model_text.specs.model_machine.specs.Chain.{Abended}
use Rattle.model_text.specs.TurnText.{outcome_text}
use Rattle.prove_facts.specs.model_prove.specs.Arrivals.{result_patterns}
use Rattle.prove_occasions.specs.Picks.{result_marks}
use Rattle.prove_occasions.proofs.MarkLemmas.{result_lines}
use Rattle.prove_occasions.proofs.commands.abend_results.Goals as goal

pub returns : goal.returns
returns c names ls lines =
    let text = c.text_of_abend.result.now in
    let ons = c.args.ons.now in
    IfOk-weaker c.result_marks.result (λ (v : Vec Bool Global). v.items ≡ result_marks text ons) (λ (v : Vec Bool Global). v.items ≡ map (λ q. fits q (outcome_text (Abended c.args.abend))) (result_patterns ls))
    (λ (v : Vec Bool Global) (h : v.items ≡ result_marks text ons).
    h ∙ result_lines names ls ons text lines ∙ ap (λ (t : List ℕ). map (λ q. fits q t) (result_patterns ls)) c.text_of_abend.ensures) c.result_marks.ensures
