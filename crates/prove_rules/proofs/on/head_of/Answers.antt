use Rattle.std.proofs.Common.{sym, ap, subst}
use Rattle.std.specs.Prelude.{IfErr}
use Rattle.std.proofs.lemmas.Result.{IfErr-weaker}
use Rattle.mc_text.specs.model_text.specs.Text.{fields}
use Rattle.model_rule_text.specs.model_play.specs.RuleLines.{full_parts, parts_of}
use Rattle.model_rule_text.specs.Reading as reading
use Rattle.model_rule_text.specs.Reading.{action_words, bare_parts, of_deck, turn_words, with_event_line, EventWord}
use Rattle.prove_rules.specs.Ons.{result_parts}
use Rattle.prove_rules.specs.Parts.{event_value}
use Rattle.prove_rules.specs.Refused.{Faulty}
use Rattle.prove_rules.proofs.OnLemmas.{answer_refused, command_refused, session_refused, turn_refused, EventFault}
use Rattle.prove_rules.proofs.on.head_of.Goals as goal

pub returns-in-Turn-clause-refused : goal.returns-in-Turn-clause-refused
returns-in-Turn-clause-refused c =
    let fs = fields c.args.text.now in
    subst (λ (w : EventWord). IfErr c.full_head.result (EventFault w fs)) (ap event_value (sym c.in-Turn.is))
    (IfErr-weaker c.full_head.result (Faulty (of_deck (full_parts (parts_of turn_words fs)))) (EventFault reading.TurnEvent fs) (λ e h a n. turn_refused a n fs e h) c.full_head.ensures.refused)

pub returns-in-Command-clause-refused : goal.returns-in-Command-clause-refused
returns-in-Command-clause-refused c =
    let fs = fields c.args.text.now in
    subst (λ (w : EventWord). IfErr c.full_head-in-Command.result (EventFault w fs)) (ap event_value (sym c.in-Command.is))
    (IfErr-weaker c.full_head-in-Command.result (Faulty (of_deck (full_parts (parts_of action_words fs)))) (EventFault reading.CommandEvent fs) (λ e h a n. command_refused a n fs e h) c.full_head-in-Command.ensures.refused)

pub returns-in-Answer-clause-refused : goal.returns-in-Answer-clause-refused
returns-in-Answer-clause-refused c =
    let fs = fields c.args.text.now in
    subst (λ (w : EventWord). IfErr c.answer_head.result (EventFault w fs)) (ap event_value (sym c.in-Answer.is))
    (IfErr-weaker c.answer_head.result (Faulty (result_parts fs)) (EventFault reading.AnswerEvent fs) (λ e h a n. answer_refused a n fs e h) c.answer_head.ensures.refused)

pub returns-in-Session-clause-refused : goal.returns-in-Session-clause-refused
returns-in-Session-clause-refused c =
    let fs = fields c.args.text.now in
    subst (λ (w : EventWord). IfErr c.bare_head.result (EventFault w fs)) (ap event_value (sym c.in-Session.is))
    (IfErr-weaker c.bare_head.result (Faulty (of_deck (bare_parts (parts_of action_words fs)))) (EventFault reading.SessionEvent fs) (λ e h a n. session_refused a n fs e h) c.bare_head.ensures.refused)
