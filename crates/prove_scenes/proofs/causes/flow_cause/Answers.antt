use Rattle.prove_scenes.proofs.causes.flow_cause.Goals as goal

pub returns-in-Jump : goal.returns-in-Jump
returns-in-Jump c = λ x. rw c.in-Jump.is (c.jump_cause.ensures x)

pub returns-in-Call : goal.returns-in-Call
returns-in-Call c = λ x. rw c.in-Call.is (c.call_cause.ensures x)
