use Rattle.desk_draft.proofs.PushLemmas.{body_pushed}
use Rattle.desk_draft.proofs.instruction.push_body.Goals as goal

pub returns : goal.returns
returns c = λ l h. body_pushed l c.args.body.now c.after_word-after.result.now c.first_word.result.now c.before_rest.result.now c.args.deck.now.items c.push.new.text.items c.push_after.new.deck.items c.push_after.result c.after_word-after.ensures.value c.first_word.ensures.value c.before_rest.ensures c.in_ok-push.ensures (c.push_after.ensures l h)
