use Rattle.std.proofs.Common.{◌≡◌, ◌+◌, ◌-◌, ◌∙◌, ap, arith, length}
use Rattle.model_device.specs.Image.{Two}
use Rattle.model_device.specs.Stopped.{cost, stands}
use Rattle.lab_history.specs.Durable.{count_in, first_in}
use Rattle.lab_history.proofs.GroupLemmas.{group_is}
use Rattle.lab_history.proofs.durable.is_durable.Goals as goal

pub returns-then-words-eq0 : goal.returns-then-words-eq0
returns-then-words-eq0 c = λ front back words turn left g o.
    let k = group_is c.args.turns.now c.args.made front words turn back g in
    let count : c.count_of-writes.result ≡ cost Two words = c.count_of-writes.ensures.count ∙ ap (count_in c.args.turns.now) k.value ∙ k.count in
    let w = c.words_of-words.ensures.words words g.low g.high count in
    let first : c.first_of-first.result ≡ length front = c.first_of-first.ensures ∙ ap (first_in c.args.turns.now) k.value ∙ k.first in
    absurd (omega (arith, w, first, g.low, g.from))

pub returns : goal.returns
returns c = λ front back words turn left g o.
    let k = group_is c.args.turns.now c.args.made front words turn back g in
    let count : c.count_of-writes.result ≡ cost Two words = c.count_of-writes.ensures.count ∙ ap (count_in c.args.turns.now) k.value ∙ k.count in
    let w = c.words_of-words.ensures.words words g.low g.high count in
    let first : c.first_of-first.result ≡ length front = c.first_of-first.ensures ∙ ap (first_in c.args.turns.now) k.value ∙ k.first in
    c.stands.ensures left o
    ∙ ap (λ n. stands Two n (c.args.made - c.first_of-first.result + 1) left) w
    ∙ ap (λ n. stands Two words n left) (omega (arith, first, g.from))
