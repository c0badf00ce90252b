use Rattle.std.proofs.Common.{◌∙◌, sym, ap, Bool}
use Rattle.std.specs.Prelude.{cond}
use Rattle.prove_digits.proofs.BitLemmas.{keeps_carry}
use Rattle.prove_digits.proofs.EdgeLemmas.{keeps_turn, turn_by, turn_is}
use Rattle.prove_digits.proofs.GrowLemmas.{none_in, none_split}
use Rattle.prove_digits.proofs.bits.logical.Goals as goal

pub returns-then-carry : goal.returns-then-carry
returns-then-carry c op h =
    keeps_turn op c.args.xs.now c.args.ys.now c.args.carry c.split_of-split.result none_split (record { clear = none_split; set = c.split_of-split.result })
    (λ x y. keeps_carry c.args.how op x y c.args.carry h) (λ z. c.split_of-split.ensures op c.args.carry z h) none_in
    (turn_is none_split c.split_of-split.result ∙ sym (ap (λ (b : Bool). cond b (turn_by none_split c.split_of-split.result) (turn_by c.split_of-split.result none_split)) c.if-carry.true))

pub returns-else-carry : goal.returns-else-carry
returns-else-carry c op h =
    keeps_turn op c.args.xs.now c.args.ys.now c.args.carry c.split_of-split.result none_split (record { clear = c.split_of-split.result; set = none_split })
    (λ x y. keeps_carry c.args.how op x y c.args.carry h) (λ z. c.split_of-split.ensures op c.args.carry z h) none_in
    (turn_is c.split_of-split.result none_split ∙ sym (ap (λ (b : Bool). cond b (turn_by none_split c.split_of-split.result) (turn_by c.split_of-split.result none_split)) c.if-carry.false))
