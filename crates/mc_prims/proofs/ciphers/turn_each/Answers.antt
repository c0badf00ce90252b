use Rattle.std.proofs.Common.{◌≡◌, ℕ, take, drop, ◌++◌, ◌+◌, ◌-◌, ◌*◌, ◌/◌, ◌≤◌, suc, length, arith, subst}
use Rattle.model_machine.specs.Modes.{ecb, each, blocks_of}
use Rattle.mc_isa.specs.Primitives.{cipher_of}
use Rattle.mc_prims.specs.Table.{block_under_key}
use Rattle.mc_prims.proofs.BlocksLemmas.{each_step}
use Rattle.mc_prims.proofs.ciphers.turn_each.Goals as goal

pub loop-i-preserved : goal.loop-i-preserved
loop-i-preserved c =
    let turn = block_under_key c.args.way (cipher_of c.args.cipher) c.args.key.now in
    let size = c.block_len-size.result in
    let n = length c.args.message.now / size in
    let left : n - c.loop-i.i ≡ suc (n - (c.loop-i.i + 1)) = omega arith in
    let room : size * c.loop-i.i + size ≤ length c.loop-i.message = grind arith in
    each_step turn size (n - (c.loop-i.i + 1)) (size * c.loop-i.i) _ _ c.loop-i.message c.turn.new.block _ (omega arith) (grind arith) room (grind arith) c.turn.ensures
    (subst (λ (k : ℕ). take (size * c.loop-i.i) c.loop-i.message ++ each turn (blocks_of k size (drop (size * c.loop-i.i) c.loop-i.message)) ≡ ecb turn size c.args.message.now) left c.loop-i.invariant)
