use Rattle.std.proofs.Common.{ℕ, List, take, drop, ap, ◌-◌, ◌*◌, ◌+◌, ◌∙◌, arith}
use Rattle.mc_store.proofs.FlatLemmas.{word_step}
use Rattle.mc_words.specs.model_device.specs.Device.{sized}
use Rattle.mc_store.proofs.section.read_bytes.Goals as goal

pub loop-done-preserved : goal.loop-done-preserved
loop-done-preserved g c =
    let m = (g.N.Nvm.state c.args.device.now).words in
    let less = c.loop-done-test.true in
    let at = c.loop-done.invariant.here less in
    let room = c.loop-done.invariant.size in
    let skip = c.loop-done.invariant.skip in
    let within = c.requires in
    let count = c.min-count.ensures in
    let after = c.copy_from_slice.ensures.after ∙ ap (λ (w : List ℕ). take ((c.loop-done.skip + c.min-count.result) - c.loop-done.skip) (drop c.loop-done.skip w)) c.read-word.ensures in
    let put =
    word_step m (sized c.len-size.ensures.image) (8 * c.args.from + c.args.at) c.loop-done.done c.loop-done.place c.loop-done.skip c.min-count.result c.loop-done.into c.copy_from_slice.new.self
    (omega (arith, count, less)) at (omega (arith, count, skip)) (omega (arith, at, less, room, within)) after c.loop-done.invariant.bytes in
    let same = put.size in
    record {
      size = same ∙ room;
      high = omega (arith, same, count, less);
      bytes = put.bytes;
      here = λ more. omega (arith, at, same, count, more, skip);
      skip = omega arith;
    }
