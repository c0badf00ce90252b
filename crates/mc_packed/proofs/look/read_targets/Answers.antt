use Rattle.std.proofs.Common.{◌-◌, ◌*◌, ℕ, take, drop, length, ap, sym, ◌∙◌, arith, length-append}
use Rattle.mc_words.specs.model_device.specs.Bytes.{up}
use Rattle.mc_words.specs.model_device.specs.Image.{Two, targets, four, ascend, all_zero}
use Rattle.mc_packed.proofs.LookLemmas.{targets_on, targets_bad, targets_end, bad_first, bad_second}
use Rattle.mc_packed.proofs.look.read_targets.Goals as goal

pub returns-then-not-are_zero : goal.returns-then-not-are_zero
returns-then-not-are_zero g c =
    let m = (g.N.Nvm.state c.args.device.now).words in
    targets_bad m c.args.count c.loop-i.i c.loop-i.least (targets Two m c.args.count) c.loop-i.found.items c.split_at.result.0.now c.split_at.result.1.now c.numbers-all.result c.loop-i-test.true c.loop-i.invariant.all
    (c.numbers-all.ensures ∙ ap four c.read.ensures) (ap length c.numbers-all.ensures)
    (c.split_at.ensures.front ∙ ap (λ (n : ℕ). take n c.numbers-all.result) c.up_to_four.ensures) (c.split_at.ensures.back ∙ ap (λ (n : ℕ). drop n c.numbers-all.result) c.up_to_four.ensures)
    (bad_first (all_zero c.split_at.result.1.now) (ascend (length m) c.loop-i.least c.split_at.result.0.now) (sym c.are_zero.ensures ∙ c.if-not-are_zero.true))

pub returns-in-None : goal.returns-in-None
returns-in-None g c =
    let m = (g.N.Nvm.state c.args.device.now).words in
    targets_bad m c.args.count c.loop-i.i c.loop-i.least (targets Two m c.args.count) c.loop-i.found.items c.split_at.result.0.now c.split_at.result.1.now c.numbers-all.result c.loop-i-test.true c.loop-i.invariant.all
    (c.numbers-all.ensures ∙ ap four c.read.ensures) (ap length c.numbers-all.ensures)
    (c.split_at.ensures.front ∙ ap (λ (n : ℕ). take n c.numbers-all.result) c.up_to_four.ensures) (c.split_at.ensures.back ∙ ap (λ (n : ℕ). drop n c.numbers-all.result) c.up_to_four.ensures)
    (bad_second (all_zero c.split_at.result.1.now) (ascend (length m) c.loop-i.least c.split_at.result.0.now) (sym c.are_zero.ensures ∙ c.if-not-are_zero.false)
    (ap (λ (s : ℕ). ascend s c.loop-i.least c.split_at.result.0.now) (sym c.len-size.ensures.len) ∙ c.in-None.ensures))

pub loop-i-preserved : goal.loop-i-preserved
loop-i-preserved g c =
    let m = (g.N.Nvm.state c.args.device.now).words in
    record {
      room = omega (arith, ap length c.push_all.ensures, length-append c.loop-i.found.items c.split_at.result.0.now, c.split_at.ensures.front_len);
      all = targets_on m c.args.count c.loop-i.i c.loop-i.least c.in-Some.next (targets Two m c.args.count) c.loop-i.found.items c.split_at.result.0.now c.split_at.result.1.now c.numbers-all.result c.push_all.new.found.items c.loop-i-test.true c.loop-i.invariant.all
          (c.numbers-all.ensures ∙ ap four c.read.ensures) (ap length c.numbers-all.ensures)
          (c.split_at.ensures.front ∙ ap (λ (n : ℕ). take n c.numbers-all.result) c.up_to_four.ensures) (c.split_at.ensures.back ∙ ap (λ (n : ℕ). drop n c.numbers-all.result) c.up_to_four.ensures)
          (sym c.are_zero.ensures ∙ c.if-not-are_zero.false)
          (ap (λ (s : ℕ). ascend s c.loop-i.least c.split_at.result.0.now) (sym c.len-size.ensures.len) ∙ c.in-Some.ensures.0)
          c.in-Some.ensures.1 c.push_all.ensures;
    }

pub returns : goal.returns
returns g c =
    let m = (g.N.Nvm.state c.args.device.now).words in
    targets_end m c.loop-i.i (up c.args.count 4 - c.loop-i.i) (c.args.count - 4 * c.loop-i.i) c.loop-i.least (targets Two m c.args.count) c.loop-i.found.items (omega (arith, c.loop-i-test.false)) c.loop-i.invariant.all
