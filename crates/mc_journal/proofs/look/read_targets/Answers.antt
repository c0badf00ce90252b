use Rattle.std.proofs.Common.{◌+◌, ◌-◌, ◌*◌, ℕ, List, ap, sym, ◌∙◌, arith}
use Rattle.mc_words.specs.model_device.specs.Image.{One, targets, number, within, word_at}
use Rattle.mc_journal.proofs.LookLemmas.{targets_on, targets_bad, targets_end}
use Rattle.mc_journal.proofs.look.read_targets.Goals as goal

pub returns : goal.returns
returns g c =
    let m = (g.N.Nvm.state c.args.device.now).words in
    targets_end m c.loop-i.i (c.args.count - c.loop-i.i) (targets One m c.args.count) c.loop-i.found.items (omega (arith, c.loop-i-test.false)) c.loop-i.invariant.all

pub returns-in-None : goal.returns-in-None
returns-in-None g c =
    let m = (g.N.Nvm.state c.args.device.now).words in
    targets_bad m c.args.count c.loop-i.i (targets One m c.args.count) c.loop-i.found.items c.loop-i-test.true c.loop-i.invariant.all
    (ap (λ (s : ℕ). number (within s) (word_at m (3 + 2 * c.loop-i.i))) (sym c.len-size.ensures.len) ∙ ap (λ (w : List ℕ). number (within c.len-size.result) w) (sym c.read.ensures) ∙ sym c.target_of.ensures ∙ c.in-None.is)

pub loop-i-preserved : goal.loop-i-preserved
loop-i-preserved g c =
    let m = (g.N.Nvm.state c.args.device.now).words in
    record {
      room = omega (arith, c.push.ensures.len);
      all = targets_on m c.args.count c.loop-i.i c.in-Some.target (targets One m c.args.count) c.loop-i.found.items c.push.new.self.items c.loop-i-test.true c.loop-i.invariant.all
          (ap (λ (s : ℕ). number (within s) (word_at m (3 + 2 * c.loop-i.i))) (sym c.len-size.ensures.len) ∙ ap (λ (w : List ℕ). number (within c.len-size.result) w) (sym c.read.ensures) ∙ sym c.target_of.ensures ∙ c.in-Some.is)
          c.push.ensures.items;
    }
