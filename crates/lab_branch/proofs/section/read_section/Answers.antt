use Rattle.std.proofs.Common.{◌≡◌, ℕ, List, ◌++◌, ◌∙◌, ◌-◌, ◌+◌, ap, take, min, arith}
use Rattle.mc_words.specs.model_device.specs.Device.{sized}
use Rattle.mc_words.specs.model_device.specs.Card.{word, section}
use Rattle.lab_branch.proofs.SectionSteps.{section_step}
use Rattle.lab_branch.proofs.section.read_section.Goals as goal

pub loop-left-preserved : goal.loop-left-preserved
loop-left-preserved g c =
    let m = (g.N.Nvm.state c.args.device.now).words in
    let l = c.loop-left in
    let some = c.loop-left-test.true in
    let count : c.min-piece.result ≡ min l.left 8 = c.min-piece.ensures in
    let within = l.invariant.within in
    let more : c.extend_from_slice.new.self.items ≡ l.bytes.items ++ take (min l.left 8) (word m l.place) =
    c.in_ok-extend_from_slice.ensures.items
    ∙ ap (λ (w : List ℕ). l.bytes.items ++ take c.min-piece.result w) c.read.ensures
    ∙ ap (λ (k : ℕ). l.bytes.items ++ take k (word m l.place)) count in
    record {
      within = omega (arith, within, count, some);
      bytes = ap (λ (k : ℕ). c.extend_from_slice.new.self.items ++ section m (l.place + 1) (l.left - k)) count
          ∙ ap (λ (bs : List ℕ). bs ++ section m (l.place + 1) (l.left - min l.left 8)) more
          ∙ section_step m l.place l.left l.bytes.items (section m c.args.first c.args.count) (sized c.len-size.ensures.image) some within l.invariant.bytes;
    }
