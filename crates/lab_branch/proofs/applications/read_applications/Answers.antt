use Rattle.std.proofs.Common.{◌≡◌, ℕ, ◌+◌, ◌<◌, ◌≤◌, List, length, sym, subst, arith}
use Rattle.mc_words.specs.model_device.specs.Device.{sized}
use Rattle.mc_words.specs.model_device.specs.Card.{App}
use Rattle.lab_branch.proofs.Gathering.{Gathers, GathersNext, gathers_none, gathers_next, gathers_all}
use Rattle.lab_branch.proofs.applications.read_applications.Goals as goal

pub loop-place-init : goal.loop-place-init
loop-place-init g c =
    let m = (g.N.Nvm.state c.args.device.now).words in
    let low : 256 ≤ length m = c.len-size.ensures.image.low in
    record {
      high = omega arith;
      gathers = subst (λ (es : List (List ℕ × App)). Gathers m 131 es) (sym c.new-applications.ensures.items) (gathers_none m (sized c.len-size.ensures.image) c.requires);
    }

pub add_block-requires-clause-block : goal.add_block-requires-clause-block
add_block-requires-clause-block g c =
    let m = (g.N.Nvm.state c.args.device.now).words in
    let l = c.loop-place in
    let h = c.read_header-header in
    let lt : l.place < length m = subst (λ (n : ℕ). l.place < n) c.len-size.ensures.len c.loop-place-test.true in
    (gathers_next m l.place h.result.used h.result.words l.applications.items lt l.invariant.gathers h.ensures.used h.ensures.words).block

pub add_block-requires-clause-fresh : goal.add_block-requires-clause-fresh
add_block-requires-clause-fresh g c =
    let m = (g.N.Nvm.state c.args.device.now).words in
    let l = c.loop-place in
    let h = c.read_header-header in
    let lt : l.place < length m = subst (λ (n : ℕ). l.place < n) c.len-size.ensures.len c.loop-place-test.true in
    (gathers_next m l.place h.result.used h.result.words l.applications.items lt l.invariant.gathers h.ensures.used h.ensures.words).fresh

pub loop-place-smaller : goal.loop-place-smaller
loop-place-smaller g c =
    let m = (g.N.Nvm.state c.args.device.now).words in
    let l = c.loop-place in
    let h = c.read_header-header in
    let before : l.place < c.len-size.result = c.loop-place-test.true in
    let lt : l.place < length m = subst (λ (n : ℕ). l.place < n) c.len-size.ensures.len before in
    let low : 1 ≤ h.result.words = (gathers_next m l.place h.result.used h.result.words l.applications.items lt l.invariant.gathers h.ensures.used h.ensures.words).low in
    omega arith

pub loop-place-preserved : goal.loop-place-preserved
loop-place-preserved g c =
    let m = (g.N.Nvm.state c.args.device.now).words in
    let l = c.loop-place in
    let h = c.read_header-header in
    let lt : l.place < length m = subst (λ (n : ℕ). l.place < n) c.len-size.ensures.len c.loop-place-test.true in
    let next : GathersNext m l.place h.result.used h.result.words l.applications.items =
    gathers_next m l.place h.result.used h.result.words l.applications.items lt l.invariant.gathers h.ensures.used h.ensures.words in
    record {
      high = next.high;
      gathers = subst (λ (es : List (List ℕ × App)). Gathers m (l.place + h.result.words) es) (sym c.in_ok-add_block.ensures) next.next;
    }

pub returns : goal.returns
returns g c =
    let m = (g.N.Nvm.state c.args.device.now).words in
    let l = c.loop-place in
    let past = c.loop-place-test.false in
    let size : c.len-size.result ≡ length m = c.len-size.ensures.len in
    gathers_all m l.place l.applications.items (omega (arith, past, size)) l.invariant.gathers
