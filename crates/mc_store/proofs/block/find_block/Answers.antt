use Rattle.std.proofs.Common.{◌≡◌, ℕ, ◌+◌, ◌<◌, ◌≤◌, Bool, List, length, Some, cond, sym, ◌∙◌, ap, subst, arith}
use Rattle.mc_words.specs.model_device.specs.Card.{Block}
use Rattle.mc_blocks.specs.Blocks.{blocks_at}
use Rattle.mc_blocks.proofs.Steps.{blocks_all}
use Rattle.mc_store.specs.Slots.{first_named}
use Rattle.mc_store.proofs.RecordLemmas.{block_fits}
use Rattle.mc_store.proofs.WalkLemmas.{BlockStands, walk_begins, header_stands, walk_ends}
use Rattle.mc_words.specs.model_device.specs.Device.{sized}
use Rattle.mc_store.proofs.block.find_block.Goals as goal

pub loop-place-init : goal.loop-place-init
loop-place-init g c =
    let m = (g.N.Nvm.state c.args.device.now).words in
    let low : 256 ≤ length m = c.len-size.ensures.image.low in
    record {
      high = omega arith;
      walk = walk_begins m (sized c.len-size.ensures.image) c.requires.laid;
      left = ap (λ (bs : List Block). first_named m bs c.args.aid.now) (blocks_all m);
    }

pub sizes_of_name-requires-clause-fits : goal.sizes_of_name-requires-clause-fits
sizes_of_name-requires-clause-fits g c =
    let m = (g.N.Nvm.state c.args.device.now).words in
    let lt : c.loop-place.place < length m = subst (λ (n : ℕ). c.loop-place.place < n) c.len-size.ensures.len c.loop-place-test.true in
    let s : BlockStands m c.loop-place.place c.read_header-header.result.used c.read_header-header.result.words =
    header_stands m c.loop-place.place c.read_header-header.result.used c.read_header-header.result.words lt c.loop-place.invariant.walk c.read_header-header.ensures.used c.read_header-header.ensures.words in
    λ h. block_fits m c.loop-place.place (s.block h)

pub returns-in-Some-clause-place : goal.returns-in-Some-clause-place
returns-in-Some-clause-place g c =
    let m = (g.N.Nvm.state c.args.device.now).words in
    let p = c.loop-place.place in
    let lt : p < length m = subst (λ (n : ℕ). p < n) c.len-size.ensures.len c.loop-place-test.true in
    let s : BlockStands m p c.read_header-header.result.used c.read_header-header.result.words =
    header_stands m p c.read_header-header.result.used c.read_header-header.result.words lt c.loop-place.invariant.walk c.read_header-header.ensures.used c.read_header-header.ensures.words in
    ap (λ (k : ℕ). Some k) c.new.ensures.place
    ∙ sym (
    c.loop-place.invariant.left ∙ s.first c.args.aid.now
    ∙ ap (λ (t : Bool). cond t (Some p) (first_named m (blocks_at m (p + c.read_header-header.result.words)) c.args.aid.now)) (sym c.in-Some.ensures.name)
    )

pub loop-place-smaller : goal.loop-place-smaller
loop-place-smaller g c =
    let m = (g.N.Nvm.state c.args.device.now).words in
    let p = c.loop-place.place in
    let size : c.len-size.result ≡ length m = c.len-size.ensures.len in
    let before : p < c.len-size.result = c.loop-place-test.true in
    let lt : p < length m = subst (λ (n : ℕ). p < n) size before in
    let s : BlockStands m p c.read_header-header.result.used c.read_header-header.result.words =
    header_stands m p c.read_header-header.result.used c.read_header-header.result.words lt c.loop-place.invariant.walk c.read_header-header.ensures.used c.read_header-header.ensures.words in
    let low : 1 ≤ c.read_header-header.result.words = s.low in
    omega arith

pub loop-place-preserved : goal.loop-place-preserved
loop-place-preserved g c =
    let m = (g.N.Nvm.state c.args.device.now).words in
    let p = c.loop-place.place in
    let lt : p < length m = subst (λ (n : ℕ). p < n) c.len-size.ensures.len c.loop-place-test.true in
    let s : BlockStands m p c.read_header-header.result.used c.read_header-header.result.words =
    header_stands m p c.read_header-header.result.used c.read_header-header.result.words lt c.loop-place.invariant.walk c.read_header-header.ensures.used c.read_header-header.ensures.words in
    record {
      high = s.high;
      walk = s.next;
      left = c.loop-place.invariant.left ∙ s.first c.args.aid.now
          ∙ ap (λ (t : Bool). cond t (Some p) (first_named m (blocks_at m (p + c.read_header-header.result.words)) c.args.aid.now)) (sym c.in_default.ensures.name);
    }

pub returns-clause-place : goal.returns-clause-place
returns-clause-place g c =
    let m = (g.N.Nvm.state c.args.device.now).words in
    let p = c.loop-place.place in
    let size : c.len-size.result ≡ length m = c.len-size.ensures.len in
    let past = c.loop-place-test.false in
    sym (c.loop-place.invariant.left ∙ walk_ends m p c.args.aid.now c.loop-place.invariant.walk (omega (arith, past)))
