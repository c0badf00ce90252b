use Rattle.std.proofs.Common.{ℕ, ◌∙◌, sym, ap, arith, not}
use Rattle.mc_blocks.specs.Blocks.{block_of, bad_from}
use Rattle.mc_blocks.proofs.Headers.{bad_behind, good_end}
use Rattle.mc_blocks.proofs.checks.first_bad_header.Goals as goal

pub loop-place-preserved : goal.loop-place-preserved
loop-place-preserved g c =
    let m = (g.N.Nvm.state c.args.device.now).words in
    let b = block_of c.in-Some.block in
    let ends = good_end m c.loop-place.place c.loop-place.after_hole b c.in-Some.ensures in
    let place = sym c.end-place.ensures in
    record {
      within = omega (arith, ends.0, c.end-place.ensures, c.len-size.ensures.len);
      left = c.loop-place.invariant.left
          ∙ bad_behind m c.loop-place.place c.loop-place.after_hole b (omega (arith, c.loop-place-test.true, c.len-size.ensures.len)) c.in-Some.ensures
          ∙ ap (λ (p : ℕ). bad_from m p (not b.used)) place;
    }
