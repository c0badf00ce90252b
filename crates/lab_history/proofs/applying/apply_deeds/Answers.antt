use Rattle.std.proofs.Common.{◌≡◌, ◌+◌, ◌<◌, ◌∙◌, List, arith, get_or, length, subst, sym, true}
use Rattle.lab_history.specs.declared.course.Happening.{Happening}
use Rattle.lab_history.specs.Applying.{deeds_effect}
use Rattle.lab_history.specs.Courses.{has_turn}
use Rattle.lab_history.proofs.DoneLemmas.{done_more, done_size, effect_more}
use Rattle.lab_history.proofs.applying.apply_deeds.Goals as goal

pub loop-happening-preserved : goal.loop-happening-preserved
loop-happening-preserved c =
    let ons = c.args.rules.now.ons.items in
    let balances = c.args.rules.now.balances.items in
    let e = c.args.extent in
    let deeds = c.args.course.now.deeds.items in
    let i = c.loop-happening.happening-index in
    let h = c.happening-item.result in
    let old = c.loop-happening.standing in
    let new = c.apply_deed-broken.new.standing in
    let there = subst (λ (hs : List Happening). i < length hs) c.deref-happening-items.ensures.value c.loop-happening-test.true in
    let is = subst (λ (hs : List Happening). h ≡ get_or hs i h) c.deref-happening-items.ensures.value c.happening-item.is in
    let counts : has_turn e h.turn ≡ true = sym c.has.ensures ∙ grind (arith, c.if-not-has.false) in
    record {
      amounts = effect_more ons e deeds i (i + 1) h c.apply_deed-broken.result old.amounts.items new.amounts.items (deeds_effect ons e deeds c.args.standing.now.amounts.items) (omega arith) there is counts
          (sym c.is_some.ensures ∙ c.if-is_some.false) c.apply_deed-broken.ensures.amounts c.loop-happening.invariant.amounts;
      blocks = λ same.
          let before = c.loop-happening.invariant.blocks same in
          let done = c.apply_deed-broken.ensures.blocks before.0 in
          let long : length old.kept.items ≡ length old.waiting.items = sym old.kept.ok.0 ∙ before.0 ∙ old.waiting.ok.0 in (
            new.kept.ok.0 ∙ done_size ons balances h.deed old.kept.items old.waiting.items new.kept.items new.waiting.items long done ∙ sym new.waiting.ok.0,
            done_more ons balances e deeds deeds i (i + 1) h c.args.standing.now.kept.items c.args.standing.now.waiting.items old.kept.items old.waiting.items new.kept.items new.waiting.items (omega arith) there is counts done
                before.1,
          );
    }
