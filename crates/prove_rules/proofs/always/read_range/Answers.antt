use Rattle.std.proofs.Common.{◌≡◌, ◌∷◌, ◌≤◌, arith, false}
use Rattle.std.specs.Prelude.{◌&&◌, nat_le}
use Rattle.std.proofs.lemmas.Result.{err_from_is_err_and}
use Rattle.mc_text.specs.model_text.specs.Text.{fields}
use Rattle.model_rule_text.specs.model_play.specs.declared.deck.DeckCause.TheVariants.{OutOfRange}
use Rattle.model_rule_text.specs.Reading.{always_line}
use Rattle.prove_rules.proofs.AlwaysLemmas.{no_high, no_low, no_place, no_two, place_outside, range_unnamed, values_outside, AreRangeNumbers}
use Rattle.prove_rules.proofs.RefusalLemmas.{deck_faulty}
use Rattle.prove_rules.proofs.always.read_range.Goals as goal

pub returns-in_err-low-clause-refused : goal.returns-in_err-low-clause-refused
returns-in_err-low-clause-refused c =
    let p = err_from_is_err_and c.from_residual.result c.from_residual.ensures.1 in
    rw (p.1, p.2, c.in_err-low.ensures.none.0) (λ a n block are inside. no_two a n block c.args.at.now (fields c.args.text.now) inside c.requires c.in_err-low.ensures.none.1)

pub returns-in_err-place-clause-refused : goal.returns-in_err-place-clause-refused
returns-in_err-place-clause-refused c =
    let p = err_from_is_err_and c.from_residual-in_err-place.result c.from_residual-in_err-place.ensures.1 in
    rw (p.1, p.2, c.in_err-place.ensures.refused.0) (λ a n block are inside. no_place a n block c.args.at.now c.in_ok-low.low.now c.in_ok-low.high.now (fields c.args.text.now) inside c.requires c.in_ok-low.ensures.parts c.in_err-place.ensures.refused.1)

pub returns-in_err-lowest-clause-refused : goal.returns-in_err-lowest-clause-refused
returns-in_err-lowest-clause-refused c =
    let p = err_from_is_err_and c.from_residual-in_err-lowest.result c.from_residual-in_err-lowest.ensures.1 in
    rw (p.1, p.2, c.in_err-lowest.ensures.refused.0) (λ a n block are inside. no_low a n block c.args.at.now c.in_ok-low.low.now c.in_ok-low.high.now (fields c.args.text.now) c.in_ok-place.ensures.number.number inside c.requires c.in_ok-low.ensures.parts
    c.in_ok-place.ensures.number.is c.in_err-lowest.ensures.refused.1)

pub returns-in_err-highest-clause-refused : goal.returns-in_err-highest-clause-refused
returns-in_err-highest-clause-refused c =
    let p = err_from_is_err_and c.from_residual-in_err-highest.result c.from_residual-in_err-highest.ensures.1 in
    rw (p.1, p.2, c.in_err-highest.ensures.refused.0) (λ a n block are inside. no_high a n block c.args.at.now c.in_ok-low.low.now c.in_ok-low.high.now (fields c.args.text.now) c.in_ok-place.ensures.number.number c.in_ok-lowest.ensures.number.number inside c.requires
    c.in_ok-low.ensures.parts c.in_ok-place.ensures.number.is c.in_ok-lowest.ensures.number.is c.in_err-highest.ensures.refused.1)

pub returns-in_err-load-clause-refused : goal.returns-in_err-load-clause-refused
returns-in_err-load-clause-refused c =
    let p = err_from_is_err_and c.from_residual-in_err-load.result c.from_residual-in_err-load.ensures.1 in
    let numbers : AreRangeNumbers c.args.at.now c.in_ok-low.low.now c.in_ok-low.high.now (fields c.args.text.now) c.in_ok-place.place c.in_ok-lowest.lowest c.in_ok-highest.highest =
    record { parts = c.in_ok-low.ensures.parts; place = c.in_ok-place.ensures.number; lowest = c.in_ok-lowest.ensures.number; highest = c.in_ok-highest.ensures.number } in
    rw (p.1, p.2, c.in_err-load.ensures.refused.0) (λ a n block are inside. range_unnamed a c.args.rules.now n block c.args.at.now c.in_ok-low.low.now c.in_ok-low.high.now (fields c.args.text.now) c.in_ok-place.place c.in_ok-lowest.lowest c.in_ok-highest.highest are inside
    c.requires numbers c.in_err-load.ensures.refused.1)

pub returns-then-place-load-clause-refused : goal.returns-then-place-load-clause-refused
returns-then-place-load-clause-refused c =
    let numbers : AreRangeNumbers c.args.at.now c.in_ok-low.low.now c.in_ok-low.high.now (fields c.args.text.now) c.in_ok-place.place c.in_ok-lowest.lowest c.in_ok-highest.highest =
    record { parts = c.in_ok-low.ensures.parts; place = c.in_ok-place.ensures.number; lowest = c.in_ok-lowest.ensures.number; highest = c.in_ok-highest.ensures.number } in
    let out : c.in_ok-load.load.fixed ≤ c.in_ok-place.place = omega arith in
    λ a n block are inside. deck_faulty (always_line a n (block ∷ fields c.args.text.now)) c.refused.result OutOfRange c.refused.ensures
    (place_outside a c.args.rules.now n block c.args.at.now c.in_ok-low.low.now c.in_ok-low.high.now (fields c.args.text.now) c.in_ok-place.place c.in_ok-lowest.lowest c.in_ok-highest.highest (record { aid = c.in_ok-load.ensures.load.0; load = c.in_ok-load.load }) are inside
    c.requires numbers c.in_ok-load.ensures.load.1 out)

pub returns-then-not-are_in_order-clause-refused : goal.returns-then-not-are_in_order-clause-refused
returns-then-not-are_in_order-clause-refused c =
    let numbers : AreRangeNumbers c.args.at.now c.in_ok-low.low.now c.in_ok-low.high.now (fields c.args.text.now) c.in_ok-place.place c.in_ok-lowest.lowest c.in_ok-highest.highest =
    record { parts = c.in_ok-low.ensures.parts; place = c.in_ok-place.ensures.number; lowest = c.in_ok-lowest.ensures.number; highest = c.in_ok-highest.ensures.number } in
    let out : (nat_le c.in_ok-lowest.lowest c.in_ok-highest.highest && nat_le c.in_ok-highest.highest 255) ≡ false = grind (arith, c.are_in_order.ensures.is, c.if-not-are_in_order.true, c.if-not-are_in_order.ensures) in
    λ a n block are inside. deck_faulty (always_line a n (block ∷ fields c.args.text.now)) c.refused-then-not-are_in_order.result OutOfRange c.refused-then-not-are_in_order.ensures
    (values_outside a c.args.rules.now n block c.args.at.now c.in_ok-low.low.now c.in_ok-low.high.now (fields c.args.text.now) c.in_ok-place.place c.in_ok-lowest.lowest c.in_ok-highest.highest (record { aid = c.in_ok-load.ensures.load.0; load = c.in_ok-load.load }) are inside
    c.requires numbers c.in_ok-load.ensures.load.1 out)
