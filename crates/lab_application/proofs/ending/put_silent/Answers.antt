use Rattle.std.proofs.Common.{◌≤◌, ◌+◌, ◌∙◌, ap, drop, length, rules, sym, Ok, Some}
use Rattle.std.proofs.lemmas.Option.{slice_get-get_or}
use Rattle.mc_text.proofs.TextLemmas.{fails_before, puts_as, puts_failed, puts_then, writes_none}
use Rattle.lab_application.specs.Texts.{silent_from}
use Rattle.lab_application.proofs.WordLemmas.{silent_end, silent_next}
use Rattle.lab_application.proofs.ending.put_silent.Goals as goal

pub returns-in_err-put_unheard : goal.returns-in_err-put_unheard
returns-in_err-put_unheard g c =
    let i = c.loop-i.i in
    let here = slice_get-get_or c.args.ons.now i c.index-ons-i.result c.loop-i-test.true ∙ ap Some (sym c.index-ons-i.is) in
    let split = silent_next c.args.ons.now c.args.heard.now i c.index-ons-i.result c.is_heard.result here c.is_heard.ensures in
    c.loop-i.invariant c.from_residual.result _
    (puts_as _ _ c.from_residual.result (sym split) (puts_failed c.from_residual.result c.from_residual.ensures.0 (fails_before (silent_from (i + 1) (drop (i + 1) c.args.ons.now) c.args.heard.now) c.in_err-put_unheard.ensures)))

pub loop-i-preserved : goal.loop-i-preserved
loop-i-preserved g c = λ r d p.
    let i = c.loop-i.i in
    let here = slice_get-get_or c.args.ons.now i c.index-ons-i.result c.loop-i-test.true ∙ ap Some (sym c.index-ons-i.is) in
    let split = silent_next c.args.ons.now c.args.heard.now i c.index-ons-i.result c.is_heard.result here c.is_heard.ensures in
    c.loop-i.invariant r d (puts_as _ d r (sym split) (puts_then d (silent_from (i + 1) (drop (i + 1) c.args.ons.now) c.args.heard.now) r c.in_ok-put_unheard.ensures p))

pub returns : goal.returns
returns g c =
    let all : length c.args.ons.now ≤ c.loop-i.i = search rules in
    c.loop-i.invariant (Ok tt) _ (puts_as _ _ (Ok tt) (silent_end c.args.ons.now c.args.heard.now c.loop-i.i all) (writes_none _))
