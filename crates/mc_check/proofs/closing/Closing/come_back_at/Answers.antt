use Rattle.std.proofs.Common.{◌≡◌, ◌∙◌, Some, sym, ap, slice_get}
use Rattle.std.proofs.lemmas.Option.{slice_get_read, none-some, same_Some}
use Rattle.std.proofs.lemmas.Result.{on_ok_weaker}
use Rattle.mc_check.proofs.ClosingBack.{back_at, back_not}
use Rattle.mc_check.proofs.closing.Closing.come_back_at.Goals as goal
use Rattle.mc_check.proofs.closing.Closing.come_back_at.Goals.{In-Some}

entry_there : (c : In-Some) → slice_get c.args.self.now.table.items c.args.place ≡ Some (Some c.in-Some.entry)
entry_there c =
    slice_get_read c.args.self.now.table.items _ c.args.place c.index.result.now (sym c.requires.fit.size) c.requires.inside c.index.ensures ∙ ap Some c.in-Some.is

pub returns-in-Some-call_target-clause-back : goal.returns-in-Some-call_target-clause-back
returns-in-Some-call_target-clause-back c =
    let t = c.args.self.now.table.items in
    let new = c.come_back.new.self.table.items in
    let found = c.in_ok-found in
    let here = entry_there (goal.at.returns-in-Some-call_target-clause-back c).In-Some in
    on_ok_weaker c.come_back.result (back_at c.args.code.now t new c.args.place c.args.routine c.args.counts c.in-Some.entry found.found here found.ensures.place found.ensures.entry found.ensures.found) c.come_back.ensures.back

pub returns-in_default-call_target-clause-back : goal.returns-in_default-call_target-clause-back
returns-in_default-call_target-clause-back c =
    let t = c.args.self.now.table.items in
    let found = c.in_ok-found in
    let here = entry_there (goal.at.returns-in_default-call_target-clause-back c).In-Some in
    back_not c.args.code.now t t c.args.place c.args.routine c.args.counts c.in-Some.entry found.found here found.ensures.place found.ensures.entry found.ensures.found
    (λ call. c.if-to-routine.false (same_Some c.in-Some-call_target.to c.args.routine (sym c.in-Some-call_target.is ∙ c.call_target.ensures ∙ call)))

pub returns-in_default-call_target-2-clause-back : goal.returns-in_default-call_target-2-clause-back
returns-in_default-call_target-2-clause-back c =
    let t = c.args.self.now.table.items in
    let found = c.in_ok-found in
    let here = entry_there (goal.at.returns-in_default-call_target-2-clause-back c).In-Some in
    back_not c.args.code.now t t c.args.place c.args.routine c.args.counts c.in-Some.entry found.found here found.ensures.place found.ensures.entry found.ensures.found
    (λ call. none-some c.args.routine (sym c.in_default-call_target.is ∙ c.call_target.ensures ∙ call))
