use Rattle.std.proofs.Common.{◌≡◌, ◌∙◌, ◌<◌, Some, length, refl, sym, ap, arith}
use Rattle.std.proofs.lemmas.Option.{slice_get_read}
use Rattle.std.proofs.lemmas.Result.{on_ok_weaker}
use Rattle.model_stack.specs.StackShape.{At}
use Rattle.mc_check.specs.declared.shape.Counts.{Counts}
use Rattle.mc_check.specs.Table.{routine_of}
use Rattle.mc_check.specs.Closing.{tables_of, found_fact}
use Rattle.mc_check.proofs.ClosingTables.{open_counted}
use Rattle.mc_check.proofs.ClosingBack.{real_found}
use Rattle.mc_check.proofs.ClosingDone.{routine_begins, known_counts, return_known, main_returns_not}
use Rattle.mc_check.proofs.closing.Closing.work_return.Goals as goal
use Rattle.mc_check.proofs.closing.Closing.work_return.Goals.{In-At}

pub returns-in_default-clause-due : goal.returns-in_default-clause-due
returns-in_default-clause-due c =
    absurd (main_returns_not c.args.code.now c.args.found (c.args.counts.less, c.args.counts.more) (ap routine_of c.in_default.is) c.requires.found c.requires.returns)

routine_at : (c : In-At) → (found_fact c.args.found).routine ≡ At c.in-At.routine
routine_at c = ap routine_of c.in-At.is

inside : (c : In-At) → c.in-At.routine < length c.args.code.now
inside c = routine_begins c.args.code.now c.args.found (tables_of c.args.self.now) c.requires.state c.requires.here c.requires.found c.in-At.routine (routine_at c)

pub index-requires : goal.index-requires
index-requires c = omega (arith, inside (goal.at.index-requires c).In-At, c.requires.state.fit.counts_size, c.args.self.now.counts.ok.0)

pub same_counts-requires-clause-known : goal.same_counts-requires-clause-known
same_counts-requires-clause-known c =
    let at = (goal.at.same_counts-requires-clause-known c).In-At in
    let there = slice_get_read c.args.self.now.counts.items _ c.in-At.routine c.index.result.now (sym c.requires.state.fit.counts_size) (inside at) c.index.ensures ∙ ap Some c.in-Some.is in
    known_counts c.args.code.now c.args.found (tables_of c.args.self.now) c.requires.state c.requires.here c.requires.found c.in-At.routine c.in-Some.known (routine_at at) there

pub returns-in-Some-clause-state : goal.returns-in-Some-clause-state
returns-in-Some-clause-state c =
    let at = (goal.at.returns-in-Some-clause-state c).In-At in
    let there = slice_get_read c.args.self.now.counts.items _ c.in-At.routine c.index.result.now (sym c.requires.state.fit.counts_size) (inside at) c.index.ensures ∙ ap Some c.in-Some.is in
    on_ok_weaker c.same_counts.result (λ same. return_known c.args.code.now c.args.found (tables_of c.args.self.now) c.requires.state c.requires.here c.requires.found c.in-At.routine c.args.counts (routine_at at) c.requires.returns
    (there ∙ ap (λ (x : Counts). Some (Some x)) same)) c.same_counts.ensures.same

pub come_back_all-requires-clause-real : goal.come_back_all-requires-clause-real
come_back_all-requires-clause-real c =
    let at = (goal.at.come_back_all-requires-clause-real c).In-At in
    real_found c.args.code.now c.args.found c.in-At.routine c.args.counts (routine_at at) (c.requires.state.fit.sound (found_fact c.args.found) c.requires.here).0 c.requires.found c.requires.returns

pub index_mut-requires : goal.index_mut-requires
index_mut-requires c = omega (arith, inside (goal.at.index_mut-requires c).In-At, c.in_ok-come_back_all.ensures.fit.counts_size, c.come_back_all.new.self.counts.ok.0)

pub returns-clause-state : goal.returns-clause-state
returns-clause-state c =
    let at = (goal.at.returns-clause-state c).In-At in
    let f = c.args.found in
    let q = c.in-At.routine in
    let old = tables_of c.args.self.now in
    let done = c.in_ok-come_back_all.ensures in
    let none = slice_get_read c.args.self.now.counts.items _ q c.index.result.now (sym c.requires.state.fit.counts_size) (inside at) c.index.ensures ∙ ap Some c.in_default-index.is in
    let real = real_found c.args.code.now f q c.args.counts (routine_at at) (c.requires.state.fit.sound (found_fact f) c.requires.here).0 c.requires.found c.requires.returns in
    open_counted c.args.code.now f.place old (tables_of c.come_back_all.new.self) (found_fact f) f.seen.ins f.seen.next q c.args.counts c.requires.state done.adds done.fit none (inside at) real done.back c.requires.here refl (routine_at at) c.requires.found.stands c.requires.returns
