use Rattle.std.proofs.Common.{◌≡◌, ◌∙◌, ◌<◌, Some, None, length, sym, ap, slice_get, arith}
use Rattle.std.proofs.lemmas.Option.{slice_get_read}
use Rattle.mc_check.specs.Closing.{tables_of, found_fact}
use Rattle.mc_check.proofs.ClosingPlaces.{routine_inside}
use Rattle.mc_check.proofs.ClosingBack.{on_ok_both, back_known}
use Rattle.mc_check.proofs.closing.Closing.come_back_known.Goals as goal
use Rattle.mc_check.proofs.closing.Closing.come_back_known.Goals.{In-Some, Start}

inside : (c : Start) → c.args.routine < length c.args.code.now
inside c = routine_inside c.args.code.now (found_fact c.args.found) c.args.found.seen.ins c.args.found.seen.next c.args.routine c.requires.found.stands c.requires.calls

pub index-requires : goal.index-requires
index-requires c = omega (arith, inside (goal.at.index-requires c).Start, c.requires.fit.counts_size, c.args.self.now.counts.ok.0)

counts_there : (c : In-Some) → c.args.routine < length c.args.code.now → slice_get c.args.self.now.counts.items c.args.routine ≡ Some (Some c.in-Some.counts)
counts_there c low =
    slice_get_read c.args.self.now.counts.items _ c.args.routine c.index.result.now (sym c.requires.fit.counts_size) low c.index.ensures ∙ ap Some c.in-Some.is

pub come_back-requires-clause-calls : goal.come_back-requires-clause-calls
come_back-requires-clause-calls c = (c.args.routine, c.requires.calls, c.requires.fit.real c.args.routine c.in-Some.counts (counts_there (goal.at.come_back-requires-clause-calls c).In-Some (inside (goal.at.come_back-requires-clause-calls c).Start)))

pub returns-in-Some-clause-back : goal.returns-in-Some-clause-back
returns-in-Some-clause-back c =
    let f = c.args.found in
    let there = counts_there (goal.at.returns-in-Some-clause-back c).In-Some (inside (goal.at.returns-in-Some-clause-back c).Start) in
    on_ok_both c.come_back.result (λ adds comes. back_known (tables_of c.args.self.now) (tables_of c.come_back.new.self) (found_fact f) f.seen.next c.args.routine c.in-Some.counts there adds comes) c.come_back.ensures.adds c.come_back.ensures.back

pub returns-in-None-clause-back : goal.returns-in-None-clause-back
returns-in-None-clause-back c =
    let low = inside (goal.at.returns-in-None-clause-back c).Start in
    let none : slice_get c.args.self.now.counts.items c.args.routine ≡ Some None = slice_get_read c.args.self.now.counts.items _ c.args.routine c.index.result.now (sym c.requires.fit.counts_size) low c.index.ensures ∙ ap Some c.in-None.is in
    λ d there. absurd (cc (none, there))
