-- Each turn keeps the invariant, and each end is that of the whole run.
use Rattle.std.proofs.Common.{ℕ, ◌≡◌, List, Option, ◌+◌, ◌-◌, ◌∙◌, Ok, refl, subst, arith}
use Rattle.std.proofs.lemmas.Result.{err_from_is_err_and}
use Rattle.law_machine.specs.model_machine.specs.Chain.{start, turn_of}
use Rattle.mc_apdu.specs.Command.{parts_of}
use Rattle.mc_bank.specs.Bank.{name_or}
use Rattle.mc_machine.specs.Chains.{Chained, RunsAs, run_of_command}
use Rattle.mc_machine.specs.Lone.{lone_chain, LoneDone, RanDone}
use Rattle.mc_machine.specs.Turns.{reply_or_stop}
use Rattle.mc_machine.specs.declared.lone.Lone.{Lone}
use Rattle.mc_machine.specs.declared.lone.Lone.TheVariants.{Delegates}
use Rattle.mc_machine.proofs.LoneLemmas.{name_called}
use Rattle.mc_machine.proofs.RunLemmas.{Underway, underway, end_goes, end_ends, delegated_ends, underway_stops, underway_most, rest_ends, something_left, lone_left}
use Rattle.mc_machine.proofs.running.run_turns.Goals as goal

pub loop-turn-init : goal.loop-turn-init
loop-turn-init g c =
    let state = g.B.Bank.state in
    let named = g.B.Bank.named in
    let b = c.args.bank.now in
    let first = start (state b).apps (name_or (named b c.args.first)) c.args.session.now (parts_of c.args.apdu.now) in
    let here = lone_chain c.first_frame-frame.result c.open.new.self c.case-case.result c.unwrap_or-le.result (c.args.budget - 0) in
    let runs : RunsAs (state b) (named b) here first =
    record { map = refl; running = c.first_frame-frame.ensures; below = tt; public = c.open.ensures; case = c.case-case.ensures; le = c.unwrap_or-le.ensures; few = omega arith; apart = (tt, tt) } in
    record {
      session = refl;
      within = omega arith;
      underway = underway g.B.Bank b here first c.args.budget c.args.steps.now c.requires.going runs (omega arith);
    }

pub lone_turn-requires-clause-going : goal.lone_turn-requires-clause-going
lone_turn-requires-clause-going g c =
    let state = g.B.Bank.state in
    let named = g.B.Bank.named in
    let start = c.args.bank.now in
    let budget = c.args.budget in
    let whole = run_of_command (state start) (named start) c.args.first c.args.session.now c.args.apdu.now budget in
    let ticks = c.args.steps.now in
    let l = c.loop-turn in
    let u = l.invariant.underway in
    let case = c.case-case.result in
    let le = c.unwrap_or-le.result in
    let left = budget - l.turn in
    let here = lone_chain l.frame l.public case le left in
    u.going

pub lone_turn-requires-clause-fits : goal.lone_turn-requires-clause-fits
lone_turn-requires-clause-fits g c =
    let state = g.B.Bank.state in
    let named = g.B.Bank.named in
    let start = c.args.bank.now in
    let budget = c.args.budget in
    let whole = run_of_command (state start) (named start) c.args.first c.args.session.now c.args.apdu.now budget in
    let ticks = c.args.steps.now in
    let l = c.loop-turn in
    let u = l.invariant.underway in
    let case = c.case-case.result in
    let le = c.unwrap_or-le.result in
    let left = budget - l.turn in
    let here = lone_chain l.frame l.public case le left in
    u.runs.running.fits

pub unwrap-aid-requires : goal.unwrap-aid-requires
unwrap-aid-requires g c =
    let state = g.B.Bank.state in
    let named = g.B.Bank.named in
    let start = c.args.bank.now in
    let budget = c.args.budget in
    let whole = run_of_command (state start) (named start) c.args.first c.args.session.now c.args.apdu.now budget in
    let ticks = c.args.steps.now in
    let l = c.loop-turn in
    let u = l.invariant.underway in
    let case = c.case-case.result in
    let le = c.unwrap_or-le.result in
    let left = budget - l.turn in
    let here = lone_chain l.frame l.public case le left in
    let fits = c.min-few.ensures in
    let before = c.loop-turn-test.true in
    let some = something_left budget l.turn (omega (arith, fits, before)) in
    let e = c.lone_turn.new.bank in
    let now = c.lone_turn.new.steps in
    let after : ℕ → Chained = λ n. lone_chain c.lone_turn.new.frame c.lone_turn.new.public case le n in
    let count = c.in_ok-lone_turn.ensures.ticks u.chain le left some u.runs in
    let called = subst (λ (o : Lone). LoneDone g.B.Bank l.bank e here after u.chain (turn_of left u.chain) (Ok o) c.lone_turn.new.callee) c.in-Delegates.is (c.in_ok-lone_turn.ensures.done u.chain le left some u.runs) in
    name_called g.B.Bank l.bank e here after u.chain (turn_of left u.chain) c.lone_turn.new.callee called

pub run_chain-requires-clause-going : goal.run_chain-requires-clause-going
run_chain-requires-clause-going g c =
    let state = g.B.Bank.state in
    let named = g.B.Bank.named in
    let start = c.args.bank.now in
    let budget = c.args.budget in
    let whole = run_of_command (state start) (named start) c.args.first c.args.session.now c.args.apdu.now budget in
    let ticks = c.args.steps.now in
    let l = c.loop-turn in
    let u = l.invariant.underway in
    let case = c.case-case.result in
    let le = c.unwrap_or-le.result in
    let left = budget - l.turn in
    let here = lone_chain l.frame l.public case le left in
    let fits = c.min-few.ensures in
    let before = c.loop-turn-test.true in
    let some = something_left budget l.turn (omega (arith, fits, before)) in
    let e = c.lone_turn.new.bank in
    let now = c.lone_turn.new.steps in
    let after : ℕ → Chained = λ n. lone_chain c.lone_turn.new.frame c.lone_turn.new.public case le n in
    let count = c.in_ok-lone_turn.ensures.ticks u.chain le left some u.runs in
    let called = subst (λ (o : Lone). LoneDone g.B.Bank l.bank e here after u.chain (turn_of left u.chain) (Ok o) c.lone_turn.new.callee) c.in-Delegates.is (c.in_ok-lone_turn.ensures.done u.chain le left some u.runs) in
    let done = subst (λ (n : Option (List ℕ)). LoneDone g.B.Bank l.bank e here after u.chain (turn_of left u.chain) (Ok Delegates) n) c.unwrap-aid.ensures called in
    done.going

pub run_chain-requires-clause-fits : goal.run_chain-requires-clause-fits
run_chain-requires-clause-fits g c =
    let state = g.B.Bank.state in
    let named = g.B.Bank.named in
    let start = c.args.bank.now in
    let budget = c.args.budget in
    let whole = run_of_command (state start) (named start) c.args.first c.args.session.now c.args.apdu.now budget in
    let ticks = c.args.steps.now in
    let l = c.loop-turn in
    let u = l.invariant.underway in
    let case = c.case-case.result in
    let le = c.unwrap_or-le.result in
    let left = budget - l.turn in
    let here = lone_chain l.frame l.public case le left in
    let fits = c.min-few.ensures in
    let before = c.loop-turn-test.true in
    let some = something_left budget l.turn (omega (arith, fits, before)) in
    let e = c.lone_turn.new.bank in
    let now = c.lone_turn.new.steps in
    let after : ℕ → Chained = λ n. lone_chain c.lone_turn.new.frame c.lone_turn.new.public case le n in
    let count = c.in_ok-lone_turn.ensures.ticks u.chain le left some u.runs in
    let called = subst (λ (o : Lone). LoneDone g.B.Bank l.bank e here after u.chain (turn_of left u.chain) (Ok o) c.lone_turn.new.callee) c.in-Delegates.is (c.in_ok-lone_turn.ensures.done u.chain le left some u.runs) in
    let done = subst (λ (n : Option (List ℕ)). LoneDone g.B.Bank l.bank e here after u.chain (turn_of left u.chain) (Ok Delegates) n) c.unwrap-aid.ensures called in
    (done.chain, done.runs)

pub loop-turn-preserved : goal.loop-turn-preserved
loop-turn-preserved g c =
    let state = g.B.Bank.state in
    let named = g.B.Bank.named in
    let start = c.args.bank.now in
    let budget = c.args.budget in
    let whole = run_of_command (state start) (named start) c.args.first c.args.session.now c.args.apdu.now budget in
    let ticks = c.args.steps.now in
    let l = c.loop-turn in
    let u = l.invariant.underway in
    let case = c.case-case.result in
    let le = c.unwrap_or-le.result in
    let left = budget - l.turn in
    let here = lone_chain l.frame l.public case le left in
    let fits = c.min-few.ensures in
    let before = c.loop-turn-test.true in
    let some = something_left budget l.turn (omega (arith, fits, before)) in
    let e = c.lone_turn.new.bank in
    let now = c.lone_turn.new.steps in
    let after : ℕ → Chained = λ n. lone_chain c.lone_turn.new.frame c.lone_turn.new.public case le n in
    let count = c.in_ok-lone_turn.ensures.ticks u.chain le left some u.runs in
    let done = subst (λ (o : Lone). LoneDone g.B.Bank l.bank e here after u.chain (turn_of left u.chain) (Ok o) c.lone_turn.new.callee) c.in-Goes.is (c.in_ok-lone_turn.ensures.done u.chain le left some u.runs) in
    let v = end_goes g.B.Bank start whole ticks budget l.turn l.bank e here (after done.0) l.steps now u done.1 count in
    let total = v.left in
    record {
      session = l.invariant.session;
      within = omega (arith, before);
      underway = subst (λ (m : ℕ). Underway g.B.Bank start whole ticks budget (l.turn + 1) e (after m) now) (lone_left done.0 (l.turn + 1) budget total) v;
    }

pub returns-in_err-lone_turn : goal.returns-in_err-lone_turn
returns-in_err-lone_turn g c =
    let state = g.B.Bank.state in
    let named = g.B.Bank.named in
    let start = c.args.bank.now in
    let budget = c.args.budget in
    let whole = run_of_command (state start) (named start) c.args.first c.args.session.now c.args.apdu.now budget in
    let ticks = c.args.steps.now in
    let l = c.loop-turn in
    let u = l.invariant.underway in
    let case = c.case-case.result in
    let le = c.unwrap_or-le.result in
    let left = budget - l.turn in
    let here = lone_chain l.frame l.public case le left in
    let fits = c.min-few.ensures in
    let before = c.loop-turn-test.true in
    let some = something_left budget l.turn (omega (arith, fits, before)) in
    let e = c.lone_turn.new.bank in
    let now = c.lone_turn.new.steps in
    let after : ℕ → Chained = λ n. lone_chain c.lone_turn.new.frame c.lone_turn.new.public case le n in
    let p = err_from_is_err_and c.from_residual.result c.from_residual.ensures.1 in
    rw (p.1, p.2) (record {
      writes = underway_stops g.B.Bank start whole ticks budget l.turn l.bank e here l.steps u c.in_err-lone_turn.field-0.0 (c.in_err-lone_turn.ensures.done u.chain le left some u.runs);
      count = underway_most g.B.Bank start whole ticks budget l.turn l.bank here l.steps now u (c.in_err-lone_turn.ensures.ticks u.chain le left some u.runs);
      session = l.invariant.session;
    })

pub returns-in-Ends : goal.returns-in-Ends
returns-in-Ends g c =
    let state = g.B.Bank.state in
    let named = g.B.Bank.named in
    let start = c.args.bank.now in
    let budget = c.args.budget in
    let whole = run_of_command (state start) (named start) c.args.first c.args.session.now c.args.apdu.now budget in
    let ticks = c.args.steps.now in
    let l = c.loop-turn in
    let u = l.invariant.underway in
    let case = c.case-case.result in
    let le = c.unwrap_or-le.result in
    let left = budget - l.turn in
    let here = lone_chain l.frame l.public case le left in
    let fits = c.min-few.ensures in
    let before = c.loop-turn-test.true in
    let some = something_left budget l.turn (omega (arith, fits, before)) in
    let e = c.lone_turn.new.bank in
    let now = c.lone_turn.new.steps in
    let after : ℕ → Chained = λ n. lone_chain c.lone_turn.new.frame c.lone_turn.new.public case le n in
    let count = c.in_ok-lone_turn.ensures.ticks u.chain le left some u.runs in
    let done = subst (λ (o : Lone). LoneDone g.B.Bank l.bank e here after u.chain (turn_of left u.chain) (Ok o) c.lone_turn.new.callee) c.in-Ends.is (c.in_ok-lone_turn.ensures.done u.chain le left some u.runs) in
    let f = end_ends g.B.Bank start whole ticks budget l.turn l.bank e here (after done.0) l.steps now u c.in-Ends.end done.1 count in
    record { writes = f.writes; going = f.going; count = f.count; session = c.keep_session.ensures ∙ f.session; outcome = c.put_end.ensures ∙ f.outcome }

pub returns-in-Delegates : goal.returns-in-Delegates
returns-in-Delegates g c =
    let state = g.B.Bank.state in
    let named = g.B.Bank.named in
    let start = c.args.bank.now in
    let budget = c.args.budget in
    let whole = run_of_command (state start) (named start) c.args.first c.args.session.now c.args.apdu.now budget in
    let ticks = c.args.steps.now in
    let l = c.loop-turn in
    let u = l.invariant.underway in
    let case = c.case-case.result in
    let le = c.unwrap_or-le.result in
    let left = budget - l.turn in
    let here = lone_chain l.frame l.public case le left in
    let fits = c.min-few.ensures in
    let before = c.loop-turn-test.true in
    let some = something_left budget l.turn (omega (arith, fits, before)) in
    let e = c.lone_turn.new.bank in
    let now = c.lone_turn.new.steps in
    let after : ℕ → Chained = λ n. lone_chain c.lone_turn.new.frame c.lone_turn.new.public case le n in
    let count = c.in_ok-lone_turn.ensures.ticks u.chain le left some u.runs in
    let called = subst (λ (o : Lone). LoneDone g.B.Bank l.bank e here after u.chain (turn_of left u.chain) (Ok o) c.lone_turn.new.callee) c.in-Delegates.is (c.in_ok-lone_turn.ensures.done u.chain le left some u.runs) in
    let done = subst (λ (n : Option (List ℕ)). LoneDone g.B.Bank l.bank e here after u.chain (turn_of left u.chain) (Ok Delegates) n) c.unwrap-aid.ensures called in
    subst (λ (x : List ℕ). RanDone g.B.Bank start c.run_chain.new.bank x c.run_chain.new.session ticks c.run_chain.new.steps whole (reply_or_stop c.run_chain.result c.run_chain.new.reply)) l.invariant.session
    (delegated_ends g.B.Bank start whole ticks budget l.turn l.bank e here (after (left - 1)) l.steps now u c.unwrap-aid.result done count c.run_chain.new.bank l.session c.run_chain.new.session c.run_chain.new.steps (reply_or_stop c.run_chain.result c.run_chain.new.reply) (c.run_chain.ensures done.chain done.runs))

pub run_long-requires-clause-going : goal.run_long-requires-clause-going
run_long-requires-clause-going g c = c.loop-turn.invariant.underway.going

pub run_long-requires-clause-fits : goal.run_long-requires-clause-fits
run_long-requires-clause-fits g c =
    let state = g.B.Bank.state in
    let named = g.B.Bank.named in
    let start = c.args.bank.now in
    let budget = c.args.budget in
    let whole = run_of_command (state start) (named start) c.args.first c.args.session.now c.args.apdu.now budget in
    let ticks = c.args.steps.now in
    let l = c.loop-turn in
    let u = l.invariant.underway in
    let case = c.case-case.result in
    let le = c.unwrap_or-le.result in
    let left = budget - l.turn in
    let here = lone_chain l.frame l.public case le left in
    let few = c.min-few.result in
    let within = l.invariant.within in
    let done = c.loop-turn-test.false in
    let last : l.turn ≡ few = omega (arith, within, done) in
    let v = subst (λ (t : ℕ). Underway g.B.Bank start whole ticks budget t l.bank (lone_chain l.frame l.public case le (budget - t)) l.steps) last u in
    (v.chain, v.runs)

pub returns : goal.returns
returns g c =
    let state = g.B.Bank.state in
    let named = g.B.Bank.named in
    let start = c.args.bank.now in
    let budget = c.args.budget in
    let whole = run_of_command (state start) (named start) c.args.first c.args.session.now c.args.apdu.now budget in
    let ticks = c.args.steps.now in
    let l = c.loop-turn in
    let u = l.invariant.underway in
    let case = c.case-case.result in
    let le = c.unwrap_or-le.result in
    let left = budget - l.turn in
    let here = lone_chain l.frame l.public case le left in
    let few = c.min-few.result in
    let within = l.invariant.within in
    let done = c.loop-turn-test.false in
    let last : l.turn ≡ few = omega (arith, within, done) in
    let v = subst (λ (t : ℕ). Underway g.B.Bank start whole ticks budget t l.bank (lone_chain l.frame l.public case le (budget - t)) l.steps) last u in
    subst (λ (x : List ℕ). RanDone g.B.Bank start c.run_long.new.bank x c.run_long.new.session ticks c.run_long.new.steps whole (reply_or_stop c.run_long.result c.run_long.new.reply)) l.invariant.session
    (rest_ends g.B.Bank start whole ticks budget few l.bank (lone_chain l.frame l.public case le (budget - few)) l.steps v c.run_long.new.bank l.session c.run_long.new.session c.run_long.new.steps (reply_or_stop c.run_long.result c.run_long.new.reply) (c.run_long.ensures v.chain v.runs))
