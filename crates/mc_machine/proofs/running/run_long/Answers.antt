-- Each turn keeps the invariant, and each end is that of the whole run.
use Rattle.std.proofs.Common.{ℕ, List, Option, ◌+◌, ◌-◌, ◌∙◌, Ok, refl, sym, ap, subst, arith}
use Rattle.std.proofs.lemmas.Result.{err_from_is_err_and}
use Rattle.law_machine.specs.model_machine.specs.Chain.{run_of_chain, turn_of}
use Rattle.mc_segs.specs.HeldFrames.{app_under}
use Rattle.mc_machine.specs.Chains.{Chained, RunsAs}
use Rattle.mc_machine.specs.Lone.{lone_chain, LoneDone, RanDone}
use Rattle.mc_machine.specs.Turns.{reply_or_stop}
use Rattle.mc_machine.specs.declared.lone.Lone.{Lone}
use Rattle.mc_machine.specs.declared.lone.Lone.TheVariants.{Delegates}
use Rattle.mc_machine.proofs.LoneLemmas.{name_called}
use Rattle.mc_machine.proofs.RunLemmas.{Underway, underway, end_goes, end_ends, delegated_ends, underway_stops, underway_most, underway_spent, something_left, lone_left}
use Rattle.mc_machine.proofs.running.run_long.Goals as goal

pub loop-turn-init : goal.loop-turn-init
loop-turn-init g c =
    let b = c.args.bank.now in
    let here = lone_chain c.args.frame.now c.args.public.now c.args.case c.args.le (c.args.left - 0) in
    record {
      session = refl;
      underway = λ ch r.
          let runs : RunsAs (g.B.Bank.state b) (g.B.Bank.named b) here ch =
          record { map = r.map; running = r.running; below = r.below; public = r.public; case = r.case; le = r.le; few = r.few; apart = r.apart } in
          underway g.B.Bank b here ch c.args.left c.args.steps.now c.requires.going runs (omega arith);
      knows = c.blank-table.ensures (app_under (g.B.Bank.state b) (g.B.Bank.named b) c.args.frame.now).code;
    }

pub known_turn-requires-clause-going : goal.known_turn-requires-clause-going
known_turn-requires-clause-going g c =
    let state = g.B.Bank.state in
    let named = g.B.Bank.named in
    let start = c.args.bank.now in
    let budget = c.args.left in
    let ch = c.requires.fits.0 in
    let whole = run_of_chain budget ch in
    let ticks = c.args.steps.now in
    let l = c.loop-turn in
    let u = l.invariant.underway ch c.requires.fits.1 in
    let case = c.args.case in
    let le = c.args.le in
    let left = budget - l.turn in
    let here = lone_chain l.frame l.public case le left in
    u.going

pub known_turn-requires-clause-fits : goal.known_turn-requires-clause-fits
known_turn-requires-clause-fits g c =
    let state = g.B.Bank.state in
    let named = g.B.Bank.named in
    let start = c.args.bank.now in
    let budget = c.args.left in
    let ch = c.requires.fits.0 in
    let whole = run_of_chain budget ch in
    let ticks = c.args.steps.now in
    let l = c.loop-turn in
    let u = l.invariant.underway ch c.requires.fits.1 in
    let case = c.args.case in
    let le = c.args.le in
    let left = budget - l.turn in
    let here = lone_chain l.frame l.public case le left in
    u.runs.running.fits

pub unwrap-aid-requires : goal.unwrap-aid-requires
unwrap-aid-requires g c =
    let state = g.B.Bank.state in
    let named = g.B.Bank.named in
    let start = c.args.bank.now in
    let budget = c.args.left in
    let ch = c.requires.fits.0 in
    let whole = run_of_chain budget ch in
    let ticks = c.args.steps.now in
    let l = c.loop-turn in
    let u = l.invariant.underway ch c.requires.fits.1 in
    let case = c.args.case in
    let le = c.args.le in
    let left = budget - l.turn in
    let here = lone_chain l.frame l.public case le left in
    let some = something_left budget l.turn c.loop-turn-test.true in
    let e = c.known_turn.new.bank in
    let now = c.known_turn.new.steps in
    let after : ℕ → Chained = λ n. lone_chain c.known_turn.new.frame c.known_turn.new.public case le n in
    let count = c.in_ok-known_turn.ensures.ticks u.chain le left some u.runs in
    let called = subst (λ (o : Lone). LoneDone g.B.Bank l.bank e here after u.chain (turn_of left u.chain) (Ok o) c.known_turn.new.callee) c.in-Delegates.is (c.in_ok-known_turn.ensures.done u.chain le left some u.runs) in
    name_called g.B.Bank l.bank e here after u.chain (turn_of left u.chain) c.known_turn.new.callee called

pub run_chain-requires-clause-going : goal.run_chain-requires-clause-going
run_chain-requires-clause-going g c =
    let state = g.B.Bank.state in
    let named = g.B.Bank.named in
    let start = c.args.bank.now in
    let budget = c.args.left in
    let ch = c.requires.fits.0 in
    let whole = run_of_chain budget ch in
    let ticks = c.args.steps.now in
    let l = c.loop-turn in
    let u = l.invariant.underway ch c.requires.fits.1 in
    let case = c.args.case in
    let le = c.args.le in
    let left = budget - l.turn in
    let here = lone_chain l.frame l.public case le left in
    let some = something_left budget l.turn c.loop-turn-test.true in
    let e = c.known_turn.new.bank in
    let now = c.known_turn.new.steps in
    let after : ℕ → Chained = λ n. lone_chain c.known_turn.new.frame c.known_turn.new.public case le n in
    let count = c.in_ok-known_turn.ensures.ticks u.chain le left some u.runs in
    let called = subst (λ (o : Lone). LoneDone g.B.Bank l.bank e here after u.chain (turn_of left u.chain) (Ok o) c.known_turn.new.callee) c.in-Delegates.is (c.in_ok-known_turn.ensures.done u.chain le left some u.runs) in
    let done = subst (λ (n : Option (List ℕ)). LoneDone g.B.Bank l.bank e here after u.chain (turn_of left u.chain) (Ok Delegates) n) c.unwrap-aid.ensures called in
    done.going

pub run_chain-requires-clause-fits : goal.run_chain-requires-clause-fits
run_chain-requires-clause-fits g c =
    let state = g.B.Bank.state in
    let named = g.B.Bank.named in
    let start = c.args.bank.now in
    let budget = c.args.left in
    let ch = c.requires.fits.0 in
    let whole = run_of_chain budget ch in
    let ticks = c.args.steps.now in
    let l = c.loop-turn in
    let u = l.invariant.underway ch c.requires.fits.1 in
    let case = c.args.case in
    let le = c.args.le in
    let left = budget - l.turn in
    let here = lone_chain l.frame l.public case le left in
    let some = something_left budget l.turn c.loop-turn-test.true in
    let e = c.known_turn.new.bank in
    let now = c.known_turn.new.steps in
    let after : ℕ → Chained = λ n. lone_chain c.known_turn.new.frame c.known_turn.new.public case le n in
    let count = c.in_ok-known_turn.ensures.ticks u.chain le left some u.runs in
    let called = subst (λ (o : Lone). LoneDone g.B.Bank l.bank e here after u.chain (turn_of left u.chain) (Ok o) c.known_turn.new.callee) c.in-Delegates.is (c.in_ok-known_turn.ensures.done u.chain le left some u.runs) in
    let done = subst (λ (n : Option (List ℕ)). LoneDone g.B.Bank l.bank e here after u.chain (turn_of left u.chain) (Ok Delegates) n) c.unwrap-aid.ensures called in
    let moved = subst (λ (p : List ℕ). RunsAs (state e) (named e) (lone_chain c.known_turn.new.frame p case le (left - 1)) done.chain) (sym c.replace-segment.ensures.value) done.runs in
    (done.chain, moved)

pub loop-turn-preserved : goal.loop-turn-preserved
loop-turn-preserved g c =
    record {
      session = c.loop-turn.invariant.session;
      underway = λ ch r.
          let start = c.args.bank.now in
          let budget = c.args.left in
          let whole = run_of_chain budget ch in
          let ticks = c.args.steps.now in
          let l = c.loop-turn in
          let u = l.invariant.underway ch r in
          let case = c.args.case in
          let le = c.args.le in
          let left = budget - l.turn in
          let here = lone_chain l.frame l.public case le left in
          let some = something_left budget l.turn c.loop-turn-test.true in
          let e = c.known_turn.new.bank in
          let now = c.known_turn.new.steps in
          let after : ℕ → Chained = λ n. lone_chain c.known_turn.new.frame c.known_turn.new.public case le n in
          let count = c.in_ok-known_turn.ensures.ticks u.chain le left some u.runs in
          let done = subst (λ (o : Lone). LoneDone g.B.Bank l.bank e here after u.chain (turn_of left u.chain) (Ok o) c.known_turn.new.callee) c.in-Goes.is (c.in_ok-known_turn.ensures.done u.chain le left some u.runs) in
          let v = end_goes g.B.Bank start whole ticks budget l.turn l.bank e here (after done.0) l.steps now u done.1 count in
          let total = v.left in
          subst (λ (m : ℕ). Underway g.B.Bank start whole ticks budget (l.turn + 1) e (after m) now) (lone_left done.0 (l.turn + 1) budget total) v;
      knows = c.in_ok-known_turn.ensures.knows (ap Ok c.in-Goes.is);
    }

pub returns-in_err-known_turn : goal.returns-in_err-known_turn
returns-in_err-known_turn g c ch r =
    let state = g.B.Bank.state in
    let named = g.B.Bank.named in
    let start = c.args.bank.now in
    let budget = c.args.left in
    let whole = run_of_chain budget ch in
    let ticks = c.args.steps.now in
    let l = c.loop-turn in
    let u = l.invariant.underway ch r in
    let case = c.args.case in
    let le = c.args.le in
    let left = budget - l.turn in
    let here = lone_chain l.frame l.public case le left in
    let some = something_left budget l.turn c.loop-turn-test.true in
    let e = c.known_turn.new.bank in
    let now = c.known_turn.new.steps in
    let after : ℕ → Chained = λ n. lone_chain c.known_turn.new.frame c.known_turn.new.public case le n in
    let p = err_from_is_err_and c.from_residual.result c.from_residual.ensures.1 in
    rw (p.1, p.2) (record {
      writes = underway_stops g.B.Bank start whole ticks budget l.turn l.bank e here l.steps u c.in_err-known_turn.field-0.0 (c.in_err-known_turn.ensures.done u.chain le left some u.runs);
      count = underway_most g.B.Bank start whole ticks budget l.turn l.bank here l.steps now u (c.in_err-known_turn.ensures.ticks u.chain le left some u.runs);
      session = l.invariant.session;
    })

pub returns-in-Ends : goal.returns-in-Ends
returns-in-Ends g c ch r =
    let state = g.B.Bank.state in
    let named = g.B.Bank.named in
    let start = c.args.bank.now in
    let budget = c.args.left in
    let whole = run_of_chain budget ch in
    let ticks = c.args.steps.now in
    let l = c.loop-turn in
    let u = l.invariant.underway ch r in
    let case = c.args.case in
    let le = c.args.le in
    let left = budget - l.turn in
    let here = lone_chain l.frame l.public case le left in
    let some = something_left budget l.turn c.loop-turn-test.true in
    let e = c.known_turn.new.bank in
    let now = c.known_turn.new.steps in
    let after : ℕ → Chained = λ n. lone_chain c.known_turn.new.frame c.known_turn.new.public case le n in
    let count = c.in_ok-known_turn.ensures.ticks u.chain le left some u.runs in
    let done = subst (λ (o : Lone). LoneDone g.B.Bank l.bank e here after u.chain (turn_of left u.chain) (Ok o) c.known_turn.new.callee) c.in-Ends.is (c.in_ok-known_turn.ensures.done u.chain le left some u.runs) in
    let f = end_ends g.B.Bank start whole ticks budget l.turn l.bank e here (after done.0) l.steps now u c.in-Ends.end done.1 count in
    record { writes = f.writes; going = f.going; count = f.count; session = c.keep_session.ensures ∙ f.session; outcome = c.put_end.ensures ∙ f.outcome }

pub returns-in-Delegates : goal.returns-in-Delegates
returns-in-Delegates g c ch r =
    let state = g.B.Bank.state in
    let named = g.B.Bank.named in
    let start = c.args.bank.now in
    let budget = c.args.left in
    let whole = run_of_chain budget ch in
    let ticks = c.args.steps.now in
    let l = c.loop-turn in
    let u = l.invariant.underway ch r in
    let case = c.args.case in
    let le = c.args.le in
    let left = budget - l.turn in
    let here = lone_chain l.frame l.public case le left in
    let some = something_left budget l.turn c.loop-turn-test.true in
    let e = c.known_turn.new.bank in
    let now = c.known_turn.new.steps in
    let after : ℕ → Chained = λ n. lone_chain c.known_turn.new.frame c.known_turn.new.public case le n in
    let count = c.in_ok-known_turn.ensures.ticks u.chain le left some u.runs in
    let called = subst (λ (o : Lone). LoneDone g.B.Bank l.bank e here after u.chain (turn_of left u.chain) (Ok o) c.known_turn.new.callee) c.in-Delegates.is (c.in_ok-known_turn.ensures.done u.chain le left some u.runs) in
    let done = subst (λ (n : Option (List ℕ)). LoneDone g.B.Bank l.bank e here after u.chain (turn_of left u.chain) (Ok Delegates) n) c.unwrap-aid.ensures called in
    let moved = subst (λ (p : List ℕ). RunsAs (state e) (named e) (lone_chain c.known_turn.new.frame p case le (left - 1)) done.chain) (sym c.replace-segment.ensures.value) done.runs in
    subst (λ (x : List ℕ). RanDone g.B.Bank start c.run_chain.new.bank x c.run_chain.new.session ticks c.run_chain.new.steps whole (reply_or_stop c.run_chain.result c.run_chain.new.reply)) l.invariant.session
    (delegated_ends g.B.Bank start whole ticks budget l.turn l.bank e here (after (left - 1)) l.steps now u c.unwrap-aid.result done count c.run_chain.new.bank l.session c.run_chain.new.session c.run_chain.new.steps (reply_or_stop c.run_chain.result c.run_chain.new.reply) (c.run_chain.ensures done.chain moved))

pub returns : goal.returns
returns g c ch r =
    let state = g.B.Bank.state in
    let named = g.B.Bank.named in
    let start = c.args.bank.now in
    let budget = c.args.left in
    let whole = run_of_chain budget ch in
    let ticks = c.args.steps.now in
    let l = c.loop-turn in
    let u = l.invariant.underway ch r in
    let case = c.args.case in
    let le = c.args.le in
    let left = budget - l.turn in
    let here = lone_chain l.frame l.public case le left in
    let f = underway_spent g.B.Bank start whole ticks budget l.turn l.bank here l.steps u c.loop-turn-test.false in
    record { writes = f.writes; going = f.going; count = f.count; session = c.keep_session-2.ensures ∙ f.session; outcome = f.outcome }

pub known_turn-requires-clause-knows : goal.known_turn-requires-clause-knows
known_turn-requires-clause-knows g c = c.loop-turn.invariant.knows
