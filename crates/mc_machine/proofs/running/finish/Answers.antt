-- Each turn keeps the invariant, and each end is that of the whole run.
use Rattle.std.proofs.Common.{◌∙◌, refl}
use Rattle.std.proofs.lemmas.Result.{err_from_is_err_and}
use Rattle.law_machine.specs.model_machine.specs.Chain.{run_of_chain}
use Rattle.mc_machine.proofs.RunLemmas.{underway, underway_goes, underway_ends, underway_stops, underway_most, underway_spent}
use Rattle.mc_machine.proofs.running.finish.Goals as goal

pub loop-turn-init : goal.loop-turn-init
loop-turn-init g c =
    record {
      session = refl;
      underway = λ ch r. underway g.B.Bank c.args.bank.now c.args.chain.now ch c.args.left c.args.steps.now c.requires.going r c.requires.left;
    }

pub act-requires-clause-going : goal.act-requires-clause-going
act-requires-clause-going g c = (c.loop-turn.invariant.underway c.requires.fits.0 c.requires.fits.1).going

pub act-requires-clause-fits : goal.act-requires-clause-fits
act-requires-clause-fits g c =
    let u = c.loop-turn.invariant.underway c.requires.fits.0 c.requires.fits.1 in
    (u.chain, u.runs)

pub loop-turn-preserved : goal.loop-turn-preserved
loop-turn-preserved g c =
    record {
      session = c.loop-turn.invariant.session;
      underway = λ ch r.
          let u = c.loop-turn.invariant.underway ch r in
          underway_goes g.B.Bank c.args.bank.now (run_of_chain c.args.left ch) c.args.steps.now c.args.left c.loop-turn._turn c.loop-turn.bank c.act.new.bank c.loop-turn.chain c.act.new.chain c.loop-turn.steps c.act.new.steps u c.in_ok-end.field-0 c.in_default.is (c.in_ok-end.ensures.done u.chain u.runs) (c.in_ok-end.ensures.ticks u.chain u.runs);
    }

pub returns-in_err-end : goal.returns-in_err-end
returns-in_err-end g c ch r =
    let u = c.loop-turn.invariant.underway ch r in
    let p = err_from_is_err_and c.from_residual.result c.from_residual.ensures.1 in
    rw (p.1, p.2) (record {
      writes = underway_stops g.B.Bank c.args.bank.now (run_of_chain c.args.left ch) c.args.steps.now c.args.left c.loop-turn._turn c.loop-turn.bank c.act.new.bank c.loop-turn.chain c.loop-turn.steps u c.in_err-end.field-0.0 (c.in_err-end.ensures.done u.chain u.runs);
      count = underway_most g.B.Bank c.args.bank.now (run_of_chain c.args.left ch) c.args.steps.now c.args.left c.loop-turn._turn c.loop-turn.bank c.loop-turn.chain c.loop-turn.steps c.act.new.steps u (c.in_err-end.ensures.ticks u.chain u.runs);
      session = c.loop-turn.invariant.session;
    })

pub returns-in-Some : goal.returns-in-Some
returns-in-Some g c ch r =
    let u = c.loop-turn.invariant.underway ch r in
    let f = underway_ends g.B.Bank c.args.bank.now (run_of_chain c.args.left ch) c.args.steps.now c.args.left c.loop-turn._turn c.loop-turn.bank c.act.new.bank c.loop-turn.chain c.act.new.chain c.loop-turn.steps c.act.new.steps u c.in_ok-end.field-0 c.in-Some.end c.in-Some.is (c.in_ok-end.ensures.done u.chain u.runs) (c.in_ok-end.ensures.ticks u.chain u.runs) in
    record { writes = f.writes; going = f.going; count = f.count; session = c.session.ensures ∙ f.session; outcome = c.put_end.ensures ∙ f.outcome }

pub returns : goal.returns
returns g c ch r =
    let f = underway_spent g.B.Bank c.args.bank.now (run_of_chain c.args.left ch) c.args.steps.now c.args.left c.loop-turn._turn c.loop-turn.bank c.loop-turn.chain c.loop-turn.steps (c.loop-turn.invariant.underway ch r) c.loop-turn-test.false in
    record { writes = f.writes; going = f.going; count = f.count; session = c.session-2.ensures ∙ f.session; outcome = f.outcome }
