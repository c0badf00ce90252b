use Rattle.std.proofs.Common.{arith, flat_map}
use Rattle.prove_facts.specs.model_prove.specs.Arrivals as arrivals
use Rattle.prove_keys.specs.Keys.{amounts_of}
use Rattle.prove_arrivals.specs.Subjects.{Accepts, known_in, start_in, tables_in}
use Rattle.prove_arrivals.proofs.IncludedLemmas.{next_included, none_included}
use Rattle.prove_arrivals.proofs.turns.all_abended.Goals as goal

pub loop-cause-preserved : goal.loop-cause-preserved
loop-cause-preserved c names s o =
    let u = c.args.subject.now in
    let f = arrivals.abended s (start_in u c.args.begun) (amounts_of names c.args.amounts.now) (known_in c.args.spot.now) in
    next_included (tables_in names u) f c.args.causes.now c.loop-cause.cause-index _ (Accepts names u (flat_map f c.args.causes.now)) (omega arith)
    (c.in_ok-abended.ensures c.if-not-branch.false names s o) (c.loop-cause.invariant names s o)

pub returns : goal.returns
returns c t names s o =
    let u = c.args.subject.now in
    let f = arrivals.abended s (start_in u c.args.begun) (amounts_of names c.args.amounts.now) (known_in c.args.spot.now) in
    c.loop-cause.invariant names s o (none_included (tables_in names u) f c.args.causes.now c.loop-cause.cause-index (omega arith))
