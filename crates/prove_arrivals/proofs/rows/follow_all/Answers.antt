use Rattle.std.proofs.Common.{◌≡◌, true, arith, flat_map, subst}
use Rattle.prove_spots.specs.Grounds.{Ground}
use Rattle.prove_facts.specs.model_prove.specs.Tables.{includes_all}
use Rattle.prove_arrivals.specs.Following.{followed}
use Rattle.prove_arrivals.specs.Subjects.{Accepts, tables_in}
use Rattle.prove_arrivals.proofs.IncludedLemmas.{next_included, none_included}
use Rattle.prove_arrivals.proofs.rows.follow_all.Goals as goal

pub loop-after-preserved : goal.loop-after-preserved
loop-after-preserved c names s i o t =
    let u = c.args.subject.now in
    let f = followed names s i u c.args.row.now c.args.amounts.now in
    next_included (tables_in names u) f c.args.places.now c.loop-after.after-index c.after-item.result (Accepts names u (flat_map f c.args.places.now)) (omega arith)
    (subst (λ (g : Ground). includes_all (tables_in names u) (f g) ≡ true) c.after-item.is (c.in_ok-follows_settled.ensures c.if-not-branch.false names s i o t))
    (c.loop-after.invariant names s i o t)

pub returns : goal.returns
returns c h names s i o t =
    let u = c.args.subject.now in
    let f = followed names s i u c.args.row.now c.args.amounts.now in
    c.loop-after.invariant names s i o t (none_included (tables_in names u) f c.args.places.now c.loop-after.after-index (omega arith))
