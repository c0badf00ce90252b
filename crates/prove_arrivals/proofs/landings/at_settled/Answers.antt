use Rattle.std.proofs.Common.{◌≡◌, true, subst}
use Rattle.prove_facts.specs.model_prove.specs.Arrivals.{AtPlace}
use Rattle.prove_facts.specs.model_prove.specs.Keys.{Known}
use Rattle.prove_facts.specs.model_prove.specs.Tables.{includes}
use Rattle.prove_keys.specs.Keys.{place_of}
use Rattle.prove_arrivals.specs.Subjects.{classes_in, tables_in}
use Rattle.prove_arrivals.proofs.LandingLemmas.{settled_is}
use Rattle.prove_arrivals.proofs.landings.at_settled.Goals as goal

pub returns : goal.returns
returns c h names s o =
    let u = c.args.subject.now in
    subst (λ (k : Known). includes (tables_in names u) (AtPlace (place_of names (classes_in u) c.args.key.now) k) ≡ true)
    (settled_is c.args.spot.now u.sizes.fixed _ _ c.bytes.ensures c.last.ensures (c.in_ok-is_settled.ensures c.if-not-branch.false))
    (c.holds_settled.ensures names (classes_in u) u.sizes.fixed o.whole o.apart h)
