use Rattle.std.proofs.Common.{◌≡◌, Bool, true, sym, subst}
use Rattle.prove_facts.specs.model_prove.specs.Keys.{known_follows}
use Rattle.prove_keys.specs.Compares.{said}
use Rattle.prove_keys.specs.Known.{known_of, settled_of}
use Rattle.prove_keys.proofs.TableLemmas.{known_there}
use Rattle.prove_keys.proofs.tables.Tables.holds_settled.Goals as goal

pub returns-in-Some : goal.returns-in-Some
returns-in-Some c names classes fixed whole distinct e =
    let k = settled_of fixed c.args.bytes.now (said c.args.last.now) in
    let held = c.in-Some.held.now in
    known_there k (known_of c.args.key.now.registers.protected fixed held) _ (c.in-Some.ensures names classes fixed whole distinct)
    (subst (λ (b : Bool). known_follows k (known_of b fixed held) ≡ true) (sym c.if-key.false) (c.follows_settled.ensures fixed e))
