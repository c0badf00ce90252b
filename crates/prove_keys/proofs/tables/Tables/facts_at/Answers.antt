use Rattle.std.proofs.Common.{◌≡◌, ◌<◌, List, length, get_or, sym, subst}
use Rattle.prove_facts.specs.model_prove.specs.Facts.{Facts}
use Rattle.prove_keys.proofs.TableLemmas.{if_some, moment_there}
use Rattle.prove_keys.proofs.tables.Tables.facts_at.Goals as goal

pub returns : goal.returns
returns c names classes fixed whole =
    let t = c.args.self.now in
    let i = c.in_ok-index.index in
    let same = c.as_slice.ensures.value in
    if_some _ _ c.item.result c.item.ensures
    (λ x h. moment_there names t.moments.keys t.facts.items c.args.key.now i x.now whole.moments (sym c.in_ok-index.ensures.index)
    (subst (λ (fs : List Facts). i < length fs) same h.0)
    (subst (λ (fs : List Facts). x.now ≡ get_or fs i x.now) same h.1))
