use Rattle.std.proofs.Common.{◌≡◌, ◌<◌, List, length, get_or, sym, subst}
use Rattle.prove_keys.specs.declared.known.PackedKnown.{PackedKnown}
use Rattle.prove_keys.proofs.TableLemmas.{if_some, place_there}
use Rattle.prove_keys.proofs.tables.Tables.known_at.Goals as goal

pub returns : goal.returns
returns c names classes fixed whole distinct =
    let t = c.args.self.now in
    let i = c.in_ok-index.index in
    let same = c.as_slice.ensures.value in
    if_some _ _ c.item.result c.item.ensures
    (λ x h. place_there names classes fixed t.places.keys t.known.items c.args.key.now i x.now distinct whole.places (sym c.in_ok-index.ensures.index)
    (subst (λ (ps : List PackedKnown). i < length ps) same h.0)
    (subst (λ (ps : List PackedKnown). x.now ≡ get_or ps i x.now) same h.1))
