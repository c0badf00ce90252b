use Rattle.std.proofs.Common.{◌∙◌, ◌++◌, List, ap, sym}
use Rattle.std.proofs.lemmas.List.{map-append}
use Rattle.prove_forms.specs.declared.origins.Listed.{Listed}
use Rattle.prove_forms.specs.Origins.{origin_values, listed_value, listed_values, origins_value, listed_from}
use Rattle.prove_forms.proofs.OriginLemmas.{Entries, made, with_is}
use Rattle.prove_forms.proofs.origins.Origins.with.Goals as goal

pub returns : goal.returns
returns c =
    let gs = origin_values c.args.bytes.now in
    let new = listed_from c.args.at gs in
    let list =
    ap (λ (l : List Listed). listed_values l) c.in_ok-extend_from_slice.ensures.items ∙ map-append listed_value c.list_from.new.list.items c.as_slice.result.now
    ∙ ap (λ (r : Entries). r ++ listed_values c.as_slice.result.now) (c.in_ok-list_from.ensures ∙ ap (λ (l : List Listed). listed_values l ++ new) c.new-listed.ensures.items)
    ∙ ap (λ (l : List Listed). new ++ listed_values l) c.as_slice.ensures.value in
    ap (λ (r : Entries). made c.args.self.now.own r) list ∙ sym (with_is c.args.at gs (origins_value c.args.self.now))
