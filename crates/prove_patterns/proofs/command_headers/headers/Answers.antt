use Rattle.std.proofs.Common.{◌≡◌, ◌∙◌, List, ap, subst, map}
use Rattle.std.specs.Prelude.{IfOk}
use Rattle.prove_facts.specs.model_prove.specs.Between as between
use Rattle.prove_facts.specs.declared.values.Values.{Values}
use Rattle.prove_facts.specs.Sets.{set_of}
use Rattle.prove_facts.proofs.SetLemmas.{full_is}
use Rattle.prove_patterns.specs.Opens.{opens_of}
use Rattle.prove_patterns.specs.Headers.{ByteSets, headers_of, headers_with, header_bytes}
use Rattle.prove_patterns.proofs.HeaderLemmas.{bytes_are}
use Rattle.prove_patterns.proofs.command_headers.headers.Goals as goal

pub returns : goal.returns
returns c =
    let bytes = bytes_are _ _ _ _ _ _ c.one.ensures.set c.all_but_three.ensures c.one-2.ensures.set c.all_but_one.ensures c.all_but_one-2.ensures full_is in
    let start =
    ap (λ (b : ByteSets). headers_with b (record { left = opens_of c.args.opens.items; sets = map set_of c.new.result.items })) bytes
    ∙ ap (λ (l : List Values). headers_with header_bytes (record { left = opens_of c.args.opens.items; sets = map set_of l })) c.new.ensures.items
    in
    subst (λ (hs : List between.Header). IfOk c.headers_with.result (λ h. headers_of h.items ≡ hs)) start c.headers_with.ensures
