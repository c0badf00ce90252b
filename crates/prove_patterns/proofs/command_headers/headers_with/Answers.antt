use Rattle.std.proofs.Common.{◌≡◌, ◌∙◌, List, ap}
use Rattle.std.proofs.lemmas.List.{map-append}
use Rattle.std.proofs.lemmas.Result.{IfOk-weaker}
use Rattle.std.specs.Prelude.{flat_map}
use Rattle.prove_facts.specs.model_prove.specs.Sets.{Set}
use Rattle.prove_facts.specs.model_prove.specs.Between as between
use Rattle.prove_facts.specs.model_prove.specs.Between.{with_header_byte}
use Rattle.prove_patterns.specs.declared.command_headers.Header.{Header}
use Rattle.prove_patterns.specs.Headers.{header_of, headers_of, bytes_of}
use Rattle.prove_patterns.proofs.HeaderLemmas.{headers_made}
use Rattle.prove_patterns.proofs.command_headers.headers_with.Goals as goal

-- headers with one byte more, of a list that is another
each : (s : Set) (r : List between.Header) (l m : List Header) → r ≡ flat_map (with_header_byte s) (headers_of l) → l ≡ m → r ≡ flat_map (with_header_byte s) (headers_of m)
each s r l m e f = e ∙ ap (λ (x : List Header). flat_map (with_header_byte s) (headers_of x)) f

pub returns : goal.returns
returns c =
    let b = bytes_of c.args.bytes.now in
    IfOk-weaker c.each_with_byte-6.result _ _
    (λ x e. headers_made b (header_of c.args.start.now) (headers_of c.in_ok-zero_class.zero_class.items) (headers_of c.in_ok-others.others.items) (headers_of c.in_ok-named.named.items) (headers_of c.in_ok-all.all.items)
    (headers_of c.in_ok-plain.plain.items) (headers_of c.in_ok-each_with_byte.field-0.items) (headers_of c.append.new.headers.items) (headers_of c.in_ok-each_with_byte-2.field-0.items) (headers_of c.append-2.new.headers.items) (headers_of x.items)
    c.in_ok-zero_class.ensures c.in_ok-others.ensures
    (each b.select _ _ _ c.in_ok-named.ensures c.as_slice.ensures.value) (each b.not_by_name _ _ _ c.in_ok-all.ensures c.as_slice-2.ensures.value)
    (each b.not_select _ _ _ c.in_ok-plain.ensures c.as_slice-3.ensures.value) (each b.every _ _ _ c.in_ok-each_with_byte.ensures c.as_slice-4.ensures.value)
    (ap (λ (l : List Header). headers_of l) c.in_ok-append.ensures ∙ map-append header_of c.in_ok-plain.plain.items c.in_ok-each_with_byte.field-0.items)
    (each b.every _ _ _ c.in_ok-each_with_byte-2.ensures c.as_slice-5.ensures.value)
    (ap (λ (l : List Header). headers_of l) c.in_ok-append-2.ensures ∙ map-append header_of c.in_ok-all.all.items c.in_ok-each_with_byte-2.field-0.items)
    (each b.every _ _ _ e c.as_slice-6.ensures.value)) c.each_with_byte-6.ensures
