use Rattle.std.proofs.Common.{◌≡◌, ◌∙◌, List, length, ap, sym, arith}
use Rattle.std.proofs.lemmas.Result.{on_ok_weaker}
use Rattle.prove_forms.specs.declared.forms.Term.{Term}
use Rattle.prove_forms.specs.Forms.{terms_value, place_in}
use Rattle.prove_forms.proofs.TermLemmas.{appended, stored_at}
use Rattle.prove_forms.proofs.forms.add_term.Goals as goal

pub returns-then-place-len : goal.returns-then-place-len
returns-then-place-len c =
    let ts = c.args.terms.now.items in
    let at : c.place_of-place.result ≡ place_in c.args.term.at (terms_value ts) =
    c.place_of-place.ensures ∙ ap (λ (l : List Term). place_in c.args.term.at (terms_value l)) c.as_slice.ensures.value in
    let size : length ts ≡ c.len.result = sym (ap (λ (l : List Term). length l) c.as_slice.ensures.value) ∙ c.as_slice.ensures.len ∙ sym c.len.ensures in
    on_ok_weaker c.push.result
    (λ i. ap (λ (l : List Term). terms_value l) i ∙ appended ts c.args.term (omega (arith, at, size, c.if-place-len.true))) c.push.ensures

pub returns : goal.returns
returns c =
    let ts = c.args.terms.now.items in
    let at : c.place_of-place.result ≡ place_in c.args.term.at (terms_value ts) =
    c.place_of-place.ensures ∙ ap (λ (l : List Term). place_in c.args.term.at (terms_value l)) c.as_slice.ensures.value in
    let size : length ts ≡ c.len.result = sym (ap (λ (l : List Term). length l) c.as_slice.ensures.value) ∙ c.as_slice.ensures.len ∙ sym c.len.ensures in
    stored_at ts c.args.term c.index.result.now c.place_of-place.result at (omega (arith, size, c.if-place-len.false)) c.index.ensures
