use Rattle.std.proofs.Common.{◌∙◌, length, ◌++◌, ℕ, List, [], ◌∷◌, Vec, Bor, Global, ap, sym}
use Rattle.std.proofs.lemmas.List.{length-map, map-append}
use Rattle.std.proofs.lemmas.Result.{on_ok_weaker}
use Rattle.prove_facts.specs.model_prove.specs.Sets.{Set}
use Rattle.prove_patterns.specs.declared.command_headers.Group.{Group}
use Rattle.prove_patterns.specs.Opens.{opens_of}
use Rattle.prove_patterns.specs.Headers.{group_of, groups_of, place_of}
use Rattle.prove_patterns.proofs.HeaderLemmas.{left_put, left_new}
use Rattle.prove_patterns.proofs.command_headers.add_left.Goals as goal

pub returns-then-place-len : goal.returns-then-place-len
returns-then-place-len c =
    let gs = c.args.groups.now.items in
    let at =
    c.place_of-place.ensures ∙ ap (λ (l : List (Vec (Bor (List ℕ)) Global)). place_of (opens_of l) (groups_of c.as_slice.result.now)) c.as_slice-2.ensures.value
    ∙ ap (λ (l : List Group). place_of (opens_of c.args.left.items) (groups_of l)) c.as_slice.ensures.value
    in
    left_put c.args.byte c.place_of-place.result c.len.result (opens_of c.args.left.items) (groups_of gs) (groups_of c.add_value.new.groups.items) at (length-map gs group_of ∙ sym (ap (λ (l : List Group). length l) c.as_slice.ensures.value) ∙ c.as_slice.ensures.len ∙ sym c.len.ensures) c.if-place-len.true c.add_value.ensures

pub returns : goal.returns
returns c =
    let gs = c.args.groups.now.items in
    let o = opens_of c.args.left.items in
    let at =
    c.place_of-place.ensures ∙ ap (λ (l : List (Vec (Bor (List ℕ)) Global)). place_of (opens_of l) (groups_of c.as_slice.result.now)) c.as_slice-2.ensures.value
    ∙ ap (λ (l : List Group). place_of (opens_of c.args.left.items) (groups_of l)) c.as_slice.ensures.value
    in
    on_ok_weaker c.push.result
    (λ i. left_new c.args.byte c.place_of-place.result c.len.result o (groups_of gs) (groups_of c.push.new.list.items) at (length-map gs group_of ∙ sym (ap (λ (l : List Group). length l) c.as_slice.ensures.value) ∙ c.as_slice.ensures.len ∙ sym c.len.ensures) c.if-place-len.false
    (ap (λ (l : List Group). groups_of l) i ∙ map-append group_of gs (record { left = c.args.left; values = c.one-values.result } ∷ [])
    ∙ ap (λ (s : Set). groups_of c.args.groups.now.items ++ (opens_of c.args.left.items, s) ∷ []) c.one-values.ensures.set)) c.push.ensures
