use Rattle.std.proofs.Common.{◌∙◌, length, List, [], ◌∷◌, Bool, ap, sym, map}
use Rattle.std.proofs.lemmas.List.{length-map, map-append}
use Rattle.std.proofs.lemmas.Result.{on_ok_weaker}
use Rattle.prove_facts.specs.declared.values.Values.{Values}
use Rattle.prove_facts.specs.Sets.{set_of}
use Rattle.prove_patterns.specs.declared.command_classes.Class.{Class}
use Rattle.prove_patterns.specs.Classes.{class_value, class_values, class_place, class_joined}
use Rattle.prove_patterns.proofs.ClassLemmas.{class_put, class_new}
use Rattle.prove_patterns.proofs.command_classes.add_class.Goals as goal

pub returns-then-place-len : goal.returns-then-place-len
returns-then-place-len c =
    let ds = c.args.classes.now.items in
    let at =
    c.place_of-place.ensures ∙ ap (λ (l : List Bool). class_place l (class_values c.as_slice.result.now)) c.as_slice-2.ensures.value
    ∙ ap (λ (l : List Class). class_place c.args.class.matches.items (class_values l)) c.as_slice.ensures.value
    in
    on_ok_weaker c.join_at.result
    (λ i. class_put (class_value c.args.class) c.place_of-place.result c.len.result (class_values ds) (class_values c.join_at.new.classes.items) at (length-map ds class_value ∙ sym (ap (λ (l : List Class). length l) c.as_slice.ensures.value) ∙ c.as_slice.ensures.len ∙ sym c.len.ensures) c.if-place-len.true
    (i ∙ ap (λ (l : List Values). class_joined c.place_of-place.result (map set_of l) (class_values c.args.classes.now.items)) c.as_slice-then-place-len.ensures.value)) c.join_at.ensures

pub returns : goal.returns
returns c =
    let ds = c.args.classes.now.items in
    let at =
    c.place_of-place.ensures ∙ ap (λ (l : List Bool). class_place l (class_values c.as_slice.result.now)) c.as_slice-2.ensures.value
    ∙ ap (λ (l : List Class). class_place c.args.class.matches.items (class_values l)) c.as_slice.ensures.value
    in
    on_ok_weaker c.push.result
    (λ i. class_new (class_value c.args.class) c.place_of-place.result c.len.result (class_values ds) (class_values c.push.new.list.items) at (length-map ds class_value ∙ sym (ap (λ (l : List Class). length l) c.as_slice.ensures.value) ∙ c.as_slice.ensures.len ∙ sym c.len.ensures) c.if-place-len.false
    (ap (λ (l : List Class). class_values l) i ∙ map-append class_value ds (c.args.class ∷ []))) c.push.ensures
