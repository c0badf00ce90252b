use Rattle.std.proofs.Common.{◌≡◌, ◌∙◌, ◌<◌, ℕ, List, [], ◌∷◌, Vec, Global, vec_len, ap, map, length, arith}
use Rattle.std.proofs.lemmas.List.{get_or-map, length-map, map-append}
use Rattle.prove_facts.specs.declared.values.Values.{Values}
use Rattle.prove_facts.specs.Sets.{set_of}
use Rattle.prove_patterns.proofs.ClassLemmas.{union_turn, union_more}
use Rattle.prove_patterns.proofs.command_classes.union_all.Goals as goal
use Rattle.prove_patterns.proofs.command_classes.union_all.Goals.{then-i-len, else-i-len+in_ok-push}

size : (l : Vec Values Global) (n : ℕ) → n ≡ vec_len l → length (map set_of l.items) ≡ n
size l n e = omega (arith, length-map l.items set_of, l.ok.0, e)

pub loop-i-preserved : goal.loop-i-preserved
loop-i-preserved c =
    let ss = map set_of c.args.sets.now in
    let ts = map set_of c.args.others.now.items in
    let old = map set_of c.loop-i.others.items in
    let within : c.loop-i.i < length (map set_of c.args.sets.now) = omega (arith, c.loop-i-test.true, length-map c.args.sets.now set_of) in
    let many = size c.loop-i.others c.len.result c.len.ensures in
    elim c.if-i-len.branch [
      | then-i-len w ↦ ap (λ (l : Vec Values Global). map set_of l.items) w.others-is
          ∙ union_turn ss ts old (map set_of w.join_set.new.others.items) c.loop-i.i _ within (omega (arith, many, w.if-i-len.true)) c.loop-i.invariant
          (get_or-map set_of c.args.sets.now c.loop-i.i _ [] c.loop-i-test.true) w.join_set.ensures
      | else-i-len+in_ok-push w ↦ ap (λ (l : Vec Values Global). map set_of l.items) w.others-is
          ∙ union_more ss ts old (map set_of w.push.new.list.items) c.loop-i.i _ within (omega (arith, many, w.if-i-len.false)) c.loop-i.invariant
          (get_or-map set_of c.args.sets.now c.loop-i.i _ [] c.loop-i-test.true)
          (ap (λ (l : List Values). map set_of l) w.in_ok-push.ensures ∙ map-append set_of c.loop-i.others.items (_ ∷ []))
    ]
