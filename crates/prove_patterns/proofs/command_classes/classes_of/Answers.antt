use Rattle.std.proofs.Common.{◌∙◌, List, [], ◌∷◌, ap, arith}
use Rattle.std.proofs.lemmas.List.{map-append}
use Rattle.prove_patterns.specs.declared.command_headers.Header.{Header}
use Rattle.prove_patterns.specs.Headers.{header_of, headers_of}
use Rattle.prove_patterns.specs.Classes.{class_values, classes_onto}
use Rattle.prove_patterns.proofs.ClassLemmas.{onto_turn, onto_end}
use Rattle.prove_patterns.proofs.command_classes.classes_of.Goals as goal

pub loop-header-preserved : goal.loop-header-preserved
loop-header-preserved c n h =
    let e = ap (λ (l : List Header). headers_of l) c.in-Some.ensures.items ∙ map-append header_of c.pop.new.self.items (c.in-Some.header ∷ []) in
    onto_turn n (headers_of c.loop-header.headers.items) (headers_of c.pop.new.self.items) (header_of c.in-Some.header) (class_values c.loop-header.classes.items) (class_values c.add_header.new.classes.items)
    (classes_onto n (headers_of c.args.headers.items) []) e (c.in_ok-add_header.ensures n h c.if-not-branch.false) (c.loop-header.invariant n h)

pub returns : goal.returns
returns c n h = onto_end n c.loop-header.headers.items (class_values c.loop-header.classes.items) (classes_onto n (headers_of c.args.headers.items) []) (omega (arith, c.loop-header.headers.ok.0, c.in_default.ensures.cases.0)) (c.loop-header.invariant n h)
