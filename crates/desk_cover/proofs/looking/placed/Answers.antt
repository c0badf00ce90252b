use Rattle.std.proofs.Common.{◌≡◌, min, ap, ◌∙◌, rules}
use Rattle.mc_arith.specs.model_machine.specs.Frame.{resolve}
use Rattle.desk_cover.proofs.LookLemmas.{register_seven}
use Rattle.desk_cover.proofs.looking.placed.Goals as goal

pub returns-in-Some : goal.returns-in-Some
returns-in-Some c =
    let f = c.args.frame.now.frame in
    let least : c.min.result ≡ min c.args.span.tag 7 = search rules in
    let same : resolve f c.min.result c.args.span.off ≡ resolve f c.args.span.tag c.args.span.off = ap (λ t. resolve f t c.args.span.off) least ∙ register_seven f c.args.span.tag c.args.span.off in
    rw (← same) (search rules)

pub returns-in-None : goal.returns-in-None
returns-in-None c =
    let f = c.args.frame.now.frame in
    let least : c.min.result ≡ min c.args.span.tag 7 = search rules in
    let same : resolve f c.min.result c.args.span.off ≡ resolve f c.args.span.tag c.args.span.off = ap (λ t. resolve f t c.args.span.off) least ∙ register_seven f c.args.span.tag c.args.span.off in
    rw (← same) (search rules)
