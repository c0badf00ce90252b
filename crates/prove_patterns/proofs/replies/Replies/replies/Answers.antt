use Rattle.std.proofs.Common.{◌≡◌, List, Bool, ap, subst, map}
use Rattle.std.specs.Prelude.{IfOk}
use Rattle.std.proofs.Common.{lit≤}
use Rattle.prove_facts.specs.model_prove.specs.Texts.{opened, any_count}
use Rattle.prove_facts.specs.model_prove.specs.Arrivals.{Lengths, result_patterns}
use Rattle.prove_facts.specs.Sets.{set_of}
use Rattle.prove_patterns.specs.Replies.{combinations_of}
use Rattle.prove_patterns.proofs.ReplyLemmas.{replies_are}
use Rattle.prove_patterns.proofs.replies.Replies.replies.Goals as goal

pub returns : goal.returns
returns c s k p h =
    let same =
    replies_are s k (set_of c.args.la_high.now) (set_of c.args.la_low.now) (set_of c.args.sw_high.now) (set_of c.args.sw_low.now) c.lengths_of-lengths.result.some h
    (ap (λ (l : Lengths). l.some) c.lengths_of-lengths.ensures)
    in
    subst (λ (x : List (List Bool)). IfOk c.matched.result (λ m. combinations_of m.items ≡ x)) same
    (c.matched.ensures (map opened (result_patterns s.rules.ons)) p any_count (lit≤ tt))
