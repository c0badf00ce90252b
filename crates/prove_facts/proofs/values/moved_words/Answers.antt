use Rattle.prove_facts.proofs.MoveLemmas.{words_moved}
use Rattle.prove_facts.proofs.values.moved_words.Goals as goal

pub returns : goal.returns
returns c h v n =
    words_moved c.args.a c.args.b c.args.c c.args.d c.args.by _ _ _ _ v (c.joined.ensures h) (c.joined-2.ensures h) (c.joined-3.ensures h) (c.joined-4.ensures h) h n
