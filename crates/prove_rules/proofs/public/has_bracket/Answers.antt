use Rattle.prove_rules.proofs.FieldLemmas.{is_cut}
use Rattle.prove_rules.proofs.public.has_bracket.Goals as goal

pub returns : goal.returns
returns c = is_cut c.args.text.now c.cut.result.1 c.is_some.result c.cut.ensures.behind c.is_some.ensures
