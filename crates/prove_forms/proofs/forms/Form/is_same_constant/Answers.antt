use Rattle.std.proofs.lemmas.Bool.{eqb-true}
use Rattle.prove_forms.proofs.FormLemmas.{constants_same}
use Rattle.prove_forms.proofs.forms.Form.is_same_constant.Goals as goal

pub returns : goal.returns
returns c e n f g h i =
    constants_same c.args.self.now c.args.other.now f g n (c.is_constant.ensures c.if-not-is_constant.false) (c.is_constant-2.ensures c.if-not-is_constant-2.false)
    (eqb-true c.args.self.now.constant c.args.other.now.constant e) h i
