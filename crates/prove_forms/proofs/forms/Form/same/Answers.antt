use Rattle.model_sums.specs.Forms as forms
use Rattle.prove_forms.proofs.forms.Form.same.Goals as goal

pub returns : goal.returns
returns c e f g h i =
    c.is_zero.ensures e (forms.plus f (forms.negative c.args.n g)) (c.in_ok-difference.ensures f (forms.negative c.args.n g) h (c.in_ok-less.ensures g i))
