use Rattle.law_sums.proofs.FormLemmas.{value_plus, value_times, value_minus, value_zero, value_same}
use Rattle.law_sums.proofs.forms_are_numbers.Goals as goal

pub returns : goal.returns
returns c = λ first.
    record {
      plus = λ f g. value_plus f g first;
      times = λ k f. value_times k f first;
      minus = λ n f g. value_minus n f g first;
      is_zero = λ n f e. value_zero n f first e;
      same_forms = λ n f g e. value_same n f g first e;
    }
