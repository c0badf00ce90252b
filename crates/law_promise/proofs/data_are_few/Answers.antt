use Rattle.law_promise.proofs.FewData.{few_data}
use Rattle.law_promise.proofs.data_are_few.Goals as goal

pub returns : goal.returns
returns c = few_data
