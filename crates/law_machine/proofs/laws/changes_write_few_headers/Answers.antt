use Rattle.law_machine.proofs.FewHeaders.{few_headers_law}
use Rattle.law_machine.proofs.laws.changes_write_few_headers.Goals as goal

pub returns : goal.returns
returns c = few_headers_law
