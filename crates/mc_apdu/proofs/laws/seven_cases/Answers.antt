use Rattle.mc_apdu.proofs.SevenCases.{seven}
use Rattle.mc_apdu.proofs.laws.seven_cases.Goals as goal

pub returns : goal.returns
returns c = seven
