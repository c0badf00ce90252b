use Rattle.std.proofs.Common.{refl, rules}
use Rattle.desk_draft.proofs.known.nothing_known.Goals as goal

pub returns : goal.returns
returns c = record { sections = search rules; scopes = search rules; app = refl; is_draft = refl }
