use Rattle.std.proofs.Common.{◌∙◌, ◌||◌, ap}
use Rattle.desk_draft.proofs.known.mark.Goals as goal

pub returns : goal.returns
returns c = λ ss r h.
    record { sections = h.sections; scopes = h.scopes; app = h.app; is_draft = c.either-known.ensures ∙ ap (λ b. b || c.args.differs) h.is_draft }
