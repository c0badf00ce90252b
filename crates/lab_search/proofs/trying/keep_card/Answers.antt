use Rattle.std.proofs.Common.{ℕ, subst}
use Rattle.law_explore_text.specs.model_device.specs.PowerUp.{Base}
use Rattle.law_explore_text.specs.model_play.specs.Play as play
use Rattle.lab_branch.specs.Branches.{BranchState}
use Rattle.lab_key.specs.Kept.{IsKeptCard, IsOfDevice}
use Rattle.lab_key.specs.Shown.{IsShown}
use Rattle.lab_search.proofs.trying.keep_card.Goals as goal

pub returns-clause-keeps : goal.returns-clause-keeps
returns-clause-keeps c =
    subst
    (λ (d : BranchState). (b : Base) (l : play.Live) → IsShown d.device.words c.args.live b l → IsOfDevice d.root b → (n : ℕ) (k : Base) (m : play.Live) → IsKeptCard d.root c.args.rosters.now n k m → IsKeptCard d.root c.keep.new.self n k m)
    c.device_mut.ensures.value c.keep.ensures.keeps
