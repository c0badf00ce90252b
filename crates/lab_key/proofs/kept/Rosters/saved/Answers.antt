use Rattle.std.proofs.Common.{◌≡◌, ℕ, List, Some, ap, slice_get, subst, sym, ◌∙◌}
use Rattle.law_explore.specs.model_device.specs.Image.{image_with}
use Rattle.mc_script.specs.declared.live.Live.{Live}
use Rattle.lab_key.specs.declared.key.PlaceKey.{PlaceKey}
use Rattle.lab_key.specs.declared.key.Stage.{Stage}
use Rattle.lab_key.specs.Shown.{IsShown}
use Rattle.lab_key.proofs.Entries.{Words}
use Rattle.lab_key.proofs.Tables.{name_is, value_is}
use Rattle.lab_key.proofs.kept.Rosters.saved.Goals as goal

pub returns-in-Some-get_index : goal.returns-in-Some-get_index
returns-in-Some-get_index c root b l h =
    let card = sym h.entry ∙ sym c.in-Some.ensures.entry in
    let key : h.key ≡ c.in-Some.key.now = name_is _ _ card in
    let words : h.words ≡ c.in-Some.words.now = value_is _ _ card in
    let stage = sym h.staged ∙ ap (λ (k : PlaceKey). slice_get c.args.self.now.stages.entries k.stage) key ∙ sym c.in-Some-get_index.ensures.entry in
    let live : h.live ≡ c.in-Some-get_index.live.now = value_is _ _ stage in
    let laid = subst (λ (w : Words). IsShown (image_with root w.items) h.live b l) words h.shows in
    let shown = subst (λ (x : Live). IsShown (image_with root c.in-Some.words.now.items) x b l) live laid in
    subst (λ (w : List (ℕ × List ℕ)). IsShown (image_with root w) c.in-Some-get_index.live.now b l) (sym c.as_slice.ensures.value) shown
