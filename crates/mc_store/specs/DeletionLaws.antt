-- What the atomic write of a deletion makes of a card: the application is gone.
use Rattle.std.proofs.Common.{◌≡◌, ℕ, suc, ◌≤◌, true, false, List, [], ◌∷◌, length, Some, refl, sym, ◌∙◌, ap, subst}
use Rattle.mc_words.specs.model_device.specs.Bytes.{lookup, insert, remove}
use Rattle.mc_words.specs.model_device.specs.Device.{IsSized}
use Rattle.mc_words.specs.model_device.specs.Image.{look, Closed, image_with}
use Rattle.mc_words.specs.model_device.specs.Stopped.{IsAtomic}
use Rattle.mc_words.specs.model_device.specs.Card.{App, Card, Block, name_at, app_at, apps_of, blocks, means}
use Rattle.mc_words.specs.model_device.specs.Layout.{spans, step_of, IsWellLaid}
use Rattle.mc_blocks.specs.Plans.{plan, without, has_span}
use Rattle.mc_blocks.proofs.Maps.{spans_remove}
use Rattle.mc_blocks.proofs.Applications.{found_application}
use Rattle.mc_blocks.proofs.Plans.{FreeIs, free_is, spans_are, step_plan}
use Rattle.mc_blocks.specs.Blocks.{used_spans}
use Rattle.mc_blocks.specs.Outcomes.{HoldsApplications}
use Rattle.mc_blocks.proofs.Bridge.{WellLaid, well_laid, named, Faultless, faultless}
use Rattle.mc_blocks.proofs.Freeing.{free_in}
use Rattle.mc_blocks.proofs.Same.{SameUsed, Deleted}
use Rattle.mc_blocks.proofs.Cards.{deleted}
use Rattle.mc_blocks.proofs.Outcome.{deletes}
use Rattle.mc_store.specs.Store.{card_without}
use Rattle.mc_store.specs.AlikeLaws.{HeapsAlike}
use Rattle.mc_store.specs.PlanningLaws.{planned}
use Rattle.mc_words.specs.model_device.proofs.MapLemmas.{remove_inserted, length_inserted}
use Rattle.mc_words.specs.model_device.proofs.LayoutLemmas.{closed_fault, closed_means}

-- the atomic write of a deletion is a plan
pub record Deletes (m : List (List ℕ)) (n : List ℕ) (a : App) : Type 0 where
  pub plan : step_of (means m) (card_without m n) ≡ plan (means m) (without a.place (spans (means m)))
  pub atomic : IsAtomic (length m) (step_of (means m) (card_without m n))
  pub span : has_span a.place (spans (means m)) ≡ true
  pub few : length (step_of (means m) (card_without m n)) ≤ 3

pub deletes_plan : (m : List (List ℕ)) (n : List ℕ) (a : App) → IsSized m → look m ≡ Closed → IsWellLaid m → lookup (means m).apps n ≡ Some a → Deletes m n a
deletes_plan m n a image closed h there =
    let found = found_application m n a image closed h there in
    let f : FreeIs m a.place = free_is m a.place image closed h found.span in
    let is : step_of (means m) (card_without m n) ≡ plan (means m) (without a.place (spans (means m))) =
    step_plan (means m) (card_without m n) (without a.place (spans (means m))) refl refl (spans_remove (means m).apps n a.place found.one) in
    record {
      plan = is;
      atomic = subst (λ (l : List (ℕ × List ℕ)). IsAtomic (length m) l) (f.plan ∙ sym is) f.few.atomic;
      span = found.span;
      few = subst (λ (l : List (ℕ × List ℕ)). length l ≤ 3) (f.plan ∙ sym is) f.few.few;
    }

-- done, it leaves the card without the application
pub deletes_card : (m w : List (List ℕ)) (n : List ℕ) (a : App) → IsSized m → look m ≡ Closed → IsWellLaid m → lookup (means m).apps n ≡ Some a → HeapsAlike w (image_with m (step_of (means m) (card_without m n))) → HoldsApplications m w (remove (means m).apps n)
deletes_card m w n a image closed h there alike =
    let d : Deletes m n a = deletes_plan m n a image closed h there in
    let list = plan (means m) (without a.place (spans (means m))) in
    let atomic : IsAtomic (length m) list = subst (λ (l : List (ℕ × List ℕ)). IsAtomic (length m) l) d.plan d.atomic in
    let new : HeapsAlike w (image_with m list) = subst (λ (l : List (ℕ × List ℕ)). HeapsAlike w (image_with m l)) d.plan alike in
    deletes m w n a image closed h there (planned m w (without a.place (spans (means m))) image.low atomic new)

same_used : (m : List (List ℕ)) (p : ℕ) (bs : List Block) → SameUsed m m p bs
same_used m p [] = tt
same_used m p (b ∷ bs) = (λ u ne. record { entry = refl; app = refl }, same_used m p bs)

-- the card has one application less
pub deletes_count : (m : List (List ℕ)) (n : List ℕ) (a : App) → IsSized m → look m ≡ Closed → IsWellLaid m → lookup (means m).apps n ≡ Some a → length (means m).apps ≡ suc (length (remove (means m).apps n))
deletes_count m n a image closed h there =
    let bs = blocks m in
    let p = a.place in
    let l : WellLaid m = well_laid m image closed h in
    let f : Faultless m = faultless m (sym (closed_fault m closed) ∙ h) in
    let found = found_application m n a image closed h there in
    let span : has_span p (used_spans bs) ≡ true = subst (λ (x : List (ℕ × ℕ)). has_span p x ≡ true) (spans_are m image closed h) found.span in
    let d : Deleted m m [] (name_at m p) (app_at m p) bs (free_in p bs) = deleted m m p 131 false [] bs (length m) l.tiled (named m bs [] 0 f.records) (same_used m p bs) span in
    let es = apps_of m (free_in p bs) in
    let k = name_at m p in
    let before : (means m).apps ≡ insert es k (app_at m p) = ap (λ (c : Card). c.apps) (closed_means m closed) ∙ d.apps in
    let left : remove (means m).apps n ≡ es =
    ap (λ (x : List (List ℕ × App)). remove x n) before ∙ ap (λ (x : List ℕ). remove (insert es k (app_at m p)) x) (sym found.name) ∙ remove_inserted es k (app_at m p) d.gone in
    ap length before ∙ length_inserted es k (app_at m p) d.gone ∙ ap (λ (x : List (List ℕ × App)). suc (length x)) (sym left)
