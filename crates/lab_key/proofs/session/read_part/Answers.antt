use Rattle.std.proofs.Common.{◌≡◌, ℕ, ◌+◌, ◌≤◌, List, length, ap, sym, subst, ◌∙◌}
use Rattle.std.specs.Prelude.{IfOk}
use Rattle.law_explore.specs.model_card.specs.declared.card.Sizes.{Sizes}
use Rattle.law_explore.specs.model_card.specs.Items.{Site}
use Rattle.law_explore.specs.model_device.specs.Bytes.{up}
use Rattle.law_explore.specs.model_device.specs.Card.{section}
use Rattle.law_explore.specs.model_device.specs.Device.{sized}
use Rattle.mc_store.specs.Store.{part_from}
use Rattle.mc_manager.specs.ManagerState.{got_len}
use Rattle.lab_key.proofs.SiteParts.{ReadsPart, reads_part}
use Rattle.lab_key.proofs.session.read_part.Goals as goal

pub read_section-requires : goal.read_section-requires
read_section-requires g c =
    let m = (g.N.Nvm.state c.args.device.now).words in
    let l = c.args.load.now in
    let r : ReadsPart m l c.args.part = reads_part m l c.args.part (sized c.len-size.ensures.image) c.requires.card c.requires.fits in
    let first : c.part_place-first.result ≡ part_from c.args.part l.site.sizes l.site.place =
    c.part_place-first.ensures
    ∙ ap (λ (z : Sizes). part_from c.args.part z c.place.result) (c.sizes.ensures ∙ ap (λ (s : Site). s.sizes) c.site.ensures)
    ∙ ap (λ (q : ℕ). part_from c.args.part l.site.sizes q) (c.place.ensures ∙ ap (λ (s : Site). s.place) c.site-2.ensures) in
    subst (λ (q : ℕ). q + up c.got.result 8 ≤ length m) (sym first)
    (subst (λ (n : ℕ). part_from c.args.part l.site.sizes l.site.place + up n 8 ≤ length m) (sym c.got.ensures) r.ends)

pub returns : goal.returns
returns g c =
    let m = (g.N.Nvm.state c.args.device.now).words in
    let l = c.args.load.now in
    let r : ReadsPart m l c.args.part = reads_part m l c.args.part (sized c.len-size.ensures.image) c.requires.card c.requires.fits in
    let first : c.part_place-first.result ≡ part_from c.args.part l.site.sizes l.site.place =
    c.part_place-first.ensures
    ∙ ap (λ (z : Sizes). part_from c.args.part z c.place.result) (c.sizes.ensures ∙ ap (λ (s : Site). s.sizes) c.site.ensures)
    ∙ ap (λ (q : ℕ). part_from c.args.part l.site.sizes q) (c.place.ensures ∙ ap (λ (s : Site). s.place) c.site-2.ensures) in
    let is : section m c.part_place-first.result c.got.result ≡ section m (part_from c.args.part l.site.sizes l.site.place) (got_len c.args.part l) =
    ap (λ (q : ℕ). section m q c.got.result) first ∙ ap (λ (n : ℕ). section m (part_from c.args.part l.site.sizes l.site.place) n) c.got.ensures in
    subst (λ (b : List ℕ). IfOk c.read_section.result (λ v. v.items ≡ b)) (is ∙ r.bytes) c.read_section.ensures
