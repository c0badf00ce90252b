-- What the atomic write of a creation makes of a card: the application at the site is there.
use Rattle.std.proofs.Common.{◌≡◌, ◌≢◌, ℕ, ◌+◌, ◌-◌, ◌<◌, ◌≤◌, Bool, true, false, ◌||◌, List, [], ◌∷◌, ◌++◌, length, map, None, cond, refl, sym, ◌∙◌, ap, subst, inl, inr, arith}
use Rattle.std.specs.Prelude.{◌==◌, nat_le, nat_lt, slice_index}
use Rattle.std.specs.List.{AllByRecursion}
use Rattle.std.proofs.lemmas.Bool.{leb-true, and_parts, ne_eqb}
use Rattle.mc_bank.specs.model_card.specs.declared.card.Sizes.{Sizes}
use Rattle.mc_words.specs.model_device.specs.Bytes.{up, zeros, be2, lookup, insert}
use Rattle.mc_words.specs.model_device.specs.Device.{IsSized}
use Rattle.mc_words.specs.model_device.specs.Image.{look, Closed, within, ascend, image_with}
use Rattle.mc_words.specs.model_device.specs.Stopped.{IsAtomic}
use Rattle.mc_words.specs.model_device.specs.Card.{App, Block, word, words_of_app, words_of_lengths, section, record_at, name_at, app_of, app_at, blocks, means}
use Rattle.mc_words.specs.model_device.specs.Layout.{gaps, spans, put_at, step_of, used_header, hole_header, IsWellLaid}
use Rattle.mc_bank.specs.model_card.specs.Items.{Site}
use Rattle.mc_words.specs.model_device.proofs.ImageLemmas.{laid_other, length_laid}
use Rattle.mc_bank.specs.Bank.{FitsLimits, app_of_site}
use Rattle.mc_blocks.specs.Chains.{SpansAbove}
use Rattle.mc_blocks.specs.Blocks.{used_spans, hole_spans}
use Rattle.mc_blocks.specs.Plans.{plan, has_room, has_span, gap_before, link_word}
use Rattle.mc_blocks.proofs.Tiles.{Tiled}
use Rattle.mc_blocks.proofs.Maps.{Free, free_from, spans_insert}
use Rattle.mc_blocks.proofs.Bridge.{WellLaid, well_laid, used_above}
use Rattle.mc_blocks.proofs.Taking.{RoomAt, room_at, room_from}
use Rattle.mc_blocks.proofs.Search.{holes_above}
use Rattle.std.proofs.lemmas.List.{length-append, length-replicate}
use Rattle.mc_blocks.proofs.Plans.{gaps_are, spans_are, TakeIs, take_is, step_plan, first_room}
use Rattle.mc_blocks.specs.Outcomes.{HoldsApplications}
use Rattle.mc_blocks.proofs.Outcome.{creates}
use Rattle.mc_store.specs.Store.{part_in, words_of_sizes, record_bytes, card_with, IsGoodIn, IsReadySite}
use Rattle.mc_store.specs.AlikeLaws.{HeapsAlike}
use Rattle.mc_store.specs.RecordLaws.{Fields, fields, bytes_are_record}
use Rattle.mc_blocks.proofs.Sections.{length_section, section_split, same_cells, same_section}
use Rattle.mc_store.specs.PlanningLaws.{planned}

-- ---- the place of a hole

above_none : (q p : ℕ) (l : List (ℕ × ℕ)) → SpansAbove q l → p < q → has_span p l ≡ false
above_none q p [] a lt = refl
above_none q p (s ∷ ss) a lt =
    let low : q ≤ s.0 = a.0 in
    ap (λ (b : Bool). b || has_span p ss) (ne_eqb s.0 p (λ e. absurd (omega (arith, e)))) ∙ above_none q p ss a.1 lt

span_kind : (p : ℕ) (b : Block) (us : List (ℕ × ℕ)) (u : Bool) → (b.place == p) ≡ false → has_span p us ≡ false → has_span p (cond u ((b.place, b.words) ∷ us) us) ≡ false
span_kind p b us true ne rest = ap (λ (t : Bool). t || has_span p us) ne ∙ rest
span_kind p b us false ne rest = rest

-- no used block begins where a hole does
no_span : (p need q : ℕ) (a : Bool) (bs : List Block) (end : ℕ) → Tiled q a bs end → has_room p need (hole_spans bs) ≡ true → has_span p (used_spans bs) ≡ false
unfolding RoomAt
no_span p need q a [] end t room = absurd (cc room)
no_span p need q a (b ∷ bs) end t room =
    let place : b.place ≡ q = t.0 in
    let long : 1 ≤ b.words = t.1 in
    elim (room_at p need q a b bs end t room) [
      | inl here ↦
          let at : b.place ≡ p = here.1 in
          ap (λ (u : Bool). has_span p (cond u ((b.place, b.words) ∷ used_spans bs) (used_spans bs))) here.0
          ∙ above_none (q + b.words) p (used_spans bs) (used_above (q + b.words) _ bs end t.3) (omega (arith, place, at))
      | inr later ↦ span_kind p b (used_spans bs) b.used later.0 (no_span p need (q + b.words) _ bs end t.3 later.1)
    ]

-- ---- a site

-- what a good site has
pub record AtSite (m : List (List ℕ)) (s : Site) : Type 0 where
  pub room : has_room s.place (words_of_sizes s.sizes) (gaps (means m)) ≡ true
  pub take : TakeIs m s.place (words_of_sizes s.sizes)
  pub ends : s.place + words_of_sizes s.sizes ≤ length m
  pub span : has_span s.place (spans (means m)) ≡ false
  pub low : 131 ≤ s.place

pub at_site : (m : List (List ℕ)) (s : Site) → IsSized m → look m ≡ Closed → IsWellLaid m → IsGoodIn m s → AtSite m s
at_site m s image closed h good =
    let p = s.place in
    let need = words_of_sizes s.sizes in
    let room : has_room p need (gaps (means m)) ≡ true = first_room need p (gaps (means m)) good.place in
    let t : TakeIs m p need = take_is m p need image closed h (omega arith) room in
    let l : WellLaid m = well_laid m image closed h in
    record {
      room = room;
      take = t;
      ends = omega (arith, t.ends, t.long);
      low = room_from 131 p need (hole_spans (blocks m)) (holes_above 131 false (blocks m) (length m) l.tiled) (subst (λ (x : List (ℕ × ℕ)). has_room p need x ≡ true) (gaps_are m image closed h) room);
      span = ap (λ (x : List (ℕ × ℕ)). has_span p x) (spans_are m image closed h)
          ∙ no_span p need 131 false (blocks m) (length m) l.tiled (subst (λ (x : List (ℕ × ℕ)). has_room p need x ≡ true) (gaps_are m image closed h) room);
    }

-- the sections of a site have their lengths
pub entered_needs : (m : List (List ℕ)) (s : Site) → IsSized m → FitsLimits s.sizes → s.place + words_of_sizes s.sizes ≤ length m → words_of_app (app_of_site s (part_in m s)) ≡ words_of_sizes s.sizes
unfolding part_in
entered_needs m s image limits ends =
    let z = s.sizes in
    let p = s.place in
    let init : z.init ≤ z.fixed = limits.init in
    let a : length (section m (p + 5) z.code) ≡ z.code = length_section m (p + 5) z.code image (omega arith) in
    let b : length (section m (p + 5 + up z.code 8) z.init) ≡ z.init = length_section m (p + 5 + up z.code 8) z.init image (omega arith) in
    let c : length (section m (p + 5 + up z.code 8 + up z.fixed 8) z.dir) ≡ z.dir = length_section m (p + 5 + up z.code 8 + up z.fixed 8) z.dir image (omega arith) in
    let d : length (section m (p + 5 + up z.code 8 + up z.fixed 8 + up z.dir 8) z.fci) ≡ z.fci = length_section m (p + 5 + up z.code 8 + up z.fixed 8 + up z.dir 8) z.fci image (omega arith) in
    let x = app_of_site s (part_in m s) in
    let e : length x.fixed ≡ z.fixed = length-append (section m (p + 5 + up z.code 8) z.init) (zeros (z.fixed - z.init)) ∙ (let f = length-replicate {A = ℕ} (z.fixed - z.init) 0 in omega (arith, b, f, init)) in
    ap (λ (k : ℕ). words_of_lengths k (length x.fixed) (length x.dir) (length x.fci)) a
    ∙ ap (λ (k : ℕ). words_of_lengths z.code k (length x.dir) (length x.fci)) e
    ∙ ap (λ (k : ℕ). words_of_lengths z.code z.fixed k (length x.fci)) c
    ∙ ap (λ (k : ℕ). words_of_lengths z.code z.fixed z.dir k) d

-- ---- the words of the site stay

take_apart : (v size p words next need i : ℕ) (g : ℕ × ℕ) (t : Bool) → p < i → i < p + need
    → ascend size 0 (map (λ e. e.0) (cond t (link_word v size g (p + need) ∷ (p, used_header need) ∷ (p + need, hole_header (words - need) next) ∷ []) (link_word v size g next ∷ (p, used_header need) ∷ []))) ≡ true
    → AllByRecursion (λ e. e.0 ≢ i) (cond t (link_word v size g (p + need) ∷ (p, used_header need) ∷ (p + need, hole_header (words - need) next) ∷ []) (link_word v size g next ∷ (p, used_header need) ∷ []))
take_apart v size p words next need i g true low high up =
    let first = and_parts (nat_le 0 g.0) _ up in
    let second = and_parts (within size g.0) _ first.1 in
    let third : g.0 + 1 ≤ p = leb-true (g.0 + 1) p (and_parts (nat_le (g.0 + 1) p) _ second.1).0 in
    ((λ e. absurd (omega (arith, e))), ((λ e. absurd (omega (arith, e))), ((λ e. absurd (omega (arith, e))), tt)))
take_apart v size p words next need i g false low high up =
    let first = and_parts (nat_le 0 g.0) _ up in
    let second = and_parts (within size g.0) _ first.1 in
    let third : g.0 + 1 ≤ p = leb-true (g.0 + 1) p (and_parts (nat_le (g.0 + 1) p) _ second.1).0 in
    ((λ e. absurd (omega (arith, e))), ((λ e. absurd (omega (arith, e))), tt))

take_keeps : (m : List (List ℕ)) (p need i : ℕ) → TakeIs m p need → p < i → i < p + need → AllByRecursion (λ e. e.0 ≢ i) (plan (means m) (put_at p need (spans (means m))))
take_keeps m p need i t low high =
    subst (λ (l : List (ℕ × List ℕ)). AllByRecursion (λ (e : ℕ × List ℕ). e.0 ≢ i) l) (sym t.is ∙ t.plan)
    (take_apart (slice_index (word m 0) 3) (length m) p (be2 (word m p) 2) (be2 (word m p) 4) need i (gap_before p (0, 0) (gaps (means m))) (nat_lt need (be2 (word m p) 2)) low high
    (subst (λ (l : List (ℕ × List ℕ)). ascend (length m) 0 (map (λ (e : ℕ × List ℕ). e.0) l) ≡ true) t.is t.few.atomic.targets))

-- ---- the application

created_app : ℕ → ℕ → ℕ → List ℕ → List ℕ → List ℕ → List ℕ → App
created_app p session deny code fixed dir fci = record { code = code; fixed = fixed; session = session; deny = deny; dir = dir; fci = fci; place = p }

-- an application whose record has these sizes
by_fields : (w : List (List ℕ)) (p : ℕ) (z : Sizes) (n r : List ℕ) → Fields z n r
    → app_of w p r ≡ created_app p z.session z.deny (section w (p + 5) z.code) (section w (p + 5 + up z.code 8) z.fixed) (section w (p + 5 + up z.code 8 + up z.fixed 8) z.dir) (section w (p + 5 + up z.code 8 + up z.fixed 8 + up z.dir 8) z.fci)
unfolding created_app
by_fields w p z n r f = rw (f.code, f.fixed, f.session, f.deny, f.dir, f.fci) refl

pub stands_app : (m w : List (List ℕ)) (s : Site) (n : List ℕ) → IsSized m → IsReadySite m s n → s.place + words_of_sizes s.sizes ≤ length m → length w ≡ length m
    → ((i : ℕ) → s.place < i → i < s.place + words_of_sizes s.sizes → word w i ≡ word m i) → (record_at w s.place ≡ record_bytes s.sizes n) × (app_at w s.place ≡ app_of_site s (part_in m s))
unfolding part_in created_app
stands_app m w s n image ready ends size same =
    let z = s.sizes in
    let p = s.place in
    let limits : FitsLimits z = ready.good.limits in
    let init : z.init ≤ z.fixed = limits.init in
    let r : record_at w p ≡ record_bytes z n = same_cells m w 4 (p + 1) size (omega arith) (λ i low high. same i (omega arith) (omega arith)) ∙ ready.noted in
    let a : section w (p + 5) z.code ≡ section m (p + 5) z.code = same_section m w (p + 5) z.code size (omega arith) (λ i low high. same i (omega arith) (omega arith)) in
    let b : section w (p + 5 + up z.code 8) z.fixed ≡ section m (p + 5 + up z.code 8) z.fixed = same_section m w (p + 5 + up z.code 8) z.fixed size (omega arith) (λ i low high. same i (omega arith) (omega arith)) in
    let c : section w (p + 5 + up z.code 8 + up z.fixed 8) z.dir ≡ section m (p + 5 + up z.code 8 + up z.fixed 8) z.dir = same_section m w (p + 5 + up z.code 8 + up z.fixed 8) z.dir size (omega arith) (λ i low high. same i (omega arith) (omega arith)) in
    let d : section w (p + 5 + up z.code 8 + up z.fixed 8 + up z.dir 8) z.fci ≡ section m (p + 5 + up z.code 8 + up z.fixed 8 + up z.dir 8) z.fci = same_section m w (p + 5 + up z.code 8 + up z.fixed 8 + up z.dir 8) z.fci size (omega arith) (λ i low high. same i (omega arith) (omega arith)) in
    let blank : section m (p + 5 + up z.code 8) z.fixed ≡ section m (p + 5 + up z.code 8) z.init ++ zeros (z.fixed - z.init) =
    section_split m (p + 5 + up z.code 8) z.init z.fixed image init (omega arith) ∙ ap (λ (l : List ℕ). section m (p + 5 + up z.code 8) z.init ++ l) ready.blank in (
      r,
      by_fields w p z n (record_at w p) (subst (λ (x : List ℕ). Fields z n x) (sym r) (fields z n limits ready.name))
          ∙ ap (λ (x : List ℕ). created_app p z.session z.deny x (section w (p + 5 + up z.code 8) z.fixed) (section w (p + 5 + up z.code 8 + up z.fixed 8) z.dir) (section w (p + 5 + up z.code 8 + up z.fixed 8 + up z.dir 8) z.fci)) a
          ∙ ap (λ (x : List ℕ). created_app p z.session z.deny (section m (p + 5) z.code) x (section w (p + 5 + up z.code 8 + up z.fixed 8) z.dir) (section w (p + 5 + up z.code 8 + up z.fixed 8 + up z.dir 8) z.fci)) (b ∙ blank)
          ∙ ap (λ (x : List ℕ). created_app p z.session z.deny (section m (p + 5) z.code) (section m (p + 5 + up z.code 8) z.init ++ zeros (z.fixed - z.init)) x (section w (p + 5 + up z.code 8 + up z.fixed 8 + up z.dir 8) z.fci)) c
          ∙ ap (λ (x : List ℕ). created_app p z.session z.deny (section m (p + 5) z.code) (section m (p + 5 + up z.code 8) z.init ++ zeros (z.fixed - z.init)) (section m (p + 5 + up z.code 8 + up z.fixed 8) z.dir) x) d,
    )

-- ---- the creation

-- the atomic write of a creation is a plan
pub record Creates (m : List (List ℕ)) (s : Site) (n : List ℕ) : Type 0 where
  pub plan : step_of (means m) (card_with m s n) ≡ plan (means m) (put_at s.place (words_of_sizes s.sizes) (spans (means m)))
  pub atomic : IsAtomic (length m) (step_of (means m) (card_with m s n))
  pub free : Free n s.place (means m).apps
  pub few : length (step_of (means m) (card_with m s n)) ≤ 3

pub creates_plan : (m : List (List ℕ)) (s : Site) (n : List ℕ) → IsSized m → look m ≡ Closed → IsWellLaid m → IsGoodIn m s → lookup (means m).apps n ≡ None → Creates m s n
creates_plan m s n image closed h good fresh =
    let p = s.place in
    let need = words_of_sizes s.sizes in
    let site : AtSite m s = at_site m s image closed h good in
    let free : Free n p (means m).apps = free_from n p (means m).apps fresh site.span in
    let new-spans : spans (card_with m s n) ≡ put_at p need (spans (means m)) =
    spans_insert (means m).apps n (app_of_site s (part_in m s)) free ∙ ap (λ (k : ℕ). put_at p k (spans (means m))) (entered_needs m s image good.limits site.ends) in
    let is : step_of (means m) (card_with m s n) ≡ plan (means m) (put_at p need (spans (means m))) = step_plan (means m) (card_with m s n) (put_at p need (spans (means m))) refl refl new-spans in
    record {
      plan = is;
      atomic = subst (λ (l : List (ℕ × List ℕ)). IsAtomic (length m) l) (site.take.plan ∙ sym is) site.take.few.atomic;
      free = free;
      few = subst (λ (l : List (ℕ × List ℕ)). length l ≤ 3) (site.take.plan ∙ sym is) site.take.few.few;
    }

-- done, it leaves the card with the application
pub creates_card : (m w : List (List ℕ)) (s : Site) (n : List ℕ) → IsSized m → look m ≡ Closed → IsWellLaid m → IsReadySite m s n → HeapsAlike w (image_with m (step_of (means m) (card_with m s n))) → HoldsApplications m w (insert (means m).apps n (app_of_site s (part_in m s)))
creates_card m w s n image closed h ready alike =
    let p = s.place in
    let need = words_of_sizes s.sizes in
    let site : AtSite m s = at_site m s image closed h ready.good in
    let c : Creates m s n = creates_plan m s n image closed h ready.good ready.fresh in
    let list = plan (means m) (put_at p need (spans (means m))) in
    let atomic : IsAtomic (length m) list = subst (λ (l : List (ℕ × List ℕ)). IsAtomic (length m) l) c.plan c.atomic in
    let new : HeapsAlike w (image_with m list) = subst (λ (l : List (ℕ × List ℕ)). HeapsAlike w (image_with m l)) c.plan alike in
    let low : 131 ≤ p = site.low in
    let stands = stands_app m w s n image ready site.ends (new.size ∙ length_laid m list) (λ i above below. new.heap i (omega arith) ∙ laid_other m list i (take_keeps m p need i site.take above below)) in
    let f : Fields s.sizes n (record_at w p) = subst (λ (x : List ℕ). Fields s.sizes n x) (sym stands.0) (fields s.sizes n ready.good.limits ready.name) in
    let name : name_at w p ≡ n = f.name in
    let left : HoldsApplications m w (insert (means m).apps (name_at w p) (app_at w p)) =
    creates m w p need image closed h (omega arith) site.room (planned m w (put_at p need (spans (means m))) image.low atomic new)
    (bytes_are_record s.sizes n (record_at w p) ready.good.limits ready.name stands.0) (ap (λ (k : List ℕ). lookup (means m).apps k) name ∙ ready.fresh) ready.good.few in
    subst (λ (k : List ℕ). HoldsApplications m w (insert (means m).apps k (app_of_site s (part_in m s)))) name (subst (λ (x : App). HoldsApplications m w (insert (means m).apps (name_at w p) x)) stands.1 left)
