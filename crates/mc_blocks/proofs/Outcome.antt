-- The card after a plan: written to the words of a well laid image, the plan leaves the card with the application or
-- without it.
use Rattle.std.proofs.Common.{◌≡◌, ◌≢◌, ℕ, ◌+◌, ◌<◌, ◌≤◌, true, false, List, [], ◌∷◌, ◌++◌, length, Some, None, refl, sym, ◌∙◌, ap, subst, inl, inr, arith, cond}
use Rattle.std.specs.Prelude.{nat_lt, ◌==◌, slice_index}
use Rattle.std.specs.List.{AllByRecursion, list_any}
use Rattle.std.proofs.lemmas.Bool.{eqb-true}
use Rattle.mc_words.specs.model_device.specs.Bytes.{be2, insert, lookup, remove}
use Rattle.mc_words.specs.model_device.specs.Image.{Closed, look, Two}
use Rattle.mc_words.specs.model_device.specs.Device.{IsSized}
use Rattle.mc_words.specs.model_device.specs.Card.{App, Card, Block, word, blocks, means, record_at, name_at, app_at, apps_of}
use Rattle.mc_words.specs.model_device.specs.Layout.{first_hole, gaps, spans, put_at, root, same_pair, is_record, IsWellLaid}
use Rattle.mc_words.specs.model_device.specs.Stopped.{LaidWhole as WrittenBy}
use Rattle.mc_words.specs.model_device.proofs.ImageLemmas.{HoldsWords, all_append, laid_other, length_laid}
use Rattle.mc_blocks.specs.Blocks.{used_spans, hole_spans}
use Rattle.mc_blocks.specs.Outcomes.{OthersKept, Planned, HoldsApplications}
use Rattle.mc_blocks.specs.Plans.{changes, layout_of, plan, link_word, without, has_room, has_span}
use Rattle.mc_blocks.proofs.Tiles.{Tiled, HeadersRead}
use Rattle.mc_blocks.proofs.Bridge.{WellLaid, well_laid, used_above, AreNamed, named, Faultless, faultless, recorded, AreRecorded}
use Rattle.mc_blocks.proofs.Applications.{few_blocks, found_application}
use Rattle.mc_blocks.proofs.Changes.{from_weaker, split}
use Rattle.mc_blocks.proofs.Heads.{heads, heads_from, layout_is}
use Rattle.mc_blocks.proofs.Plans.{plan_is, gaps_are, spans_are}
use Rattle.mc_blocks.proofs.Taking.{take_in, take_tiled, take_spans}
use Rattle.mc_blocks.proofs.Freeing.{free_in, free_tiled, free_spans}
use Rattle.mc_blocks.proofs.Built.{HoldsBlocks, built, card_parts, root_of}
use Rattle.mc_blocks.proofs.Written.{relink, relink_used, Relaid, written, root_apart}
use Rattle.mc_blocks.proofs.Cards.{In, in_above, in_old, changes_apart, NotNamed, not_named, relink_named, relink_apps, created, deleted}
use Rattle.mc_words.specs.model_device.proofs.MapLemmas.{remove_inserted}
use Rattle.mc_words.specs.model_device.proofs.LookLemmas.{outside_two}
use Rattle.mc_words.specs.model_device.proofs.LayoutLemmas.{closed_fault, closed_means, length_put}
use Rattle.mc_blocks.proofs.Search.{chain_parts}
use Rattle.mc_blocks.proofs.Same.{same_block, SameUsed, ApplicationInserted, Deleted}

-- the words after a plan for the spans of these blocks
record AfterPlan (m n : List (List ℕ)) (new : List Block) : Type 0 where
  relaid : Relaid m n new
  same : (s : ℕ × ℕ) → In s (used_spans (blocks m)) → In s (used_spans new) → (i : ℕ) → s.0 ≤ i → i < s.0 + s.1 → word n i ≡ word m i

after_plan : (m n : List (List ℕ)) (f : List (ℕ × ℕ) → List (ℕ × ℕ)) (new : List Block) → IsSized m → look m ≡ Closed → IsWellLaid m → Planned m n (f (spans (means m))) → Tiled 131 false new (length m) → f (used_spans (blocks m)) ≡ used_spans new → AfterPlan m n new
after_plan m n f new image closed h planned tiled spans-new =
    let l : WellLaid m = well_laid m image closed h in
    let v = slice_index (word m 0) 3 in
    let bs = blocks m in
    let high : length m ≤ 16384 = image.high in
    let old-list : List (ℕ × List ℕ) = link_word v (length m) (0, 0) (first_hole bs) ∷ heads bs in
    let new-list : List (ℕ × List ℕ) = link_word v (length m) (0, 0) (first_hole new) ∷ heads new in
    let listed : plan (means m) (f (spans (means m))) ≡ changes old-list new-list =
    plan_is m f image closed h
    ∙ ap (λ (x : List (ℕ × List ℕ)). changes x (layout_of v (length m) (f (used_spans bs)))) (layout_is v (length m) bs (used_spans bs) l.tiled refl)
    ∙ ap (λ (x : List (ℕ × List ℕ)). changes old-list x) (layout_is v (length m) new (f (used_spans bs)) tiled spans-new) in
    let kept : OthersKept m n 131 (changes old-list new-list) = subst (λ (x : List (ℕ × List ℕ)). OthersKept m n 131 x) listed planned.heap in
    let links = chain_parts (be2 (word m 0) 6) (first_hole bs) _ (be2 (word m 0) 6 == first_hole bs) refl l.chain in
    let one : 0 < 1 = omega arith in
    let parts : changes old-list new-list ≡ changes ((0, root v (length m) (first_hole bs)) ∷ []) ((0, root v (length m) (first_hole new)) ∷ []) ++ changes (heads bs) (heads new) =
    split 1 ((0, root v (length m) (first_hole bs)) ∷ []) (heads bs) ((0, root v (length m) (first_hole new)) ∷ []) (heads new) (one, tt) (from_weaker 131 1 (heads bs) (omega arith) (heads_from 131 false bs (length m) l.tiled)) (one, tt) (from_weaker 131 1 (heads new) (omega arith) (heads_from 131 false new (length m) tiled)) in
    record {
      relaid = written m n bs new (omega arith) planned.size (root_of m l.root) links.0 l.tiled l.read links.1 tiled
          (subst (λ (x : List (ℕ × List ℕ)). HoldsWords n x) listed planned.stand)
          (subst (λ (x : List (ℕ × List ℕ)). AllByRecursion (λ (e : ℕ × List ℕ). e.0 ≢ 0) x → word n 0 ≡ word m 0) listed planned.root)
          kept;
      same = λ s here there i low below.
          let above : 131 ≤ s.0 = in_above 131 s (used_spans bs) (used_above 131 false bs (length m) l.tiled) here in
          kept i (omega arith) (subst (λ (x : List (ℕ × List ℕ)). AllByRecursion (λ (e : ℕ × List ℕ). e.0 ≢ i) x) (sym parts)
          (all_append (λ (e : ℕ × List ℕ). e.0 ≢ i) (changes ((0, root v (length m) (first_hole bs)) ∷ []) ((0, root v (length m) (first_hole new)) ∷ [])) (changes (heads bs) (heads new))
          (root_apart v (length m) (first_hole bs) (first_hole new) i (omega arith) (list_any (same_pair (0, root v (length m) (first_hole new))) ((0, root v (length m) (first_hole bs)) ∷ [])))
          (changes_apart s i 131 false (heads bs) new (length m) tiled there low below (in_old s bs here))));
    }

-- ---- used blocks have their words

same_used : (m n : List (List ℕ)) (p : ℕ) (bs : List Block) → length n ≡ length m → HeadersRead m bs → AreRecorded m bs
    → ((s : ℕ × ℕ) → In s (used_spans bs) → s.0 ≢ p → (i : ℕ) → s.0 ≤ i → i < s.0 + s.1 → word n i ≡ word m i) → SameUsed m n p bs
same_used m n p [] size r g same = tt
same_used m n p (b ∷ bs) size r g same =
    (elim b.used as (λ u. (u ≡ true → is_record (record_at m b.place) b.words ≡ true) → ((s : ℕ × ℕ) → In s (used_spans (record b { used = u } ∷ bs)) → s.0 ≢ p → (i : ℕ) → s.0 ≤ i → i < s.0 + s.1 → word n i ≡ word m i) → SameUsed m n p (record b { used = u } ∷ bs)) [
      | true ↦ λ good same. ((λ u ne. same_block m n b.place b.words size r.1 (good u) (same (b.place, b.words) (inl refl) ne)), same_used m n p bs size r.2 g.1 (λ s i ne. same s (inr i) ne))
      | false ↦ λ good same. ((λ u ne. absurd (cc u)), same_used m n p bs size r.2 g.1 (λ s i ne. same s i ne))
    ]) g.0 same

in_put : (s : ℕ × ℕ) (p n : ℕ) (l : List (ℕ × ℕ)) → In s l → In s (put_at p n l)
in_put s p n [] i = absurd i
in_put s p n (e ∷ es) i =
    elim (nat_lt p e.0) as (λ t. In s (cond t ((p, n) ∷ e ∷ es) (e ∷ put_at p n es))) [
      | true ↦ inr i
      | false ↦ elim i [ inl here ↦ inl here | inr later ↦ inr (in_put s p n es later) ]
    ]

in_without : (s : ℕ × ℕ) (p : ℕ) (l : List (ℕ × ℕ)) → s.0 ≢ p → In s l → In s (without p l)
in_without s p [] ne i = absurd i
in_without s p (e ∷ es) ne i =
    (elim (e.0 == p) as (λ t. (e.0 == p) ≡ t → In s (cond t (without p es) (e ∷ without p es))) [
      | true ↦ λ is. elim i [ inl here ↦ absurd (ne (sym (ap (λ (x : ℕ × ℕ). x.0) here) ∙ eqb-true e.0 p is)) | inr later ↦ in_without s p es ne later ]
      | false ↦ λ is. elim i [ inl here ↦ inl here | inr later ↦ inr (in_without s p es ne later) ]
    ]) refl

length_without : (p : ℕ) (l : List (ℕ × ℕ)) → length (without p l) ≤ length l
length_without p [] = omega arith
length_without p (e ∷ es) =
    let h = length_without p es in
    elim (e.0 == p) as (λ t. length (cond t (without p es) (e ∷ without p es)) ≤ length (e ∷ es)) [ true ↦ omega (arith, h) | false ↦ omega (arith, h) ]

-- ---- the cards

leaves : (m n : List (List ℕ)) (new : List Block) (apps : List (List ℕ × App)) → look m ≡ Closed → length n ≡ length m → Relaid m n new → AreNamed n [] new → length (used_spans new) ≤ 32 → apps_of n new ≡ apps → HoldsApplications m n apps
leaves m n new apps closed size r nm few is = grind (arith, HoldsBlocks, relink, built, named, relink_named, relink_used, card_parts, relink_apps, closed_means)

-- words are taken for an application whose record is there: the card gains it
pub creates : (m n : List (List ℕ)) (p need : ℕ) → IsSized m → look m ≡ Closed → IsWellLaid m → 1 ≤ need → has_room p need (gaps (means m)) ≡ true → Planned m n (put_at p need (spans (means m)))
    → is_record (record_at n p) need ≡ true → lookup (means m).apps (name_at n p) ≡ None → length (means m).apps < 32 → HoldsApplications m n (insert (means m).apps (name_at n p) (app_at n p))
creates m n p need image closed h some room planned good fresh few =
    let l : WellLaid m = well_laid m image closed h in
    let f : Faultless m = faultless m (sym (closed_fault m closed) ∙ h) in
    let bs = blocks m in
    let free : has_room p need (hole_spans bs) ≡ true = subst (λ (x : List (ℕ × ℕ)). has_room p need x ≡ true) (gaps_are m image closed h) room in
    let new = take_in p need bs in
    let tiled : Tiled 131 false new (length m) = take_tiled p need 131 false bs (length m) some l.tiled free in
    let same-spans : used_spans new ≡ put_at p need (used_spans bs) = take_spans p need 131 false bs (length m) l.tiled free in
    let after : AfterPlan m n new = after_plan m n (put_at p need) new image closed h planned tiled (sym same-spans) in
    let names : AreNamed m [] bs = named m bs [] 0 f.records in
    let means-apps : (means m).apps ≡ apps_of m bs = ap (λ (k : Card). k.apps) (closed_means m closed) in
    let used : SameUsed m n p bs = same_used m n p bs planned.size l.read (recorded m [] bs names) (λ s i ne. after.same s i (subst (λ (x : List (ℕ × ℕ)). In s x) (sym same-spans) (in_put s p need (used_spans bs) i))) in
    let unnamed : NotNamed m (name_at n p) bs = not_named m (name_at n p) bs (sym (ap (λ (es : List (List ℕ × App)). lookup es (name_at n p)) means-apps) ∙ fresh) in
    let c : ApplicationInserted m n [] (name_at n p) (app_at n p) bs new = created m n p need 131 false [] bs (length m) l.tiled names used unnamed free refl good in
    let count : length (used_spans bs) < 32 = subst (λ (k : ℕ). k < 32) (ap (λ (es : List (List ℕ × App)). length es) means-apps ∙ l.apps) few in
    let more : length (used_spans new) ≤ 32 = omega (arith, ap length same-spans, length_put p need (used_spans bs), count) in
    leaves m n new (insert (means m).apps (name_at n p) (app_at n p)) closed planned.size after.relaid c.named more (c.apps ∙ ap (λ (es : List (List ℕ × App)). insert es (name_at n p) (app_at n p)) (sym means-apps))

-- a block is freed: the card loses its application
pub deletes : (m n : List (List ℕ)) (k : List ℕ) (a : App) → IsSized m → look m ≡ Closed → IsWellLaid m → lookup (means m).apps k ≡ Some a → Planned m n (without a.place (spans (means m))) → HoldsApplications m n (remove (means m).apps k)
deletes m n k a image closed h found planned =
    let l : WellLaid m = well_laid m image closed h in
    let f : Faultless m = faultless m (sym (closed_fault m closed) ∙ h) in
    let bs = blocks m in
    let p = a.place in
    let at = found_application m k a image closed h found in
    let there : has_span p (used_spans bs) ≡ true = subst (λ (x : List (ℕ × ℕ)). has_span p x ≡ true) (spans_are m image closed h) at.span in
    let new = free_in p bs in
    let tiled : Tiled 131 false new (length m) = free_tiled p 131 false bs (length m) (λ e. absurd (cc e)) l.tiled there in
    let same-spans : used_spans new ≡ without p (used_spans bs) = free_spans p 131 false bs (length m) l.tiled there in
    let after : AfterPlan m n new = after_plan m n (without p) new image closed h planned tiled (sym same-spans) in
    let names : AreNamed m [] bs = named m bs [] 0 f.records in
    let means-apps : (means m).apps ≡ apps_of m bs = ap (λ (k : Card). k.apps) (closed_means m closed) in
    let used : SameUsed m n p bs = same_used m n p bs planned.size l.read (recorded m [] bs names) (λ s i ne. after.same s i (subst (λ (x : List (ℕ × ℕ)). In s x) (sym same-spans) (in_without s p (used_spans bs) ne i))) in
    let d : Deleted m n [] (name_at m p) (app_at m p) bs new = deleted m n p 131 false [] bs (length m) l.tiled names used there in
    let few : length (used_spans new) ≤ 32 = omega (arith, ap length same-spans, length_without p (used_spans bs), few_blocks m f) in
    let left : remove (means m).apps k ≡ apps_of n new =
    ap (λ (es : List (List ℕ × App)). remove es k) (means-apps ∙ d.apps)
    ∙ ap (λ (x : List ℕ). remove (insert (apps_of n new) (name_at m p) (app_at m p)) x) (sym at.name)
    ∙ remove_inserted (apps_of n new) (name_at m p) (app_at m p) d.gone in
    leaves m n new (remove (means m).apps k) closed planned.size after.relaid d.named few (sym left)

-- ---- an atomic write of the plan

-- what it leaves of words 0 and the heap
pub written_plan : (m n : List (List ℕ)) (ss : List (ℕ × ℕ)) → WrittenBy Two m (plan (means m) ss) n → Planned m n ss
written_plan m n ss s = grind (arith, outside_two, laid_other, length_laid)
