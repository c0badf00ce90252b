-- What an item of a store leaves of its words, done or stopped at any write.
use Rattle.std.proofs.Common.{◌≡◌, ◌⊎◌, ℕ, suc, ◌+◌, ◌-◌, ◌<◌, true, List, [], ◌∷◌, length, Option, Some, None, Ok, Err, refl, sym, ◌∙◌, ap, subst, inl, inr, arith}
use Rattle.std.specs.Prelude.{IsSome, unwrap_or}
use Rattle.mc_bank.specs.model_card.specs.declared.card.Part.{Part}
use Rattle.mc_bank.specs.model_card.specs.declared.card.Part.TheVariants.{Code, Data, Dir, Fci}
use Rattle.mc_bank.specs.model_card.specs.declared.card.Sizes.{Sizes}
use Rattle.mc_words.specs.model_device.specs.declared.device.Stop.{Stop}
use Rattle.mc_words.specs.model_device.specs.Orders.{Answer}
use Rattle.mc_words.specs.model_device.specs.Bytes.{down, lookup, insert, remove}
use Rattle.mc_words.specs.model_device.specs.Image.{look, Closed, Two, image_with}
use Rattle.mc_words.specs.model_device.specs.Device.{DeviceState, IsSized, Wrote, Makes, Ended}
use Rattle.mc_words.specs.model_device.specs.Stopped.{writes, IsAtomic}
use Rattle.mc_words.specs.model_device.specs.Card.{App, Card, card_of, means}
use Rattle.mc_words.specs.model_device.specs.Layout.{gaps, step_of, words_fault, fault, IsWellLaid}
use Rattle.mc_bank.specs.model_card.specs.Items.{Site, BankItem, Piece, Blank, Note, Commit, Enter, Remove}
use Rattle.mc_bank.specs.Bank.{FitsLimits, CanCommit, part_len, no_app, app_of, with_words, app_of_site, apps_after_commit, item_done}
use Rattle.mc_blocks.specs.Plans.{has_room}
use Rattle.mc_blocks.proofs.Built.{SameCard}
use Rattle.mc_blocks.specs.Outcomes.{HoldsApplications}
use Rattle.mc_store.specs.Store.{settled_words, apps_in, store_site_bytes, words_of_sizes, part_from, part_in, item_writes, static_writes, card_with, card_without, IsGoodIn, IsInWord, IsReadySite, Allows, count_after, StoreDid}
use Rattle.mc_store.specs.GoingLaws.{Going, going_is, closed_settled, closed_apps}
use Rattle.mc_store.specs.AlikeLaws.{HeapsAlike, alike_card, SettlesAlike, Means, means_after}
use Rattle.mc_store.specs.AtomicLaws.{AtomicEnds, atomic_ends}
use Rattle.mc_store.specs.GapLaws.{KeepsCard, keeps_gap, OneWrite, one_write, just_one}
use Rattle.mc_store.specs.CreationLaws.{Creates, creates_plan, creates_card}
use Rattle.mc_store.specs.DeletionLaws.{Deletes, deletes_plan, deletes_card, deletes_count}
use Rattle.mc_store.specs.CommitLaws.{CommittedCard, commits}
use Rattle.mc_words.specs.model_device.proofs.MapLemmas.{length_inserted}
use Rattle.mc_words.specs.model_device.proofs.LayoutLemmas.{closed_fault, closed_means}
use Rattle.mc_blocks.proofs.Plans.{first_room}
use Rattle.mc_words.specs.model_device.proofs.BoolLemmas.{some_is}

-- ---- words that turn

-- a card with these applications, no journal open, and their number
pub record CardChanged (d : DeviceState) (apps : List (List ℕ × App)) (e : DeviceState) (c : ℕ) : Type 0 where
  pub closed : look e.words ≡ Closed
  pub good : words_fault e.words ≡ None
  pub card : card_of e.words ≡ record (card_of d.words) { apps = apps }
  pub count : c ≡ length apps
  pub ended : Ended (Ok tt) d e

-- stopped, they hold the old card or the new one
pub record CardChangeStopped (d : DeviceState) (apps : List (List ℕ × App)) (s : Stop) (e : DeviceState) : Type 0 where
  pub good : fault e.words ≡ None
  pub card : (means e.words ≡ card_of d.words) ⊎ (means e.words ≡ record (card_of d.words) { apps = apps })
  pub ended : Ended (Err s) d e

-- words that become others by the atomic write of a change of the card
abbrev pub ChangesCard : DeviceState → List (List ℕ × App) → Answer → DeviceState → ℕ → Type 0
ChangesCard d apps (Ok u) e c = CardChanged d apps e c
ChangesCard d apps (Err s) e c = CardChangeStopped d apps s e

-- words that are the new card
pub record New (m w : List (List ℕ)) (apps : List (List ℕ × App)) : Type 0 where
  pub good : words_fault w ≡ None
  pub card : card_of w ≡ record (card_of m) { apps = apps }

-- ---- the place of a piece

pub parted : (p : Part) (z : Sizes) (q at n : ℕ) → FitsLimits z → IsInWord (part_len p z) at n → (q < part_from p z q + down at 8) × (part_from p z q + down at 8 < q + words_of_sizes z)
parted Code z q at n limits i = let some = i.some in let ends = i.section in (omega arith, omega arith)
parted Data z q at n limits i = let some = i.some in let ends = i.section in let few = limits.init in (omega arith, omega arith)
parted Dir z q at n limits i = let some = i.some in let ends = i.section in (omega arith, omega arith)
parted Fci z q at n limits i = let some = i.some in let ends = i.section in (omega arith, omega arith)

pub blanked : (z : Sizes) (q at n : ℕ) → IsInWord z.fixed at n → (q < part_from Data z q + down at 8) × (part_from Data z q + down at 8 < q + words_of_sizes z)
blanked z q at n i = let some = i.some in let ends = i.section in (omega arith, omega arith)

-- the words of a store that runs
pub record SiteBytes (m : List (List ℕ)) : Type 0 where
  pub well : IsWellLaid m
  pub apps : (means m).apps ≡ (card_of m).apps
  pub map : apps_in m ≡ (card_of m).apps
  pub self : settled_words m ≡ m

pub site_bytes_of : (d : DeviceState) (c : ℕ) → Going d c → SiteBytes d.words
site_bytes_of d c g = record { well = closed_fault d.words g.closed ∙ g.laid; apps = ap (λ (x : Card). x.apps) (closed_means d.words g.closed); map = closed_apps d.words g.closed g.laid; self = closed_settled d.words g.closed }

module _ {D : Type 0} (state : D → DeviceState) (wrote : D → ℕ → List ℕ → Answer → D → Type 0)
    (obeys : (d : D) (at : ℕ) (w : List ℕ) (a : Answer) (e : D) → (state d).on ≡ true → wrote d at w a e → Wrote (state d) at w a (state e)) where
  halted_by : (d e : DeviceState) (list : List (ℕ × List ℕ)) (apps : List (List ℕ × App)) (s : Stop) → IsSized d.words → words_fault d.words ≡ None
      → ((w : List (List ℕ)) → HeapsAlike w (image_with d.words list) → New d.words w apps) → SettlesAlike d.words e.words ⊎ SettlesAlike (image_with d.words list) e.words → Ended (Err s) d e → CardChangeStopped d apps s e
  halted_by d e list apps s image good new (inl old) ended =
      let same : SameCard d.words old.left = alike_card d.words old.left image good old.alike in
      let m : Means e.words old.left = means_after e.words old.left old.is in
      record { good = m.fault ∙ same.good; card = inl (m.card ∙ same.card); ended = ended }
  halted_by d e list apps s image good new (inr later) ended =
      let same : New d.words later.left apps = new later.left later.alike in
      let m : Means e.words later.left = means_after e.words later.left later.is in
      record { good = m.fault ∙ same.good; card = inr (m.card ∙ same.card); ended = ended }

  -- an atomic write
  pub atomic_turns : (list : List (ℕ × List ℕ)) (apps : List (List ℕ × App)) (d e : D) (c k : ℕ) (a : Answer) → IsSized (state d).words → Going (state d) c → IsAtomic (length (state d).words) list → Makes wrote d (writes Two list) a e
      → ((w : List (List ℕ)) → HeapsAlike w (image_with (state d).words list) → New (state d).words w apps) → (a ≡ Ok tt → k ≡ length apps) → ChangesCard (state d) apps a (state e) k
  atomic_turns list apps d e c k (Ok tt) image going atomic made new count =
      let ends : AtomicEnds (state d) list (Ok tt) (state e) = atomic_ends state wrote obeys list d e (Ok tt) image going.on going.closed atomic made in
      let n : New (state d).words (state e).words apps = new (state e).words ends.1 in
      record { closed = ends.0; good = n.good; card = n.card; count = count refl; ended = ends.2 }
  atomic_turns list apps d e c k (Err s) image going atomic made new count =
      let ends : AtomicEnds (state d) list (Err s) (state e) = atomic_ends state wrote obeys list d e (Err s) image going.on going.closed atomic made in
      halted_by (state d) (state e) list apps s image going.laid new ends.0 ends.1

  plain_by : (d e : DeviceState) (c k : ℕ) (a : Answer) → Going d c → KeepsCard d.words e.words → Ended a d e → k ≡ c → ChangesCard d (card_of d.words).apps a e k
  plain_by d e c k (Ok tt) going keeps ended count = record { closed = keeps.closed; good = keeps.good; card = keeps.card; count = count ∙ going.count; ended = ended }
  plain_by d e c k (Err s) going keeps ended count = record { good = closed_fault e.words keeps.closed ∙ keeps.good; card = inl (closed_means e.words keeps.closed ∙ keeps.card); ended = ended }

  -- a write into a hole
  pub plain_turns : (s : Site) (at : ℕ) (w : List ℕ) (d e : D) (c k : ℕ) (a : Answer) → IsSized (state d).words → Going (state d) c → IsGoodIn (state d).words s → s.place < at → at < s.place + words_of_sizes s.sizes → Makes wrote d ((at, w) ∷ []) a e → k ≡ c
      → ChangesCard (state d) (card_of (state d).words).apps a (state e) k
  plain_turns s at w d e c k a image going good low high made count =
      let m = (state d).words in
      let one : OneWrite (state d) at w a (state e) = one_write (state d) at w a (state e) (obeys d at w a e going.on (just_one wrote d e at w a made)) in
      let room : has_room s.place (words_of_sizes s.sizes) (gaps (card_of m)) ≡ true =
      subst (λ (x : Card). has_room s.place (words_of_sizes s.sizes) (gaps x) ≡ true) (closed_means m going.closed) (first_room (words_of_sizes s.sizes) s.place (gaps (means m)) good.place) in
      plain_by (state d) (state e) c k a going (keeps_gap m (state e).words s.place (words_of_sizes s.sizes) at image going.closed going.laid room low high one.besides) one.ended count

  by_leaves : (m w : List (List ℕ)) (apps : List (List ℕ × App)) → look m ≡ Closed → HoldsApplications m w apps → New m w apps
  by_leaves m w apps closed l = record { good = l.laid; card = l.card ∙ ap (λ (x : Card). record x { apps = apps }) (closed_means m closed) }

  plain_item : (d e : D) (c k : ℕ) (a : Answer) → Going (state d) c → ChangesCard (state d) (card_of (state d).words).apps a (state e) k → ChangesCard (state d) (apps_in (state d).words) a (state e) k
  plain_item d e c k a g t = subst (λ (es : List (List ℕ × App)). ChangesCard (state d) es a (state e) k) (sym (site_bytes_of (state d) c g).map) t

  pub commit_turns : (n : List ℕ) (ws : List (ℕ × List ℕ)) (d e : D) (c k : ℕ) (a : Answer) → IsSized (state d).words → Going (state d) c → Allows (state d).words (Commit n ws) → Makes wrote d (item_writes (state d).words (Commit n ws)) a e → k ≡ c
      → ChangesCard (state d) (apps_after_commit (apps_in (state d).words) n ws) a (state e) k
  commit_turns n ws d e c k a image going allowed made count =
      let m = (state d).words in
      let s : SiteBytes m = site_bytes_of (state d) c going in
      let found = some_is (lookup (means m).apps n) allowed.0 in
      let x = found.0 in
      let app : app_of (means m).apps (Some n) ≡ x = ap (λ (o : Option App). unwrap_or o no_app) found.1 in
      let there : lookup (card_of m).apps n ≡ Some x = sym (ap (λ (es : List (List ℕ × App)). lookup es n) s.apps) ∙ found.1 in
      let t : CommittedCard m n x ws = commits m n x ws image going.laid there (subst (λ (y : App). CanCommit y.fixed ws) app allowed.1) in
      let apps = insert (card_of m).apps n (with_words ws x) in
      let same : apps_after_commit (apps_in m) n ws ≡ apps =
      ap (λ (es : List (List ℕ × App)). insert es n (with_words ws (app_of es (Some n)))) s.map
      ∙ ap (λ (y : App). insert (card_of m).apps n (with_words ws y)) (ap (λ (o : Option App). unwrap_or o no_app) there) in
      subst (λ (es : List (List ℕ × App)). ChangesCard (state d) es a (state e) k) (sym same)
      (atomic_turns (static_writes x ws) apps d e c k a image going t.atomic (subst (λ (y : App). Makes wrote d (writes Two (static_writes y ws)) a e) app made)
      (λ w alike. let k : SameCard (image_with m (static_writes x ws)) w = alike_card (image_with m (static_writes x ws)) w t.image t.good alike in record { good = k.good; card = k.card ∙ t.card })
      (λ ok. count ∙ going.count ∙ sym t.count))

  enter_turns : (s : Site) (n : List ℕ) (d e : D) (c k : ℕ) (a : Answer) → IsSized (state d).words → Going (state d) c → IsReadySite (state d).words s n → Makes wrote d (item_writes (state d).words (Enter s n)) a e → (a ≡ Ok tt → k ≡ c + 1)
      → ChangesCard (state d) (insert (apps_in (state d).words) n (app_of_site s (store_site_bytes (state d) s))) a (state e) k
  enter_turns s n d e c k a image going ready made count =
      let m = (state d).words in
      let t : SiteBytes m = site_bytes_of (state d) c going in
      let p : Creates m s n = creates_plan m s n image going.closed t.well ready.good ready.fresh in
      let apps = insert (means m).apps n (app_of_site s (part_in m s)) in
      let same : insert (apps_in m) n (app_of_site s (store_site_bytes (state d) s)) ≡ apps =
      ap (λ (es : List (List ℕ × App)). insert es n (app_of_site s (store_site_bytes (state d) s))) (t.map ∙ sym t.apps)
      ∙ ap (λ (x : List (List ℕ)). insert (means m).apps n (app_of_site s (part_in x s))) t.self in
      let more : length apps ≡ suc (length (means m).apps) = length_inserted (means m).apps n (app_of_site s (part_in m s)) ready.fresh in
      let old : c ≡ length (means m).apps = going.count ∙ sym (ap length t.apps) in
      subst (λ (es : List (List ℕ × App)). ChangesCard (state d) es a (state e) k) (sym same)
      (atomic_turns (step_of (means m) (card_with m s n)) apps d e c k a image going p.atomic made
      (λ w alike. by_leaves m w apps going.closed (creates_card m w s n image going.closed t.well ready alike))
      (λ ok. let one = count ok in omega (arith, one, more, old)))

  remove_turns : (n : List ℕ) (d e : D) (c k : ℕ) (a : Answer) → IsSized (state d).words → Going (state d) c → IsSome (lookup (means (state d).words).apps n) → Makes wrote d (item_writes (state d).words (Remove n)) a e → (a ≡ Ok tt → k ≡ c - 1)
      → ChangesCard (state d) (remove (apps_in (state d).words) n) a (state e) k
  remove_turns n d e c k a image going there made count =
      let m = (state d).words in
      let t : SiteBytes m = site_bytes_of (state d) c going in
      let found = some_is (lookup (means m).apps n) there in
      let p : Deletes m n found.0 = deletes_plan m n found.0 image going.closed t.well found.1 in
      let apps = remove (means m).apps n in
      let same : remove (apps_in m) n ≡ apps = ap (λ (es : List (List ℕ × App)). remove es n) (t.map ∙ sym t.apps) in
      let less : length (means m).apps ≡ suc (length apps) = deletes_count m n found.0 image going.closed t.well found.1 in
      let old : c ≡ length (means m).apps = going.count ∙ sym (ap length t.apps) in
      subst (λ (es : List (List ℕ × App)). ChangesCard (state d) es a (state e) k) (sym same)
      (atomic_turns (step_of (means m) (card_without m n)) apps d e c k a image going p.atomic made
      (λ w alike. by_leaves m w apps going.closed (deletes_card m w n found.0 image going.closed t.well found.1 alike))
      (λ ok. let one = count ok in omega (arith, one, less, old)))

  counted : (i : BankItem) (a : Answer) (c k n : ℕ) → k ≡ count_after i a c → count_after i (Ok tt) c ≡ n → a ≡ Ok tt → k ≡ n
  counted i a c k n is to ok = is ∙ ap (λ (x : Answer). count_after i x c) ok ∙ to

  -- an item by the relation of a store
  pub turns : (i : BankItem) (d e : D) (c k : ℕ) (a : Answer) → StoreDid state wrote d c i a e k → ChangesCard (state d) (item_done (store_site_bytes (state d)) i (apps_in (state d).words)) a (state e) k
  turns (Piece s p at b) d e c k a did =
      let g : Going (state d) c = going_is (state d) c did.going in
      let in-gap = parted p s.sizes s.place at (length b) did.allowed.0.limits did.allowed.1 in
      plain_item d e c k a g (plain_turns s (part_from p s.sizes s.place + down at 8) _ d e c k a did.image g did.allowed.0 in-gap.0 in-gap.1 did.makes did.count)
  turns (Blank s at n) d e c k a did =
      let g : Going (state d) c = going_is (state d) c did.going in
      let in-gap = blanked s.sizes s.place at n did.allowed.1 in
      plain_item d e c k a g (plain_turns s (part_from Data s.sizes s.place + down at 8) _ d e c k a did.image g did.allowed.0 in-gap.0 in-gap.1 did.makes did.count)
  turns (Note s n i) d e c k a did =
      let g : Going (state d) c = going_is (state d) c did.going in
      let few : i < 4 = did.allowed.2 in
      plain_item d e c k a g (plain_turns s (s.place + 1 + i) _ d e c k a did.image g did.allowed.0 (omega arith) (omega arith) did.makes did.count)
  turns (Commit n ws) d e c k a did = commit_turns n ws d e c k a did.image (going_is (state d) c did.going) did.allowed did.makes did.count
  turns (Enter s n) d e c k a did = enter_turns s n d e c k a did.image (going_is (state d) c did.going) did.allowed did.makes (counted (Enter s n) a c k (c + 1) did.count refl)
  turns (Remove n) d e c k a did = remove_turns n d e c k a did.image (going_is (state d) c did.going) did.allowed did.makes (counted (Remove n) a c k (c - 1) did.count refl)
