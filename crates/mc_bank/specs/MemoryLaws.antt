-- What an item does to the applications, the slots and the sites of a bank in memory.
use Rattle.std.specs.Prelude.{◌≡◌, ◌≢◌, ℕ, zero, suc, ◌+◌, ◌-◌, ◌*◌, ◌<◌, ◌≤◌, false, List, [], ◌∷◌, ◌++◌, length, take, drop, slice_set, unwrap_or, Option, Some, None}
use Rattle.std.specs.List.{AllByRecursion}
use Rattle.std.proofs.Common.{refl, ap, sym, subst, ◌∙◌, arith}
use Rattle.std.proofs.Math.Seq.{take-length}
use Rattle.std.proofs.lemmas.List.{length-replicate, length-take-le, length-append, take-take}
use Rattle.std.proofs.lemmas.List.Edits.{take-paste}
use Rattle.model_card.specs.declared.card.Part.{Part}
use Rattle.model_card.specs.declared.card.Part.TheVariants.{Code, Data, Dir, Fci}
use Rattle.model_card.specs.model_device.specs.Orders.{Answer}
use Rattle.model_card.specs.model_device.specs.Bytes.{zeros, splice, lookup, insert, remove}
use Rattle.model_card.specs.model_device.specs.Pieces.{laid_pieces, word_pieces, laid_words}
use Rattle.model_card.specs.model_device.specs.Card.{App}
use Rattle.model_card.specs.Items.{Site, BankItem, Piece, Blank, Note, Commit, Enter, Remove}
use Rattle.mc_bank.specs.declared.bank.Facts.{Facts}
use Rattle.mc_bank.specs.declared.entries.Entry.{Entry}
use Rattle.mc_bank.specs.Bank.{app_of, no_app, sizes_of, part_len, with_words, apps_after_commit, app_of_site, item_done, Spares, StayGood, BytesStay, Changes}
use Rattle.mc_bank.specs.Memory.{facts_in, name_of_entry, memory_named, first_free, is_named, AreApart, app_in, apps_from, memory_state, memory_room, entry_at, part_of, with_piece, memory_site_bytes, new_facts, with_app, with_list, free_entry, fixed_len, CommitDone, EnterDone, RemoveDone, ItemDone, MemoryDid}
use Rattle.mc_bank.specs.Slots.{slot_place}
use Rattle.mc_bank.specs.SlotLaws.{HasSizes, EntersNot, has_sizes, slot_named, item_sized}
use Rattle.mc_bank.specs.EntryLaws.{facts_set, facts_kept, named_here, named_other, named_is, free_has_no_name, free_named, name_gone, not_named_freed, lookup_none, apps_free, apps_set}
use Rattle.model_card.specs.model_device.proofs.MapLemmas.{lookup_inserted_lem, insert_twice, remove_inserted, length_same}
use Rattle.model_card.specs.model_device.proofs.ListLemmas.{splice_longer}

-- ---- lists of bytes

-- what follows the first n elements changes none of them
front_alone : (q x : List ℕ) (n : ℕ) → take n (q ++ drop (length q) x) ≡ take n (q ++ drop (length q) (take n x))
front_alone [] x n = sym (take-take n n x (omega arith))
front_alone (y ∷ q) x zero = refl
front_alone (y ∷ q) [] (suc n) = refl
front_alone (y ∷ q) (z ∷ x) (suc n) = ap (λ l. y ∷ l) (front_alone q x n)

joined : (x : List ℕ) (at : ℕ) (b : List ℕ) → at ≤ length x → splice x at b ≡ (take at x ++ b) ++ drop (length (take at x ++ b)) x
joined x at b le =
    let len : length (take at x ++ b) ≡ at + length b = length-append (take at x) b ∙ ap (λ (k : ℕ). k + length b) (length-take-le at x le) in
    ap (λ (k : ℕ). take at x ++ b ++ drop k x) (sym len)

front_splice : (n at : ℕ) (b x : List ℕ) → at ≤ n → n ≤ length x → take n (splice x at b) ≡ take n (splice (take n x) at b)
front_splice n at b x le long =
    ap (take n) (joined x at b (omega arith))
    ∙ front_alone (take at x ++ b) x n
    ∙ ap (λ (q : List ℕ). take n ((q ++ b) ++ drop (length (q ++ b)) (take n x))) (sym (take-take at n x le))
    ∙ sym (ap (take n) (joined (take n x) at b (let l = length-take-le n x long in omega (arith, l))))

fronts_laid : (n : ℕ) (x y : List ℕ) (ws : List (ℕ × List ℕ)) → take n x ≡ take n y → n ≤ length x → n ≤ length y → AllByRecursion (λ w. 8 * w.0 < n) ws
    → take n (laid_pieces x (word_pieces ws)) ≡ take n (laid_pieces y (word_pieces ws))
fronts_laid n x y [] h lx ly a = h
fronts_laid n x y (w ∷ ws) h lx ly a =
    let lt = a.0 in
    fronts_laid n (splice x (8 * w.0) w.1) (splice y (8 * w.0) w.1) ws
    (front_splice n (8 * w.0) w.1 x (omega (arith, lt)) lx ∙ ap (λ (l : List ℕ). take n (splice l (8 * w.0) w.1)) h ∙ sym (front_splice n (8 * w.0) w.1 y (omega (arith, lt)) ly))
    (let l = splice_longer x (8 * w.0) w.1 in omega (arith, l, lx))
    (let l = splice_longer y (8 * w.0) w.1 in omega (arith, l, ly))
    a.1

-- words laid over a longer list are laid over its front
pub laid_front : (n : ℕ) (x : List ℕ) (ws : List (ℕ × List ℕ)) → n ≤ length x → AllByRecursion (λ w. 8 * w.0 < n) ws → take n (laid_pieces x (word_pieces ws)) ≡ laid_words (take n x) ws
laid_front n x ws le a =
    let len = length-take-le n x le in
    fronts_laid n x (take n x) ws (sym (take-take n n x (omega arith))) le (omega (arith, len)) a ∙ ap (λ (k : ℕ). take k (laid_pieces (take n x) (word_pieces ws))) (sym len)

-- ---- an entry and the others

pub set_self : (m : List Entry) (k : ℕ) → slice_set m k (entry_at m k) ≡ m
set_self [] k = refl
set_self (x ∷ m) zero = refl
set_self (x ∷ m) (suc k) = ap (λ l. x ∷ l) (set_self m k)

pub entry_set : (m : List Entry) (k : ℕ) (e : Entry) → k < length m → entry_at (slice_set m k e) k ≡ e
entry_set [] k e lt = absurd (omega arith)
entry_set (x ∷ m) zero e lt = refl
entry_set (x ∷ m) (suc k) e lt = entry_set m k e (omega arith)

pub entry_beside : (m : List Entry) (k j : ℕ) (e : Entry) → k ≢ j → entry_at (slice_set m k e) j ≡ entry_at m j
entry_beside [] k j e p = refl
entry_beside (x ∷ m) zero zero e p = absurd (p refl)
entry_beside (x ∷ m) zero (suc j) e p = refl
entry_beside (x ∷ m) (suc k) zero e p = refl
entry_beside (x ∷ m) (suc k) (suc j) e p = entry_beside m k j e (λ q. p (ap suc q))

-- the map is an insertion of what an entry has into what the others have
pub record Split (m : List Entry) (k : ℕ) (n : List ℕ) : Type 0 where
  pub facts : Facts
  pub stands : (entry_at m k).facts ≡ Some facts
  pub rest : List (List ℕ × App)
  pub without : apps_from 0 (slice_set m k (free_entry (entry_at m k))) ≡ rest
  pub gone : lookup rest n ≡ None
  pub now : apps_from 0 m ≡ insert rest n (app_in k (entry_at m k) facts.sizes)
  pub after : (e : Entry) → e.facts ≡ Some facts → apps_from 0 (slice_set m k e) ≡ insert rest n (app_in k e facts.sizes)

split_by : (m : List Entry) (k : ℕ) (f : Facts) → (entry_at m k).facts ≡ Some f → k < length m → is_named (slice_set (facts_in m) k None) f.aid ≡ false → Split m k f.aid
split_by m k f stands lt gone =
    let u = free_entry (entry_at m k) in
    let after : (e : Entry) → e.facts ≡ Some f → apps_from 0 (slice_set m k e) ≡ insert (apps_from 0 (slice_set m k u)) f.aid (app_in k e f.sizes) =
    λ e h. apps_set 0 m k e u f lt h refl gone ∙ ap (λ (i : ℕ). insert (apps_from 0 (slice_set m k u)) f.aid (app_in i e f.sizes)) (omega arith) in
    record {
      facts = f;
      stands = stands;
      rest = apps_from 0 (slice_set m k u);
      without = refl;
      gone = lookup_none 0 (slice_set m k u) f.aid (ap (λ (fs : List (Option Facts)). is_named fs f.aid) (facts_set m k u) ∙ gone);
      now = ap (apps_from 0) (sym (set_self m k)) ∙ after (entry_at m k) stands;
      after = after;
    }

pub split : (m : List Entry) (k : ℕ) (n : List ℕ) → name_of_entry (facts_in m) k ≡ Some n → AreApart (facts_in m) → Split m k n
split m k n named apart =
    let here = named_here m k n named in
    let gone = name_gone (facts_in m) k n apart named in
    subst (Split m k) here.name (split_by m k here.facts here.stands here.within (subst (λ (l : List ℕ). is_named (slice_set (facts_in m) k None) l ≡ false) (sym here.name) gone))

-- the application of a slot
pub app_is : (m : List Entry) (k : ℕ) (n : List ℕ) → (s : Split m k n) → app_of (apps_from 0 m) (Some n) ≡ app_in k (entry_at m k) s.facts.sizes
app_is m k n s =
    ap (λ (apps : List (List ℕ × App)). app_of apps (Some n)) s.now ∙ ap (λ (o : Option App). unwrap_or o no_app) (lookup_inserted_lem s.rest n (app_in k (entry_at m k) s.facts.sizes))

-- ---- items

commit_apps : (m : List Entry) (n : List ℕ) (ws : List (ℕ × List ℕ)) (e : List Entry) → CommitDone m n ws e → apps_from 0 e ≡ apps_after_commit (apps_from 0 m) n ws
commit_apps m n ws e d =
    let x = entry_at m d.slot in
    let s = split m d.slot n d.named d.apart in
    let len : fixed_len x.facts ≡ s.facts.sizes.fixed = ap fixed_len s.stands in
    let within = subst (λ (k : ℕ). AllByRecursion (λ w. 8 * w.0 < k) ws) len d.within in
    let whole = subst (λ (k : ℕ). k ≤ length x.fixed) len d.whole in
    let app : app_in d.slot (with_list ws x) s.facts.sizes ≡ with_words ws (app_in d.slot x s.facts.sizes) =
    ap (λ (l : List ℕ). record (app_in d.slot x s.facts.sizes) { fixed = l }) (laid_front s.facts.sizes.fixed x.fixed ws whole within) in
    ap (apps_from 0) d.after
    ∙ s.after (with_list ws x) s.stands
    ∙ ap (insert s.rest n) app
    ∙ sym (insert_twice s.rest n (app_in d.slot x s.facts.sizes) (with_words ws (app_in d.slot x s.facts.sizes)))
    ∙ ap (λ (apps : List (List ℕ × App)). insert apps n (with_words ws (app_in d.slot x s.facts.sizes))) (sym s.now)
    ∙ ap (λ (a : App). insert (apps_from 0 m) n (with_words ws a)) (sym (app_is m d.slot n s))

remove_apps : (m : List Entry) (n : List ℕ) (e : List Entry) → RemoveDone m n e → apps_from 0 e ≡ remove (apps_from 0 m) n
remove_apps m n e d =
    let s = split m d.slot n d.named d.apart in
    ap (apps_from 0) d.after ∙ s.without ∙ sym (ap (λ (apps : List (List ℕ × App)). remove apps n) s.now ∙ remove_inserted s.rest n (app_in d.slot (entry_at m d.slot) s.facts.sizes) s.gone)

enter_apps : (m : List Entry) (s : Site) (n : List ℕ) (e : List Entry) → EnterDone m s n e → apps_from 0 e ≡ insert (apps_from 0 m) n (app_of_site s (memory_site_bytes m s))
enter_apps m s n e d =
    let x = entry_at m s.place in
    let y = with_app s.sizes n x in
    let init = d.init in
    let whole = d.whole in
    let zs = zeros (s.sizes.fixed - s.sizes.init) in
    let len : length zs ≡ s.sizes.fixed - s.sizes.init = length-replicate (s.sizes.fixed - s.sizes.init) 0 in
    let fixed : take s.sizes.fixed (splice x.fixed s.sizes.init zs) ≡ take s.sizes.init x.fixed ++ zs =
    ap (λ (k : ℕ). take k (splice x.fixed s.sizes.init zs)) (omega (arith, len, init))
    ∙ ap (λ (l : List ℕ). take (s.sizes.init + length zs) (take s.sizes.init x.fixed ++ l ++ drop (s.sizes.init + length zs) x.fixed)) (sym (take-length zs))
    ∙ take-paste x.fixed s.sizes.init zs (length zs) (omega (arith, init, whole)) (omega arith)
    ∙ ap (λ (l : List ℕ). take s.sizes.init x.fixed ++ l) (take-length zs) in
    let app : app_in s.place y (new_facts s.sizes n).sizes ≡ app_of_site s (memory_site_bytes m s) = ap (λ (l : List ℕ). record (app_in s.place y (new_facts s.sizes n).sizes) { fixed = l }) fixed in
    ap (apps_from 0) d.after
    ∙ apps_set 0 m s.place y x (new_facts s.sizes n) d.place refl d.free (not_named_freed (facts_in m) s.place n d.fresh)
    ∙ ap (λ (i : ℕ). insert (apps_from 0 (slice_set m s.place x)) n (app_in i y (new_facts s.sizes n).sizes)) (omega arith)
    ∙ ap (λ (l : List Entry). insert (apps_from 0 l) n (app_in s.place y (new_facts s.sizes n).sizes)) (set_self m s.place)
    ∙ ap (insert (apps_from 0 m) n) app

pub piece_keeps_facts : (p : Part) (at : ℕ) (b : List ℕ) (x : Entry) → (with_piece p at b x).facts ≡ x.facts
piece_keeps_facts Code at b x = refl
piece_keeps_facts Data at b x = refl
piece_keeps_facts Dir at b x = refl
piece_keeps_facts Fci at b x = refl

apps_done : (m : List Entry) (i : BankItem) (e : List Entry) → ItemDone m i e → apps_from 0 e ≡ item_done (memory_site_bytes m) i (apps_from 0 m)
apps_done m (Piece s p at b) e d = ap (apps_from 0) d.after ∙ apps_free 0 m s.place (with_piece p at b (entry_at m s.place)) d.free (piece_keeps_facts p at b (entry_at m s.place) ∙ d.free)
apps_done m (Blank s at n) e d = ap (apps_from 0) d
apps_done m (Note s n i) e d = ap (apps_from 0) d
apps_done m (Commit n ws) e d = commit_apps m n ws e d
apps_done m (Enter s n) e d = enter_apps m s n e d
apps_done m (Remove n) e d = remove_apps m n e d

-- an item changes the applications by its definition
pub memory_obeys : (m : List Entry) (i : BankItem) (a : Answer) (e : List Entry) → MemoryDid m i a e → Changes (memory_state m) (item_done (memory_site_bytes m) i (apps_from 0 m)) a (memory_state e)
memory_obeys m i a e d =
    subst (λ (b : Answer). Changes (memory_state m) (item_done (memory_site_bytes m) i (apps_from 0 m)) b (memory_state e)) (sym d.answer)
    (record { apps = apps_done m i e d.done; cuts = refl; faults = refl; going = refl })

names_done : (m : List Entry) (i : BankItem) (e : List Entry) → ItemDone m i e → (k : ℕ) (n : List ℕ) → name_of_entry (facts_in m) k ≡ Some n → Spares n i → name_of_entry (facts_in e) k ≡ Some n
names_done m (Piece s p at b) e d k n h q =
    ap (λ (l : List Entry). name_of_entry (facts_in l) k) d.after ∙ ap (λ (fs : List (Option Facts)). name_of_entry fs k) (facts_kept m s.place (with_piece p at b (entry_at m s.place)) (piece_keeps_facts p at b (entry_at m s.place))) ∙ h
names_done m (Blank s at c) e d k n h q = ap (λ (l : List Entry). name_of_entry (facts_in l) k) d ∙ h
names_done m (Note s l i) e d k n h q = ap (λ (l : List Entry). name_of_entry (facts_in l) k) d ∙ h
names_done m (Commit l ws) e d k n h q =
    ap (λ (l : List Entry). name_of_entry (facts_in l) k) d.after ∙ ap (λ (fs : List (Option Facts)). name_of_entry fs k) (facts_kept m d.slot (with_list ws (entry_at m d.slot)) refl) ∙ h
names_done m (Enter s l) e d k n h q =
    ap (λ (l : List Entry). name_of_entry (facts_in l) k) d.after
    ∙ ap (λ (fs : List (Option Facts)). name_of_entry fs k) (facts_set m s.place (with_app s.sizes l (entry_at m s.place)))
    ∙ named_other (facts_in m) s.place (Some (new_facts s.sizes l)) k n h (λ r. cc (sym (free_named m s.place d.free) ∙ r))
names_done m (Remove l) e d k n h q =
    ap (λ (l : List Entry). name_of_entry (facts_in l) k) d.after
    ∙ ap (λ (fs : List (Option Facts)). name_of_entry fs k) (facts_set m d.slot (free_entry (entry_at m d.slot)))
    ∙ named_other (facts_in m) d.slot None k n h (λ r. q (cc (sym r ∙ d.named)))

-- no item enters a name that is there
enters_other : (m : List Entry) (i : BankItem) (e : List Entry) → ItemDone m i e → (k : ℕ) (n : List ℕ) → name_of_entry (facts_in m) k ≡ Some n → EntersNot n i
enters_other m (Piece s p at b) e d k n h = tt
enters_other m (Blank s at c) e d k n h = tt
enters_other m (Note s l i) e d k n h = tt
enters_other m (Commit l ws) e d k n h = tt
enters_other m (Enter s l) e d k n h = λ same. cc (sym (named_is (facts_in m) k n h) ∙ ap (is_named (facts_in m)) (sym same) ∙ d.fresh)
enters_other m (Remove l) e d k n h = tt

sizes_done : (m : List Entry) (i : BankItem) (e : List Entry) → ItemDone m i e → (k : ℕ) (n : List ℕ) → name_of_entry (facts_in m) k ≡ Some n → Spares n i → sizes_of (app_of (apps_from 0 e) (Some n)) ≡ sizes_of (app_of (apps_from 0 m) (Some n))
sizes_done m i e d k n h q =
    ap (λ (es : List (List ℕ × App)). sizes_of (app_of es (Some n))) (apps_done m i e d)
    ∙ item_sized (memory_site_bytes m) i (apps_from 0 m) n q (enters_other m i e d k n h)

-- an item keeps the slots of all applications but the one that it deletes
pub memory_keeps : (m : List Entry) (i : BankItem) (a : Answer) (e : List Entry) → MemoryDid m i a e → (k : ℕ) (n : List ℕ) → memory_named m k ≡ Some n → Spares n i → memory_named e k ≡ Some n
memory_keeps m i a e d k n h q =
    let s : HasSizes (apps_from 0 m) k (name_of_entry (facts_in m) (slot_place k)) n = has_sizes (apps_from 0 m) k (name_of_entry (facts_in m) (slot_place k)) n h in
    slot_named (apps_from 0 e) k (name_of_entry (facts_in e) (slot_place k)) n (names_done m i e d.done (slot_place k) n s.name q) (s.sizes ∙ sym (sizes_done m i e d.done (slot_place k) n s.name q))

commit_facts : (m : List Entry) (n : List ℕ) (ws : List (ℕ × List ℕ)) (e : List Entry) → CommitDone m n ws e → facts_in e ≡ facts_in m
commit_facts m n ws e d = ap facts_in d.after ∙ facts_kept m d.slot (with_list ws (entry_at m d.slot)) refl

commit_count : (m : List Entry) (n : List ℕ) (ws : List (ℕ × List ℕ)) (e : List Entry) → CommitDone m n ws e → length (apps_from 0 e) ≡ length (apps_from 0 m)
commit_count m n ws e d =
    let x = entry_at m d.slot in
    let s = split m d.slot n d.named d.apart in
    ap (λ (l : List Entry). length (apps_from 0 l)) d.after
    ∙ ap length (s.after (with_list ws x) s.stands)
    ∙ length_same s.rest n (app_in d.slot (with_list ws x) s.facts.sizes) (app_in d.slot x s.facts.sizes)
    ∙ sym (ap length s.now)

-- a commit keeps good sites
pub memory_spares : (m : List Entry) (n : List ℕ) (ws : List (ℕ × List ℕ)) (a : Answer) (e : List Entry) → MemoryDid m (Commit n ws) a e → StayGood (apps_from 0 m) (memory_room m) (apps_from 0 e) (memory_room e)
memory_spares m n ws a e d s good =
    let few = good.few in
    record {
      limits = good.limits;
      few = subst (λ (k : ℕ). k < 32) (sym (commit_count m n ws e d.done)) few;
      place = ap (λ (fs : List (Option Facts)). Some (first_free fs)) (commit_facts m n ws e d.done) ∙ good.place;
    }

-- a commit keeps the bytes of good sites
pub memory_leaves : (m : List Entry) (n : List ℕ) (ws : List (ℕ × List ℕ)) (a : Answer) (e : List Entry) → MemoryDid m (Commit n ws) a e → BytesStay (apps_from 0 m) (memory_room m) (memory_site_bytes m) (memory_site_bytes e)
memory_leaves m n ws a e d s good p =
    let done = d.done in
    let place : first_free (facts_in m) ≡ s.place = cc good.place in
    let other : done.slot ≢ s.place = λ q. cc (sym (free_has_no_name (facts_in m)) ∙ ap (name_of_entry (facts_in m)) (place ∙ sym q) ∙ done.named) in
    ap (λ (l : List Entry). memory_site_bytes l s p) done.after
    ∙ ap (λ (x : Entry). take (part_len p s.sizes) (part_of p x)) (entry_beside m done.slot s.place (with_list ws (entry_at m done.slot)) other)
