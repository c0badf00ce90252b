-- Changes of static bytes: a commit on the bank, or pending words.
use Rattle.std.proofs.Common.{◌≡◌, ℕ, zero, suc, ◌+◌, ◌-◌, ◌/◌, ◌%◌, ◌≤◌, ◌<◌, Bool, true, false, List, [], ◌∷◌, ◌++◌, length, Option, Some, None, Ok, Err, refl, sym, ap, subst, ◌∙◌, arith}
use Rattle.std.specs.Prelude.{nat_lt, nat_eq, unwrap_or, IsSome, OnOk}
use Rattle.std.proofs.lemmas.List.{length-replicate}
use Rattle.mc_words.specs.model_device.specs.Orders.{Answer, InOrder}
use Rattle.mc_bank.specs.model_card.specs.Items.{BankItem, Commit}
use Rattle.mc_words.specs.model_device.specs.Bytes.{lookup, insert, zeros}
use Rattle.mc_words.specs.model_device.specs.Card.{App}
use Rattle.mc_words.specs.model_device.specs.Pieces.{laid_pieces, touched_words, not_pending, HoldPieces, LieIn}
use Rattle.mc_apdu.specs.model_machine.specs.Frame.{Frame, Static, static_bytes, static_written, passes_limit, pending_change as changes_of}
use Rattle.mc_bank.specs.Bank.{BankState, app_of, name_or, no_app, with_words, apps_after_commit, Changes}
use Rattle.mc_words.specs.model_device.proofs.ImageLemmas.{all_append}
use Rattle.mc_trans.proofs.Overlay.{length_laid}
use Rattle.mc_trans.proofs.Holding.{words_laid, none_held}
use Rattle.mc_trans.proofs.Counting.{words_counted}
use Rattle.mc_segs.specs.HeldFrames.{Held, FitsBank, frame_on_bank, frame_reading, no_pieces, pieces_of, ArePendingIn, app_under}
use Rattle.mc_segs.specs.Inside.{frame_value}
use Rattle.mc_segs.specs.Commits.{IsCommitted}
use Rattle.mc_segs.specs.Ends.{EffectDone, IsOneCommit, Commits, scene}
use Rattle.mc_segs.specs.Puts.{PutsBytes, words_under}
use Rattle.mc_segs.specs.declared.frame.Frame.TheInside.{Inside}
use Rattle.mc_segs.proofs.PendingLemmas.{pieces_held, pieces_lie}
use Rattle.mc_segs.proofs.AccessLemmas.{HasWords}
use Rattle.mc_words.specs.model_device.proofs.MapLemmas.{lookup_inserted_lem}
use Rattle.mc_bank.specs.declared.bank.Bank.{Ghosts}

-- ---- counts

none_there : (n count : ℕ) → not_pending n count [] ≡ count
none_there n zero = refl
none_there n (suc count) = omega (arith, none_there (n + 1) count)

-- 1 to 255 bytes lie in at most 64 words
pub few_words : (at len : ℕ) → 1 ≤ len → len ≤ 255 → 0 + not_pending (at / 8) (words_under at len) [] ≤ 64
few_words at len low high = omega (arith, none_there (at / 8) (words_under at len))

-- ---- a bank after a commit

app_after : (s s' : BankState) (o o' : Option (List ℕ)) (ws : List (ℕ × List ℕ)) → IsSome o → o' ≡ o → s'.apps ≡ apps_after_commit s.apps (name_or o) ws → app_of s'.apps o' ≡ with_words ws (app_of s.apps o)
app_after s s' None o' ws there same apps = absurd (cc there)
app_after s s' (Some n) o' ws there same apps =
    ap (app_of s'.apps) same
    ∙ ap (λ (m : List (List ℕ × App)). unwrap_or (lookup m n) no_app) apps
    ∙ ap (λ (a : Option App). unwrap_or a no_app) (lookup_inserted_lem s.apps n (with_words ws (app_of s.apps (Some n))))

there_after : (s s' : BankState) (o o' : Option (List ℕ)) (ws : List (ℕ × List ℕ)) → IsSome o → o' ≡ o → s'.apps ≡ apps_after_commit s.apps (name_or o) ws → IsSome (lookup s'.apps (name_or o'))
there_after s s' o o' ws there same apps =
    let n = name_or o in
    let a = with_words ws (app_of s.apps (Some n)) in
    let found : lookup s'.apps (name_or o') ≡ Some a = ap (λ (m : List (List ℕ × App)). lookup m (name_or o')) apps ∙ ap (λ (k : Option (List ℕ)). lookup (insert s.apps n a) (name_or k)) same ∙ lookup_inserted_lem s.apps n a in
    subst (λ (f : Option App). IsSome f) (sym found) refl

-- a commit of words that hold some pieces writes these pieces over the static bytes
pub is_committed : (s s' : BankState) (named named' : ℕ → Option (List ℕ)) (h : Held) (ps ws : List (ℕ × List ℕ)) → FitsBank s named h → LieIn (length (app_under s named h).fixed) ps → HoldPieces (app_under s named h).fixed ps ws
    → s'.apps ≡ apps_after_commit s.apps (name_or (named h.slot)) ws → ((k : ℕ) → named' k ≡ named k) → IsCommitted s s' named named' h (laid_pieces (app_under s named h).fixed ps)
is_committed s s' named named' h ps ws fits lie held apps slots =
    let l = (app_under s named h).fixed in
    let app : app_under s' named' h ≡ with_words ws (app_under s named h) = app_after s s' (named h.slot) (named' h.slot) ws fits.there (slots h.slot) apps in
    let fixed : (app_under s' named' h).fixed ≡ laid_pieces l ps = ap (λ (a : App). a.fixed) app ∙ words_laid l ps ws lie held in
    record {
      fixed = fixed;
      name = ap name_or (slots h.slot);
      fits = record {
        there = subst (λ (o : Option (List ℕ)). IsSome o) (sym (slots h.slot)) fits.there;
        app = there_after s s' (named h.slot) (named' h.slot) ws fits.there (slots h.slot) apps;
        code = fits.code ∙ ap (λ (a : App). length a.code) (sym app);
        fixed = fits.fixed ∙ sym (ap length fixed ∙ length_laid l ps lie);
        deny = fits.deny ∙ ap (λ (a : App). a.deny) (sym app);
        session = fits.session ∙ ap (λ (a : App). a.session) (sym app);
      };
    }

-- ---- at once

-- the static bytes of a frame on a bank
abbrev pub fixed_under : {B : Type 0} → Ghosts B → B → Held → List ℕ
fixed_under ghosts b h = (app_under (ghosts.state b) (ghosts.named b) h).fixed

module _ {B : Type 0} (ghosts : Ghosts B) where
  commit_items : (b e : B) (h : Held) (at : ℕ) (from : List ℕ) (ws : List (ℕ × List ℕ)) (a : Answer) → PutsBytes (fixed_under ghosts b h) [] at from ws → InOrder ghosts.did b (Commit (name_or (ghosts.named b h.slot)) ws ∷ []) a e
      → IsOneCommit ghosts.did (name_or (ghosts.named b h.slot)) (fixed_under ghosts b h) (Some ((at, from) ∷ [])) b a e
  commit_items b e h at from ws a puts items = (ws, puts.holds [] tt (none_held (fixed_under ghosts b h)), items, puts.pending.few)

  committed_at_once : (b e : B) (h : Held) (at : ℕ) (from : List ℕ) (ws : List (ℕ × List ℕ)) → FitsBank (ghosts.state b) (ghosts.named b) h → 1 ≤ length from → at + length from ≤ length h.frame.fixed → PutsBytes (fixed_under ghosts b h) [] at from ws
      → InOrder ghosts.did b (Commit (name_or (ghosts.named b h.slot)) ws ∷ []) (Ok tt) e → (ghosts.state e).apps ≡ apps_after_commit (ghosts.state b).apps (name_or (ghosts.named b h.slot)) ws → ((k : ℕ) → ghosts.named e k ≡ ghosts.named b k) → (ghosts.state e).stopped ≡ false
      → EffectDone ghosts (scene b e h h [] []) (static_written false (frame_on_bank ghosts b h) [] at from)
  committed_at_once b e h at from ws fits some range puts items apps slots going =
      let l = fixed_under ghosts b h in
      let held = puts.holds [] tt (none_held l) in
      let lie : LieIn (length l) ((at, from) ∷ []) = ((omega arith, omega (arith, fits.fixed)), tt) in
      let now = is_committed (ghosts.state b) (ghosts.state e) (ghosts.named b) (ghosts.named e) h ((at, from) ∷ []) ws fits lie held apps slots in
      record {
        commits = commit_items b e h at from ws (Ok tt) puts items;
        bytes = now.fixed;
        frame = ap (λ (n : List ℕ). frame_reading (record h.frame { name = n; fixed = fixed_under ghosts e h })) now.name ∙ ap (λ (t : List ℕ). frame_reading (record h.frame { name = name_or (ghosts.named b h.slot); fixed = t })) now.fixed;
        public = refl;
        slot = refl;
        fits = now.fits;
        going = going;
      }

  done_by_answer : (b e : B) (h : Held) (at : ℕ) (from : List ℕ) (ws : List (ℕ × List ℕ)) (a : Answer) → FitsBank (ghosts.state b) (ghosts.named b) h → 1 ≤ length from → at + length from ≤ length h.frame.fixed → PutsBytes (fixed_under ghosts b h) [] at from ws
      → InOrder ghosts.did b (Commit (name_or (ghosts.named b h.slot)) ws ∷ []) a e → Changes (ghosts.state b) (apps_after_commit (ghosts.state b).apps (name_or (ghosts.named b h.slot)) ws) a (ghosts.state e) → ((k : ℕ) → ghosts.named e k ≡ ghosts.named b k)
      → OnOk a (EffectDone ghosts (scene b e h h [] []) (static_written false (frame_on_bank ghosts b h) [] at from))
  done_by_answer b e h at from ws (Ok u) fits some range puts items changes slots = committed_at_once b e h at from ws fits some range puts items changes.apps slots changes.going
  done_by_answer b e h at from ws (Err s) fits some range puts items changes slots = tt

  -- the puts of a write at once, from the slot, the empty words and the list of the calls
  put_at_once : (b : B) (h : Held) (k : ℕ) (at : ℕ) (from : List ℕ) (none ws : List (ℕ × List ℕ)) → k ≡ h.slot → none ≡ [] → PutsBytes (app_of (ghosts.state b).apps (ghosts.named b k)).fixed none at from ws → PutsBytes (fixed_under ghosts b h) [] at from ws
  put_at_once b h k at from none ws same empty puts =
      subst (λ (t : List (ℕ × List ℕ)). PutsBytes (fixed_under ghosts b h) t at from ws) empty (subst (λ (i : ℕ). PutsBytes (app_of (ghosts.state b).apps (ghosts.named b i)).fixed none at from ws) same puts)

  order_at_once : (b e : B) (h : Held) (k : ℕ) (ws list : List (ℕ × List ℕ)) (a : Answer) → k ≡ h.slot → list ≡ ws → InOrder ghosts.did b (Commit (name_or (ghosts.named b k)) list ∷ []) a e → InOrder ghosts.did b (Commit (name_or (ghosts.named b h.slot)) ws ∷ []) a e
  order_at_once b e h k ws list a same is items =
      subst (λ (t : List (ℕ × List ℕ)). InOrder ghosts.did b (Commit (name_or (ghosts.named b h.slot)) t ∷ []) a e) is (subst (λ (i : ℕ). InOrder ghosts.did b (Commit (name_or (ghosts.named b i)) list ∷ []) a e) same items)

  pub items_at_once : (b e : B) (h : Held) (k : ℕ) (at : ℕ) (from : List ℕ) (none ws list : List (ℕ × List ℕ)) (a : Answer) → k ≡ h.slot → none ≡ [] → list ≡ ws → PutsBytes (app_of (ghosts.state b).apps (ghosts.named b k)).fixed none at from ws
      → InOrder ghosts.did b (Commit (name_or (ghosts.named b k)) list ∷ []) a e → Commits ghosts (scene b e h h [] []) (static_written false (frame_on_bank ghosts b h) [] at from) a
  items_at_once b e h k at from none ws list a same empty is puts items = commit_items b e h at from ws a (put_at_once b h k at from none ws same empty puts) (order_at_once b e h k ws list a same is items)

  pub done_at_once : (b e : B) (h : Held) (k : ℕ) (at : ℕ) (from : List ℕ) (none ws list : List (ℕ × List ℕ)) (a : Answer) → k ≡ h.slot → none ≡ [] → list ≡ ws → FitsBank (ghosts.state b) (ghosts.named b) h → 1 ≤ length from → at + length from ≤ length h.frame.fixed
      → PutsBytes (app_of (ghosts.state b).apps (ghosts.named b k)).fixed none at from ws → InOrder ghosts.did b (Commit (name_or (ghosts.named b k)) list ∷ []) a e → Changes (ghosts.state b) (apps_after_commit (ghosts.state b).apps (name_or (ghosts.named b k)) list) a (ghosts.state e) → ((k : ℕ) → ghosts.named e k ≡ ghosts.named b k)
      → OnOk a (EffectDone ghosts (scene b e h h [] []) (static_written false (frame_on_bank ghosts b h) [] at from))
  done_at_once b e h k at from none ws list a same empty is fits some range puts items changes slots =
      done_by_answer b e h at from ws a fits some range (put_at_once b h k at from none ws same empty puts) (order_at_once b e h k ws list a same is items)
      (subst (λ (t : List (ℕ × List ℕ)). Changes (ghosts.state b) (apps_after_commit (ghosts.state b).apps (name_or (ghosts.named b h.slot)) t) a (ghosts.state e)) is (subst (λ (i : ℕ). Changes (ghosts.state b) (apps_after_commit (ghosts.state b).apps (name_or (ghosts.named b i)) list) a (ghosts.state e)) same changes))
      slots

-- ---- later

-- a frame reads the same with other pieces that write the same bytes and touch the same words
same_seen : (f : Frame) (ps qs : List (ℕ × List ℕ)) → laid_pieces f.fixed ps ≡ laid_pieces f.fixed qs → touched_words ps ≡ touched_words qs → no_pieces ps ≡ no_pieces qs → frame_reading (record f { pieces = ps }) ≡ frame_reading (record f { pieces = qs })
same_seen f ps qs laid words none =
    ap (λ (t : List ℕ). record (frame_reading (record f { pieces = ps })) { read = t }) laid
    ∙ ap (λ (t : List ℕ). record (frame_reading (record f { pieces = qs })) { pending = t; none = no_pieces ps }) words
    ∙ ap (λ (t : Bool). record (frame_reading (record f { pieces = qs })) { none = t }) none

-- at least one word is pending after bytes are put
some_put : (begin ws : List (ℕ × List ℕ)) (n count : ℕ) → length ws ≡ length begin + not_pending n count begin → 1 ≤ count → 1 ≤ length ws
some_put [] ws n count is some = omega (arith, is, none_there n count)
some_put (w ∷ begin) ws n count is some = omega (arith, is)

some_pieces : (n : ℕ) (ws : List (ℕ × List ℕ)) → 1 ≤ length ws → no_pieces (pieces_of n ws) ≡ false
some_pieces n [] some = absurd (omega arith)
some_pieces n (w ∷ ws) some = refl

pub no_pieces_append : (ps : List (ℕ × List ℕ)) (p : ℕ × List ℕ) → no_pieces (ps ++ p ∷ []) ≡ false
no_pieces_append [] p = refl
no_pieces_append (q ∷ ps) p = refl

-- pieces that the same words hold write the same bytes and touch the same words
pieces_same : (l : List ℕ) (ps qs ws : List (ℕ × List ℕ)) → LieIn (length l) ps → LieIn (length l) qs → HoldPieces l ps ws → HoldPieces l qs ws → (laid_pieces l ps ≡ laid_pieces l qs) × (touched_words ps ≡ touched_words qs)
pieces_same l ps qs ws lie lie' held held' = (sym (words_laid l ps ws lie held) ∙ words_laid l qs ws lie' held', sym held.touched_words ∙ held'.touched_words)

-- a write passes the limit exactly if more than 64 words would be pending
limit_is : (m : Frame) (l : List ℕ) (ws : List (ℕ × List ℕ)) (at n : ℕ) → m.pieces ≡ pieces_of (length l) ws → ArePendingIn (length l) ws → 0 < n → passes_limit true m (Some (Static at)) n ≡ nat_lt 64 (length ws + not_pending (at / 8) (words_under at n) ws)
limit_is m l ws at n pieces are some =
    let len = length-replicate n 0 in
    let count : length (touched_words (pieces_of (length l) ws ++ (at, zeros n) ∷ [])) ≡ length ws + not_pending (at / 8) (words_under at n) ws =
    words_counted l (pieces_of (length l) ws) ws at (zeros n) (pieces_held l ws are) (omega (arith, len)) ∙ ap (λ (k : ℕ). length ws + not_pending (at / 8) (words_under at k) ws) len in
    ap (λ (ps : List (ℕ × List ℕ)). nat_lt 64 (length (touched_words (ps ++ (at, zeros n) ∷ [])))) pieces ∙ ap (λ (k : ℕ). nat_lt 64 k) count

module _ {B : Type 0} (ghosts : Ghosts B) where
  pub kept_later : (b : B) (f : Inside) (h : Held) (at : ℕ) (from : List ℕ) (ws : List (ℕ × List ℕ)) → frame_value f ≡ h → FitsBank (ghosts.state b) (ghosts.named b) h → HasWords (fixed_under ghosts b h) f.fixed_len f.pending h → (ghosts.state b).stopped ≡ false
      → 1 ≤ length from → at + length from ≤ length h.frame.fixed → PutsBytes (fixed_under ghosts b h) f.pending at from ws
      → EffectDone ghosts (scene b b h (frame_value (record f { pending = ws })) [] []) (static_written true (frame_on_bank ghosts b h) [] at from)
  kept_later b f h at from ws view fits has going some range puts =
      let l = fixed_under ghosts b h in
      let n = length l in
      let ps = pieces_of n f.pending in
      let lie = pieces_lie n f.pending has.pending in
      let more : List (ℕ × List ℕ) = ps ++ (at, from) ∷ [] in
      let lie_more : LieIn n more = all_append (λ (p : ℕ × List ℕ). (0 < length p.1) × (p.0 + length p.1 ≤ n)) ps ((at, from) ∷ []) lie ((omega arith, omega (arith, fits.fixed)), tt) in
      let same = pieces_same l (pieces_of n ws) more ws (pieces_lie n ws puts.pending) lie_more (pieces_held l ws puts.pending) (puts.holds ps lie (pieces_held l f.pending has.pending)) in
      let now : frame_value (record f { pending = ws }) ≡ record h { frame = record h.frame { pieces = pieces_of n ws } } =
      ap (λ (t : Held). record t { frame = record t.frame { pieces = pieces_of f.fixed_len ws } }) view ∙ ap (λ (k : ℕ). record h { frame = record h.frame { pieces = pieces_of k ws } }) has.len in
      let m = frame_on_bank ghosts b h in
      let some_words : 1 ≤ length ws = some_put f.pending ws (at / 8) (words_under at (length from)) puts.count (omega arith) in
      subst (λ (t : Held). EffectDone ghosts (scene b b h t [] []) (static_written true m [] at from)) (sym now)
      (record {
        commits = refl;
        bytes = refl;
        frame = same_seen m (pieces_of n ws) more same.0 same.1 (some_pieces n ws some_words ∙ sym (no_pieces_append ps (at, from))) ∙ ap (λ (t : List (ℕ × List ℕ)). frame_reading (record m { pieces = t ++ (at, from) ∷ [] })) (sym has.pieces);
        public = refl;
        slot = refl;
        fits = record { there = fits.there; app = fits.app; code = fits.code; fixed = fits.fixed; deny = fits.deny; session = fits.session };
        going = going;
      })

missing_under : (at len : ℕ) (ws : List (ℕ × List ℕ)) (more : ℕ) → 1 ≤ len → more ≡ not_pending (at / 8) ((at % 8 + len - 1) / 8 + 1) ws → more ≡ not_pending (at / 8) (words_under at len) ws
missing_under at len ws more some is = is ∙ ap (λ (k : ℕ). not_pending (at / 8) k ws) (omega arith)

-- the limit by the numbers that the call counts
pub limit_by : (m : Frame) (l : List ℕ) (ws list : List (ℕ × List ℕ)) (at n more : ℕ) → m.pieces ≡ pieces_of (length l) ws → ArePendingIn (length l) ws → 1 ≤ n → list ≡ ws → more ≡ not_pending (at / 8) ((at % 8 + n - 1) / 8 + 1) ws → passes_limit true m (Some (Static at)) n ≡ nat_lt 64 (length list + more)
limit_by m l ws list at n more pieces are some same is =
    limit_is m l ws at n pieces are (omega arith)
    ∙ ap (λ (k : ℕ). nat_lt 64 k) (omega (arith, ap (λ (t : List (ℕ × List ℕ)). length t) same, missing_under at n ws more some is))

-- ---- pending words at once

some_changed : {B : Type 0} (did : B → BankItem → Answer → B → Type 0) (b e : B) (name l : List ℕ) (m : Frame) (ws : List (ℕ × List ℕ)) (a : Answer) → 1 ≤ length ws → length ws ≤ 64 → HoldPieces l (pieces_of (length l) ws) ws → InOrder did b (Commit name ws ∷ []) a e
    → IsOneCommit did name l (changes_of m (pieces_of (length l) ws)) b a e
some_changed did b e name l m [] a some few held items = absurd (omega arith)
some_changed did b e name l m (w ∷ ws) a some few held items = (w ∷ ws, held, items, few)

module _ {B : Type 0} (ghosts : Ghosts B) where
  abbrev pub pending_changed : B → B → Held → Answer → Type 0
  pending_changed b e h a = IsOneCommit ghosts.did (name_or (ghosts.named b h.slot)) (fixed_under ghosts b h) (changes_of (frame_on_bank ghosts b h) h.frame.pieces) b a e

  abbrev pub is_now : B → B → Held → Type 0
  is_now b e h = IsCommitted (ghosts.state b) (ghosts.state e) (ghosts.named b) (ghosts.named e) h (static_bytes (frame_on_bank ghosts b h))

  pub all_words : (b e : B) (f : Inside) (h : Held) (k : ℕ) (list : List (ℕ × List ℕ)) (a : Answer) → k ≡ h.slot → list ≡ f.pending → HasWords (fixed_under ghosts b h) f.fixed_len f.pending h → 1 ≤ length list
      → InOrder ghosts.did b (Commit (name_or (ghosts.named b k)) list ∷ []) a e → pending_changed b e h a
  all_words b e f h k list a same is has some items =
      let l = fixed_under ghosts b h in
      let name = name_or (ghosts.named b h.slot) in
      let all : InOrder ghosts.did b (Commit name f.pending ∷ []) a e = subst (λ (t : List (ℕ × List ℕ)). InOrder ghosts.did b (Commit name t ∷ []) a e) is (subst (λ (i : ℕ). InOrder ghosts.did b (Commit (name_or (ghosts.named b i)) list ∷ []) a e) same items) in
      let long = ap (λ (t : List (ℕ × List ℕ)). length t) is in
      subst (λ (ps : List (ℕ × List ℕ)). IsOneCommit ghosts.did name l (changes_of (frame_on_bank ghosts b h) ps) b a e) (sym has.pieces)
      (some_changed ghosts.did b e name l (frame_on_bank ghosts b h) f.pending a (omega arith) has.pending.few (pieces_held l f.pending has.pending) all)

  pub all_words_now : (b e : B) (f : Inside) (h : Held) (k : ℕ) (list : List (ℕ × List ℕ)) → k ≡ h.slot → list ≡ f.pending → FitsBank (ghosts.state b) (ghosts.named b) h → HasWords (fixed_under ghosts b h) f.fixed_len f.pending h
      → (ghosts.state e).apps ≡ apps_after_commit (ghosts.state b).apps (name_or (ghosts.named b k)) list → ((i : ℕ) → ghosts.named e i ≡ ghosts.named b i) → is_now b e h
  all_words_now b e f h k list same is fits has apps slots =
      let l = fixed_under ghosts b h in
      let now = is_committed (ghosts.state b) (ghosts.state e) (ghosts.named b) (ghosts.named e) h (pieces_of (length l) f.pending) f.pending fits (pieces_lie (length l) f.pending has.pending) (pieces_held l f.pending has.pending)
      (apps ∙ ap (λ (i : ℕ). apps_after_commit (ghosts.state b).apps (name_or (ghosts.named b i)) list) same ∙ ap (λ (t : List (ℕ × List ℕ)). apps_after_commit (ghosts.state b).apps (name_or (ghosts.named b h.slot)) t) is) slots in
      subst (λ (ps : List (ℕ × List ℕ)). IsCommitted (ghosts.state b) (ghosts.state e) (ghosts.named b) (ghosts.named e) h (laid_pieces l ps)) (sym has.pieces) now

pub some_words : (ws : List (ℕ × List ℕ)) → nat_eq (length ws) 0 ≡ false → 1 ≤ length ws
some_words [] none = absurd (cc none)
some_words (w ∷ ws) none = omega arith

-- a statement about the applications after a successful change
pub on_ok : (b e : BankState) (apps : List (List ℕ × App)) (a : Answer) (P : Type 0) → Changes b apps a e → (e.apps ≡ apps → P) → OnOk a P
on_ok b e apps (Ok u) P changed holds = holds changed.apps
on_ok b e apps (Err s) P changed holds = tt
