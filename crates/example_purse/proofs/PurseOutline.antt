-- Each instruction of the purse leads from its place to the next ones.
use Rattle.std.proofs.Common.{ℕ, suc, ◌+◌, ◌-◌, ◌/◌, ◌%◌, ◌^◌, ◌≤◌, true, false, List, [], ◌∷◌, ◌++◌, length, take, drop, refl, arith, inl, inr, ◌∙◌, ◌≡◌}
use Rattle.std.proofs.lemmas.Bool.{ltb-false}
use Rattle.model_text.specs.model_device.specs.Bytes.{num}
use Rattle.model_text.specs.model_device.specs.Pieces.{touched_words}
use Rattle.model_text.specs.model_machine.specs.Apdu.{ApduParts}
use Rattle.model_text.specs.model_machine.specs.Code.{instruction_at}
use Rattle.model_text.specs.model_machine.specs.Frame.{Frame, bytes_at, write_effect, too_many, new_public, session_of}
use Rattle.model_text.specs.model_machine.specs.Primitives.{Around, later_causes, prim_effect}
use Rattle.model_text.specs.model_machine.specs.Row.{causes, effect, row}
use Rattle.law_promise.specs.Outline.{Entry, BySelection, ByDelegation, is_direct, IsShown, FitsEntry, public_size, FetchShown, first_frame_of}
use Rattle.example_purse.specs.Purse.{Event, Commanded, Selected, Ended, purse_code}
use Rattle.example_purse.specs.Laws.{wrong_since, tries_left}
use Rattle.example_purse.proofs.Places.{PurseKept, PurseHolds, Cells, balance_of, IsFresh, IsZeroed, Sits, PurseAt, at0, at4, at7, at11, at14, at18, at21, at24, at28, at32, at35, at40, at43, at47, at50, at54, at58, at62, at64, at67, at71, at75, at76, at80, at83, at88, at91, at95, at99, at102, at105, at109, at111, at115, at118, at121, at123, at126, at129, at132, purse_outline}
use Rattle.example_purse.proofs.Facts.{still, tried, moved, shows, no_debit, is_debit, none_fresh, none_else, paid_else, some_try, spent_try, spent, spent_is, other_try, other_than_three, kept_try, sits_tried, open_tried, kept_compared, sits_compared, right_compared, right_tries, sits_right, opened, two_bytes, carried, paid, sits_paid, stored, paid_cells, money_moves, kept_paid, refused_exit, paid_exit, other_exit}

one_less : (t w : ℕ) → t + suc w ≤ 3 → t + w ≤ 3
one_less t w h = omega (arith, h)

-- the static bytes after a debit
abbrev cells_after : Cells → ℕ → ℕ → Cells
cells_after v x y =
    let b : ℕ = 65536 + balance_of v - num (x ∷ y ∷ []) in
    let c : ℕ = num (v.c0 ∷ v.c1 ∷ []) + 1 in
    record v { b0 = b / 256 ^ 1 % 256; b1 = b / 256 ^ 0 % 256; c0 = c / 256 ^ 1 % 256; c1 = c / 256 ^ 0 % 256 }

turn_at : (e : Entry Event) (h : List Event) (f : Frame) (p : List ℕ) (depth : ℕ) (x : Around) → Sits e h (session_of f) → PurseAt e h p f → PurseKept h f.fixed → FitsEntry e x → public_size ≤ length p
    → FetchShown purse_outline e h f p depth x (instruction_at purse_code f.at)
unfolding row causes effect bytes_at write_effect too_many later_causes prim_effect touched_words
turn_at e h f p depth x sit (at0 v s dyn fresh nil) kept fits size = still e h _ _ (v.b0 ∷ v.b1 ∷ v.c0 ∷ v.c1 ∷ []) (is_direct e) (num (take 2 p)) v.t (record { keeps = kept; next = (sit, at4 v s dyn _ _ fresh nil (shows e h p fresh)) })
turn_at e h f p depth x sit (at4 v s dyn c true fresh nil n) kept fits size = still e h _ _ (v.b0 ∷ v.b1 ∷ v.c0 ∷ v.c1 ∷ []) (is_direct e) (num (take 2 p)) v.t (record { keeps = kept; next = (sit, at35 v s dyn c true (n refl)) })
turn_at e h f p depth x sit (at4 v s dyn c false fresh nil n) kept fits size = still e h _ _ (v.b0 ∷ v.b1 ∷ v.c0 ∷ v.c1 ∷ []) (is_direct e) (num (take 2 p)) v.t (record { keeps = kept; next = (sit, at7 v s dyn c false fresh nil) })
turn_at e h f p depth x sit (at7 v s dyn c z fresh nil) kept fits size = still e h _ _ (v.b0 ∷ v.b1 ∷ v.c0 ∷ v.c1 ∷ []) (is_direct e) (num (take 2 p)) v.t (record { keeps = kept; next = (sit, at11 v s dyn _ _ fresh nil (no_debit e h p fresh) (is_debit e h p fresh)) })
turn_at e h f p depth x sit (at11 v s dyn c true fresh nil n debit) kept fits size = still e h _ _ (v.b0 ∷ v.b1 ∷ v.c0 ∷ v.c1 ∷ []) (is_direct e) (num (take 2 p)) v.t (record { keeps = kept; next = (sit, at76 v s dyn c true (record { fresh = fresh; debit = debit refl }) nil) })
turn_at e h f p depth x sit (at11 v s dyn c false fresh nil n debit) kept fits size = still e h _ _ (v.b0 ∷ v.b1 ∷ v.c0 ∷ v.c1 ∷ []) (is_direct e) (num (take 2 p)) v.t (record { keeps = kept; next = (sit, at14 v s dyn c false (n refl)) })
turn_at e h f p depth x sit (at14 v s dyn c z n) kept fits size = still e h _ _ (v.b0 ∷ v.b1 ∷ v.c0 ∷ v.c1 ∷ []) (is_direct e) (num (take 2 p)) v.t (record { keeps = kept; next = (sit, at18 v s dyn _ _ n) })
turn_at e h f p depth x sit (at18 v s dyn c true n) kept fits size = still e h _ _ (v.b0 ∷ v.b1 ∷ v.c0 ∷ v.c1 ∷ []) (is_direct e) (num (take 2 p)) v.t (record { keeps = kept; next = (sit, at24 v s dyn c true (paid_else e h p n)) })
turn_at e h f p depth x sit (at18 v s dyn c false n) kept fits size = still e h _ _ (v.b0 ∷ v.b1 ∷ v.c0 ∷ v.c1 ∷ []) (is_direct e) (num (take 2 p)) v.t (record { keeps = kept; next = (sit, at21 v s dyn c false n) })
turn_at e h f p depth x sit (at21 v s dyn c z n) kept fits size = still e h _ _ (v.b0 ∷ v.b1 ∷ v.c0 ∷ v.c1 ∷ []) (is_direct e) (num (take 2 p)) v.t (record { keeps = kept; next = refused_exit e h p _ _ 0x6D 0x00 sit (none_else e h n) refl size (λ is. omega (arith, is)) })
turn_at e h f p depth x sit (at24 v s dyn c z done) kept fits size = still e h _ _ (v.b0 ∷ v.b1 ∷ v.c0 ∷ v.c1 ∷ []) (is_direct e) (num (take 2 p)) v.t (record { keeps = kept; next = (sit, at28 v s _ c z done) })
turn_at e h f p depth x sit (at28 v s dyn c z done) kept fits size = still e h _ _ (v.b0 ∷ v.b1 ∷ v.c0 ∷ v.c1 ∷ []) (is_direct e) (num (take 2 p)) v.t (record { keeps = kept; next = (sit, at32 v s _ c z (stored e h p v.b0 v.b1 done)) })
turn_at e h f p depth x sit (at32 v s dyn c z done) kept fits size = still e h _ _ (v.b0 ∷ v.b1 ∷ v.c0 ∷ v.c1 ∷ []) (is_direct e) (num (take 2 p)) v.t (record { keeps = kept; next = paid_exit e h p _ _ sit done refl size })
turn_at e h f p depth x sit (at35 v s dyn c z n) kept fits size = still e h _ _ (v.b0 ∷ v.b1 ∷ v.c0 ∷ v.c1 ∷ []) (is_direct e) (num (take 2 p)) v.t (record { keeps = kept; next = (sit, at40 v s dyn _ _ n) })
turn_at e h f p depth x sit (at40 v s dyn c true n) kept fits size = still e h _ _ (v.b0 ∷ v.b1 ∷ v.c0 ∷ v.c1 ∷ []) (is_direct e) (num (take 2 p)) v.t (record { keeps = kept; next = (sit, at43 v s dyn c true n) })
turn_at e h f p depth x sit (at40 v s dyn c false n) kept fits size = still e h _ _ (v.b0 ∷ v.b1 ∷ v.c0 ∷ v.c1 ∷ []) (is_direct e) (num (take 2 p)) v.t (record { keeps = kept; next = (sit, at132 v s dyn c false (none_else e h n)) })
turn_at e h f p depth x sit (at43 v s dyn c z n) kept fits size = still e h _ _ (v.b0 ∷ v.b1 ∷ v.c0 ∷ v.c1 ∷ []) (is_direct e) (num (take 2 p)) v.t (record { keeps = kept; next = (sit, at47 v s dyn c _ n (some_try v.t)) })
turn_at e h f p depth x sit (at47 v s dyn c true n some) kept fits size = still e h _ _ (v.b0 ∷ v.b1 ∷ v.c0 ∷ v.c1 ∷ []) (is_direct e) (num (take 2 p)) v.t (record { keeps = kept; next = (sit, at129 v s dyn c true (none_else e h n)) })
turn_at e h f p depth x sit (at47 v s dyn c false n some) kept fits size = still e h _ _ (v.b0 ∷ v.b1 ∷ v.c0 ∷ v.c1 ∷ []) (is_direct e) (num (take 2 p)) v.t (record { keeps = kept; next = (sit, at50 v s dyn c false n (some refl)) })
turn_at e h f p depth x sit (at50 v s dyn c z n some) kept fits size =
    let left : v.t ≡ tries_left h = kept.left in
    let bound : v.t ≤ 3 = let tries : v.t + wrong_since h ≤ 3 = kept.tries in omega (arith, tries) in
    let one : suc (spent_try v.t) ≡ v.t = spent_is v.t some bound in
    let took : suc (spent_try v.t) ≡ tries_left h = one ∙ left in
    let room : spent_try v.t + suc (wrong_since h) ≤ 3 = spent v.t (wrong_since h) some kept.tries in
    tried e h _ _ (v.b0 ∷ v.b1 ∷ v.c0 ∷ v.c1 ∷ []) (is_direct e) (num (take 2 p)) v.t (spent_try v.t) (other_try v.t (spent_try v.t) one)
    (record {
      keeps = kept_try h v (spent_try v.t) kept (one_less (spent_try v.t) (wrong_since h) room) (inl took);
      next = (sits_tried e h (spent_try v.t) s sit, at54 (record v { t = spent_try v.t }) s dyn _ _ n (record { took = took; room = room }));
    })
turn_at e h f [] depth x sit (at54 v s dyn c z n few) kept fits size = absurd (omega (arith, size))
turn_at e h f (a ∷ []) depth x sit (at54 v s dyn c z n few) kept fits size = absurd (omega (arith, size))
turn_at e h f (a ∷ b ∷ ps) depth x sit (at54 v s dyn c z n few) kept fits size = still e h _ _ (v.b0 ∷ v.b1 ∷ v.c0 ∷ v.c1 ∷ []) (is_direct e) (num (take 2 (a ∷ b ∷ ps))) v.t (record { keeps = kept; next = (sit, at58 v s a b _ c z n few) })
turn_at e h f p depth x sit (at58 v s a b dyn c z n few) kept fits size = record { keeps = kept_compared _ (is_direct e) h v kept few; next = (sits_compared e _ h s sit, at62 v s _ _ _ n (right_compared e _ h v few)) }
turn_at e h f p depth x sit (at62 v s dyn c z n right) kept fits size = still e h _ _ (v.b0 ∷ v.b1 ∷ v.c0 ∷ v.c1 ∷ []) (is_direct e) (num (take 2 p)) v.t (record { keeps = kept; next = (sit, at64 v s dyn c z n right) })
turn_at e h f p depth x sit (at64 v s dyn c true n right) kept fits size = still e h _ _ (v.b0 ∷ v.b1 ∷ v.c0 ∷ v.c1 ∷ []) (is_direct e) (num (take 2 p)) v.t (record { keeps = kept; next = (sit, at67 v s dyn c true n (right refl)) })
turn_at e h f p depth x sit (at64 v s dyn c false n right) kept fits size = still e h _ _ (v.b0 ∷ v.b1 ∷ v.c0 ∷ v.c1 ∷ []) (is_direct e) (num (take 2 p)) v.t (record { keeps = kept; next = (sit, at126 v s dyn c false (none_else e h n)) })
turn_at e h f p depth x sit (at67 v s dyn c z n right) kept fits size =
    tried e h _ _ (v.b0 ∷ v.b1 ∷ v.c0 ∷ v.c1 ∷ []) (is_direct e) (num (take 2 p)) v.t 3 (other_than_three v.t right.low)
    (record {
      keeps = kept_try h v 3 kept (right_tries h right.none_wrong) (inr (refl, right.just));
      next = (sits_tried e h 3 s sit, at71 (record v { t = 3 }) s dyn c z n (open_tried e h 3 right.shown));
    })
turn_at e h f p depth x sit (at71 v s dyn c z n right) kept fits size = still e h _ _ (v.b0 ∷ v.b1 ∷ v.c0 ∷ v.c1 ∷ []) (is_direct e) (num (take 2 p)) v.t (record { keeps = kept; next = (sits_right e h right, at75 v 1 dyn c z n) })
turn_at e h f p depth x sit (at75 v s dyn c z n) kept fits size = still e h _ _ (v.b0 ∷ v.b1 ∷ v.c0 ∷ v.c1 ∷ []) (is_direct e) (num (take 2 p)) v.t (record { keeps = kept; next = other_exit e h _ _ sit n })
turn_at e h f p depth x sit (at76 v s dyn c z begun nil) kept fits size = still e h _ _ (v.b0 ∷ v.b1 ∷ v.c0 ∷ v.c1 ∷ []) (is_direct e) (num (take 2 p)) v.t (record { keeps = kept; next = (sit, at80 v s dyn _ _ begun (opened e h s sit nil)) })
turn_at e h f p depth x sit (at80 v s dyn c true begun shown) kept fits size = still e h _ _ (v.b0 ∷ v.b1 ∷ v.c0 ∷ v.c1 ∷ []) (is_direct e) (num (take 2 p)) v.t (record { keeps = kept; next = (sit, at83 v s dyn c true begun (shown refl)) })
turn_at e h f p depth x sit (at80 v s dyn c false begun shown) kept fits size = still e h _ _ (v.b0 ∷ v.b1 ∷ v.c0 ∷ v.c1 ∷ []) (is_direct e) (num (take 2 p)) v.t (record { keeps = kept; next = (sit, at126 v s dyn c false (none_fresh e h p begun.fresh)) })
turn_at e h f p depth x sit (at83 v s dyn c z begun shown) kept fits size = still e h _ _ (v.b0 ∷ v.b1 ∷ v.c0 ∷ v.c1 ∷ []) (is_direct e) (num (take 2 p)) v.t (record { keeps = kept; next = (sit, at88 v s dyn _ _ begun shown (two_bytes e h p begun.fresh)) })
turn_at e h f p depth x sit (at88 v s dyn c true begun shown two) kept fits size = still e h _ _ (v.b0 ∷ v.b1 ∷ v.c0 ∷ v.c1 ∷ []) (is_direct e) (num (take 2 p)) v.t (record { keeps = kept; next = (sit, at91 v s dyn c true begun shown (two refl)) })
turn_at e h f p depth x sit (at88 v s dyn c false begun shown two) kept fits size = still e h _ _ (v.b0 ∷ v.b1 ∷ v.c0 ∷ v.c1 ∷ []) (is_direct e) (num (take 2 p)) v.t (record { keeps = kept; next = (sit, at132 v s dyn c false (none_fresh e h p begun.fresh)) })
turn_at e h f [] depth x sit (at91 v s dyn c z begun shown two) kept fits size = absurd (omega (arith, size))
turn_at e h f (a ∷ []) depth x sit (at91 v s dyn c z begun shown two) kept fits size = absurd (omega (arith, size))
turn_at e h f (a ∷ b ∷ ps) depth x sit (at91 v s dyn c z begun shown two) kept fits size = still e h _ _ (v.b0 ∷ v.b1 ∷ v.c0 ∷ v.c1 ∷ []) (is_direct e) (num (take 2 (a ∷ b ∷ ps))) v.t (record { keeps = kept; next = (sit, at95 v s a b _ c z (record { begun = begun; open_session = shown; carries = carried e h (a ∷ b ∷ ps) a b begun.fresh two refl; amount = refl })) })
turn_at e h f p depth x sit (at95 v s a b dyn c z d) kept fits size = still e h _ _ (v.b0 ∷ v.b1 ∷ v.c0 ∷ v.c1 ∷ []) (is_direct e) (num (take 2 p)) v.t (record { keeps = kept; next = (sit, at99 v s a b dyn _ _ d (λ clear. ltb-false (balance_of v) (num (a ∷ b ∷ [])) clear)) })
turn_at e h f p depth x sit (at99 v s a b dyn true z d low) kept fits size = still e h _ _ (v.b0 ∷ v.b1 ∷ v.c0 ∷ v.c1 ∷ []) (is_direct e) (num (take 2 p)) v.t (record { keeps = kept; next = (sit, at121 v s (a ∷ b ∷ dyn) true z (none_fresh e h p d.begun.fresh)) })
turn_at e h f p depth x sit (at99 v s a b dyn false z d low) kept fits size = still e h _ _ (v.b0 ∷ v.b1 ∷ v.c0 ∷ v.c1 ∷ []) (is_direct e) (num (take 2 p)) v.t (record { keeps = kept; next = (sit, at102 v s a b dyn false z d (low refl)) })
turn_at e h f p depth x sit (at102 v s a b dyn c z d low) kept fits size = still e h _ _ (v.b0 ∷ v.b1 ∷ v.c0 ∷ v.c1 ∷ []) (is_direct e) (num (take 2 p)) v.t (record { keeps = kept; next = (sit, at105 v s a b dyn c z d low) })
turn_at e h f p depth x sit (at105 v s a b dyn c z d low) kept fits size = still e h _ _ (v.b0 ∷ v.b1 ∷ v.c0 ∷ v.c1 ∷ []) (is_direct e) (num (take 2 p)) v.t (record { keeps = kept; next = (sit, at109 v s a b dyn _ _ d low) })
turn_at e h f p depth x sit (at109 v s a b dyn c z d low) kept fits size = still e h _ _ (v.b0 ∷ v.b1 ∷ v.c0 ∷ v.c1 ∷ []) (is_direct e) (num (take 2 p)) v.t (record { keeps = kept; next = (sit, at111 v s a b dyn c z d low) })
turn_at e h f p depth x sit (at111 v s a b dyn c z d low) kept fits size = still e h _ _ (v.b0 ∷ v.b1 ∷ v.c0 ∷ v.c1 ∷ []) (is_direct e) (num (take 2 p)) v.t (record { keeps = kept; next = (sit, at115 v s a b dyn _ _ d low) })
turn_at e h f p depth x sit (at115 v s a b dyn c z d low) kept fits size =
    moved e h _ _ (v.b0 ∷ v.b1 ∷ v.c0 ∷ v.c1 ∷ []) (take 2 (paid_cells v a b) ++ drop 5 (paid_cells v a b)) (is_direct e) (num (take 2 p)) _ (money_moves h v a b kept)
    (record { keeps = kept_paid e h p v a b kept d low; next = (sits_paid e h (is_direct e) (num (take 2 p)) s sit, at118 (cells_after v a b) s (a ∷ b ∷ dyn) c z (paid e h p a b d)) })
turn_at e h f p depth x sit (at118 v s dyn c z done) kept fits size = still e h _ _ (v.b0 ∷ v.b1 ∷ v.c0 ∷ v.c1 ∷ []) (is_direct e) (num (take 2 p)) v.t (record { keeps = kept; next = (sit, at24 v s dyn c z done) })
turn_at e h f p depth x sit (at121 v s dyn c z none) kept fits size = still e h _ _ (v.b0 ∷ v.b1 ∷ v.c0 ∷ v.c1 ∷ []) (is_direct e) (num (take 2 p)) v.t (record { keeps = kept; next = (sit, at123 v s dyn c z none) })
turn_at e h f p depth x sit (at123 v s dyn c z none) kept fits size = still e h _ _ (v.b0 ∷ v.b1 ∷ v.c0 ∷ v.c1 ∷ []) (is_direct e) (num (take 2 p)) v.t (record { keeps = kept; next = refused_exit e h p _ _ 0x69 0x85 sit none refl size (λ is. omega (arith, is)) })
turn_at e h f p depth x sit (at126 v s dyn c z none) kept fits size = still e h _ _ (v.b0 ∷ v.b1 ∷ v.c0 ∷ v.c1 ∷ []) (is_direct e) (num (take 2 p)) v.t (record { keeps = kept; next = refused_exit e h p _ _ 0x69 0x82 sit none refl size (λ is. omega (arith, is)) })
turn_at e h f p depth x sit (at129 v s dyn c z none) kept fits size = still e h _ _ (v.b0 ∷ v.b1 ∷ v.c0 ∷ v.c1 ∷ []) (is_direct e) (num (take 2 p)) v.t (record { keeps = kept; next = refused_exit e h p _ _ 0x69 0x83 sit none refl size (λ is. omega (arith, is)) })
turn_at e h f p depth x sit (at132 v s dyn c z none) kept fits size = still e h _ _ (v.b0 ∷ v.b1 ∷ v.c0 ∷ v.c1 ∷ []) (is_direct e) (num (take 2 p)) v.t (record { keeps = kept; next = refused_exit e h p _ _ 0x67 0x00 sit none refl size (λ is. omega (arith, is)) })

-- ---- beginnings

first_place : (e : Entry Event) (h : List Event) (p fixed : List ℕ) (s : ℕ) → IsFresh e h p → IsZeroed e s → PurseKept h fixed → PurseAt e h p (first_frame_of purse_outline fixed (s ∷ []))
first_place e h p [] s fresh nil kept = absurd (omega (arith, kept.size))
first_place e h p (a ∷ []) s fresh nil kept = absurd (omega (arith, kept.size))
first_place e h p (a ∷ b ∷ []) s fresh nil kept = absurd (omega (arith, kept.size))
first_place e h p (a ∷ b ∷ c ∷ []) s fresh nil kept = absurd (omega (arith, kept.size))
first_place e h p (a ∷ b ∷ c ∷ d ∷ []) s fresh nil kept = absurd (omega (arith, kept.size))
first_place e h p (a ∷ b ∷ c ∷ d ∷ i ∷ []) s fresh nil kept = absurd (omega (arith, kept.size))
first_place e h p (a ∷ b ∷ c ∷ d ∷ i ∷ j ∷ []) s fresh nil kept = absurd (omega (arith, kept.size))
first_place e h p (a ∷ b ∷ c ∷ d ∷ i ∷ j ∷ k ∷ []) s fresh nil kept = at0 (record { b0 = a; b1 = b; t = c; p0 = d; p1 = i; c0 = j; c1 = k }) s _ fresh nil
first_place e h p (a ∷ b ∷ c ∷ d ∷ i ∷ j ∷ k ∷ l ∷ ls) s fresh nil kept = absurd (omega (arith, kept.size))

few_now : (h : List Event) (fixed : List ℕ) → PurseKept h fixed → wrong_since h ≤ 3
few_now h fixed kept = omega (arith, kept.tries)

-- the event of a command changes nothing
commanded_kept : (a : ApduParts) (h : List Event) (fixed : List ℕ) → PurseKept h fixed → PurseKept (Commanded a.ins a.body ∷ h) fixed
commanded_kept a h fixed kept =
    record {
      size = kept.size;
      few = (few_now h fixed kept, kept.few);
      left = kept.left;
      costs = kept.costs;
      tries = kept.tries;
      pin = kept.pin;
      balance = kept.balance;
      number = kept.number;
      ordered = kept.ordered;
      sessions = kept.sessions;
    }

began : (bytes : List ℕ) (a : ApduParts) (h : List Event) (fixed session : List ℕ) → PurseKept h fixed → PurseHolds h session
    → let k = Commanded a.ins a.body ∷ h in
    Sits (BySelection bytes a h) k (session_of (first_frame_of purse_outline fixed session)) × PurseAt (BySelection bytes a h) k (new_public a) (first_frame_of purse_outline fixed session)
began bytes a h fixed [] kept holds = absurd holds
began bytes a h fixed (s ∷ []) kept holds =
    let k = Commanded a.ins a.body ∷ h in
    (holds, first_place (BySelection bytes a h) k (new_public a) fixed s (refl, refl) tt (commanded_kept a h fixed kept))
began bytes a h fixed (s ∷ r ∷ rs) kept holds = absurd holds

-- so do a selection and the end of a session
selected_kept : (h : List Event) (fixed : List ℕ) → PurseKept h fixed → PurseKept (Selected ∷ h) fixed
selected_kept h fixed kept =
    record {
      size = kept.size;
      few = (few_now h fixed kept, kept.few);
      left = kept.left;
      costs = kept.costs;
      tries = kept.tries;
      pin = kept.pin;
      balance = kept.balance;
      number = kept.number;
      ordered = kept.ordered;
      sessions = kept.sessions;
    }

ended_kept : (h : List Event) (fixed : List ℕ) → PurseKept h fixed → PurseKept (Ended ∷ h) fixed
ended_kept h fixed kept =
    record {
      size = kept.size;
      few = (few_now h fixed kept, kept.few);
      left = kept.left;
      costs = kept.costs;
      tries = kept.tries;
      pin = kept.pin;
      balance = kept.balance;
      number = kept.number;
      ordered = kept.ordered;
      sessions = kept.sessions;
    }

-- each part of the purse's outline holds
pub purse_shown : IsShown purse_outline
purse_shown =
    record {
      created = record { size = refl; few = tt; left = refl; costs = tt; tries = omega arith; pin = refl; balance = refl; number = refl; ordered = tt; sessions = tt };
      selected = λ was h fixed kept. (selected_kept h fixed kept, inl refl);
      ended = λ was h fixed kept. ended_kept h fixed kept;
      begins = λ bytes a h fixed session kept holds size. (commanded_kept a h fixed kept, began bytes a h fixed session kept holds);
      entered = λ h fixed public kept size. (tt, first_place ByDelegation h public fixed 0 tt refl kept);
      turn = λ e h f public depth x at kept fits size. turn_at e h f public depth x at.0 at.1 kept fits size;
      abends = λ bytes a before h f public at kept. at.0;
      failed = λ at cause h fixed. record { keeps = λ kept. kept; holds = λ session kept holds. holds };
      answered = λ bytes outcome h fixed. record { keeps = λ kept. kept; holds = λ session kept holds. holds };
    }
