-- What the instructions of the purse do to the facts of its places.
use Rattle.std.proofs.Common.{◌≡◌, ℕ, zero, suc, ◌+◌, ◌-◌, ◌*◌, ◌/◌, ◌%◌, ◌^◌, ◌<◌, ◌≤◌, Bool, true, false, cond, not, List, [], ◌∷◌, ◌++◌, length, take, drop, Some, None, refl, sym, ap, subst, ◌∙◌, arith, inl, inr}
use Rattle.std.specs.Prelude.{◌≢◌, ◌⊎◌, ◌==◌, bytes_eq, Option}
use Rattle.std.proofs.lemmas.Bool.{eqb-true, eq-eqb, false_from_ne_true}
use Rattle.model_text.specs.model_device.specs.Bytes.{bytes, bytes2, num, splice}
use Rattle.model_text.specs.model_machine.specs.Apdu.{ApduParts}
use Rattle.model_text.specs.model_machine.specs.Blocks.{sub_blocks, is_zero}
use Rattle.model_text.specs.model_machine.specs.Frame.{Frame, session_of, sw_of, with_la}
use Rattle.model_text.specs.model_machine.specs.Primitives.{Done}
use Rattle.law_promise.specs.History.{with_event}
use Rattle.law_promise.specs.Outline.{Entry, BySelection, ByDelegation, is_direct, public_size, ExitShown, DeedShown}
use Rattle.law_promise.proofs.PublicBytes.{ins_byte, other_ins, length_bytes, body_of_two, status_set, status_beside_la, status_beside_two, status_new}
use Rattle.example_purse.specs.Purse.{Event, Tries, Debited, comparison}
use Rattle.example_purse.specs.Laws.{RightLaw, wrong_since, tries_left, JustRight, sum_of_debits, number_of_debits, JustOrdered, is_shown}
use Rattle.example_purse.proofs.Places.{PurseKept, Cells, fixed_of, balance_of, less, one_more, IsFresh, IsZeroed, Sits, IsNoDebit, IsDebit, MadeNone, IsPaid, IsSpent, IsOpenIf, IsRight, IsOpen, HasTwo, Carries, Debits, purse_outline}
use Rattle.model_text.specs.model_device.proofs.MapLemmas.{name_is_itself, same_name}

-- ---- events

-- the event of an instruction that is no comparison, from the money and the tries before and after it
abbrev change_event : List ℕ → List ℕ → Bool → ℕ → ℕ → ℕ → Option Event
change_event l r q a t u = cond (not (bytes_eq l r)) (Some (Debited q a)) (cond (not (t == u)) (Some (Tries u)) None)

-- an instruction that changes neither is no event
pub still : (e : Entry Event) (h : List Event) (f : Frame) (d : Done) (l : List ℕ) (q : Bool) (a t : ℕ) → DeedShown purse_outline e h f d
    → DeedShown purse_outline e (with_event (change_event l l q a t t) h) f d
still e h f d l q a t x =
    subst (λ (b : Bool). DeedShown purse_outline e (with_event (cond (not b) (Some (Debited q a)) (cond (not (t == t)) (Some (Tries t)) None)) h) f d) (sym (name_is_itself l))
    (subst (λ (b : Bool). DeedShown purse_outline e (with_event (cond (not b) (Some (Tries t)) None) h) f d) (sym (eq-eqb t t refl)) x)

-- one that changes the tries alone
pub tried : (e : Entry Event) (h : List Event) (f : Frame) (d : Done) (l : List ℕ) (q : Bool) (a t u : ℕ) → (t == u) ≡ false → DeedShown purse_outline e (Tries u ∷ h) f d
    → DeedShown purse_outline e (with_event (change_event l l q a t u) h) f d
tried e h f d l q a t u differ x =
    subst (λ (b : Bool). DeedShown purse_outline e (with_event (cond (not b) (Some (Debited q a)) (cond (not (t == u)) (Some (Tries u)) None)) h) f d) (sym (name_is_itself l))
    (subst (λ (b : Bool). DeedShown purse_outline e (with_event (cond (not b) (Some (Tries u)) None) h) f d) (sym differ) x)

-- one that moves money is a debit
pub moved : (e : Entry Event) (h : List Event) (f : Frame) (d : Done) (l r : List ℕ) (q : Bool) (a : ℕ) (other : Option Event) → bytes_eq l r ≡ false → DeedShown purse_outline e (Debited q a ∷ h) f d
    → DeedShown purse_outline e (with_event (cond (not (bytes_eq l r)) (Some (Debited q a)) other) h) f d
moved e h f d l r q a other differ x = subst (λ (b : Bool). DeedShown purse_outline e (with_event (cond (not b) (Some (Debited q a)) other) h) f d) (sym differ) x

-- ---- which command

-- a command that is a showing is no debit
pub shows : (e : Entry Event) (h : List Event) (p : List ℕ) → IsFresh e h p → (sub_blocks (take 1 (drop 1029 p)) (0x20 ∷ [])).z ≡ true → IsNoDebit e
shows ByDelegation h p f z = tt
shows (BySelection bytes a before) h p f z = λ small is.
    let same : take 1 (drop 1029 p) ≡ 0x40 ∷ [] = ap (λ (q : List ℕ). take 1 (drop 1029 q)) f.1 ∙ (ins_byte a small ∙ ap (λ (i : ℕ). i ∷ []) is) in
    let clear : (sub_blocks (take 1 (drop 1029 p)) (0x20 ∷ [])).z ≡ false = ap (λ (b : List ℕ). (sub_blocks b (0x20 ∷ [])).z) same in
    absurd (cc (sym clear ∙ z))

-- a command whose INS is not that of a debit is no debit
pub no_debit : (e : Entry Event) (h : List Event) (p : List ℕ) → IsFresh e h p → (sub_blocks (take 1 (drop 1029 p)) (0x40 ∷ [])).z ≡ false → IsNoDebit e
no_debit ByDelegation h p f z = tt
no_debit (BySelection bytes a before) h p f z = λ small. other_ins a 0x40 p f.1 small z

one_by : (n : ℕ) → n < 256 → is_zero (bytes 1 (256 + num (n ∷ []) - 64)) ≡ true → n ≡ 64
one_by n small z =
    let none : num (bytes 1 (256 + num (n ∷ []) - 64)) ≡ 0 = eqb-true (num (bytes 1 (256 + num (n ∷ []) - 64))) 0 z in
    omega (arith, none)

-- a command whose INS is that of a debit is one
pub is_debit : (e : Entry Event) (h : List Event) (p : List ℕ) → IsFresh e h p → (sub_blocks (take 1 (drop 1029 p)) (0x40 ∷ [])).z ≡ true → IsDebit e
is_debit ByDelegation h p f z = tt
is_debit (BySelection bytes a before) h p f z = λ small byte.
    let same : take 1 (drop 1029 p) ≡ a.ins ∷ [] = ap (λ (q : List ℕ). take 1 (drop 1029 q)) f.1 ∙ ins_byte a small in
    one_by a.ins byte (sym (ap (λ (b : List ℕ). (sub_blocks b (0x40 ∷ [])).z) same) ∙ z)

-- before anything but the command was counted no debit was made
pub none_fresh : (e : Entry Event) (h : List Event) (p : List ℕ) → IsFresh e h p → MadeNone e h
none_fresh ByDelegation h p f = tt
none_fresh (BySelection bytes a before) h p f = λ small is. f.0

-- a command that is no debit made none
pub none_else : (e : Entry Event) (h : List Event) → IsNoDebit e → MadeNone e h
none_else ByDelegation h n = tt
none_else (BySelection bytes a before) h n = λ small is. absurd (n small is)

-- a command that is no debit has nothing to pay
pub paid_else : (e : Entry Event) (h : List Event) (p : List ℕ) → IsNoDebit e → IsPaid e h p
paid_else ByDelegation h p n = tt
paid_else (BySelection bytes a before) h p n = λ small is. absurd (n small is)

-- ---- tries

-- tries that are not the byte zero are some
pub some_try : (t : ℕ) → is_zero (t ∷ []) ≡ false → t ≢ 0
some_try t z is = let set : is_zero (t ∷ []) ≡ true = ap (λ (n : ℕ). is_zero (n ∷ [])) is in absurd (cc (sym set ∙ z))

-- one try less
abbrev pub spent_try : ℕ → ℕ
spent_try t = (256 ^ 1 + num (t ∷ []) - 1) / 256 ^ 0 % 256

-- a try less leaves room for one wrong comparison more
pub spent : (t w : ℕ) → t ≢ 0 → t + w ≤ 3 → spent_try t + suc w ≤ 3
spent zero w some few = absurd (some refl)
spent (suc zero) w some few = omega (arith, few)
spent (suc (suc zero)) w some few = omega (arith, few)
spent (suc (suc (suc zero))) w some few = omega (arith, few)
spent (suc (suc (suc (suc t)))) w some few = absurd (omega (arith, few))

-- one try less and one more is the number of tries
pub spent_is : (t : ℕ) → t ≢ 0 → t ≤ 3 → suc (spent_try t) ≡ t
spent_is zero some few = absurd (some refl)
spent_is (suc zero) some few = refl
spent_is (suc (suc zero)) some few = refl
spent_is (suc (suc (suc zero))) some few = refl
spent_is (suc (suc (suc (suc t)))) some few = absurd (omega (arith, few))

-- so it is another number
pub other_try : (t u : ℕ) → suc u ≡ t → (t == u) ≡ false
other_try t u is = false_from_ne_true (t == u) (λ e. let same : t ≡ u = eqb-true t u e in omega (arith, same, is))

-- less than three tries are not three
pub other_than_three : (t : ℕ) → t < 3 → (t == 3) ≡ false
other_than_three t low = false_from_ne_true (t == 3) (λ e. let same : t ≡ 3 = eqb-true t 3 e in omega (arith, same, low))

-- a count of the tries that takes one, or sets them back, keeps what the purse promises
pub kept_try : (h : List Event) (v : Cells) (t : ℕ) → PurseKept h (fixed_of v) → t + wrong_since h ≤ 3 → (suc t ≡ tries_left h) ⊎ ((t ≡ 3) × JustRight h)
    → PurseKept (Tries t ∷ h) (fixed_of (record v { t = t }))
kept_try h v t k few why =
    record {
      size = refl;
      few = (omega (arith, few), k.few);
      left = refl;
      costs = (why, k.costs);
      tries = few;
      pin = k.pin;
      balance = k.balance;
      number = k.number;
      ordered = k.ordered;
      sessions = k.sessions;
    }

-- a count of the tries leaves what holds of the session
pub sits_tried : (e : Entry Event) (h : List Event) (t s : ℕ) → Sits e h (s ∷ []) → Sits e (Tries t ∷ h) (s ∷ [])
sits_tried ByDelegation h t s x = tt
sits_tried (BySelection bytes a before) h t s x = x

-- a session in which the PIN was shown stays so after a count of the tries
pub open_tried : (e : Entry Event) (h : List Event) (t : ℕ) → IsOpenIf e h → IsOpenIf e (Tries t ∷ h)
open_tried ByDelegation h t x = tt
open_tried (BySelection bytes a before) h t x = x

-- ---- a comparison

equal_is : (n : ℕ) → is_zero (bytes 2 (65536 + n - n)) ≡ true
equal_is n = ap (λ (k : ℕ). is_zero (bytes 2 k)) same
  where
    same : 65536 + n - n ≡ 65536
    same = omega arith

same_right : (x y p q : ℕ) → x ≡ p → y ≡ q → (sub_blocks (p ∷ q ∷ []) (x ∷ y ∷ [])).z ≡ true
same_right x y p q e g =
    let same : num (x ∷ y ∷ []) ≡ num (p ∷ q ∷ []) = ap (λ (k : ℕ). num (k ∷ y ∷ [])) e ∙ ap (λ (k : ℕ). num (p ∷ k ∷ [])) g in
    ap (λ (k : ℕ). is_zero (bytes 2 (65536 + num (p ∷ q ∷ []) - k))) same ∙ equal_is (num (p ∷ q ∷ []))

right_is : (p q x y : ℕ) → p < 256 → q < 256 → x < 256 → y < 256 → num (bytes 2 (65536 + num (p ∷ q ∷ []) - num (x ∷ y ∷ []))) ≡ 0 → (x ≡ p) × (y ≡ q)
right_is p q x y hp hq hx hy e = (omega (arith, e), omega (arith, e))

-- a comparison of bytes is right exactly if the PIN is the one in static bytes
pub right_law : RightLaw
right_law p q x y hp hq hx hy = (
  λ z. right_is p q x y hp hq hx hy (eqb-true (num (bytes 2 (65536 + num (p ∷ q ∷ []) - num (x ∷ y ∷ [])))) 0 z),
  λ e g. same_right x y p q e g,
)

-- a comparison after a spent try keeps what the purse promises
pub kept_compared : (z q : Bool) (h : List Event) (v : Cells) → PurseKept h (fixed_of v) → IsSpent h v → PurseKept (comparison z q ∷ h) (fixed_of v)
kept_compared true q h v k x =
    let tries : v.t + suc (wrong_since h) ≤ 3 = x.room in
    record {
      size = refl;
      few = (omega arith, k.few);
      left = k.left;
      costs = (x.took, k.costs);
      tries = omega (arith, tries);
      pin = k.pin;
      balance = k.balance;
      number = k.number;
      ordered = k.ordered;
      sessions = k.sessions;
    }
kept_compared false q h v k x =
    let tries : v.t + suc (wrong_since h) ≤ 3 = x.room in
    record {
      size = refl;
      few = (omega (arith, tries), k.few);
      left = k.left;
      costs = (x.took, k.costs);
      tries = tries;
      pin = k.pin;
      balance = k.balance;
      number = k.number;
      ordered = k.ordered;
      sessions = k.sessions;
    }

-- a comparison leaves what holds of the session
pub sits_compared : (e : Entry Event) (z : Bool) (h : List Event) (s : ℕ) → Sits e h (s ∷ []) → Sits e (comparison z (is_direct e) ∷ h) (s ∷ [])
sits_compared ByDelegation z h s x = tt
sits_compared (BySelection bytes a before) true h s (inl is) = inl is
sits_compared (BySelection bytes a before) true h s (inr is) = inr (is.0, refl)
sits_compared (BySelection bytes a before) false h s x = x

-- a comparison that was right after a spent try is right at that cost
pub right_compared : (e : Entry Event) (z : Bool) (h : List Event) (v : Cells) → IsSpent h v → z ≡ true → IsRight e (comparison z (is_direct e) ∷ h) v
right_compared ByDelegation true h v x is = let room : v.t + suc (wrong_since h) ≤ 3 = x.room in record { just = tt; none_wrong = refl; low = omega (arith, room); shown = tt }
right_compared (BySelection bytes a before) true h v x is = let room : v.t + suc (wrong_since h) ≤ 3 = x.room in record { just = tt; none_wrong = refl; low = omega (arith, room); shown = refl }
right_compared e false h v x is = absurd (cc is)

-- after a right comparison three tries are within the bound
pub right_tries : (h : List Event) → wrong_since h ≡ 0 → 3 + wrong_since h ≤ 3
right_tries h none = omega (arith, none)

-- a session byte of 1 holds once the PIN was shown
pub sits_right : (e : Entry Event) (h : List Event) → IsOpenIf e h → Sits e h (1 ∷ [])
sits_right ByDelegation h x = tt
sits_right (BySelection bytes a before) h x = inr (refl, x)

-- ---- a debit

-- a session byte of 1 shows that the PIN was shown in this session
pub opened : (e : Entry Event) (h : List Event) (s : ℕ) → Sits e h (s ∷ []) → IsZeroed e s → (sub_blocks (s ∷ []) (1 ∷ [])).z ≡ true → IsOpen e h
opened ByDelegation h s x is z =
    let clear : (sub_blocks (s ∷ []) (1 ∷ [])).z ≡ false = ap (λ (n : ℕ). (sub_blocks (n ∷ []) (1 ∷ [])).z) is in
    cc (sym clear ∙ z)
opened (BySelection bytes a before) h s (inl is) zeroed z =
    let clear : (sub_blocks (s ∷ []) (1 ∷ [])).z ≡ false = ap (λ (n : ℕ). (sub_blocks (n ∷ []) (1 ∷ [])).z) is in
    absurd (cc (sym clear ∙ z))
opened (BySelection bytes a before) h s (inr is) zeroed z = is.1

two_by : (n : ℕ) → n ≤ 1024 → is_zero (bytes 2 (65536 + num (bytes2 n) - 2)) ≡ true → n ≡ 2
two_by n small z =
    let none : num (bytes 2 (65536 + num (bytes2 n) - 2)) ≡ 0 = eqb-true (num (bytes 2 (65536 + num (bytes2 n) - 2))) 0 z in
    omega (arith, none)

-- a command whose length is two has two bytes of data
pub two_bytes : (e : Entry Event) (h : List Event) (p : List ℕ) → IsFresh e h p → (sub_blocks (take 2 (drop 1033 p)) (0 ∷ 2 ∷ [])).z ≡ true → HasTwo e
two_bytes ByDelegation h p f z = tt
two_bytes (BySelection bytes a before) h p f z = λ small.
    let same : take 2 (drop 1033 p) ≡ bytes2 (length a.body) = ap (λ (q : List ℕ). take 2 (drop 1033 q)) f.1 ∙ length_bytes a small in
    let set : (sub_blocks (bytes2 (length a.body)) (0 ∷ 2 ∷ [])).z ≡ true = sym (ap (λ (b : List ℕ). (sub_blocks b (0 ∷ 2 ∷ [])).z) same) ∙ z in
    two_by (length a.body) small set

-- two bytes of data are those in front of the public segment
pub carried : (e : Entry Event) (h : List Event) (p : List ℕ) (x y : ℕ) → IsFresh e h p → HasTwo e → take 2 p ≡ x ∷ y ∷ [] → Carries e x y
carried ByDelegation h p x y f two is = tt
carried (BySelection bytes a before) h p x y f two is = λ small. sym (body_of_two a (two small)) ∙ (sym (ap (λ (q : List ℕ). take 2 q) f.1) ∙ is)

-- a debit of what the public segment has in front is paid with 9000
pub paid : (e : Entry Event) (h : List Event) (p : List ℕ) (x y : ℕ) → Debits e h p x y → IsPaid e (Debited (is_direct e) (num (take 2 p)) ∷ h) p
paid ByDelegation h p x y d = tt
paid (BySelection bytes a before) h p x y d = λ small ins.
    let amount : num (take 2 p) ≡ num a.body = ap num (d.amount ∙ sym (d.carries small)) in
    (ap sw_of d.begun.fresh.1 ∙ status_new a small, ap (λ (n : ℕ). Debited true n ∷ h) amount ∙ ap (λ (k : List Event). Debited true (num a.body) ∷ k) d.begun.fresh.0)

-- a debit leaves what holds of the session
pub sits_paid : (e : Entry Event) (h : List Event) (q : Bool) (a s : ℕ) → Sits e h (s ∷ []) → Sits e (Debited q a ∷ h) (s ∷ [])
sits_paid ByDelegation h q a s x = tt
sits_paid (BySelection bytes b before) h q a s x = x

-- two bytes written in front of the public segment leave a debit paid
pub stored : (e : Entry Event) (h : List Event) (p : List ℕ) (x y : ℕ) → IsPaid e h p → IsPaid e h (splice p 0 (x ∷ y ∷ []))
stored ByDelegation h p x y done = tt
stored (BySelection bytes a before) h p x y done = λ small ins. (status_beside_two p x y ∙ (done small ins).0, (done small ins).1)

-- the arithmetic of a debit
less_is : (b a : ℕ) → b ≤ 1000 → a ≤ b → num (bytes 2 (65536 + b - a)) + a ≡ b
less_is b a small low = omega arith

more_is : (c n : ℕ) → c ≡ n % 65536 → num (bytes 2 (c + 1)) ≡ suc n % 65536
more_is c n is = omega (arith, is)

more_differs : (c : ℕ) → c < 65536 → num (bytes 2 (c + 1)) ≡ c → ⊥
more_differs c small is = omega (arith, is)

-- static bytes after the commit
abbrev pub paid_cells : Cells → ℕ → ℕ → List ℕ
paid_cells v x y = splice (splice (fixed_of v) 0 (less v x y)) 5 (one_more v)

-- a debit changes the balance or the number
pub money_moves : (h : List Event) (v : Cells) (x y : ℕ) → PurseKept h (fixed_of v)
    → bytes_eq (v.b0 ∷ v.b1 ∷ v.c0 ∷ v.c1 ∷ []) (take 2 (paid_cells v x y) ++ drop 5 (paid_cells v x y)) ≡ false
money_moves h v x y k =
    let c : ℕ = num (v.c0 ∷ v.c1 ∷ []) in
    let small : c < 65536 = let is : c ≡ number_of_debits h % 65536 = k.number in omega (arith, is) in
    false_from_ne_true (bytes_eq (v.b0 ∷ v.b1 ∷ v.c0 ∷ v.c1 ∷ []) (take 2 (paid_cells v x y) ++ drop 5 (paid_cells v x y)))
    (λ e. more_differs c small (sym (ap (λ (l : List ℕ). num (drop 2 l)) (same_name (v.b0 ∷ v.b1 ∷ v.c0 ∷ v.c1 ∷ []) (take 2 (paid_cells v x y) ++ drop 5 (paid_cells v x y)) e))))

paid_direct : (h : List Event) (v : Cells) (x y : ℕ) → PurseKept h (fixed_of v) → is_shown h ≡ true → JustOrdered (num (x ∷ y ∷ [])) h → num (x ∷ y ∷ []) ≤ balance_of v
    → PurseKept (Debited true (num (x ∷ y ∷ [])) ∷ h) (paid_cells v x y)
paid_direct h v x y k shown ordered low =
    let b : ℕ = balance_of v in
    let a : ℕ = num (x ∷ y ∷ []) in
    let sum : b + sum_of_debits h ≡ 1000 = k.balance in
    let small : b ≤ 1000 = omega arith in
    let rest : num (less v x y) + a ≡ b = less_is b a small low in
    record {
      size = refl;
      few = (omega (arith, k.tries), k.few);
      left = k.left;
      costs = k.costs;
      tries = k.tries;
      pin = k.pin;
      balance = omega (arith, rest, sum);
      number = more_is (num (v.c0 ∷ v.c1 ∷ [])) (number_of_debits h) k.number;
      ordered = (ordered, k.ordered);
      sessions = (refl, shown, k.sessions);
    }

-- the command orders the debit that is made
just_ordered : (bytes : List ℕ) (a : ApduParts) (before h : List Event) (p : List ℕ) (x y : ℕ) → Debits (BySelection bytes a before) h p x y → JustOrdered (num (x ∷ y ∷ [])) h
just_ordered bytes a before h p x y d =
    subst (JustOrdered (num (x ∷ y ∷ []))) (sym d.begun.fresh.0)
    (λ small byte. record { is_debit = d.begun.debit small byte; has_two = ap length (d.carries small); pays = ap num (d.carries small) })

-- a debit of at most the balance keeps what the purse promises
pub kept_paid : (e : Entry Event) (h : List Event) (p : List ℕ) (v : Cells) (x y : ℕ) → PurseKept h (fixed_of v) → Debits e h p x y → num (x ∷ y ∷ []) ≤ balance_of v
    → PurseKept (Debited (is_direct e) (num (take 2 p)) ∷ h) (paid_cells v x y)
kept_paid ByDelegation h p v x y k d low = absurd d.open_session
kept_paid (BySelection bytes a before) h p v x y k d low =
    subst (λ (l : List ℕ). PurseKept (Debited true (num l) ∷ h) (paid_cells v x y)) (sym d.amount)
    (paid_direct h v x y k d.open_session (just_ordered bytes a before h p x y d) low)

-- ---- exits

-- a status other than 9000, where the command made no debit
pub refused_exit : (e : Entry Event) (h : List Event) (p : List ℕ) (f : Frame) (d : Done) (high low : ℕ) → Sits e h (session_of f) → MadeNone e h → d.effect.public ≡ splice p 1039 (high ∷ low ∷ []) → public_size ≤ length p → 256 * high + low ≢ 0x9000
    → ExitShown purse_outline e h f d
refused_exit ByDelegation h p f d high low sit none is size other = tt
refused_exit (BySelection bytes a before) h p f d high low sit none is size other =
    let sw : sw_of d.effect.public ≡ 256 * high + low = ap sw_of is ∙ status_set p high low size in
    (sit, record { durable = λ small ins done. absurd (other (sym sw ∙ done)); refused = λ small ins differs. none small ins })

-- 9000, where the debit was made if the command is one
pub paid_exit : (e : Entry Event) (h : List Event) (p : List ℕ) (f : Frame) (d : Done) → Sits e h (session_of f) → IsPaid e h p → d.effect.public ≡ with_la p 2 → public_size ≤ length p → ExitShown purse_outline e h f d
paid_exit ByDelegation h p f d sit done is size = tt
paid_exit (BySelection bytes a before) h p f d sit done is size =
    let sw : sw_of d.effect.public ≡ sw_of p = ap sw_of is ∙ status_beside_la p 2 size in
    (sit, record { durable = λ small ins good. (done small ins).1; refused = λ small ins differs. absurd (differs (sw ∙ (done small ins).0)) })

-- any status, where the command is no debit
pub other_exit : (e : Entry Event) (h : List Event) (f : Frame) (d : Done) → Sits e h (session_of f) → IsNoDebit e → ExitShown purse_outline e h f d
other_exit ByDelegation h f d sit n = tt
other_exit (BySelection bytes a before) h f d sit n = (sit, record { durable = λ small ins good. absurd (n small ins); refused = λ small ins differs. absurd (n small ins) })
