-- What holds before the instruction at each place of the purse, and its proof outline.
use Rattle.std.proofs.Common.{◌≡◌, ℕ, suc, ◌+◌, ◌-◌, ◌%◌, ◌<◌, ◌≤◌, Bool, true, false, List, [], ◌∷◌, length, take, drop}
use Rattle.std.specs.Prelude.{⊤, ◌≢◌, ◌⊎◌, slice_index}
use Rattle.model_text.specs.model_device.specs.Bytes.{bytes, num}
use Rattle.model_text.specs.model_machine.specs.Frame.{Frame, new_public, session_of, sw_of}
use Rattle.law_promise.specs.Outline.{Entry, BySelection, ByDelegation, Outline}
use Rattle.example_purse.specs.Purse.{Event, Commanded, Debited, purse_name, purse_app, purse_watch}
use Rattle.example_purse.specs.Laws.{wrong_since, AtMostThree, tries_left, JustTook, JustRight, EachCostsATry, sum_of_debits, number_of_debits, EachIsOrdered, is_shown, KeepsSessions, AnswersDebit}

-- ---- what keeps and what holds

-- the three promises of seven static bytes
pub record PurseKept (h : List Event) (fixed : List ℕ) : Type 0 where
  pub size : length fixed ≡ 7
  pub few : AtMostThree h
  pub left : slice_index fixed 2 ≡ tries_left h
  pub costs : EachCostsATry h
  pub tries : slice_index fixed 2 + wrong_since h ≤ 3
  pub pin : take 2 (drop 3 fixed) ≡ 0x12 ∷ 0x34 ∷ []
  pub balance : num (take 2 fixed) + sum_of_debits h ≡ 1000
  pub number : num (take 2 (drop 5 fixed)) ≡ number_of_debits h % 65536
  pub ordered : EachIsOrdered h
  pub sessions : KeepsSessions h

-- the session byte is 0, or it is 1 and the PIN was shown
abbrev pub PurseHolds : List Event → List ℕ → Type 0
PurseHolds h [] = ⊥
PurseHolds h (s ∷ []) = (s ≡ 0) ⊎ ((s ≡ 1) × (is_shown h ≡ true))
PurseHolds h (s ∷ r ∷ rs) = ⊥

-- ---- frames

-- the seven static bytes: balance, tries, PIN, number
pub record Cells : Type 0 where
  pub b0 : ℕ
  pub b1 : ℕ
  pub t : ℕ
  pub p0 : ℕ
  pub p1 : ℕ
  pub c0 : ℕ
  pub c1 : ℕ

-- the static bytes in their order
abbrev pub fixed_of : Cells → List ℕ
fixed_of v = v.b0 ∷ v.b1 ∷ v.t ∷ v.p0 ∷ v.p1 ∷ v.c0 ∷ v.c1 ∷ []

-- the balance as a number
abbrev pub balance_of : Cells → ℕ
balance_of v = num (v.b0 ∷ v.b1 ∷ [])

-- a frame of the purse at a place, and one with pieces that wait
abbrev pub waiting_at : Bool → List (ℕ × List ℕ) → ℕ → Cells → List ℕ → ℕ → Bool → Bool → Frame
waiting_at on pieces place v dyn dt c z =
    record {
      name = purse_name;
      code_len = 135;
      session = 1;
      deny = 0;
      fixed = fixed_of v;
      pieces = pieces;
      dyn = dyn;
      dt = dt;
      lb = 0x8001;
      at = place;
      c = c;
      z = z;
      protected = on;
    }

-- a frame of the purse at a place, with nothing that waits
abbrev pub frame_at : ℕ → Cells → List ℕ → ℕ → Bool → Bool → Frame
frame_at place v dyn dt c z = waiting_at false [] place v dyn dt c z

-- the balance less an amount, and the number and one more, as they wait
abbrev pub less : Cells → ℕ → ℕ → List ℕ
less v x y = bytes 2 (65536 + balance_of v - num (x ∷ y ∷ []))

-- the number and one more
abbrev pub one_more : Cells → List ℕ
one_more v = bytes 2 (num (v.c0 ∷ v.c1 ∷ []) + 1)

-- ---- facts

-- only the command was counted yet, and the public segment is the command's, if the selection began the frame
abbrev pub IsFresh : Entry Event → List Event → List ℕ → Type 0
IsFresh (BySelection bytes a before) h p = (h ≡ Commanded a.ins a.body ∷ before) × (p ≡ new_public a)
IsFresh ByDelegation h p = ⊤

-- a delegation began with a session byte of 0
abbrev pub IsZeroed : Entry Event → ℕ → Type 0
IsZeroed (BySelection bytes a before) s = ⊤
IsZeroed ByDelegation s = s ≡ 0

-- what holds of the session, where the selection began the frame
abbrev pub Sits : Entry Event → List Event → List ℕ → Type 0
Sits (BySelection bytes a before) h session = PurseHolds h session
Sits ByDelegation h session = ⊤

-- the command is no debit
abbrev pub IsNoDebit : Entry Event → Type 0
IsNoDebit (BySelection bytes a before) = length a.body ≤ 1024 → a.ins ≢ 0x40
IsNoDebit ByDelegation = ⊤

-- the command is a debit
abbrev pub IsDebit : Entry Event → Type 0
IsDebit (BySelection bytes a before) = length a.body ≤ 1024 → a.ins < 256 → a.ins ≡ 0x40
IsDebit ByDelegation = ⊤

-- a debit of which only the command was counted yet
pub record IsBegun (e : Entry Event) (h : List Event) (p : List ℕ) : Type 0 where
  pub fresh : IsFresh e h p
  pub debit : IsDebit e

-- the command made no debit
abbrev pub MadeNone : Entry Event → List Event → Type 0
MadeNone (BySelection bytes a before) h = length a.body ≤ 1024 → a.ins ≡ 0x40 → h ≡ Commanded a.ins a.body ∷ before
MadeNone ByDelegation h = ⊤

-- the debit was made, if the command is one, and the status is 9000
abbrev pub IsPaid : Entry Event → List Event → List ℕ → Type 0
IsPaid (BySelection bytes a before) h p = length a.body ≤ 1024 → a.ins ≡ 0x40 → (sw_of p ≡ 0x9000) × (h ≡ Debited true (num a.body) ∷ Commanded a.ins a.body ∷ before)
IsPaid ByDelegation h p = ⊤

-- a try was just taken, and one wrong comparison more is within the bound
pub record IsSpent (h : List Event) (v : Cells) : Type 0 where
  pub took : JustTook h
  pub room : v.t + suc (wrong_since h) ≤ 3

-- the PIN was shown in this session, if the selection began the frame
abbrev pub IsOpenIf : Entry Event → List Event → Type 0
IsOpenIf (BySelection bytes a before) h = is_shown h ≡ true
IsOpenIf ByDelegation h = ⊤

-- the PIN was just compared, and was right, at the cost of a try
pub record IsRight (e : Entry Event) (h : List Event) (v : Cells) : Type 0 where
  pub just : JustRight h
  pub none_wrong : wrong_since h ≡ 0
  pub low : v.t < 3
  pub shown : IsOpenIf e h

-- the PIN was shown in this session; no delegation comes here
abbrev pub IsOpen : Entry Event → List Event → Type 0
IsOpen (BySelection bytes a before) h = is_shown h ≡ true
IsOpen ByDelegation h = ⊥

-- the data are two bytes
abbrev pub HasTwo : Entry Event → Type 0
HasTwo (BySelection bytes a before) = length a.body ≤ 1024 → length a.body ≡ 2
HasTwo ByDelegation = ⊤

-- the data are these two
abbrev pub Carries : Entry Event → ℕ → ℕ → Type 0
Carries (BySelection bytes a before) x y = length a.body ≤ 1024 → a.body ≡ x ∷ y ∷ []
Carries ByDelegation x y = ⊤

-- a debit of the amount that the public segment has in front
pub record Debits (e : Entry Event) (h : List Event) (p : List ℕ) (x y : ℕ) : Type 0 where
  pub begun : IsBegun e h p
  pub open_session : IsOpen e h
  pub carries : Carries e x y
  pub amount : take 2 p ≡ x ∷ y ∷ []

-- ---- places

-- before the instruction at each place
pub data PurseAt (e : Entry Event) (h : List Event) (p : List ℕ) : Frame → Type 0 where
  at0 : (v : Cells) (s : ℕ) (dyn : List ℕ) → IsFresh e h p → IsZeroed e s → PurseAt e h p (frame_at 0 v (s ∷ dyn) 0x8001 false false)
  at4 : (v : Cells) (s : ℕ) (dyn : List ℕ) (c z : Bool) → IsFresh e h p → IsZeroed e s → (z ≡ true → IsNoDebit e) → PurseAt e h p (frame_at 4 v (s ∷ dyn) 0x8001 c z)
  at7 : (v : Cells) (s : ℕ) (dyn : List ℕ) (c z : Bool) → IsFresh e h p → IsZeroed e s → PurseAt e h p (frame_at 7 v (s ∷ dyn) 0x8001 c z)
  at11 : (v : Cells) (s : ℕ) (dyn : List ℕ) (c z : Bool) → IsFresh e h p → IsZeroed e s → (z ≡ false → IsNoDebit e) → (z ≡ true → IsDebit e) → PurseAt e h p (frame_at 11 v (s ∷ dyn) 0x8001 c z)
  at14 : (v : Cells) (s : ℕ) (dyn : List ℕ) (c z : Bool) → IsNoDebit e → PurseAt e h p (frame_at 14 v (s ∷ dyn) 0x8001 c z)
  at18 : (v : Cells) (s : ℕ) (dyn : List ℕ) (c z : Bool) → IsNoDebit e → PurseAt e h p (frame_at 18 v (s ∷ dyn) 0x8001 c z)
  at21 : (v : Cells) (s : ℕ) (dyn : List ℕ) (c z : Bool) → IsNoDebit e → PurseAt e h p (frame_at 21 v (s ∷ dyn) 0x8001 c z)
  -- balance
  at24 : (v : Cells) (s : ℕ) (dyn : List ℕ) (c z : Bool) → IsPaid e h p → PurseAt e h p (frame_at 24 v (s ∷ dyn) 0x8001 c z)
  at28 : (v : Cells) (s : ℕ) (dyn : List ℕ) (c z : Bool) → IsPaid e h p → PurseAt e h p (frame_at 28 v (s ∷ v.b0 ∷ v.b1 ∷ dyn) 0x8003 c z)
  at32 : (v : Cells) (s : ℕ) (dyn : List ℕ) (c z : Bool) → IsPaid e h p → PurseAt e h p (frame_at 32 v (s ∷ dyn) 0x8001 c z)
  -- show
  at35 : (v : Cells) (s : ℕ) (dyn : List ℕ) (c z : Bool) → IsNoDebit e → PurseAt e h p (frame_at 35 v (s ∷ dyn) 0x8001 c z)
  at40 : (v : Cells) (s : ℕ) (dyn : List ℕ) (c z : Bool) → IsNoDebit e → PurseAt e h p (frame_at 40 v (s ∷ dyn) 0x8001 c z)
  at43 : (v : Cells) (s : ℕ) (dyn : List ℕ) (c z : Bool) → IsNoDebit e → PurseAt e h p (frame_at 43 v (s ∷ dyn) 0x8001 c z)
  at47 : (v : Cells) (s : ℕ) (dyn : List ℕ) (c z : Bool) → IsNoDebit e → (z ≡ false → v.t ≢ 0) → PurseAt e h p (frame_at 47 v (s ∷ dyn) 0x8001 c z)
  at50 : (v : Cells) (s : ℕ) (dyn : List ℕ) (c z : Bool) → IsNoDebit e → v.t ≢ 0 → PurseAt e h p (frame_at 50 v (s ∷ dyn) 0x8001 c z)
  at54 : (v : Cells) (s : ℕ) (dyn : List ℕ) (c z : Bool) → IsNoDebit e → IsSpent h v → PurseAt e h p (frame_at 54 v (s ∷ dyn) 0x8001 c z)
  at58 : (v : Cells) (s x y : ℕ) (dyn : List ℕ) (c z : Bool) → IsNoDebit e → IsSpent h v → PurseAt e h p (frame_at 58 v (s ∷ x ∷ y ∷ dyn) 0x8003 c z)
  at62 : (v : Cells) (s : ℕ) (dyn : List ℕ) (c z : Bool) → IsNoDebit e → (z ≡ true → IsRight e h v) → PurseAt e h p (frame_at 62 v (s ∷ dyn) 0x8003 c z)
  at64 : (v : Cells) (s : ℕ) (dyn : List ℕ) (c z : Bool) → IsNoDebit e → (z ≡ true → IsRight e h v) → PurseAt e h p (frame_at 64 v (s ∷ dyn) 0x8001 c z)
  at67 : (v : Cells) (s : ℕ) (dyn : List ℕ) (c z : Bool) → IsNoDebit e → IsRight e h v → PurseAt e h p (frame_at 67 v (s ∷ dyn) 0x8001 c z)
  at71 : (v : Cells) (s : ℕ) (dyn : List ℕ) (c z : Bool) → IsNoDebit e → IsOpenIf e h → PurseAt e h p (frame_at 71 v (s ∷ dyn) 0x8001 c z)
  at75 : (v : Cells) (s : ℕ) (dyn : List ℕ) (c z : Bool) → IsNoDebit e → PurseAt e h p (frame_at 75 v (s ∷ dyn) 0x8001 c z)
  -- debit
  at76 : (v : Cells) (s : ℕ) (dyn : List ℕ) (c z : Bool) → IsBegun e h p → IsZeroed e s → PurseAt e h p (frame_at 76 v (s ∷ dyn) 0x8001 c z)
  at80 : (v : Cells) (s : ℕ) (dyn : List ℕ) (c z : Bool) → IsBegun e h p → (z ≡ true → IsOpen e h) → PurseAt e h p (frame_at 80 v (s ∷ dyn) 0x8001 c z)
  at83 : (v : Cells) (s : ℕ) (dyn : List ℕ) (c z : Bool) → IsBegun e h p → IsOpen e h → PurseAt e h p (frame_at 83 v (s ∷ dyn) 0x8001 c z)
  at88 : (v : Cells) (s : ℕ) (dyn : List ℕ) (c z : Bool) → IsBegun e h p → IsOpen e h → (z ≡ true → HasTwo e) → PurseAt e h p (frame_at 88 v (s ∷ dyn) 0x8001 c z)
  at91 : (v : Cells) (s : ℕ) (dyn : List ℕ) (c z : Bool) → IsBegun e h p → IsOpen e h → HasTwo e → PurseAt e h p (frame_at 91 v (s ∷ dyn) 0x8001 c z)
  at95 : (v : Cells) (s x y : ℕ) (dyn : List ℕ) (c z : Bool) → Debits e h p x y → PurseAt e h p (frame_at 95 v (s ∷ x ∷ y ∷ dyn) 0x8003 c z)
  at99 : (v : Cells) (s x y : ℕ) (dyn : List ℕ) (c z : Bool) → Debits e h p x y → (c ≡ false → num (x ∷ y ∷ []) ≤ balance_of v) → PurseAt e h p (frame_at 99 v (s ∷ x ∷ y ∷ dyn) 0x8003 c z)
  at102 : (v : Cells) (s x y : ℕ) (dyn : List ℕ) (c z : Bool) → Debits e h p x y → num (x ∷ y ∷ []) ≤ balance_of v → PurseAt e h p (frame_at 102 v (s ∷ x ∷ y ∷ dyn) 0x8003 c z)
  at105 : (v : Cells) (s x y : ℕ) (dyn : List ℕ) (c z : Bool) → Debits e h p x y → num (x ∷ y ∷ []) ≤ balance_of v → PurseAt e h p (waiting_at true [] 105 v (s ∷ x ∷ y ∷ dyn) 0x8003 c z)
  at109 : (v : Cells) (s x y : ℕ) (dyn : List ℕ) (c z : Bool) → Debits e h p x y → num (x ∷ y ∷ []) ≤ balance_of v → PurseAt e h p (waiting_at true ((0, less v x y) ∷ []) 109 v (s ∷ x ∷ y ∷ dyn) 0x8003 c z)
  at111 : (v : Cells) (s x y : ℕ) (dyn : List ℕ) (c z : Bool) → Debits e h p x y → num (x ∷ y ∷ []) ≤ balance_of v → PurseAt e h p (waiting_at true ((0, less v x y) ∷ []) 111 v (s ∷ x ∷ y ∷ dyn) 0x8001 c z)
  at115 : (v : Cells) (s x y : ℕ) (dyn : List ℕ) (c z : Bool) → Debits e h p x y → num (x ∷ y ∷ []) ≤ balance_of v → PurseAt e h p (waiting_at true ((0, less v x y) ∷ (5, one_more v) ∷ []) 115 v (s ∷ x ∷ y ∷ dyn) 0x8001 c z)
  at118 : (v : Cells) (s : ℕ) (dyn : List ℕ) (c z : Bool) → IsPaid e h p → PurseAt e h p (frame_at 118 v (s ∷ dyn) 0x8001 c z)
  -- refusals
  at121 : (v : Cells) (s : ℕ) (dyn : List ℕ) (c z : Bool) → MadeNone e h → PurseAt e h p (frame_at 121 v (s ∷ dyn) 0x8003 c z)
  at123 : (v : Cells) (s : ℕ) (dyn : List ℕ) (c z : Bool) → MadeNone e h → PurseAt e h p (frame_at 123 v (s ∷ dyn) 0x8001 c z)
  at126 : (v : Cells) (s : ℕ) (dyn : List ℕ) (c z : Bool) → MadeNone e h → PurseAt e h p (frame_at 126 v (s ∷ dyn) 0x8001 c z)
  at129 : (v : Cells) (s : ℕ) (dyn : List ℕ) (c z : Bool) → MadeNone e h → PurseAt e h p (frame_at 129 v (s ∷ dyn) 0x8001 c z)
  at132 : (v : Cells) (s : ℕ) (dyn : List ℕ) (c z : Bool) → MadeNone e h → PurseAt e h p (frame_at 132 v (s ∷ dyn) 0x8001 c z)

-- the outline
abbrev pub purse_outline : Outline Event
purse_outline =
    record {
      watch = purse_watch;
      app = purse_app;
      keeps = PurseKept;
      holds = λ h fixed session. PurseHolds h session;
      at = λ e h f p. Sits e h (session_of f) × PurseAt e h p f;
      answers = λ a before after sw. AnswersDebit before after a sw;
    }
