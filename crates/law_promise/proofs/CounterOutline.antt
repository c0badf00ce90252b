-- The proof outline of the counter.
use Rattle.std.proofs.Common.{◌≡◌, ℕ, suc, ◌+◌, ◌*◌, ◌<◌, ◌≤◌, Bool, true, false, List, [], ◌∷◌, length, take, drop, refl, sym, ap, subst, ◌∙◌, arith}
use Rattle.std.specs.Prelude.{⊤, ◌≢◌}
use Rattle.std.proofs.lemmas.Bool.{cases_eq}
use Rattle.model_events.specs.model_device.specs.Bytes.{bytes, num, splice}
use Rattle.model_events.specs.model_machine.specs.Blocks.{sub_blocks}
use Rattle.model_events.specs.model_machine.specs.Code.{instruction_at}
use Rattle.model_events.specs.model_machine.specs.Frame.{Frame, bytes_at, write_effect, too_many, new_public, sw_of, with_la}
use Rattle.model_events.specs.model_machine.specs.Primitives.{Around, Done}
use Rattle.model_events.specs.model_machine.specs.Row.{causes, effect, row}
use Rattle.law_promise.specs.Outline.{Entry, BySelection, ByDelegation, Outline, IsShown, FitsEntry, public_size, ExitShown, FetchShown, first_frame_of}
use Rattle.law_promise.specs.Counter.{counter_name, counter_code, counter_app, counter_watch, newest_count, Rises, AnswersCount}
use Rattle.law_promise.proofs.PublicBytes.{other_ins, status_set, status_beside_la, status_beside_two, status_new}

-- ---- what keeps

-- the static bytes hold the newest count, below 65,536, and the counts rise
pub record CountKept (h fixed : List ℕ) : Type 0 where
  pub size : length fixed ≡ 2
  pub holds : num fixed ≡ newest_count h
  pub small : num fixed < 65536
  pub rises : Rises h

-- ---- frames

-- a frame of the counter at a place
abbrev pub frame_at : ℕ → ℕ → ℕ → List ℕ → ℕ → Bool → Bool → Frame
frame_at place x y dyn dt c z =
    record {
      name = counter_name;
      code_len = 43;
      session = 0;
      deny = 0;
      fixed = x ∷ y ∷ [];
      pieces = [];
      dyn = dyn;
      dt = dt;
      lb = 0x8000;
      at = place;
      c = c;
      z = z;
      protected = false;
    }

-- nothing was written yet, and the public segment is the command's, where the selection began the frame
abbrev pub IsFresh : Entry ℕ → List ℕ → List ℕ → Type 0
IsFresh (BySelection bytes a before) h p = (h ≡ before) × (p ≡ new_public a)
IsFresh ByDelegation h p = ⊤

-- the command is not to count
abbrev pub IsNoCount : Entry ℕ → Type 0
IsNoCount (BySelection bytes a before) = length a.body ≤ 1024 → a.ins ≢ 0x10
IsNoCount ByDelegation = ⊤

-- it was counted, where the command is to count, and the status is 9000
abbrev pub IsCounted : Entry ℕ → List ℕ → List ℕ → Type 0
IsCounted (BySelection bytes a before) h p = length a.body ≤ 1024 → (sw_of p ≡ 0x9000) × (a.ins ≡ 0x10 → h ≡ suc (newest_count before) ∷ before)
IsCounted ByDelegation h p = ⊤

-- before the instruction at each place
pub data CounterAt (e : Entry ℕ) (h p : List ℕ) : Frame → Type 0 where
  at0 : (x y : ℕ) (dyn : List ℕ) → IsFresh e h p → CounterAt e h p (frame_at 0 x y dyn 0x8000 false false)
  at4 : (x y : ℕ) (dyn : List ℕ) (c z : Bool) → IsFresh e h p → (z ≡ false → IsNoCount e) → CounterAt e h p (frame_at 4 x y dyn 0x8000 c z)
  at7 : (x y : ℕ) (dyn : List ℕ) (c z : Bool) → IsFresh e h p → IsNoCount e → CounterAt e h p (frame_at 7 x y dyn 0x8000 c z)
  at11 : (x y : ℕ) (dyn : List ℕ) (c z : Bool) → IsFresh e h p → IsNoCount e → CounterAt e h p (frame_at 11 x y dyn 0x8000 c z)
  at14 : (x y : ℕ) (dyn : List ℕ) (c z : Bool) → IsFresh e h p → CounterAt e h p (frame_at 14 x y dyn 0x8000 c z)
  at17 : (x y : ℕ) (dyn : List ℕ) (c z : Bool) → IsFresh e h p → CounterAt e h p (frame_at 17 x y dyn 0x8000 c z)
  at22 : (x y : ℕ) (dyn : List ℕ) (c z : Bool) → IsFresh e h p → (z ≡ false → num (x ∷ y ∷ []) ≢ 65535) → CounterAt e h p (frame_at 22 x y dyn 0x8000 c z)
  at25 : (x y : ℕ) (dyn : List ℕ) (c z : Bool) → IsFresh e h p → num (x ∷ y ∷ []) ≢ 65535 → CounterAt e h p (frame_at 25 x y dyn 0x8000 c z)
  at29 : (x y : ℕ) (dyn : List ℕ) (c z : Bool) → IsCounted e h p → CounterAt e h p (frame_at 29 x y dyn 0x8000 c z)
  at33 : (x y : ℕ) (dyn : List ℕ) (c z : Bool) → IsCounted e h p → CounterAt e h p (frame_at 33 x y (x ∷ y ∷ dyn) 0x8002 c z)
  at37 : (x y : ℕ) (dyn : List ℕ) (c z : Bool) → IsCounted e h p → CounterAt e h p (frame_at 37 x y dyn 0x8000 c z)
  at40 : (x y : ℕ) (dyn : List ℕ) (c z : Bool) → IsFresh e h p → CounterAt e h p (frame_at 40 x y dyn 0x8000 c z)

-- the outline
abbrev pub counter_outline : Outline ℕ
counter_outline =
    record {
      watch = counter_watch;
      app = counter_app;
      keeps = CountKept;
      holds = λ h fixed session. ⊤;
      at = λ e h f p. CounterAt e h p f;
      answers = λ a before after sw. AnswersCount before after a sw;
    }

-- ---- facts of the places

no_count : (e : Entry ℕ) (h p : List ℕ) → IsFresh e h p → (sub_blocks (take 1 (drop 1029 p)) (0x10 ∷ [])).z ≡ false → IsNoCount e
no_count ByDelegation h p f z = tt
no_count (BySelection bytes a before) h p f z = λ small. other_ins a 0x10 p f.1 small z

not_full : (x y : ℕ) → (sub_blocks (x ∷ y ∷ []) (0xFF ∷ 0xFF ∷ [])).z ≡ false → num (x ∷ y ∷ []) ≢ 65535
not_full x y z is = grind arith

below : (n : ℕ) → n < 65536 → n ≢ 65535 → n + 1 < 65536
below n small other = grind (arith, cases_eq)

one_more_is : (n : ℕ) → n < 65536 → n ≢ 65535 → num (bytes 2 (n + 1)) ≡ suc n
one_more_is n small other = let less : n + 1 < 65536 = below n small other in omega arith

uncounted : (e : Entry ℕ) (h p : List ℕ) → IsFresh e h p → IsNoCount e → IsCounted e h p
uncounted ByDelegation h p f n = tt
uncounted (BySelection bytes a before) h p f n = λ small. (ap sw_of f.1 ∙ status_new a small, λ is. absurd (n small is))

counted : (e : Entry ℕ) (h p : List ℕ) (v : ℕ) → IsFresh e h p → v ≡ suc (newest_count h) → IsCounted e (v ∷ h) p
counted ByDelegation h p v f is = tt
counted (BySelection bytes a before) h p v f is = λ small. (ap sw_of f.1 ∙ status_new a small, λ ins. ap (λ (k : List ℕ). v ∷ k) f.0 ∙ ap (λ (n : ℕ). n ∷ before) (is ∙ ap (λ (k : List ℕ). suc (newest_count k)) f.0))

-- a status other than 9000 ends a command in which nothing was written
refused_exit : (e : Entry ℕ) (h p : List ℕ) (f : Frame) (d : Done) (high low : ℕ) → IsFresh e h p → d.effect.public ≡ splice p 1039 (high ∷ low ∷ []) → public_size ≤ length p → 256 * high + low ≢ 0x9000 → ExitShown counter_outline e h f d
refused_exit ByDelegation h p f d high low fresh is size other = tt
refused_exit (BySelection bytes a before) h p f d high low fresh is size other = grind (arith, ap sw_of is ∙ status_set p high low size)

-- 9000 ends a command that was counted, if it is to count
counted_exit : (e : Entry ℕ) (h p : List ℕ) (f : Frame) (d : Done) → IsCounted e h p → d.effect.public ≡ with_la p 2 → public_size ≤ length p → ExitShown counter_outline e h f d
counted_exit ByDelegation h p f d done is size = tt
counted_exit (BySelection bytes a before) h p f d done is size = grind (arith, ap sw_of is ∙ status_beside_la p 2 size)

stored : (e : Entry ℕ) (h p : List ℕ) (x y : ℕ) → IsCounted e h p → IsCounted e h (splice p 0 (x ∷ y ∷ []))
stored ByDelegation h p x y done = tt
stored (BySelection bytes a before) h p x y done = λ small. (status_beside_two p x y ∙ (done small).0, (done small).1)

more_kept : (h : List ℕ) (x y : ℕ) → CountKept h (x ∷ y ∷ []) → num (x ∷ y ∷ []) ≢ 65535
    → CountKept (num (bytes 2 (num (x ∷ y ∷ []) + 1)) ∷ h) (bytes 2 (num (x ∷ y ∷ []) + 1))
more_kept h x y kept other = grind (arith, num (x ∷ y ∷ []), kept.small, below (num (x ∷ y ∷ [])) kept.small other, one_more_is (num (x ∷ y ∷ [])) kept.small other)

turn : (e : Entry ℕ) (h : List ℕ) (f : Frame) (p : List ℕ) (depth : ℕ) (x : Around) → CounterAt e h p f → CountKept h f.fixed → FitsEntry e x → public_size ≤ length p
    → FetchShown counter_outline e h f p depth x (instruction_at counter_code f.at)
unfolding row causes effect bytes_at write_effect too_many
turn e h f p depth x (at0 a b dyn fresh) kept fits size = record { keeps = kept; next = at4 a b dyn _ _ fresh (no_count e h p fresh) }
turn e h f p depth x (at4 a b dyn c true fresh other) kept fits size = record { keeps = kept; next = at17 a b dyn c true fresh }
turn e h f p depth x (at4 a b dyn c false fresh other) kept fits size = record { keeps = kept; next = at7 a b dyn c false fresh (other refl) }
turn e h f p depth x (at7 a b dyn c z fresh other) kept fits size = record { keeps = kept; next = at11 a b dyn _ _ fresh other }
turn e h f p depth x (at11 a b dyn c true fresh other) kept fits size = record { keeps = kept; next = at29 a b dyn c true (uncounted e h p fresh other) }
turn e h f p depth x (at11 a b dyn c false fresh other) kept fits size = record { keeps = kept; next = at14 a b dyn c false fresh }
turn e h f p depth x (at14 a b dyn c z fresh) kept fits size = record { keeps = kept; next = refused_exit e h p _ _ 0x6D 0x00 fresh refl size (λ is. omega (arith, is)) }
turn e h f p depth x (at17 a b dyn c z fresh) kept fits size = record { keeps = kept; next = at22 a b dyn _ _ fresh (not_full a b) }
turn e h f p depth x (at22 a b dyn c true fresh other) kept fits size = record { keeps = kept; next = at40 a b dyn c true fresh }
turn e h f p depth x (at22 a b dyn c false fresh other) kept fits size = record { keeps = kept; next = at25 a b dyn c false fresh (other refl) }
turn e h f p depth x (at25 a b dyn c z fresh other) kept fits size =
    record { keeps = more_kept h a b kept other; next = at29 _ _ dyn _ _ (counted e h p _ fresh ((more_kept h a b kept other).rises.0)) }
turn e h f p depth x (at29 a b dyn c z done) kept fits size = record { keeps = kept; next = at33 a b _ c z done }
turn e h f p depth x (at33 a b dyn c z done) kept fits size = record { keeps = kept; next = at37 a b _ c z (stored e h p a b done) }
turn e h f p depth x (at37 a b dyn c z done) kept fits size = record { keeps = kept; next = counted_exit e h p _ _ done refl size }
turn e h f p depth x (at40 a b dyn c z fresh) kept fits size = record { keeps = kept; next = refused_exit e h p _ _ 0x69 0x85 fresh refl size (λ is. omega (arith, is)) }

-- a frame before its first instruction
first_place : (e : Entry ℕ) (h p fixed : List ℕ) → IsFresh e h p → CountKept h fixed → CounterAt e h p (first_frame_of counter_outline fixed [])
first_place e h p [] fresh kept = absurd (omega (arith, kept.size))
first_place e h p (x ∷ []) fresh kept = absurd (omega (arith, kept.size))
first_place e h p (x ∷ y ∷ []) fresh kept = at0 x y _ fresh
first_place e h p (x ∷ y ∷ z ∷ zs) fresh kept = absurd (omega (arith, kept.size))

no_session : (session : List ℕ) → length session ≡ 0 → session ≡ []
no_session [] e = refl
no_session (x ∷ xs) e = absurd (cc e)

-- each part of the counter's outline holds
pub counter_shown : IsShown counter_outline
counter_shown =
    record {
      created = record { size = refl; holds = refl; small = omega arith; rises = tt };
      selected = λ was h fixed kept. (kept, tt);
      ended = λ was h fixed kept. kept;
      begins = λ bytes a h fixed session kept holds size. (
        kept,
        subst (λ (s : List ℕ). CounterAt (BySelection bytes a h) h (new_public a) (first_frame_of counter_outline fixed s)) (sym (no_session session size))
            (first_place (BySelection bytes a h) h (new_public a) fixed (refl, refl) kept),
      );
      entered = λ h fixed public kept size. first_place ByDelegation h public fixed tt kept;
      turn = turn;
      abends = λ bytes a before h f public at kept. tt;
      failed = λ at cause h fixed. record { keeps = λ kept. kept; holds = λ session kept holds. holds };
      answered = λ bytes outcome h fixed. record { keeps = λ kept. kept; holds = λ session kept holds. holds };
    }
