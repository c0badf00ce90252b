-- The line numbers of a deck ascend.
use Rattle.std.proofs.Common.{◌≡◌, ◌<◌, ◌≤◌, refl, subst, ℕ, suc, List, [], ◌∷◌, ◌++◌, Bool, true, false, cond, Option, Some, None, Result, Ok, Err, arith}
use Rattle.std.specs.Prelude.{◌==◌, not, ok_or}
use Rattle.law_explore.specs.model_play.specs.declared.deck.DeckCause.{DeckCause}
use Rattle.law_explore.specs.model_play.specs.declared.deck.DeckCause.TheVariants.{BadLine, UnknownName, LateLine}
use Rattle.law_explore.specs.model_play.specs.declared.deck.DeckCause.TheVariants as causes
use Rattle.law_explore.specs.model_device.specs.Bytes.{lookup}
use Rattle.law_explore.specs.model_card.specs.Units.{UnitParts, unit_read}
use Rattle.law_explore.specs.model_text.specs.Text.{◌>>=◌, ok_as, err_as, only_if, begins, fields, lines, with_numbers}
use Rattle.law_explore.specs.model_play.specs.DeckGrammar.{DeckLine, Named, Context, Section, Stated, Says, Opens, Word, FormatWord, PowerWord, UnitWord, AppWord, LoadWord, SelectWord, DeleteWord, DumpWord, ApduWord, BudgetWord, CutWord, FailWord, PokeWord, Mode, Between, Within, LineTurn, statement_of, deck_words, turn_of, between, within, turn_in, turn_at, lines_at_end, deck_lines, deck_read, section_unit, with_unit, name_field, hex_field, aid_field, fill_field, number_field, new_name}
use Rattle.model_events.specs.model_text.specs.Text.{is_end}
use Rattle.law_explore.specs.model_play.specs.DeckGrammar as line
use Rattle.mc_lab.specs.Rising.{Rising}
use Rattle.mc_lab.specs.Expectations.{line_number}

-- numbers that ascend from one on ascend from any lower one
pub rising_lower : {A : Type 0} (number : A → ℕ) (m n : ℕ) (ls : List A) → m ≤ n → Rising number n ls → Rising number m ls
rising_lower number m n [] h r = tt
rising_lower number m n (l ∷ ls) h r = (omega (arith, h, r.0), r.1)

-- ---- statements

-- a section that a statement opens begins at the statement's line
abbrev pub BeginsAt : ℕ → Result Stated DeckCause → Type 0
BeginsAt n (Err e) = Unit {0}
BeginsAt n (Ok (Says l c)) = Unit {0}
BeginsAt n (Ok (Opens s c)) = s.first ≡ n

begins_behind : {A : Type 0} (n : ℕ) (r : Result A DeckCause) (g : A → Result Stated DeckCause) → ((a : A) → BeginsAt n (g a)) → BeginsAt n (r >>= g)
begins_behind n (Ok a) g h = h a
begins_behind n (Err e) g h = tt

begins_says : {A : Type 0} (n : ℕ) (r : Result A DeckCause) (f : A → DeckLine) (c : Context) → BeginsAt n (ok_as (λ a. Says (f a) c) r)
begins_says n (Ok a) f c = tt
begins_says n (Err e) f c = tt

begins_early : (n : ℕ) (c : Context) (b : Bool) (e : DeckCause) (l : DeckLine) → BeginsAt n (only_if b e (Says l c))
begins_early n c true e l = tt
begins_early n c false e l = tt

opens_at : (c : Context) (n : ℕ) (w : Word) (fs : List (List ℕ)) → BeginsAt n (statement_of c n w fs)
unfolding statement_of
opens_at c n FormatWord [] = begins_early n c (not c.powered) LateLine line.Format
opens_at c n PowerWord [] = tt
opens_at c n UnitWord (f0 ∷ f1 ∷ []) = begins_behind n (name_field f0) _ (λ name. begins_behind n (hex_field f1) _ (λ bytes. begins_behind n (new_name c name) _ (λ name. begins_behind n (err_as causes.Unit (unit_read bytes)) _ (λ u. tt))))
opens_at c n AppWord (f0 ∷ f1 ∷ []) = begins_behind n (name_field f0) _ (λ name. begins_behind n (aid_field f1) _ (λ aid. begins_behind n (new_name c name) _ (λ name. refl)))
opens_at c n LoadWord (f0 ∷ f1 ∷ f2 ∷ []) = begins_behind n (name_field f0) _ (λ name. begins_behind n (number_field 0 65535 f1) _ (λ fixed. begins_behind n (number_field 0 65535 f2) _ (λ session. begins_behind n (ok_or (lookup c.units name) UnknownName) _ (λ u. tt))))
opens_at c n SelectWord (f0 ∷ []) = begins_says n (aid_field f0) (λ a. line.Sent (line.Select a)) c
opens_at c n DeleteWord (f0 ∷ []) = begins_says n (aid_field f0) (λ a. line.Sent (line.Delete a)) c
opens_at c n DumpWord (f0 ∷ []) = begins_says n (aid_field f0) line.Dump c
opens_at c n ApduWord (f0 ∷ []) = begins_says n (hex_field f0) (λ a. line.Sent (line.Apdu a)) c
opens_at c n BudgetWord (f0 ∷ []) = begins_says n (number_field 1 65536 f0) line.Budget c
opens_at c n CutWord (f0 ∷ f1 ∷ []) = begins_behind n (number_field 1 4294967295 f0) _ (λ k. begins_behind n (fill_field f1) _ (λ fill. tt))
opens_at c n FailWord (f0 ∷ []) = begins_says n (number_field 1 4294967295 f0) line.Fail c
opens_at c n PokeWord (f0 ∷ f1 ∷ []) = begins_behind n (number_field 0 16383 f0) _ (λ at. begins_behind n (fill_field f1) _ (λ fill. begins_early n c (not c.powered) LateLine (line.Poke at fill)))
opens_at c n _ _ = tt

-- ---- turns

-- an open section began before a line
abbrev pub IsBefore : ℕ → Mode → Type 0
IsBefore n (Between c) = Unit {0}
IsBefore n (Within s c) = s.first < n

-- the least number that the lines from line `n` on may have
abbrev pub lowest : ℕ → Mode → ℕ
lowest n (Between c) = n
lowest n (Within s c) = s.first

-- a turn at line `n`: its lines have numbers below those after them
record Rises (n : ℕ) (m : Mode) (u : LineTurn) : Type 0 where
  pub before : IsBefore (suc n) u.mode
  pub lines : (r : List (ℕ × DeckLine)) → Rising line_number (lowest (suc n) u.mode) r → Rising line_number (lowest n m) (u.lines ++ r)

abbrev RisesBy : ℕ → Mode → Result LineTurn (ℕ × DeckCause) → Type 0
RisesBy n m (Err e) = Unit {0}
RisesBy n m (Ok u) = Rises n m u

rises_skipped : (n : ℕ) (c : Context) → Rises n (Between c) (record { lines = []; mode = Between c })
rises_skipped n c = record { before = tt; lines = λ r h. rising_lower line_number n (suc n) r (omega arith) h }

rises_stated : (n : ℕ) (c : Context) (f : DeckCause → ℕ × DeckCause) (r : Result Stated DeckCause) → BeginsAt n r → RisesBy n (Between c) (err_as f (ok_as (turn_of n) r))
rises_stated n c f (Err e) h = tt
rises_stated n c f (Ok (Says l d)) h = record { before = tt; lines = λ r k. (omega arith, k) }
rises_stated n c f (Ok (Opens s d)) h = record { before = omega (arith, h); lines = λ r k. rising_lower line_number n s.first r (omega (arith, h)) k }

rises_word : (n : ℕ) (c : Context) (w : Option Word) (fs : List (List ℕ)) → RisesBy n (Between c) (err_as (λ e. (n, e)) (ok_or w BadLine >>= λ w. ok_as (turn_of n) (statement_of c n w fs)))
rises_word n c None fs = tt
rises_word n c (Some w) fs = rises_stated n c (λ e. (n, e)) (statement_of c n w fs) (opens_at c n w fs)

rises_comment : (n : ℕ) (c : Context) (b : Bool) (r : Result LineTurn (ℕ × DeckCause)) → RisesBy n (Between c) r → RisesBy n (Between c) (cond b (Ok (record { lines = []; mode = Between c })) r)
rises_comment n c true r h = rises_skipped n c
rises_comment n c false r h = h

rises_between : (n : ℕ) (c : Context) (fs : List (List ℕ)) → RisesBy n (Between c) (between c n fs)
rises_between n c [] = rises_skipped n c
rises_between n c (f ∷ fs) = rises_comment n c (begins 35 f) (err_as (λ e. (n, e)) (ok_or (lookup deck_words f) BadLine >>= λ w. ok_as (turn_of n) (statement_of c n w fs))) (rises_word n c (lookup deck_words f) fs)

rises_unit : (n : ℕ) (s : Section) (c : Context) (r : Result UnitParts (ℕ × DeckCause)) → s.first < n → RisesBy n (Within s c) (ok_as (λ u. record { lines = (s.first, Named) ∷ []; mode = Between (with_unit c s.name u) }) r)
rises_unit n s c (Err e) h = tt
rises_unit n s c (Ok u) h = record { before = tt; lines = λ r k. (omega arith, rising_lower line_number (suc s.first) (suc n) r (omega (arith, h)) k) }

rises_within : (n : ℕ) (s : Section) (c : Context) (t : List ℕ) (b : Bool) → s.first < n → RisesBy n (Within s c) (within b s c (n, t))
unfolding within
rises_within n s c t true h = rises_unit n s c (section_unit s n) h
rises_within n s c t false h = record { before = omega (arith, h); lines = λ r k. k }

rises_in : (n : ℕ) (m : Mode) (t : List ℕ) → IsBefore n m → RisesBy n m (turn_in m (n, t))
rises_in n (Between c) t h = rises_between n c (fields t)
rises_in n (Within s c) t h = rises_within n s c t (is_end (fields t)) h

rises_at : (n : ℕ) (m : Mode) (t : List ℕ) (b : Bool) → IsBefore n m → RisesBy n m (turn_at b m (n, t))
rises_at n m t true h = tt
rises_at n m t false h = rises_in n m t h

-- ---- whole decks

ended_rising : (n : ℕ) (m : Mode) (ls : List (ℕ × DeckLine)) → lines_at_end m ≡ Ok ls → Rising line_number (lowest n m) ls
ended_rising n (Between c) ls e = let e2 : [] ≡ ls = cc e in subst (λ (ls : List (ℕ × DeckLine)). Rising line_number n ls) e2 tt
ended_rising n (Within s c) ls e = absurd (cc e)

-- the rest of some lines ascends if all of them do
rest_rising : (n : ℕ) (m : Mode) (u : LineTurn) (q : Result (List (ℕ × DeckLine)) (ℕ × DeckCause)) (ls : List (ℕ × DeckLine)) → Rises n m u → ((r : List (ℕ × DeckLine)) → q ≡ Ok r → Rising line_number (lowest (suc n) u.mode) r) → ok_as (λ rest. u.lines ++ rest) q ≡ Ok ls → Rising line_number (lowest n m) ls
rest_rising n m u (Err e) ls h f k = absurd (cc k)
rest_rising n m u (Ok r) ls h f k = let e : u.lines ++ r ≡ ls = cc k in subst (λ (ls : List (ℕ × DeckLine)). Rising line_number (lowest n m) ls) e (h.lines r (f r refl))

turn_rising : (n : ℕ) (m : Mode) (t : Result LineTurn (ℕ × DeckCause)) (ts : List (ℕ × List ℕ)) (ls : List (ℕ × DeckLine)) → RisesBy n m t
    → ((u : LineTurn) → IsBefore (suc n) u.mode → (r : List (ℕ × DeckLine)) → deck_lines u.mode ts ≡ Ok r → Rising line_number (lowest (suc n) u.mode) r)
    → (t >>= λ u. ok_as (λ rest. u.lines ++ rest) (deck_lines u.mode ts)) ≡ Ok ls → Rising line_number (lowest n m) ls
turn_rising n m (Err e) ts ls h f k = absurd (cc k)
turn_rising n m (Ok u) ts ls h f k = rest_rising n m u (deck_lines u.mode ts) ls h (f u h.before) k

lines_rising : (n : ℕ) (m : Mode) (ts : List (List ℕ)) (ls : List (ℕ × DeckLine)) → IsBefore n m → deck_lines m (with_numbers n ts) ≡ Ok ls → Rising line_number (lowest n m) ls
unfolding deck_lines
lines_rising n m [] ls h e = ended_rising n m ls e
lines_rising n m (t ∷ ts) ls h e =
    turn_rising n m (turn_at (n == 20001) m (n, t)) (with_numbers (suc n) ts) ls (rises_at n m t (n == 20001) h) (λ u b r k. lines_rising (suc n) u.mode ts r b k) e

-- the line numbers of a deck ascend, from 1 on
pub deck_rising : (text : List ℕ) (ls : List (ℕ × DeckLine)) → deck_read text ≡ Ok ls → Rising line_number 1 ls
unfolding deck_read
deck_rising text ls e = lines_rising 1 (Between (record { units = []; powered = false })) (lines text) ls tt e
