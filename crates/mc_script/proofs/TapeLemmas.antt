-- The entries of a line at the front of a tape, and what a recorded tape shows of a line and of the lines after it.
use Rattle.std.proofs.Common.{◌≡◌, ℕ, zero, suc, ◌+◌, ◌≤◌, Bool, true, false, cond, nat_le, List, [], ◌∷◌, ◌++◌, length, Option, Some, None, refl, arith, sym, ap, subst, ◌∙◌, append_assoc}
use Rattle.std.proofs.lemmas.Bool.Decides.{nat_tests}
use Rattle.model_play.specs.model_device.specs.declared.device.Stop.{Stop}
use Rattle.model_play.specs.model_device.specs.Device.{DeviceState, Entry, GrowsBy}
use Rattle.model_play.specs.model_card.specs.Items.{StopAt, moves}
use Rattle.model_play.specs.DeckGrammar.{DeckLine}
use Rattle.model_play.specs.DeckGrammar as line
use Rattle.model_play.specs.Play.{Armed, Live, Running, Unpowered, Muted, Warm, State, BeforePower, AfterPower, FailedWrite, Step, step, power_part, hit_of, moves_with, power_moves, play_at_power, line_command, card_line, moves_of, MayHit, failures_of_tape, Accounts, AccountsForLine, words_left, chunk, with_entry, ends_tape, failures_in, EndsAs, kind_of}
use Rattle.model_play.specs.model_device.specs.PowerUp.{Base, OnCard, AtFault}
use Rattle.mc_script.specs.Plays.{StepTape, PlayTape, words_after}

-- ---- the number of entries of a line

-- the write of a stop is one of the first m
abbrev pub Reaches : ℕ → Option StopAt → Type 0
Reaches m None = Unit {0}
Reaches m (Some t) = t.at ≤ m

-- a failed write is one of the first m
abbrev pub MayReach : ℕ → Option FailedWrite → Type 0
MayReach m None = Unit {0}
MayReach m (Some w) = w.at ≤ m

-- a line of m device writes makes all of them, or those up to its stop
pub record Moved (m : ℕ) (t : Step) : Type 0 where
  pub moves : t.moves ≡ moves_with m t.stop
  pub reaches : Reaches m t.stop

-- an armed cut that hits a line is at one of its writes
cut_reaches : (b : Bool) (k m : ℕ) (x : List ℕ) → nat_le k m ≡ b → Reaches m (cond b (Some (record { kind = Stop.Off; at = k; left = x })) None)
cut_reaches true k m x e = grind (arith, nat_tests, e)
cut_reaches false k m x e = tt

-- any stop that hits a line is at one of its writes
hit_reaches : (a : Armed) (m : ℕ) (w : Option FailedWrite) → MayReach m w → Reaches m (hit_of a m w)
hit_reaches a m w h = grind (arith, cut_reaches)

-- a failed write that may hit a line is one of its writes
may_reach : (s : State) (l : ℕ × DeckLine) (w : Option FailedWrite) → MayHit s l w → MayReach (moves_of s l) w
may_reach s l None may = tt
may_reach s l (Some w) may = may.high

-- a line to a running card, and one when no card runs
card_moved : (n : ℕ) (l : DeckLine) (s : Warm) (live : Live) (base : Base) (w : Option FailedWrite) → MayReach (moves (card_line n l s live base None).items) w → Moved (moves (card_line n l s live base None).items) (card_line n l s live base w)
card_moved n l s (Running session_state) (OnCard c) w h = record { moves = refl; reaches = hit_reaches s.armed (moves (line_command c session_state s.budget l).items) w h }
card_moved n l s (Running session_state) (AtFault cause p) w h = record { moves = refl; reaches = tt }
card_moved n l s Unpowered base w h = record { moves = refl; reaches = tt }
card_moved n l s Muted base w h = record { moves = refl; reaches = tt }

-- no writes and no others
nothing : (m : ℕ) → 0 + m ≡ m
nothing m = omega arith

-- a line of m device writes, with another expression for m
moved_as : (m n : ℕ) (t : Step) → m ≡ n → Moved n t → Moved m t
moved_as m n t e h = subst (λ k. Moved k t) (sym e) h

-- the device writes of a card line that is no power line
moves_after_power : (s : Warm) (l : ℕ × DeckLine) → power_part (AfterPower s) l.1 ≡ 0 → moves_of (AfterPower s) l ≡ moves (step (AfterPower s) l None).items
unfolding moves_of
moves_after_power s l e = ap (λ p. p + moves (step (AfterPower s) l None).items) e ∙ nothing (moves (step (AfterPower s) l None).items)

-- the device writes of a line, and its stop
pub line_moved : (s : State) (l : ℕ × DeckLine) (w : Option FailedWrite) → MayReach (moves_of s l) w → Moved (moves_of s l) (step s l w)
unfolding moves_of step
line_moved (BeforePower m b a) (n, line.Power) w h =
    let p = power_moves (play_at_power m b a) in
    let e : p + 0 ≡ p = omega arith in
    moved_as (p + 0) p _ e (record { moves = refl; reaches = hit_reaches a p w (subst (λ k. MayReach k w) e h) })
line_moved (BeforePower m b a) (n, _) w h = record { moves = refl; reaches = tt }
line_moved (AfterPower s) (n, line.Power) w h =
    let p = power_moves s in
    let e : p + 0 ≡ p = omega arith in
    moved_as (p + 0) p _ e (record { moves = refl; reaches = hit_reaches s.armed p w (subst (λ k. MayReach k w) e h) })
line_moved (AfterPower s) (n, line.Sent sent) w h =
    let k = moves (card_line n (line.Sent sent) s s.live s.base None).items in
    moved_as (0 + k) k _ (nothing k) (card_moved n (line.Sent sent) s s.live s.base w (subst (λ k. MayReach k w) (nothing k) h))
line_moved (AfterPower s) (n, _) w h = record { moves = refl; reaches = tt }

-- ---- the entries of a line at the front of a tape

-- an entry that was done, and one that was stopped
more : (m : ℕ) (e : Entry) (es rest : List Entry) → e.«end» ≡ None → chunk m (es ++ rest) ≡ (es, rest) → chunk (suc m) (e ∷ (es ++ rest)) ≡ (e ∷ es, rest)
more m e es rest is h =
    ap (λ (k : Option Stop). cond (ends_tape k) (e ∷ [], es ++ rest) (with_entry e (chunk m (es ++ rest)))) is ∙ ap (λ (c : List Entry × List Entry). with_entry e c) h

-- entries of which none was stopped
all_done : (es rest : List Entry) → EndsAs None es → chunk (length es) (es ++ rest) ≡ (es, rest)
all_done [] rest h = refl
all_done (e ∷ []) rest h = more 0 e [] rest h refl
all_done (e ∷ f ∷ es) rest h = more (length (f ∷ es)) e (f ∷ es) rest h.0 (all_done (f ∷ es) rest h.1)

-- entries up to the one that was stopped
up_to_stop : (m : ℕ) (es rest : List Entry) (k : Stop) → length es ≤ m → EndsAs (Some k) es → chunk m (es ++ rest) ≡ (es, rest)
up_to_stop m [] rest k fit h = absurd (cc h)
up_to_stop zero (e ∷ []) rest k fit h = absurd (omega (arith, fit))
up_to_stop (suc m) (e ∷ []) rest k fit h = rw h refl
up_to_stop zero (e ∷ f ∷ es) rest k fit h = absurd (omega (arith, fit))
up_to_stop (suc m) (e ∷ f ∷ es) rest k fit h = more m e (f ∷ es) rest h.0 (up_to_stop m (f ∷ es) rest k (omega (arith, fit)) h.1)

-- the entries of a line at the front of a tape
chunk_by : (m : ℕ) (stop : Option StopAt) (es rest : List Entry) → Reaches m stop → length es ≡ moves_with m stop → EndsAs (kind_of stop) es → chunk m (es ++ rest) ≡ (es, rest)
chunk_by m None es rest reach count ends = subst (λ k. chunk k (es ++ rest) ≡ (es, rest)) count (all_done es rest ends)
chunk_by m (Some t) es rest reach count ends = up_to_stop m es rest t.kind (omega (arith, reach, count)) ends

pub line_chunk : (m : List (List ℕ)) (s : State) (l : ℕ × DeckLine) (w : Option FailedWrite) (es rest : List Entry) → MayHit s l w → AccountsForLine m s l (step s l w) es → chunk (moves_of s l) (es ++ rest) ≡ (es, rest)
line_chunk m s l w es rest may reported = grind (arith, line_moved, may_reach, chunk_by)

-- ---- a tape

-- the failed writes that a tape records, by the entries of its first line
failure_by_chunk : (s : State) (l : ℕ × DeckLine) (ls : List (ℕ × DeckLine)) (w : Option FailedWrite) (ws : List (Option FailedWrite)) (t es rest : List Entry) → chunk (moves_of s l) t ≡ (es, rest) → failures_in 0 es ≡ w → ws ≡ failures_of_tape (step s l w).after ls rest → w ∷ ws ≡ failures_of_tape s (l ∷ ls) t
unfolding failures_of_tape
failure_by_chunk s l ls w ws t es rest is worn h = rw (is, worn, h) refl

-- the account of a tape, by the entries of its first line
accounts_by_chunk : (m n : List (List ℕ)) (s : State) (l : ℕ × DeckLine) (ls : List (ℕ × DeckLine)) (w : Option FailedWrite) (ws : List (Option FailedWrite)) (t es rest : List Entry) → chunk (moves_of s l) t ≡ (es, rest) → words_left m es (step s l w).after ≡ n → AccountsForLine m s l (step s l w) es → Accounts n (step s l w).after ls ws rest → Accounts m s (l ∷ ls) (w ∷ ws) t
accounts_by_chunk m n s l ls w ws t es rest is left line h = grind arith

-- the words that a tape leaves, by the entries of its first line
left_by_chunk : (m n k : List (List ℕ)) (s : State) (l : ℕ × DeckLine) (ls : List (ℕ × DeckLine)) (w : Option FailedWrite) (ws : List (Option FailedWrite)) (t es rest : List Entry) → chunk (moves_of s l) t ≡ (es, rest) → words_left m es (step s l w).after ≡ n → words_after n (step s l w).after ls ws rest ≡ k → words_after m s (l ∷ ls) (w ∷ ws) t ≡ k
left_by_chunk m n k s l ls w ws t es rest is left h =
    ap (λ (c : List Entry × List Entry). words_after (words_left m c.0 (step s l w).after) (step s l w).after ls ws c.1) is ∙ ap (λ (x : List (List ℕ)). words_after x (step s l w).after ls ws rest) left ∙ h

-- a tape that grew twice
grows_then : (a b c : Option (List Entry)) (es fs : List Entry) → GrowsBy a es b → GrowsBy b fs c → GrowsBy a (es ++ fs) c
grows_then a b None es fs g h = tt
grows_then a None (Some z) es fs g h = absurd h
grows_then None (Some y) (Some z) es fs g h = absurd g
grows_then (Some x) (Some y) (Some z) es fs g h = h ∙ ap (λ (t : List Entry). t ++ fs) g ∙ append_assoc x es fs

-- the tape of a line and of the lines after it
pub tape_on : (s : State) (l : ℕ × DeckLine) (ls : List (ℕ × DeckLine)) (w : Option FailedWrite) (ws : List (Option FailedWrite)) (d m e : DeviceState) → MayHit s l w → StepTape s l w (step s l w) d m → PlayTape (step s l w).after ls ws m e → PlayTape s (l ∷ ls) (w ∷ ws) d e
tape_on s l ls w ws d m e may line rest =
    let es = line.entries in
    let t = es ++ rest.entries in
    let is = line_chunk d.words s l w es rest.entries may line.accounts in
    record {
      entries = t;
      grows = grows_then d.tape m.tape e.tape es rest.entries line.grows rest.grows;
      worn = failure_by_chunk s l ls w ws t es rest.entries is line.worn rest.worn;
      accounts = accounts_by_chunk d.words m.words s l ls w ws t es rest.entries is line.left line.accounts rest.accounts;
      left = left_by_chunk d.words m.words e.words s l ls w ws t es rest.entries is line.left rest.left;
    }
