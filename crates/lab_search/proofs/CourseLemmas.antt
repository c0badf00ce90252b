-- How the tries of a search compose.
use Rattle.std.specs.Prelude.{Vec, is_some, ⊤}
use Rattle.std.specs.declared.alloc.Global.{Global}
use Rattle.std.proofs.Common.{◌≡◌, ◌≢◌, ℕ, suc, ◌+◌, ◌-◌, ◌<◌, ◌≤◌, Bool, true, false, List, [], ◌∷◌, ◌++◌, drop, length, Option, Some, None, Result, Ok, Err, IfOk, refl, arith, sym, ap, subst, ◌∙◌, map, get_or, slice_get}
use Rattle.std.proofs.lemmas.Option.{slice_get-get_or, slice_get_read}
use Rattle.law_explore_text.specs.model_text.specs.Text.{◌>>=◌}
use Rattle.law_explore_text.specs.model_play.specs.Play.{Live, Running, Unpowered, Muted, is_card_line}
use Rattle.law_explore_text.specs.model_play.specs.Family.{is_running}
use Rattle.law_explore_text.specs.law_explore.specs.model_events.specs.Matching.{fits}
use Rattle.law_explore_text.specs.law_explore.specs.Rules as rule
use Rattle.law_explore_text.specs.law_explore.specs.States.{play_of}
use Rattle.law_explore_text.specs.law_explore.specs.Tries.{Manner as TryManner, Try, Whole, cuts_from, manners, tries_of, tries_with, writes_of}
use Rattle.law_explore_text.specs.law_explore.specs.Search.{Node, Round, HaltedRound, round_of_states, round_of_tries}
use Rattle.law_explore_text.specs.law_explore.proofs.Searches.{tried_append}
use Rattle.lab_rules.specs.Meanings.{AlikeLists, IsMove, IsOn}
use Rattle.lab_rules.specs.Occasions.{IsRow}
use Rattle.lab_rules.specs.declared.rules.Move.{Move}
use Rattle.lab_rules.specs.declared.rules.OnRule.{OnRule}
use Rattle.lab_rules.specs.declared.rules.Rules.{Rules}
use Rattle.lab_search.specs.declared.journey.Fill.{Fill}
use Rattle.lab_search.specs.declared.journey.Fill.TheVariants as fill
use Rattle.lab_search.specs.declared.journey.Manner.TheVariants as manner
use Rattle.lab_search.specs.declared.rounds.Attempt.{Attempt}
use Rattle.lab_search.specs.declared.rounds.Attempt.TheVariants as attempt
use Rattle.lab_search.specs.declared.rounds.Halt.{Halt}
use Rattle.lab_search.specs.declared.rounds.Search.{Search}
use Rattle.lab_search.specs.declared.making.Candidate.{Candidate}
use Rattle.lab_search.specs.Kept.{IsCandidate}
use Rattle.lab_search.specs.Rounds.{cuts_at, round_in, tally_of, tries_from, tries_in, try_value, Ahead, AreCandidates, Attempts, Comes, Depth, Extends, Holds, IsFrom, TriesMove}
use Rattle.lab_search.proofs.AlikeLemmas.{alike_get_second, all_get, drop_at, drop_past}
use Rattle.lab_search.proofs.RoundLemmas.{extends_more, extends_none, found_later}

-- ---- more nodes

-- a search goes on from nodes that were found since
pub later : (d : Depth) (ns all : List Node) (x : Result Round HaltedRound) (o : Option Halt) (s : Search) → Extends ns all → Comes d all x o s → Comes d ns x o s
later d ns all (Ok r) None s e h = record { all = h.all; grew = extends_more ns all h.all e h.grew; holds = h.holds; round = h.round }
later d ns all (Ok r) (Some k) s e h = absurd h
later d ns all (Err f) None s e h = absurd h
later d ns all (Err f) (Some k) s e h =
    record { all = h.all; grew = extends_more ns all h.all e h.grew; holds = h.holds; halt = h.halt; count = h.count; tally = h.tally }

-- tries of a move go on from nodes that were found since
pub tries_later : (d : Depth) (s u : Search) (ns all : List Node) (n : Node) (m : rule.Move) (c : Candidate) (i j : ℕ) → Extends ns all → Holds d u all → TriesMove d s ns n m c i j → TriesMove d u all n m c i j
tries_later d s u ns all n m c i j e h t =
    record { at = record { holds = h; found = found_later ns all i n e t.at.found }; candidate = t.candidate; place = t.place }

-- ---- one after the other

-- a search that ended does not go on
pub halts : (d : Depth) (ns : List Node) (x : Result Round HaltedRound) (f : Round → Result Round HaltedRound) (k : Halt) (s : Search) → Comes d ns x (Some k) s → Comes d ns (x >>= f) (Some k) s
halts d ns (Ok r) f k s h = absurd h
halts d ns (Err e) f k s h = h

-- a search that goes on
pub goes : (d : Depth) (ns : List Node) (x : Result Round HaltedRound) (f : Round → Result Round HaltedRound) (o : Option Halt) (s u : Search) → Comes d ns x None s
    → ((all : List Node) → Extends ns all → Holds d s all → Comes d all (f (round_in d (tally_of s) all)) o u) → Comes d ns (x >>= f) o u
goes d ns (Err e) f o s u h g = absurd h
goes d ns (Ok r) f o s u h g =
    subst (λ (q : Round). Comes d ns (f q) o u) (sym h.round) (later d ns h.all (f (round_in d (tally_of s) h.all)) o u h.grew (g h.all h.grew h.holds))

-- ---- cuts

module _ (missed made : Type 0) (d : Depth) (ns : List Node) (n : Node) (r : Round) (ts us : List Try) where
  -- the first tries end or miss
  pub first_ends : (a : Attempt) (s : Search) → a ≢ attempt.GoesOn → Attempts missed made d ns r (tries_from d n ts r) a s → Attempts missed made d ns r (tries_from d n (ts ++ us) r) a s
  first_ends attempt.NotHit s not h = h
  first_ends attempt.GoesOn s not h = absurd (not refl)
  first_ends (attempt.Halts k) s not h =
      (h.0, subst (λ (x : Result Round HaltedRound). Comes d ns x (Some k) s) (sym (tried_append d.most d.rules.ons n ts us r)) (halts d ns (tries_from d n ts r) (λ q. tries_from d n us q) k s h.1))

  missed_never : (x : Result Round HaltedRound) (s u : Search) → (made → missed → ⊥) → made → Comes d ns x None s
      → ((all : List Node) → Extends ns all → Holds d s all → Attempts missed made d all (round_in d (tally_of s) all) (tries_from d n us (round_in d (tally_of s) all)) attempt.NotHit u) → ⊥
  missed_never (Err e) s u both m h g = absurd h
  missed_never (Ok q) s u both m h g = both m (g h.all h.grew h.holds).0

  -- the first tries go on
  pub first_goes : (a : Attempt) (s u : Search) → (made → missed → ⊥) → Attempts missed made d ns r (tries_from d n ts r) attempt.GoesOn s
      → ((all : List Node) → Extends ns all → Holds d s all → Attempts missed made d all (round_in d (tally_of s) all) (tries_from d n us (round_in d (tally_of s) all)) a u)
      → Attempts missed made d ns r (tries_from d n (ts ++ us) r) a u
  first_goes attempt.NotHit s u both h g = absurd (missed_never (tries_from d n ts r) s u both h.0 h.1 g)
  first_goes attempt.GoesOn s u both h g =
      (h.0, subst (λ (x : Result Round HaltedRound). Comes d ns x None u) (sym (tried_append d.most d.rules.ons n ts us r)) (goes d ns (tries_from d n ts r) (λ q. tries_from d n us q) None s u h.1 (λ all e k. (g all e k).1)))
  first_goes (attempt.Halts k) s u both h g =
      (h.0, subst (λ (x : Result Round HaltedRound). Comes d ns x (Some k) u) (sym (tried_append d.most d.rules.ons n ts us r)) (goes d ns (tries_from d n ts r) (λ q. tries_from d n us q) (Some k) s u h.1 (λ all e l. (g all e l).1)))

-- ---- loops

-- before the first try all that the search does lies ahead
pub ahead_start : (d : Depth) (ns : List Node) (s : Search) (f : Round → Result Round HaltedRound) → Holds d s ns → Ahead d ns s f (f (round_in d (tally_of s) ns))
ahead_start d ns s f h = record { all = ns; grew = extends_none ns; holds = h; same = refl }

-- a try that goes on leaves what comes after it ahead
pub ahead_goes : (d : Depth) (ns : List Node) (s u : Search) (f g : Round → Result Round HaltedRound) (x whole : Result Round HaltedRound) → (a : Ahead d ns s f whole) → Comes d a.all x None u
    → f (round_in d (tally_of s) a.all) ≡ (x >>= g) → Ahead d ns u g whole
ahead_goes d ns s u f g (Err e) whole a h i = absurd h
ahead_goes d ns s u f g (Ok r) whole a h i =
    record { all = h.all; grew = extends_more ns a.all h.all a.grew h.grew; holds = h.holds; same = ap g (sym h.round) ∙ sym i ∙ a.same }

-- what the last try came to is what the whole came to
pub ahead_ends : (d : Depth) (ns : List Node) (s u : Search) (f : Round → Result Round HaltedRound) (whole : Result Round HaltedRound) (o : Option Halt) → (a : Ahead d ns s f whole)
    → Comes d a.all (f (round_in d (tally_of s) a.all)) o u → Comes d ns whole o u
ahead_ends d ns s u f whole o a h = later d ns a.all whole o u a.grew (subst (λ (x : Result Round HaltedRound). Comes d a.all x o u) a.same h)

-- a try that halts is what the whole came to
pub ahead_halts : (d : Depth) (ns : List Node) (s u : Search) (f g : Round → Result Round HaltedRound) (x whole : Result Round HaltedRound) (k : Halt) → (a : Ahead d ns s f whole) → Comes d a.all x (Some k) u
    → f (round_in d (tally_of s) a.all) ≡ (x >>= g) → Comes d ns whole (Some k) u
ahead_halts d ns s u f g x whole k a h i =
    ahead_ends d ns s u f whole (Some k) a (subst (λ (y : Result Round HaltedRound). Comes d a.all y (Some k) u) (sym i) (halts d a.all x g k u h))

-- ---- the cuts of a move

-- from a write on there is its cut with each fill, and then the cuts of the later writes
pub cuts_split : (d : Depth) (n : Node) (m : rule.Move) (made writes : ℕ) (r : Round) → made < writes
    → tries_from d n (tries_in m (cuts_from (made + 1) (writes - made))) r ≡ (tries_from d n (cuts_at m (made + 1)) r >>= λ q. tries_from d n (tries_in m (cuts_from (made + 1 + 1) (writes - (made + 1)))) q)
cuts_split d n m made writes r h =
    let one : writes - made ≡ suc (writes - (made + 1)) = omega (arith, h) in
    ap (λ k. tries_from d n (tries_in m (cuts_from (made + 1) k)) r) one ∙ tried_append d.most d.rules.ons n (cuts_at m (made + 1)) (tries_in m (cuts_from (made + 1 + 1) (writes - (made + 1)))) r

-- after the last write there is none
pub cuts_none : (d : Depth) (n : Node) (m : rule.Move) (made writes : ℕ) (r : Round) → writes ≤ made → tries_from d n (tries_in m (cuts_from (made + 1) (writes - made))) r ≡ Ok r
unfolding round_of_tries
cuts_none d n m made writes r h =
    let none : writes - made ≡ 0 = omega (arith, h) in
    ap (λ k. tries_from d n (tries_in m (cuts_from (made + 1) k)) r) none

-- ---- the manners of a move

manners_still : (v : Live) (k : ℕ) → is_running v ≡ false → manners v k ≡ Whole ∷ []
manners_still (Running x) k h = absurd (cc h)
manners_still Unpowered k h = refl
manners_still Muted k h = refl

manners_running : (v : Live) (k : ℕ) → is_running v ≡ true → manners v k ≡ Whole ∷ cuts_from 1 k
manners_running (Running x) k h = refl
manners_running Unpowered k h = absurd (cc h)
manners_running Muted k h = absurd (cc h)

-- ---- three cuts

-- what holds of a result's value, with what follows from it
pub if_ok : {X E : Type 0} (P Q : X → Type 0) (r : Result X E) → ((x : X) → P x → Q x) → IfOk r P → IfOk r Q
if_ok P Q (Ok x) f h = f x h
if_ok P Q (Err e) f h = tt

-- the cut of a move with a fill
abbrev pub cut_of : rule.Move → ℕ → Fill → Try
cut_of m made f = try_value m (manner.Cut made f)

-- what cuts came to, by the number of the writes of the move
abbrev pub CutsCome : Depth → List Node → Node → rule.Move → ℕ → List Try → Round → Attempt → Search → Type 0
CutsCome d ns n m made ts r a s =
    Attempts (writes_of (play_of n.state) m ≤ made) (made < writes_of (play_of n.state) m) d ns r (tries_from d n ts r) a s

-- the first cut ends
pub cut_ends : (d : Depth) (ns : List Node) (n : Node) (m : rule.Move) (made : ℕ) (r : Round) (a : Attempt) (s : Search) → a ≢ attempt.GoesOn → CutsCome d ns n m made (cut_of m made fill.Zeros ∷ []) r a s
    → CutsCome d ns n m made (cuts_at m (made + 1)) r a s
cut_ends d ns n m made r a s not h =
    first_ends (writes_of (play_of n.state) m ≤ made) (made < writes_of (play_of n.state) m) d ns n r (cut_of m made fill.Zeros ∷ []) (cut_of m made fill.Ones ∷ cut_of m made fill.Opening ∷ []) a s not h

never_both : (a b : ℕ) → a < b → b ≤ a → ⊥
never_both a b h k = omega (arith, h, k)

-- the first cut goes on, and the later ones come to something
pub cut_goes : (d : Depth) (ns : List Node) (n : Node) (m : rule.Move) (made : ℕ) (r : Round) (a : Attempt) (s u : Search) → CutsCome d ns n m made (cut_of m made fill.Zeros ∷ []) r attempt.GoesOn s
    → ((all : List Node) → Extends ns all → Holds d s all → CutsCome d all n m made (cut_of m made fill.Ones ∷ cut_of m made fill.Opening ∷ []) (round_in d (tally_of s) all) a u)
    → CutsCome d ns n m made (cuts_at m (made + 1)) r a u
cut_goes d ns n m made r a s u h g =
    first_goes (writes_of (play_of n.state) m ≤ made) (made < writes_of (play_of n.state) m) d ns n r (cut_of m made fill.Zeros ∷ []) (cut_of m made fill.Ones ∷ cut_of m made fill.Opening ∷ []) a s u
    (never_both made (writes_of (play_of n.state) m)) h g

-- the second cut ends
pub second_ends : (d : Depth) (ns : List Node) (n : Node) (m : rule.Move) (made : ℕ) (r : Round) (a : Attempt) (s : Search) → a ≢ attempt.GoesOn → CutsCome d ns n m made (cut_of m made fill.Ones ∷ []) r a s
    → CutsCome d ns n m made (cut_of m made fill.Ones ∷ cut_of m made fill.Opening ∷ []) r a s
second_ends d ns n m made r a s not h =
    first_ends (writes_of (play_of n.state) m ≤ made) (made < writes_of (play_of n.state) m) d ns n r (cut_of m made fill.Ones ∷ []) (cut_of m made fill.Opening ∷ []) a s not h

-- the second cut goes on, and the third comes to something
pub second_goes : (d : Depth) (ns : List Node) (n : Node) (m : rule.Move) (made : ℕ) (r : Round) (a : Attempt) (s u : Search) → CutsCome d ns n m made (cut_of m made fill.Ones ∷ []) r attempt.GoesOn s
    → ((all : List Node) → Extends ns all → Holds d s all → CutsCome d all n m made (cut_of m made fill.Opening ∷ []) (round_in d (tally_of s) all) a u)
    → CutsCome d ns n m made (cut_of m made fill.Ones ∷ cut_of m made fill.Opening ∷ []) r a u
second_goes d ns n m made r a s u h g =
    first_goes (writes_of (play_of n.state) m ≤ made) (made < writes_of (play_of n.state) m) d ns n r (cut_of m made fill.Ones ∷ []) (cut_of m made fill.Opening ∷ []) a s u
    (never_both made (writes_of (play_of n.state) m)) h g

-- cuts that came to what they are
pub cuts_as : (d : Depth) (ns : List Node) (n : Node) (m : rule.Move) (made : ℕ) (ts : List Try) (r : Round) (a b : Attempt) (s : Search) → a ≡ b → CutsCome d ns n m made ts r a s → CutsCome d ns n m made ts r b s
cuts_as d ns n m made ts r a b s e h = subst (λ (x : Attempt). CutsCome d ns n m made ts r x s) e h

-- ---- all cuts

-- the cuts from a write on
abbrev pub cuts_left : Depth → Node → rule.Move → ℕ → Round → Result Round HaltedRound
cuts_left d n m made r = tries_from d n (tries_in m (cuts_from (made + 1) (writes_of (play_of n.state) m - made))) r

less_none : (k : ℕ) → k - 0 ≡ k
less_none k = omega arith

-- before the first write all cuts are left
pub cuts_start : (d : Depth) (ns : List Node) (n : Node) (m : rule.Move) (s : Search) → Holds d s ns
    → Ahead d ns s (cuts_left d n m 0) (tries_from d n (tries_in m (cuts_from 1 (writes_of (play_of n.state) m))) (round_in d (tally_of s) ns))
cuts_start d ns n m s h =
    record { all = ns; grew = extends_none ns; holds = h; same = ap (λ (k : ℕ). tries_from d n (tries_in m (cuts_from 1 k)) (round_in d (tally_of s) ns)) (less_none (writes_of (play_of n.state) m)) }

module _ (d : Depth) (ns : List Node) (n : Node) (m : rule.Move) (made : ℕ) (s u : Search) (whole : Result Round HaltedRound) (a : Ahead d ns s (cuts_left d n m made) whole) where
  -- there is no write left
  pub cuts_done : (b : Attempt) → b ≡ attempt.NotHit → CutsCome d a.all n m made (cuts_at m (made + 1)) (round_in d (tally_of s) a.all) b u → Comes d ns whole None u
  cuts_done b e k =
      let h = cuts_as d a.all n m made _ (round_in d (tally_of s) a.all) b attempt.NotHit u e k in
      ahead_ends d ns s u (cuts_left d n m made) whole None a
      (subst (λ (x : Result Round HaltedRound). Comes d a.all x None u) (sym (cuts_none d n m made (writes_of (play_of n.state) m) (round_in d (tally_of s) a.all) h.0)) h.1)

  -- the cuts of a write end
  pub cuts_halt : (b : Attempt) (o : Halt) → b ≡ attempt.Halts o → CutsCome d a.all n m made (cuts_at m (made + 1)) (round_in d (tally_of s) a.all) b u → Comes d ns whole (Some o) u
  cuts_halt b o e k =
      let h = cuts_as d a.all n m made _ (round_in d (tally_of s) a.all) b (attempt.Halts o) u e k in
      ahead_halts d ns s u (cuts_left d n m made) (cuts_left d n m (made + 1)) (tries_from d n (cuts_at m (made + 1)) (round_in d (tally_of s) a.all)) whole o a h.1
      (cuts_split d n m made (writes_of (play_of n.state) m) (round_in d (tally_of s) a.all) h.0)

  -- they go on
  pub cuts_go : (b : Attempt) → b ≡ attempt.GoesOn → CutsCome d a.all n m made (cuts_at m (made + 1)) (round_in d (tally_of s) a.all) b u → Ahead d ns u (cuts_left d n m (made + 1)) whole
  cuts_go b e k =
      let h = cuts_as d a.all n m made _ (round_in d (tally_of s) a.all) b attempt.GoesOn u e k in
      ahead_goes d ns s u (cuts_left d n m made) (cuts_left d n m (made + 1)) (tries_from d n (cuts_at m (made + 1)) (round_in d (tally_of s) a.all)) whole a h.1
      (cuts_split d n m made (writes_of (play_of n.state) m) (round_in d (tally_of s) a.all) h.0)

-- ---- a move

whole_ends : (d : Depth) (ns : List Node) (n : Node) (m : rule.Move) (r : Round) (k : Halt) (s : Search) (b : Bool) → is_running n.state.live ≡ b
    → Comes d ns (tries_from d n (try_value m manner.Whole ∷ []) r) (Some k) s → Comes d ns (tries_from d n (tries_with n.state m) r) (Some k) s
whole_ends d ns n m r k s false e h =
    subst (λ (ws : List TryManner). Comes d ns (tries_from d n (tries_in m ws) r) (Some k) s) (sym (manners_still n.state.live (writes_of (play_of n.state) m) e)) h
whole_ends d ns n m r k s true e h =
    let writes = writes_of (play_of n.state) m in
    let first = try_value m manner.Whole ∷ [] in
    let rest = tries_in m (cuts_from 1 writes) in
    subst (λ (ws : List TryManner). Comes d ns (tries_from d n (tries_in m ws) r) (Some k) s) (sym (manners_running n.state.live writes e))
    (subst (λ (x : Result Round HaltedRound). Comes d ns x (Some k) s) (sym (tried_append d.most d.rules.ons n first rest r)) (halts d ns (tries_from d n first r) (λ q. tries_from d n rest q) k s h))

-- the move whole ends
pub whole_halts : (d : Depth) (ns : List Node) (n : Node) (m : rule.Move) (r : Round) (a : Attempt) (k : Halt) (s : Search) → a ≡ attempt.Halts k
    → Attempts ⊥ ⊤ d ns r (tries_from d n (try_value m manner.Whole ∷ []) r) a s → Comes d ns (tries_from d n (tries_with n.state m) r) (Some k) s
whole_halts d ns n m r a k s e h =
    let ends = subst (λ (x : Attempt). Attempts ⊥ ⊤ d ns r (tries_from d n (try_value m manner.Whole ∷ []) r) x s) e h in
    whole_ends d ns n m r k s (is_running n.state.live) refl ends.1

-- the move whole goes on, and there is no more
pub whole_only : (d : Depth) (ns : List Node) (n : Node) (m : rule.Move) (r : Round) (s : Search) → is_running n.state.live ≡ false
    → Comes d ns (tries_from d n (try_value m manner.Whole ∷ []) r) None s → Comes d ns (tries_from d n (tries_with n.state m) r) None s
whole_only d ns n m r s e h =
    subst (λ (ws : List TryManner). Comes d ns (tries_from d n (tries_in m ws) r) None s) (sym (manners_still n.state.live (writes_of (play_of n.state) m) e)) h

-- the move whole goes on, and its cuts come to something
pub whole_then : (d : Depth) (ns : List Node) (n : Node) (m : rule.Move) (r : Round) (o : Option Halt) (s u : Search) → is_running n.state.live ≡ true
    → Comes d ns (tries_from d n (try_value m manner.Whole ∷ []) r) None s
    → ((all : List Node) → Extends ns all → Holds d s all → Comes d all (tries_from d n (tries_in m (cuts_from 1 (writes_of (play_of n.state) m))) (round_in d (tally_of s) all)) o u)
    → Comes d ns (tries_from d n (tries_with n.state m) r) o u
whole_then d ns n m r o s u e h g =
    let writes = writes_of (play_of n.state) m in
    let first = try_value m manner.Whole ∷ [] in
    let rest = tries_in m (cuts_from 1 writes) in
    subst (λ (ws : List TryManner). Comes d ns (tries_from d n (tries_in m ws) r) o u) (sym (manners_running n.state.live writes e))
    (subst (λ (x : Result Round HaltedRound). Comes d ns x o u) (sym (tried_append d.most d.rules.ons n first rest r)) (goes d ns (tries_from d n first r) (λ q. tries_from d n rest q) o s u h g))

-- what a whole move came to, if it did not end
pub whole_goes : (d : Depth) (ns : List Node) (r : Round) (x : Result Round HaltedRound) (a : Attempt) (s : Search) → ((k : Halt) → a ≢ attempt.Halts k) → Attempts ⊥ ⊤ d ns r x a s → Comes d ns x None s
whole_goes d ns r x attempt.NotHit s not h = absurd h.0
whole_goes d ns r x attempt.GoesOn s not h = h.1
whole_goes d ns r x (attempt.Halts k) s not h = absurd (not k refl)

-- whether a card runs in a state, by what a search that goes on says of it
pub runs_in : (d : Depth) (ns : List Node) (n : Node) (i : ℕ) (x : Result Round HaltedRound) (s : Search) (b c : Bool) → slice_get ns i ≡ Some n
    → ((all : List Node) → IsFrom d s all n i → b ≡ is_running n.state.live) → b ≡ c → Comes d ns x None s → is_running n.state.live ≡ c
runs_in d ns n i (Err e) s b c f g h k = absurd k
runs_in d ns n i (Ok r) s b c f g h k = sym (g k.all (record { holds = k.holds; found = found_later ns k.all i n k.grew f })) ∙ h

-- ---- all moves

-- the tries of the moves from a place on
abbrev pub moves_left : Depth → Node → ℕ → Round → Result Round HaltedRound
moves_left d n i r = tries_from d n (tries_of (drop i d.rules.moves) n.state) r

-- the moves from a place on are the one there and those after it
pub moves_split : (d : Depth) (n : Node) (m : rule.Move) (i : ℕ) (r : Round) → slice_get d.rules.moves i ≡ Some m
    → moves_left d n i r ≡ (tries_from d n (tries_with n.state m) r >>= λ q. moves_left d n (i + 1) q)
unfolding tries_of
moves_split d n m i r h =
    ap (λ (ms : List rule.Move). tries_from d n (tries_of ms n.state) r) (drop_at d.rules.moves i m h)
    ∙ tried_append d.most d.rules.ons n (tries_with n.state m) (tries_of (drop (i + 1) d.rules.moves) n.state) r

-- no move is left from the end on
pub moves_none : (d : Depth) (n : Node) (i : ℕ) (r : Round) → length d.rules.moves ≤ i → moves_left d n i r ≡ Ok r
unfolding round_of_tries tries_of
moves_none d n i r h = ap (λ (ms : List rule.Move). tries_from d n (tries_of ms n.state) r) (drop_past d.rules.moves i h)

-- ---- all states

-- the tries of nodes from a place on
abbrev pub states_left : Depth → List Node → ℕ → Round → Result Round HaltedRound
states_left d ns i r = round_of_states d.most d.rules (drop i ns) r

-- the nodes from a place on are the one there and those after it
pub states_split : (d : Depth) (ns : List Node) (n : Node) (i : ℕ) (r : Round) → slice_get ns i ≡ Some n
    → states_left d ns i r ≡ (tries_from d n (tries_of d.rules.moves n.state) r >>= λ q. states_left d ns (i + 1) q)
unfolding round_of_states
states_split d ns n i r h = ap (λ (ms : List Node). round_of_states d.most d.rules ms r) (drop_at ns i n h)

-- no node is left from the end on
pub states_none : (d : Depth) (ns : List Node) (i : ℕ) (r : Round) → length ns ≤ i → states_left d ns i r ≡ Ok r
unfolding round_of_states
states_none d ns i r h = ap (λ (ms : List Node). round_of_states d.most d.rules ms r) (drop_past ns i h)

-- ---- steps of a loop

module _ (d : Depth) (ns : List Node) (s : Search) (f : Round → Result Round HaltedRound) (whole : Result Round HaltedRound) (a : Ahead d ns s f whole) where
  -- a step ends
  pub step_halts : (u : Search) (g : Round → Result Round HaltedRound) (x : Result Round HaltedRound) (o : Option Halt) → f (round_in d (tally_of s) a.all) ≡ (x >>= g) → is_some o ≡ true → Comes d a.all x o u
      → Comes d ns whole o u
  step_halts u g x None i e h = absurd (cc e)
  step_halts u g x (Some k) i e h = ahead_halts d ns s u f g x whole k a h i

  -- a step goes on
  pub step_goes : (u : Search) (g : Round → Result Round HaltedRound) (x : Result Round HaltedRound) (o : Option Halt) → f (round_in d (tally_of s) a.all) ≡ (x >>= g) → is_some o ≡ false → Comes d a.all x o u
      → Ahead d ns u g whole
  step_goes u g x None i e h = ahead_goes d ns s u f g x whole a h i
  step_goes u g x (Some k) i e h = absurd (cc e)

  -- there is no step left
  pub steps_end : f (round_in d (tally_of s) a.all) ≡ Ok (round_in d (tally_of s) a.all) → Comes d ns whole None s
  steps_end i =
      ahead_ends d ns s s f whole None a
      (subst (λ (x : Result Round HaltedRound). Comes d a.all x None s) (sym i) (record { all = a.all; grew = extends_none a.all; holds = a.holds; round = refl }))

-- ---- candidates

-- a move with its row of applications is a candidate
pub candidate_at : (r : rule.Rules) (e : Rules) (rows : List (Vec Bool Global)) (c : Candidate) (i : ℕ) (ms : List Move) (none : Move) (row : Vec Bool Global) → AreCandidates r e rows → ms ≡ e.moves.items
    → i < length ms → c.chosen.now ≡ get_or ms i none → c.ons.now ≡ e.ons.items → c.applies.now ≡ row.items → i < length rows → row ≡ get_or rows i row
    → (m : rule.Move) × (slice_get r.moves i ≡ Some m) × IsCandidate r.allowances r.ons m c
candidate_at r e rows c i ms none row h same within chosen ons applies below is =
    let found : slice_get ms i ≡ Some c.chosen.now = slice_get-get_or ms i none within ∙ ap Some (sym chosen) in
    let m = alike_get_second IsMove e.moves.items r.moves i c.chosen.now h.rules.moves (subst (λ (xs : List Move). slice_get xs i ≡ Some c.chosen.now) same found) in
    let a = alike_get_second (IsRow r.ons) rows r.moves i row h.rows (slice_get_read rows (length rows) i row refl below is) in
    let one : a.0 ≡ m.0 = cc (a.1, m.1) in (
      m.0,
      m.1,
      record {
        move = m.2;
        distinct = h.rules.distinct;
        card = all_get (λ (x : rule.Move). is_card_line x.line ≡ true) r.moves i m.0 h.cards m.1;
        ons = subst (λ (xs : List OnRule). AlikeLists (IsOn r.allowances) xs r.ons) (sym ons) h.rules.ons;
        applies = applies ∙ subst (λ (x : rule.Move). row.items ≡ map (λ o. fits o.move x.text) r.ons) one a.2;
      },
    )

-- ---- searches that go on

-- the nodes of a search that goes on
pub record IsGoing (d : Depth) (ns : List Node) (s : Search) : Type 0 where
  pub all : List Node
  pub grew : Extends ns all
  pub holds : Holds d s all

-- a search that did not halt goes on with its nodes
pub going : (d : Depth) (ns : List Node) (x : Result Round HaltedRound) (s : Search) → Comes d ns x None s → IsGoing d ns s
going d ns (Ok r) s h = record { all = h.all; grew = h.grew; holds = h.holds }
going d ns (Err e) s h = absurd h
