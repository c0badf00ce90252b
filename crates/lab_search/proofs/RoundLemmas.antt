-- How the tries of a search follow those of the definition.
use Rattle.std.proofs.Common.{◌≡◌, ◌≢◌, ◌⊎◌, inl, inr, ℕ, ◌+◌, ◌<◌, ◌≤◌, Bool, true, false, nat_lt, ◌||◌, List, [], ◌∷◌, ◌++◌, length, drop, map, reverse, Option, Some, None, Result, Ok, Err, refl, arith, sym, ap, subst, ◌∙◌, slice_get, length-append, append_assoc}
use Rattle.std.specs.List.{list_any}
use Rattle.std.proofs.lemmas.List.{append-nil, reverse-append, map-append, drop-append-le}
use Rattle.std.proofs.lemmas.Option.{slice_get_within}
use Rattle.law_explore_text.specs.model_text.specs.Text.{◌>>=◌}
use Rattle.law_explore_text.specs.law_explore.specs.Rules as rule
use Rattle.law_explore_text.specs.law_explore.specs.States as model
use Rattle.law_explore_text.specs.law_explore.specs.States.{is_known, is_same_state}
use Rattle.law_explore_text.specs.law_explore.specs.Tries.{Try, outcome}
use Rattle.law_explore_text.specs.law_explore.specs.Search.{Node, Round, HaltedRound, RuleBroken, after_outcome, round_of_tries, with_new, with_reached, with_try, tally_with, Tally}
use Rattle.lab_rules.specs.Meanings.{AlikeLists}
use Rattle.lab_search.specs.declared.journey.Manner.{Manner}
use Rattle.lab_search.specs.declared.journey.Step.{Step}
use Rattle.lab_search.specs.declared.rounds.Halt.{Halt}
use Rattle.lab_search.specs.declared.rounds.Halt.TheVariants as halt
use Rattle.lab_search.specs.declared.rounds.Search.{Search}
use Rattle.lab_key.specs.declared.state.CardState.{CardState}
use Rattle.lab_key.specs.declared.kept.Rosters.{Rosters}
use Rattle.lab_search.specs.declared.making.Candidate.{Candidate}
use Rattle.lab_search.specs.declared.trying.Laboratory.{Laboratory}
use Rattle.lab_search.specs.declared.trying.Tried.{Tried}
use Rattle.lab_search.specs.declared.trying.Tried.TheVariants as tried
use Rattle.lab_search.specs.Trying.{IsMade, IsMissed}
use Rattle.lab_search.specs.Kept.{is_equal, names_in, Kept, KeepsKept, TryIs}
use Rattle.lab_search.specs.Rounds.{known_in, round_in, tally_of, tries_from, try_value, AreReached, Comes, Depth, Ends, Extends, GoesOn, Holds, IsFrom, IsReached, IsTry, KeepsNode, TriesMove}
use Rattle.lab_search.proofs.AlikeLemmas.{alike_get, alike_length, alike_more, alike_other, get_front, get_more}
use Rattle.lab_search.proofs.SameKept.{kept_same}

-- ---- nodes

-- nodes extend themselves
pub extends_none : (ns : List Node) → Extends ns ns
extends_none ns = ([], sym (append-nil ns))

-- nodes that extend others that extend the first extend the first
pub extends_more : (ns ms ls : List Node) → Extends ns ms → Extends ms ls → Extends ns ls
extends_more ns ms ls f g = (f.0 ++ g.0, g.1 ∙ ap (λ (t : List Node). t ++ g.0) f.1 ∙ append_assoc ns f.0 g.0)

-- a node at a place stays there when more are found
pub found_later : (ns ms : List Node) (i : ℕ) (n : Node) → Extends ns ms → slice_get ns i ≡ Some n → slice_get ms i ≡ Some n
found_later ns ms i n e h = subst (λ (t : List Node). slice_get t i ≡ Some n) (sym e.1) (get_front ns e.0 i n h)

-- ---- what is held

some_same : {X : Type 0} (x y : X) → Some x ≡ Some y → x ≡ y
some_same x y e = cc e

-- the state at the place of a node is kept
pub kept_at : (d : Depth) (s : Search) (ns : List Node) (n : Node) (i : ℕ) (t : CardState) → IsFrom d s ns n i → Some t ≡ slice_get s.states.keys i → KeepsNode d.rules s t n
kept_at d s ns n i t h e =
    let k = alike_get (KeepsNode d.rules s) s.states.keys ns i n h.holds.kept h.found in
    subst (λ x. KeepsNode d.rules s x n) (some_same k.0 t (sym k.1 ∙ sym e)) k.2

-- there is a state at the place of a node
pub held_at : (d : Depth) (s : Search) (ns : List Node) (n : Node) (i : ℕ) → IsFrom d s ns n i → slice_get s.states.keys i ≢ None
held_at d s ns n i h e =
    let k = alike_get (KeepsNode d.rules s) s.states.keys ns i n h.holds.kept h.found in
    absurd (cc (sym k.1 ∙ e))

-- a search whose states stay kept holds the nodes that it held
pub holds_still : (d : Depth) (s u : Search) (ns : List Node) → KeepsKept s.laboratory s.rosters u.laboratory u.rosters → u.limit ≡ s.limit → u.states.keys ≡ s.states.keys
    → u.last_steps.items ≡ s.last_steps.items → Holds d s ns → Holds d u ns
holds_still d s u ns keeps limit keys items h =
    record {
      room = limit ∙ h.room;
      within = h.within;
      counts = keeps.counts ∙ h.counts;
      kept = subst (λ (ks : List CardState). AlikeLists (KeepsNode d.rules u) ks ns) (sym keys)
          (alike_other (KeepsNode d.rules s) (KeepsNode d.rules u) (λ t n k. keeps.kept (names_in d.rules) t n.state k) s.states.keys ns h.kept);
      reached = subst (λ (ls : List Step). AreReached d.rules.moves ls ns) (sym items) h.reached;
    }

-- ---- what is known

not_below : (a b : ℕ) → b ≤ a → nat_lt a b ≡ false
not_below a b h = grind arith

is_below : (a b : ℕ) → a < b → nat_lt a b ≡ true
is_below a b h = grind arith

either : (a b e x : Bool) → x ≡ (b || e) → (a || x) ≡ ((a || b) || e)
either true b e x h = refl
either false b e x h = h

known_append : (c : model.CardState) (xs ys : List model.CardState) → is_known c (xs ++ ys) ≡ (is_known c xs || is_known c ys)
unfolding is_known
known_append c [] ys = refl
known_append c (x ∷ xs) ys = either (is_same_state c x) (is_known c xs) (is_known c ys) (is_known c (xs ++ ys)) (known_append c xs ys)

swapped : (a b : Bool) → (a || (b || false)) ≡ (b || a)
swapped true true = refl
swapped true false = refl
swapped false true = refl
swapped false false = refl

-- whether a state is one of those that are kept
pub known_same : (rules : rule.Rules) (s : Search) (t : CardState) (c : model.CardState) (ts : List CardState) (ns : List Node)
    → AlikeLists (KeepsNode rules s) ts ns → Kept s.laboratory s.rosters (names_in rules) t c → list_any (is_equal t) ts ≡ is_known c (known_in ns)
unfolding is_known
known_same rules s t c [] [] h k = refl
known_same rules s t c [] (n ∷ ns) h k = absurd h
known_same rules s t c (u ∷ ts) [] h k = absurd h
known_same rules s t c (u ∷ ts) (n ∷ ns) h k =
    let first : is_equal t u ≡ is_same_state c n.state = kept_same s.laboratory s.rosters (names_in rules) t u c n.state k h.0 in
    let rest : list_any (is_equal t) ts ≡ is_known c (known_in ns) = known_same rules s t c ts ns h.1 k in
    let split : is_known c (known_in (n ∷ ns)) ≡ (is_known c (known_in ns) || is_known c (n.state ∷ [])) =
    ap (is_known c) (reverse-append (n.state ∷ []) (map (λ m. m.state) ns)) ∙ known_append c (known_in ns) (n.state ∷ [])
    in
    grind (arith, first, rest, split, swapped (is_known c (known_in ns)) (is_same_state c n.state))

-- ---- one node more

first_more : (moves : List rule.Move) (steps : List Step) (ns : List Node) (n m : Node) → AreReached moves steps ns → (slice_get ns 0 ≡ Some m) ⊎ ((0 ≡ length ns) × (m ≡ n)) → m.path ≡ []
first_more moves steps ns n m h (inl g) = h.first m g
first_more moves steps ns n m h (inr e) = let count = h.count in absurd (omega (arith, count, e.0))

each_more : (moves : List rule.Move) (steps : List Step) (ns : List Node) (s : Step) (b n : Node) (t : Try) → AreReached moves steps ns → slice_get ns s.before ≡ Some b
    → IsTry moves s t → n.path ≡ t ∷ b.path → (i : ℕ) (r : Step) (m : Node) → (slice_get steps i ≡ Some r) ⊎ ((i ≡ length steps) × (r ≡ s))
    → (slice_get ns (i + 1) ≡ Some m) ⊎ ((i + 1 ≡ length ns) × (m ≡ n)) → IsReached moves (ns ++ n ∷ []) i r m
each_more moves steps ns s b n t h found is path i r m (inl g) (inl e) =
    let x = h.each i r m g e in
    record { before = x.before; earlier = x.earlier; found = get_front ns (n ∷ []) r.before x.before x.found; last = x.last; is = x.is; path = x.path }
each_more moves steps ns s b n t h found is path i r m (inl g) (inr e) =
    let count = h.count in
    absurd (omega (arith, count, e.0, slice_get_within steps i r g))
each_more moves steps ns s b n t h found is path i r m (inr g) (inl e) =
    let count = h.count in
    absurd (omega (arith, count, g.0, slice_get_within ns (i + 1) m e))
each_more moves steps ns s b n t h found is path i r m (inr g) (inr e) =
    let count = h.count in
    let within = slice_get_within ns s.before b found in
    record {
      before = b;
      earlier = subst (λ (z : Step). z.before ≤ i) (sym g.1) (omega (arith, count, g.0, within));
      found = subst (λ (z : Step). slice_get (ns ++ n ∷ []) z.before ≡ Some b) (sym g.1) (get_front ns (n ∷ []) s.before b found);
      last = t;
      is = subst (λ (z : Step). IsTry moves z t) (sym g.1) is;
      path = ap (λ (z : Node). z.path) e.1 ∙ path;
    }

-- a node that is reached by a step from one that is held
pub reached_more : (moves : List rule.Move) (steps : List Step) (ns : List Node) (s : Step) (b n : Node) (t : Try) → AreReached moves steps ns → slice_get ns s.before ≡ Some b
    → IsTry moves s t → n.path ≡ t ∷ b.path → AreReached moves (steps ++ s ∷ []) (ns ++ n ∷ [])
reached_more moves steps ns s b n t h found is path =
    record {
      count = length-append ns (n ∷ []) ∙ ap (λ k. k + 1) h.count ∙ ap (λ k. k + 1) (sym (length-append steps (s ∷ [])));
      first = λ m g. first_more moves steps ns n m h (get_more ns n 0 m g);
      each = λ i r m g e. each_more moves steps ns s b n t h found is path i r m (get_more steps s i r g) (get_more ns n (i + 1) m e);
    }

kept_in : (d : Depth) (s u : Search) (x : CardState) (c : model.CardState) → u.laboratory ≡ s.laboratory → u.rosters ≡ s.rosters → Kept s.laboratory s.rosters (names_in d.rules) x c
    → Kept u.laboratory u.rosters (names_in d.rules) x c
kept_in d s u x c lab ros k =
    subst (λ (l : Laboratory). Kept l u.rosters (names_in d.rules) x c) (sym lab) (subst (λ (r : Rosters). Kept s.laboratory r (names_in d.rules) x c) (sym ros) k)

-- a search that keeps one state more holds its node
pub holds_more : (d : Depth) (s u : Search) (ns : List Node) (b : Node) (r : Step) (t : Try) (x : CardState) (c : model.CardState) → IsFrom d s ns b r.before → IsTry d.rules.moves r t
    → Kept s.laboratory s.rosters (names_in d.rules) x c → u.laboratory ≡ s.laboratory → u.rosters ≡ s.rosters → u.limit ≡ s.limit → u.states.keys ≡ s.states.keys ++ x ∷ []
    → u.last_steps.items ≡ s.last_steps.items ++ r ∷ [] → Holds d u (ns ++ record { state = c; path = t ∷ b.path } ∷ [])
holds_more d s u ns b r t x c h is k lab ros limit keys items =
    let n : Node = record { state = c; path = t ∷ b.path } in
    let within = h.holds.within in
    record {
      room = limit ∙ h.holds.room;
      within = omega (arith, within, length-append ns (n ∷ []));
      counts = ap (λ l. length l.counts.items) lab ∙ h.holds.counts;
      kept = subst (λ (ks : List CardState). AlikeLists (KeepsNode d.rules u) ks (ns ++ n ∷ [])) (sym keys)
          (alike_more (KeepsNode d.rules u) s.states.keys ns x n (alike_other (KeepsNode d.rules s) (KeepsNode d.rules u) (λ y m. kept_in d s u y m.state lab ros) s.states.keys ns h.holds.kept) (kept_in d s u x c lab ros k));
      reached = subst (λ (ls : List Step). AreReached d.rules.moves ls (ns ++ n ∷ [])) (sym items) (reached_more d.rules.moves s.last_steps.items ns r b n t h.holds.reached h.found is refl);
    }

-- the round of one node more
round_more : (d : Depth) (tries : Tally) (ns : List Node) (n : Node) → d.from ≤ length ns
    → record (round_in d tries ns) { known = n.state ∷ known_in ns; fresh = drop d.from ns ++ n ∷ []; count = length ns + 1 } ≡ round_in d tries (ns ++ n ∷ [])
round_more d tries ns n h =
    let known : n.state ∷ known_in ns ≡ known_in (ns ++ n ∷ []) = sym (ap reverse (map-append (λ m. m.state) ns (n ∷ [])) ∙ reverse-append (map (λ m. m.state) ns) (n.state ∷ [])) in
    let fresh : drop d.from ns ++ n ∷ [] ≡ drop d.from (ns ++ n ∷ []) = sym (drop-append-le d.from ns (n ∷ []) h) in
    let count : length ns + 1 ≡ length (ns ++ n ∷ []) = sym (length-append ns (n ∷ [])) in
    cc (known, fresh, count)

-- ---- a state that was reached

-- it is known
pub reached_known : (d : Depth) (s : Search) (ns : List Node) (n : Node) (b : Bool) → Holds d s ns → b ≡ true → Comes d ns (with_reached b d.most n (round_in d (tally_of s) ns)) None s
reached_known d s ns n true h e = record { all = ns; grew = extends_none ns; holds = h; round = refl }
reached_known d s ns n false h e = absurd (cc e)

-- there is no room for it
pub reached_full : (d : Depth) (s : Search) (ns : List Node) (n : Node) (b r : Bool) → Holds d s ns → b ≡ false → r ≡ false
    → nat_lt (length ns) d.most ≡ r → Comes d ns (with_reached b d.most n (round_in d (tally_of s) ns)) (Some halt.Full) s
reached_full d s ns n true r h e f l = absurd (cc e)
reached_full d s ns n false true h e f l = absurd (cc f)
reached_full d s ns n false false h e f l =
    subst (λ (x : Bool). Comes d ns (with_new x n (round_in d (tally_of s) ns)) (Some halt.Full) s) (sym l)
    (record { all = ns; grew = extends_none ns; holds = h; halt = tt; count = refl; tally = refl })

-- it is new
pub reached_new : (d : Depth) (u : Search) (ns : List Node) (n : Node) (tries : Tally) (b : Bool) → d.from ≤ length ns → Holds d u (ns ++ n ∷ []) → b ≡ false → nat_lt (length ns) d.most ≡ true → tries ≡ (tally_of u)
    → Comes d ns (with_reached b d.most n (round_in d tries ns)) None u
reached_new d u ns n tries true w h e l t = absurd (cc e)
reached_new d u ns n tries false w h e l t =
    subst (λ (x : Bool). Comes d ns (with_new x n (round_in d tries ns)) None u) (sym l)
    (record { all = ns ++ n ∷ []; grew = (n ∷ [], refl); holds = h; round = round_more d tries ns n w ∙ ap (λ k. round_in d k (ns ++ n ∷ [])) t })

-- keeps a state that was reached: it is known
pub keeps_known : (d : Depth) (s : Search) (ns : List Node) (n : Node) (t : Try) (r : Step) (x : CardState) (c : model.CardState) → list_any (is_equal x) s.states.keys ≡ true
    → IsFrom d s ns n r.before → IsTry d.rules.moves r t → Kept s.laboratory s.rosters (names_in d.rules) x c
    → Comes d ns (with_reached (is_known c (known_in ns)) d.most (record { state = c; path = t ∷ n.path }) (round_in d (tally_of s) ns)) None s
keeps_known d s ns n t r x c among h is k =
    reached_known d s ns (record { state = c; path = t ∷ n.path }) (is_known c (known_in ns)) h.holds (sym (known_same d.rules s x c s.states.keys ns h.holds.kept k) ∙ among)

-- there are too many
pub keeps_full : (d : Depth) (s : Search) (ns : List Node) (n : Node) (t : Try) (r : Step) (x : CardState) (c : model.CardState) → list_any (is_equal x) s.states.keys ≡ false
    → s.limit ≤ length s.states.keys → IsFrom d s ns n r.before → IsTry d.rules.moves r t → Kept s.laboratory s.rosters (names_in d.rules) x c
    → Comes d ns (with_reached (is_known c (known_in ns)) d.most (record { state = c; path = t ∷ n.path }) (round_in d (tally_of s) ns)) (Some halt.Full) s
keeps_full d s ns n t r x c among full h is k =
    let room = h.holds.room in
    let count = alike_length (KeepsNode d.rules s) s.states.keys ns h.holds.kept in
    let no : nat_lt (length ns) d.most ≡ false = not_below (length ns) d.most (omega (arith, full, room, count)) in
    reached_full d s ns (record { state = c; path = t ∷ n.path }) (is_known c (known_in ns)) false h.holds (sym (known_same d.rules s x c s.states.keys ns h.holds.kept k) ∙ among) refl no

-- it is kept
pub keeps_new : (d : Depth) (s u : Search) (ns : List Node) (n : Node) (t : Try) (r : Step) (x : CardState) (c : model.CardState) → list_any (is_equal x) s.states.keys ≡ false
    → length s.states.keys < s.limit → u.laboratory ≡ s.laboratory → u.rosters ≡ s.rosters → u.limit ≡ s.limit → (tally_of s) ≡ (tally_of u) → u.states.keys ≡ s.states.keys ++ x ∷ []
    → u.last_steps.items ≡ s.last_steps.items ++ r ∷ [] → IsFrom d s ns n r.before → IsTry d.rules.moves r t → Kept s.laboratory s.rosters (names_in d.rules) x c
    → Comes d ns (with_reached (is_known c (known_in ns)) d.most (record { state = c; path = t ∷ n.path }) (round_in d (tally_of s) ns)) None u
keeps_new d s u ns n t r x c among below lab ros limit tries keys items h is k =
    let room = h.holds.room in
    let count = alike_length (KeepsNode d.rules s) s.states.keys ns h.holds.kept in
    let yes : nat_lt (length ns) d.most ≡ true = is_below (length ns) d.most (omega (arith, below, room, count)) in
    reached_new d u ns (record { state = c; path = t ∷ n.path }) (tally_of s) (is_known c (known_in ns)) h.holds.within
    (holds_more d s u ns n r t x c h is k lab ros limit keys items) (sym (known_same d.rules s x c s.states.keys ns h.holds.kept k) ∙ among) yes tries

-- ---- a try

tries_one : (d : Depth) (n : Node) (t : Try) (r : Round)
    → tries_from d n (t ∷ []) r ≡ (after_outcome (outcome d.rules.ons n.state t) d.most (t ∷ n.path) (with_try d.rules.ons n.state t r) >>= λ q. Ok q)
unfolding round_of_tries
tries_one d n t r = refl

bind_ok : (x : Result Round HaltedRound) → (x >>= λ q. Ok q) ≡ x
bind_ok (Ok q) = refl
bind_ok (Err e) = refl

-- one try
pub one_try : (d : Depth) (n : Node) (t : Try) (r : Round) (o : Result model.CardState (List ℕ)) → outcome d.rules.ons n.state t ≡ o
    → tries_from d n (t ∷ []) r ≡ after_outcome o d.most (t ∷ n.path) (with_try d.rules.ons n.state t r)
one_try d n t r o e =
    tries_one d n t r ∙ bind_ok (after_outcome (outcome d.rules.ons n.state t) d.most (t ∷ n.path) (with_try d.rules.ons n.state t r)) ∙ ap (λ x. after_outcome x d.most (t ∷ n.path) (with_try d.rules.ons n.state t r)) e

-- the outcome of a try of a move that was kept
abbrev IsOutcome : Depth → Node → rule.Move → Manner → Result model.CardState (List ℕ) → Type 0
IsOutcome d n m w o = outcome d.rules.ons n.state (try_value m w) ≡ o

-- a cut that hit no write
pub missed : (d : Depth) (s u : Search) (ns : List Node) (n : Node) (m : rule.Move) (c : Candidate) (r : Step) (t : Tried) → KeepsKept s.laboratory s.rosters u.laboratory u.rosters
    → u.limit ≡ s.limit → u.states.keys ≡ s.states.keys → u.last_steps.items ≡ s.last_steps.items → (tally_of s) ≡ (tally_of u) → TriesMove d s ns n m c r.before r.chosen
    → TryIs u.laboratory u.rosters (names_in d.rules) d.rules.ons n.state m r.manner t → t ≡ tried.NotHit
    → IsMissed n.state m r.manner × GoesOn d ns (round_in d (tally_of s) ns) u
missed d s u ns n m c r tried.NotHit keeps limit keys items tries h x e =
    (x, record { all = ns; grew = extends_none ns; holds = holds_still d s u ns keeps limit keys items h.at.holds; round = ap (λ k. round_in d k ns) tries })
missed d s u ns n m c r (tried.Reached y) keeps limit keys items tries h x e = absurd (cc e)
missed d s u ns n m c r (tried.Broken i) keeps limit keys items tries h x e = absurd (cc e)

broken_same : (j i : ℕ) → tried.Broken j ≡ tried.Broken i → j ≡ i
broken_same j i e = cc e

reached_same : (z y : CardState) → tried.Reached z ≡ tried.Reached y → z ≡ y
reached_same z y e = cc e

-- a rule that is broken
pub broken : (d : Depth) (s u : Search) (ns : List Node) (n : Node) (m : rule.Move) (c : Candidate) (r : Step) (i : ℕ) (t : Tried) → KeepsKept s.laboratory s.rosters u.laboratory u.rosters
    → u.limit ≡ s.limit → u.states.keys ≡ s.states.keys → u.last_steps.items ≡ s.last_steps.items → tally_of u ≡ tally_with d.rules.ons n.state (try_value m r.manner) (tally_of s) → TriesMove d s ns n m c r.before r.chosen
    → TryIs u.laboratory u.rosters (names_in d.rules) d.rules.ons n.state m r.manner t → t ≡ tried.Broken i
    → IsMade n.state m r.manner × Comes d ns (tries_from d n (try_value m r.manner ∷ []) (round_in d (tally_of s) ns)) (Some (halt.Broken i r)) u
broken d s u ns n m c r i tried.NotHit keeps limit keys items tries h x e = absurd (cc e)
broken d s u ns n m c r i (tried.Reached y) keeps limit keys items tries h x e = absurd (cc e)
broken d s u ns n m c r i (tried.Broken j) keeps limit keys items tries h x e =
    let same : j ≡ i = broken_same j i e in
    let name = x.1.0 in
    let ends : Ends d ns (record { halt = RuleBroken name (try_value m r.manner ∷ n.path); count = length ns; tally = tally_with d.rules.ons n.state (try_value m r.manner) (tally_of s) }) (halt.Broken i r) u = record {
      all = ns;
      grew = extends_none ns;
      holds = holds_still d s u ns keeps limit keys items h.at.holds;
      halt = record {
        named = subst (λ (k : ℕ). slice_get (names_in d.rules) k ≡ Some name) same x.1.1;
        before = n;
        found = h.at.found;
        last = try_value m r.manner;
        is = record { move = h.place; manner = refl };
        tries = refl;
      };
      count = refl;
      tally = sym tries;
    }
    in
    (x.0, subst (λ (y : Result Round HaltedRound). Comes d ns y (Some (halt.Broken i r)) u) (sym (one_try d n (try_value m r.manner) (round_in d (tally_of s) ns) (Err name) x.1.2)) ends)

-- a state that is reached, by what keeping it came to
pub reached : (d : Depth) (s u v : Search) (ns : List Node) (n : Node) (m : rule.Move) (c : Candidate) (r : Step) (y : CardState) (t : Tried) (o : Option Halt)
    → KeepsKept s.laboratory s.rosters u.laboratory u.rosters → u.limit ≡ s.limit → u.states.keys ≡ s.states.keys → u.last_steps.items ≡ s.last_steps.items → tally_of u ≡ tally_with d.rules.ons n.state (try_value m r.manner) (tally_of s)
    → TriesMove d s ns n m c r.before r.chosen → TryIs u.laboratory u.rosters (names_in d.rules) d.rules.ons n.state m r.manner t → t ≡ tried.Reached y
    → ((k : Try) (e : model.CardState) → IsFrom d u ns n r.before → IsTry d.rules.moves r k → Kept u.laboratory u.rosters (names_in d.rules) y e
    → Comes d ns (with_reached (is_known e (known_in ns)) d.most (record { state = e; path = k ∷ n.path }) (round_in d (tally_of u) ns)) o v)
    → (p : Option Halt) → o ≡ p → IsMade n.state m r.manner × Comes d ns (tries_from d n (try_value m r.manner ∷ []) (round_in d (tally_of s) ns)) p v
reached d s u v ns n m c r y tried.NotHit o keeps limit keys items tries h x e f p i = absurd (cc e)
reached d s u v ns n m c r y (tried.Broken j) o keeps limit keys items tries h x e f p i = absurd (cc e)
reached d s u v ns n m c r y (tried.Reached z) o keeps limit keys items tries h x e f p i =
    let same : z ≡ y = reached_same z y e in
    let t : Try = try_value m r.manner in
    let a : model.CardState = x.1.0 in
    let from : IsFrom d u ns n r.before = record { holds = holds_still d s u ns keeps limit keys items h.at.holds; found = h.at.found } in
    let comes = f t a from (record { move = h.place; manner = refl }) (subst (λ (w : CardState). Kept u.laboratory u.rosters (names_in d.rules) w a) same x.1.2) in
    let comes_at = subst (λ (k : Tally). Comes d ns (with_reached (is_known a (known_in ns)) d.most (record { state = a; path = t ∷ n.path }) (round_in d k ns)) o v) tries comes in
    (x.0, subst (λ (w : Result Round HaltedRound). Comes d ns w p v) (sym (one_try d n t (round_in d (tally_of s) ns) (Ok a) x.1.1)) (subst (λ (w : Option Halt). Comes d ns (after_outcome (Ok a) d.most (t ∷ n.path) (with_try d.rules.ons n.state t (round_in d (tally_of s) ns))) w v) i comes_at))
