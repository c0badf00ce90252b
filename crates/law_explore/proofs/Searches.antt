-- A search that goes on has every try of the states before it kept, with its state among those that were found.
use Rattle.std.specs.Prelude.{◌≡◌, ◌⊎◌, ℕ, zero, suc, ◌+◌, ◌<◌, ◌≤◌, Bool, true, false, nat_lt, List, [], ◌∷◌, ◌++◌, length, Result, Ok, Err, ⊤, refl}
use Rattle.std.specs.List.{AllByRecursion}
use Rattle.std.proofs.Common.{arith, sym, subst, inl, inr, ◌∙◌}
use Rattle.model_play.specs.model_device.proofs.ImageLemmas.{all_map}
use Rattle.model_play.specs.model_text.specs.Text.{◌>>=◌}
use Rattle.law_explore.specs.Rules.{OnRule, Rules}
use Rattle.law_explore.specs.States.{CardState, is_known}
use Rattle.law_explore.specs.Tries.{Try, tries_of, outcome}
use Rattle.law_explore.specs.Search.{Node, Round, Halt, RuleBroken, Full, HaltedRound, with_try, with_new, with_reached, after_outcome, round_of_tries, round_of_states, Ending, All, AtDepth, Broken, TooMany, Search, search_end, ending_of, with_depth, after_depth, after_round, search_on, search_from, Tally, no_tries}
use Rattle.law_explore.specs.Safety.{Among}
use Rattle.law_explore.proofs.Showings.{bind_same}
use Rattle.law_explore.proofs.SameStates.{known_among}

-- ---- answers that go on

-- what holds of a value that was not refused
abbrev pub IfGoesOn : {A E : Type 0} → (A → Type 0) → Result A E → Type 0
IfGoesOn P (Ok a) = P a
IfGoesOn P (Err e) = ⊤

-- what holds of a value that is not refused goes through a next step
pub goes_on : {A B E : Type 0} (P : A → Type 0) (Q : B → Type 0) (x : Result A E) (f : A → Result B E) → IfGoesOn P x → ((a : A) → P a → IfGoesOn Q (f a)) → IfGoesOn Q (x >>= f)
goes_on P Q (Ok a) f h g = g a h
goes_on P Q (Err e) f h g = tt

-- what is implied holds of a value that is not refused
pub weaker : {A E : Type 0} (P Q : A → Type 0) (x : Result A E) → ((a : A) → P a → Q a) → IfGoesOn P x → IfGoesOn Q x
weaker P Q (Ok a) f h = f a h
weaker P Q (Err e) f h = tt

-- what holds of all elements holds of one among them
pub among_all : {A : Type 0} (P : A → Type 0) (a : A) (xs : List A) → AllByRecursion P xs → Among a xs → P a
among_all P a [] h i = absurd i
among_all P a (x ∷ xs) h (inl e) = subst P (sym e) h.0
among_all P a (x ∷ xs) h (inr i) = among_all P a xs h.1 i

bind_bind : {A B C E : Type 0} (x : Result A E) (f : A → Result B E) (g : B → Result C E) → (x >>= f >>= g) ≡ (x >>= λ a. f a >>= g)
bind_bind (Ok a) f g = refl
bind_bind (Err e) f g = refl

-- tries in two parts
pub tried_append : (limit : ℕ) (ons : List OnRule) (n : Node) (ts us : List Try) (r : Round)
    → round_of_tries limit ons n (ts ++ us) r ≡ (round_of_tries limit ons n ts r >>= λ q. round_of_tries limit ons n us q)
unfolding round_of_tries
tried_append limit ons n [] us r = refl
tried_append limit ons n (t ∷ ts) us r =
    let first = after_outcome (outcome ons n.state t) limit (t ∷ n.path) (with_try ons n.state t r) in
    bind_same first (λ q. round_of_tries limit ons n (ts ++ us) q) (λ q. round_of_tries limit ons n ts q >>= λ p. round_of_tries limit ons n us p) (λ q. tried_append limit ons n ts us q)
    ∙ sym (bind_bind first (λ q. round_of_tries limit ons n ts q) (λ p. round_of_tries limit ons n us p))

-- states in two parts
pub expanded_append : (limit : ℕ) (rules : Rules) (ns ms : List Node) (r : Round)
    → round_of_states limit rules (ns ++ ms) r ≡ (round_of_states limit rules ns r >>= λ q. round_of_states limit rules ms q)
unfolding round_of_states
expanded_append limit rules [] ms r = refl
expanded_append limit rules (n ∷ ns) ms r =
    let first = round_of_tries limit rules.ons n (tries_of rules.moves n.state) r in
    bind_same first (λ q. round_of_states limit rules (ns ++ ms) q) (λ q. round_of_states limit rules ns q >>= λ p. round_of_states limit rules ms p) (λ q. expanded_append limit rules ns ms q)
    ∙ sym (bind_bind first (λ q. round_of_states limit rules ns q) (λ p. round_of_states limit rules ms p))

-- ---- what a depth adds

-- a state among those of some nodes
abbrev InNodes : CardState → List Node → Type 0
InNodes c [] = ⊥
InNodes c (n ∷ ns) = (c ≡ n.state) ⊎ InNodes c ns

nodes_front : (c : CardState) (ns ms : List Node) → InNodes c ns → InNodes c (ns ++ ms)
nodes_front c [] ms i = absurd i
nodes_front c (n ∷ ns) ms (inl e) = inl e
nodes_front c (n ∷ ns) ms (inr i) = inr (nodes_front c ns ms i)

nodes_last : (c : CardState) (ns : List Node) (n : Node) → c ≡ n.state → InNodes c (ns ++ n ∷ [])
nodes_last c [] n e = inl e
nodes_last c (m ∷ ns) n e = inr (nodes_last c ns n e)

nodes_all : (P : CardState → Type 0) (c : CardState) (ns : List Node) → AllByRecursion (λ n. P n.state) ns → InNodes c ns → P c
nodes_all P c [] h i = absurd i
nodes_all P c (n ∷ ns) h (inl e) = subst P (sym e) h.0
nodes_all P c (n ∷ ns) h (inr i) = nodes_all P c ns h.1 i

-- no state is lost, and each new one is among the new nodes
record Advances (r q : Round) : Type 0 where
  known : (c : CardState) → Among c r.known → Among c q.known
  fresh : (c : CardState) → InNodes c r.fresh → InNodes c q.fresh
  new : (c : CardState) → Among c q.known → Among c r.known ⊎ InNodes c q.fresh

stays : (ons : List OnRule) (c : CardState) (t : Try) (r : Round) → Advances r (with_try ons c t r)
stays ons c t r = record { known = λ c i. i; fresh = λ c i. i; new = λ c i. inl i }

still : (r : Round) → Advances r r
still r = record { known = λ c i. i; fresh = λ c i. i; new = λ c i. inl i }

new_then : (c : CardState) (p q r : Round) → Advances p q → Advances q r → (Among c q.known ⊎ InNodes c r.fresh) → Among c p.known ⊎ InNodes c r.fresh
new_then c p q r f g (inr i) = inr i
new_then c p q r f g (inl i) = elim (f.new c i) [ inl j ↦ inl j | inr j ↦ inr (g.fresh c j) ]

then : (p q r : Round) → Advances p q → Advances q r → Advances p r
then p q r f g =
    record {
      known = λ c i. g.known c (f.known c i);
      fresh = λ c i. g.fresh c (f.fresh c i);
      new = λ c i. new_then c p q r f g (g.new c i);
    }

-- ---- tries that are kept

-- a try spends nothing below zero, and leads to one of some states
abbrev LeadsInto : List OnRule → List CardState → CardState → Try → Type 0
LeadsInto ons known c t = (d : CardState) × (outcome ons c t ≡ Ok d) × Among d known

-- more states were found
abbrev Grows : List CardState → List CardState → Type 0
Grows known more = (c : CardState) → Among c known → Among c more

leads_on : (ons : List OnRule) (c : CardState) (t : Try) (known more : List CardState) → Grows known more → LeadsInto ons known c t → LeadsInto ons more c t
leads_on ons c t known more f h = (h.0, h.1, f h.0 h.2)

module _ (limit : ℕ) (ons : List OnRule) (n : Node) where
  abbrev Tried : Round → Try → Round → Type 0
  Tried r t q = Advances r q × LeadsInto ons q.known n.state t

  room : (t : Try) (r : Round) (c : CardState) (path : List Try) (b : Bool) → outcome ons n.state t ≡ Ok c
      → IfGoesOn (Tried r t) (with_new b (record { state = c; path = path }) (with_try ons n.state t r))
  room t r c path true e = (
    record {
      known = λ d i. inr i;
      fresh = λ d i. nodes_front d r.fresh (record { state = c; path = path } ∷ []) i;
      new = λ d i. elim i [ inl same ↦ inr (nodes_last d r.fresh (record { state = c; path = path }) same) | inr old ↦ inl old ];
    },
    (c, e, inl refl),
  )
  room t r c path false e = tt

  reached : (t : Try) (r : Round) (c : CardState) (path : List Try) (b : Bool) → outcome ons n.state t ≡ Ok c → is_known c r.known ≡ b
      → IfGoesOn (Tried r t) (with_reached b limit (record { state = c; path = path }) (with_try ons n.state t r))
  reached t r c path true e k = (stays ons n.state t r, (c, e, known_among c r.known k))
  reached t r c path false e k = room t r c path (nat_lt r.count limit) e

  outcome_kept : (t : Try) (r : Round) (o : Result CardState (List ℕ)) → outcome ons n.state t ≡ o → IfGoesOn (Tried r t) (after_outcome o limit (t ∷ n.path) (with_try ons n.state t r))
  outcome_kept t r (Err name) e = tt
  outcome_kept t r (Ok c) e = reached t r c (t ∷ n.path) (is_known c r.known) e refl

  all_tried : (ts : List Try) (r : Round) → IfGoesOn (λ q. Advances r q × AllByRecursion (LeadsInto ons q.known n.state) ts) (round_of_tries limit ons n ts r)
  unfolding round_of_tries
  all_tried [] r = (still r, tt)
  all_tried (t ∷ ts) r =
      goes_on (Tried r t) (λ q. Advances r q × AllByRecursion (LeadsInto ons q.known n.state) (t ∷ ts)) (after_outcome (outcome ons n.state t) limit (t ∷ n.path) (with_try ons n.state t r))
      (λ q. round_of_tries limit ons n ts q) (outcome_kept t r (outcome ons n.state t) refl)
      (λ p h. weaker (λ q. Advances p q × AllByRecursion (LeadsInto ons q.known n.state) ts) (λ q. Advances r q × AllByRecursion (LeadsInto ons q.known n.state) (t ∷ ts)) (round_of_tries limit ons n ts p)
      (λ q g. (then r p q h.0 g.0, (leads_on ons n.state t p.known q.known (g.0).known h.1, g.1))) (all_tried ts p))

module _ (limit : ℕ) (rules : Rules) where
  -- every try of a state is kept and leads to one of some states
  abbrev pub Closes : List CardState → CardState → Type 0
  Closes known c = AllByRecursion (LeadsInto rules.ons known c) (tries_of rules.moves c)

  closes_on : (known more : List CardState) → Grows known more → (c : CardState) → Closes known c → Closes more c
  closes_on known more f c h = all_map (LeadsInto rules.ons known c) (LeadsInto rules.ons more c) (λ t g. leads_on rules.ons c t known more f g) (tries_of rules.moves c) h

  abbrev Expands : List Node → Round → Round → Type 0
  Expands ns r q = Advances r q × AllByRecursion (λ n. Closes q.known n.state) ns

  all_expanded : (ns : List Node) (r : Round) → IfGoesOn (Expands ns r) (round_of_states limit rules ns r)
  unfolding round_of_states
  all_expanded [] r = (still r, tt)
  all_expanded (n ∷ ns) r =
      goes_on (λ q. Advances r q × Closes q.known n.state) (Expands (n ∷ ns) r) (round_of_tries limit rules.ons n (tries_of rules.moves n.state) r)
      (λ q. round_of_states limit rules ns q) (all_tried limit rules.ons n (tries_of rules.moves n.state) r)
      (λ p h. weaker (Expands ns p) (Expands (n ∷ ns) r) (round_of_states limit rules ns p) (λ q g. (then r p q h.0 g.0, (closes_on p.known q.known (g.0).known n.state h.1, g.1))) (all_expanded ns p))

  -- ---- safety

  -- no list of at most k tries from a state breaks a rule
  abbrev pub Safe : ℕ → CardState → Type 0
  Safe zero c = ⊤
  Safe (suc k) c = AllByRecursion (λ t. (d : CardState) × (outcome rules.ons c t ≡ Ok d) × Safe k d) (tries_of rules.moves c)

  safe_from : (k : ℕ) (known : List CardState) (c : CardState) → ((d : CardState) → Among d known → Safe k d) → Closes known c → Safe (suc k) c
  safe_from k known c f h =
      all_map (LeadsInto rules.ons known c) (λ t. (d : CardState) × (outcome rules.ons c t ≡ Ok d) × Safe k d) (λ t g. (g.0, g.1, f g.0 g.2)) (tries_of rules.moves c) h

  -- if all states close, each is safe for ever
  closed_safe : (known : List CardState) → ((d : CardState) → Among d known → Closes known d) → (k : ℕ) (c : CardState) → Among c known → Safe k c
  closed_safe known all zero c i = tt
  closed_safe known all (suc k) c i = safe_from k known c (closed_safe known all k) (all c i)

  -- each state that was found is one of these nodes, or closes
  abbrev Pending : List Node → List CardState → Type 0
  Pending ns known = (c : CardState) → Among c known → InNodes c ns ⊎ Closes known c

  -- a number of tries in a row that a search from some depth on promises: none of a depth that was not done
  pub record IsPromise (P : Search → ℕ → ℕ → Type 0) : Type 0 where
    pub halt : (h : Halt) (s : ℕ) (t : Tally) (d k : ℕ) → P (search_end (ending_of h (d + 1)) s t) d (suc k) → ⊥
    pub last : (s : ℕ) (t : Tally) (d k : ℕ) → P (search_end (AtDepth d) s t) d (suc k) → ⊥
    pub later : (n : ℕ) (e : Search) (d k : ℕ) → P (with_depth n e) d (suc k) → P e (d + 1) k

  -- a state that was found closes among those that are found after its depth
  found_closes : (ns : List Node) (r q : Round) → Pending ns r.known → Expands ns (record r { fresh = [] }) q → (c : CardState) → Among c r.known → Closes q.known c
  found_closes ns r q pending ex c i = elim (pending c i) [
    | inl node ↦ nodes_all (Closes q.known) c ns ex.1 node
    | inr closes ↦ closes_on r.known q.known (ex.0).known c closes
  ]

  -- and what is found is a new node, or closes
  pending_after : (ns : List Node) (r q : Round) → Pending ns r.known → Expands ns (record r { fresh = [] }) q → Pending q.fresh q.known
  pending_after ns r q pending ex c i = elim ((ex.0).new c i) [
    | inl old ↦ inr (found_closes ns r q pending ex c old)
    | inr node ↦ inl node
  ]

  none_pending : (known : List CardState) → Pending [] known → (c : CardState) → Among c known → Closes known c
  none_pending known h c i = elim (h c i) [ inl none ↦ absurd none | inr closes ↦ closes ]

  module _ (P : Search → ℕ → ℕ → Type 0) (is : IsPromise P) where
    -- what a search promises of every state that was found before it
    abbrev SafeAfter : Search → ℕ → Round → Type 0
    SafeAfter e d r = (k : ℕ) → P e d k → (c : CardState) → Among c r.known → Safe k c

    -- after a depth that is done
    depth_safe : (d : ℕ) (ns : List Node) (q : Round) (again : List Node → Round → Search) → Pending ns q.known → SafeAfter (again ns q) (d + 1) q
        → (k : ℕ) → P (after_depth ns q again) d (suc k) → (c : CardState) → Among c q.known → Safe k c
    depth_safe d [] q again pending later k h c i = closed_safe q.known (none_pending q.known pending) k c i
    depth_safe d (n ∷ ns) q again pending later k h c i = later k (is.later (length (n ∷ ns)) (again (n ∷ ns) q) d k h) c i

    round_safe : (d : ℕ) (ns : List Node) (r : Round) (x : Result Round HaltedRound) (again : List Node → Round → Search) → Pending ns r.known → IfGoesOn (Expands ns (record r { fresh = [] })) x
        → ((ms : List Node) (q : Round) → Pending ms q.known → SafeAfter (again ms q) (d + 1) q) → (k : ℕ) → P (after_round x (d + 1) again) d (suc k)
        → (c : CardState) → Among c r.known → Safe (suc k) c
    round_safe d ns r (Err h) again pending ex later k promise c i = absurd (is.halt h.halt h.count h.tally d k promise)
    round_safe d ns r (Ok q) again pending ex later k promise c i =
        let after = pending_after ns r q pending ex in
        safe_from k q.known c (depth_safe d q.fresh q again after (later q.fresh q after) k promise) (found_closes ns r q pending ex c i)

    explored_safe : (n d : ℕ) (ns : List Node) (r : Round) → Pending ns r.known → SafeAfter (search_on n d limit rules ns r) d r
    unfolding search_on
    explored_safe n d ns r pending zero h c i = tt
    explored_safe zero d ns r pending (suc k) h c i = absurd (is.last r.count r.tally d k h)
    explored_safe (suc n) d ns r pending (suc k) h c i =
        round_safe d ns r (round_of_states limit rules ns (record r { fresh = [] })) (λ ms q. search_on n (d + 1) limit rules ms q) pending (all_expanded ns (record r { fresh = [] }))
        (λ ms q p. explored_safe n (d + 1) ms q p) k h c i

    -- a search promises as many tries in a row from its first state
    pub search_safe : (n : ℕ) (c : CardState) (k : ℕ) → P (search_from n limit rules c) 0 k → Safe k c
    unfolding search_from
    search_safe n c k h =
        explored_safe n 0 (record { state = c; path = [] } ∷ []) (record { known = c ∷ []; fresh = []; count = 1; tally = no_tries rules.ons })
        (λ d i. elim i [ inl same ↦ inl (inl same) | inr none ↦ absurd none ]) k h c (inl refl)

  -- ---- what is promised

  -- by how a search ends
  abbrev pub Promises : Ending → ℕ → ℕ → Type 0
  Promises All d k = ⊤
  Promises (AtDepth e) d k = k + d ≤ e
  Promises (TooMany e) d k = k + d < e
  Promises (Broken name path) d k = ⊥

  promise_later : (e : Ending) (d k : ℕ) → Promises e d (suc k) → Promises e (d + 1) k
  promise_later e d k h = grind arith

  no_halt : (h : Halt) (d k : ℕ) → Promises (ending_of h (d + 1)) d (suc k) → ⊥
  no_halt (RuleBroken name path) d k h = h
  no_halt Full d k h = omega arith

  -- the number of tries that an ending allows is a promise
  pub promise_by_ending : IsPromise (λ e d k. Promises e.ending d k)
  promise_by_ending =
      record {
        halt = λ h s t d k p. no_halt h d k p;
        last = λ s t d k p. let late : suc k + d ≤ d = p in omega (arith, late);
        later = λ n e d k p. promise_later e.ending d k p;
      }

  -- by the depths that are done
  pub promise_by_depths : IsPromise (λ e d k. k ≤ length e.news)
  promise_by_depths = record { halt = λ h s t d k p. omega arith; last = λ s t d k p. omega arith; later = λ n e d k p. omega arith }
