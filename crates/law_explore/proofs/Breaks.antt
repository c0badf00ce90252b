-- If a search ends with a broken rule, its tries break that rule when they are played, and there is no shorter way.
use Rattle.std.specs.Prelude.{◌≡◌, ℕ, zero, suc, ◌+◌, ◌≤◌, Bool, true, false, nat_lt, List, [], ◌∷◌, ◌++◌, length, reverse, map, flat_map, Result, Ok, Err, ⊤, refl}
use Rattle.std.specs.List.{AllByRecursion}
use Rattle.std.proofs.Common.{arith, ap, sym, subst, inl, inr, ◌∙◌}
use Rattle.std.proofs.lemmas.List.{append-nil, append_assoc, reverse-append}
use Rattle.model_play.specs.model_device.proofs.ImageLemmas.{all_append, all_map}
use Rattle.model_play.specs.model_text.specs.Text.{◌>>=◌, ok_as}
use Rattle.model_play.specs.Play.{Live, Running, Unpowered, Muted, State, AfterPower, is_card_line}
use Rattle.model_play.specs.Family.{is_running}
use Rattle.law_explore.specs.Rules.{Move, Rules}
use Rattle.law_explore.specs.States.{CardState, play_of, is_known, first_play}
use Rattle.law_explore.specs.Tries.{Manner, Try, cuts_from, manners, writes_of, tries_with, tries_of, step_of, allowances_after, outcome}
use Rattle.law_explore.specs.Search.{Node, Round, Halt, RuleBroken, Full, HaltedRound, with_try, with_new, with_reached, after_outcome, round_of_tries, round_of_states, Broken, Search, search_end, ending_of, after_depth, after_round, search_on, search_from, first_state, Tally, no_tries}
use Rattle.law_explore.specs.Safety.{Among, CanMake, CanTry, Breaks, BrokenLaw}
use Rattle.law_explore.proofs.Showings.{allowances_same}
use Rattle.law_explore.proofs.Actions.{Agrees, move_writes}
use Rattle.law_explore.proofs.Decisions.{done_same}
use Rattle.law_explore.proofs.Starts.{first_agrees}
use Rattle.law_explore.proofs.Searches.{among_all, promise_by_depths, search_safe}
use Rattle.law_explore.proofs.ReadRules.{AreMoves, moves_of_exploration}
use Rattle.law_explore.proofs.Safety.{outcome_from, left_by, safe_keeps, ending_first}

-- ---- answers of both kinds

-- what holds of an answer, and what of a refusal
abbrev pub EitherWay : {A E : Type 0} → (A → Type 0) → (E → Type 0) → Result A E → Type 0
EitherWay P Q (Ok a) = P a
EitherWay P Q (Err e) = Q e

-- what holds of an answer or a refusal goes through a next step
pub either_way : {A B E : Type 0} (P : A → Type 0) (R : B → Type 0) (Q : E → Type 0) (x : Result A E) (f : A → Result B E) → EitherWay P Q x → ((a : A) → P a → EitherWay R Q (f a)) → EitherWay R Q (x >>= f)
either_way P R Q (Ok a) f h g = g a h
either_way P R Q (Err e) f h g = h

-- ---- paths

module _ (limit : ℕ) (rules : Rules) (first : CardState) where
  -- tries, the last first, that lead from the first state to a state
  abbrev Reaches : List Try → CardState → Type 0
  Reaches [] c = c ≡ first
  Reaches (t ∷ ts) c = (d : CardState) × Reaches ts d × Among t (tries_of rules.moves d) × (outcome rules.ons d t ≡ Ok c)

  -- tries, the last first, of which the last breaks a rule
  abbrev EndsIn : List Try → List ℕ → Type 0
  EndsIn [] name = ⊥
  EndsIn (t ∷ ts) name = (d : CardState) × Reaches ts d × Among t (tries_of rules.moves d) × (outcome rules.ons d t ≡ Err name)

  -- a node of a depth
  abbrev IsNode : ℕ → Node → Type 0
  IsNode d n = Reaches n.path n.state × (length n.path ≡ d)

  abbrev AreNodes : ℕ → List Node → Type 0
  AreNodes d ns = AllByRecursion (IsNode d) ns

  -- a round finds nodes of the next depth, or its tries end in a broken rule
  abbrev Finds : ℕ → Round → Type 0
  Finds d r = AreNodes (d + 1) r.fresh

  abbrev HaltsAt : ℕ → Halt → Type 0
  HaltsAt d (RuleBroken name path) = EndsIn path name × (length path ≡ d + 1)
  HaltsAt d Full = ⊤

  abbrev Halts : ℕ → HaltedRound → Type 0
  Halts d h = HaltsAt d h.halt

  module _ (d : ℕ) (n : Node) (is : IsNode d n) where
    room_finds : (t : Try) (r : Round) (c : CardState) (b : Bool) → Among t (tries_of rules.moves n.state) → outcome rules.ons n.state t ≡ Ok c → Finds d r
        → EitherWay (Finds d) (Halts d) (with_new b (record { state = c; path = t ∷ n.path }) r)
    room_finds t r c true among e h = all_append (IsNode (d + 1)) r.fresh (record { state = c; path = t ∷ n.path } ∷ []) h (((n.state, is.0, among, e), (let k : length n.path ≡ d = is.1 in omega (arith, k))), tt)
    room_finds t r c false among e h = tt

    reached_finds : (t : Try) (r : Round) (c : CardState) (b : Bool) → Among t (tries_of rules.moves n.state) → outcome rules.ons n.state t ≡ Ok c → Finds d r
        → EitherWay (Finds d) (Halts d) (with_reached b limit (record { state = c; path = t ∷ n.path }) r)
    reached_finds t r c true among e h = h
    reached_finds t r c false among e h = room_finds t r c (nat_lt r.count limit) among e h

    outcome_finds : (t : Try) (r : Round) (o : Result CardState (List ℕ)) → Among t (tries_of rules.moves n.state) → outcome rules.ons n.state t ≡ o → Finds d r
        → EitherWay (Finds d) (Halts d) (after_outcome o limit (t ∷ n.path) r)
    outcome_finds t r (Err name) among e h = ((n.state, is.0, among, e), (let k : length n.path ≡ d = is.1 in omega (arith, k)))
    outcome_finds t r (Ok c) among e h = reached_finds t r c (is_known c r.known) among e h

    tries_find : (ts : List Try) (r : Round) → ((t : Try) → Among t ts → Among t (tries_of rules.moves n.state)) → Finds d r → EitherWay (Finds d) (Halts d) (round_of_tries limit rules.ons n ts r)
    unfolding round_of_tries
    tries_find [] r among h = h
    tries_find (t ∷ ts) r among h =
        either_way (Finds d) (Finds d) (Halts d) (after_outcome (outcome rules.ons n.state t) limit (t ∷ n.path) (with_try rules.ons n.state t r)) (λ q. round_of_tries limit rules.ons n ts q)
        (outcome_finds t (with_try rules.ons n.state t r) (outcome rules.ons n.state t) (among t (inl refl)) refl h) (λ q g. tries_find ts q (λ u i. among u (inr i)) g)

  nodes_find : (d : ℕ) (ns : List Node) (r : Round) → AreNodes d ns → Finds d r → EitherWay (Finds d) (Halts d) (round_of_states limit rules ns r)
  unfolding round_of_states
  nodes_find d [] r are h = h
  nodes_find d (n ∷ ns) r are h =
      either_way (Finds d) (Finds d) (Halts d) (round_of_tries limit rules.ons n (tries_of rules.moves n.state) r) (λ q. round_of_states limit rules ns q)
      (tries_find d n are.0 (tries_of rules.moves n.state) r (λ t i. i) h) (λ q g. nodes_find d ns q are.1 g)

  -- a search from some depth on that ends with a broken rule
  abbrev EndsBroken : Search → ℕ → Type 0
  EndsBroken e d = (name : List ℕ) (path : List Try) → e.ending ≡ Broken name path → EndsIn path name × (length path ≡ d + length e.news + 1)

  broken_same : (d : ℕ) (m name : List ℕ) (p path : List Try) → EndsIn p m × (length p ≡ d + 1) → Broken m p ≡ Broken name path → EndsIn path name × (length path ≡ d + 0 + 1)
  broken_same d m name p path h e = grind arith

  halt_broken : (d s : ℕ) (t : Tally) (h : Halt) → HaltsAt d h → EndsBroken (search_end (ending_of h (d + 1)) s t) d
  halt_broken d s t (RuleBroken m p) h name path e = broken_same d m name p path h e
  halt_broken d s t Full h name path e = absurd (cc e)

  depth_broken : (d : ℕ) (ns : List Node) (q : Round) (again : List Node → Round → Search) → EndsBroken (again ns q) (d + 1) → EndsBroken (after_depth ns q again) d
  depth_broken d [] q again later name path e = absurd (cc e)
  depth_broken d (n ∷ ns) q again later name path e = grind (arith, later name path e, (later name path e).1)

  round_broken : (d : ℕ) (x : Result Round HaltedRound) (again : List Node → Round → Search) → EitherWay (Finds d) (Halts d) x
      → ((ms : List Node) (q : Round) → AreNodes (d + 1) ms → EndsBroken (again ms q) (d + 1)) → EndsBroken (after_round x (d + 1) again) d
  round_broken d (Err h) again finds later = halt_broken d h.count h.tally h.halt finds
  round_broken d (Ok q) again finds later = depth_broken d q.fresh q again (later q.fresh q finds)

  explored_broken : (n d : ℕ) (ns : List Node) (r : Round) → AreNodes d ns → EndsBroken (search_on n d limit rules ns r) d
  unfolding search_on
  explored_broken zero d ns r are = λ name path e. absurd (cc e)
  explored_broken (suc n) d ns r are =
      round_broken d (round_of_states limit rules ns (record r { fresh = [] })) (λ ms q. search_on n (d + 1) limit rules ms q) (nodes_find d ns (record r { fresh = [] }) are tt)
      (λ ms q more. explored_broken n (d + 1) ms q more)

  search_broken : (n : ℕ) → EndsBroken (search_from n limit rules first) 0
  unfolding search_from
  search_broken n = explored_broken n 0 (record { state = first; path = [] } ∷ []) (record { known = first ∷ []; fresh = []; count = 1; tally = no_tries rules.ons }) ((refl, refl), tt)

-- ---- what is tried can be made

cut_can : (c : CardState) (m : Move) (k n : ℕ) → is_running c.live ≡ true → 1 ≤ k → k + n ≤ writes_of (play_of c) m + 1
    → AllByRecursion (λ w. CanMake (play_of c) m w) (cuts_from k n)
cut_can c m k zero on low high = tt
cut_can c m k (suc n) on low high =
    let within : k ≤ writes_of (play_of c) m = omega (arith, high) in
    ((on, low, within), ((on, low, within), ((on, low, within), cut_can c m (k + 1) n on (omega arith) (omega (arith, high)))))

manners_can : (c : CardState) (m : Move) (v : Live) → c.live ≡ v → AllByRecursion (λ w. CanMake (play_of c) m w) (manners v (writes_of (play_of c) m))
manners_can c m (Running session_state) e = (tt, cut_can c m 1 (writes_of (play_of c) m) (ap (λ (u : Live). is_running u) e) (omega arith) (omega arith))
manners_can c m Unpowered e = (tt, tt)
manners_can c m Muted e = (tt, tt)

-- with one of some moves, in such a manner
abbrev TriesOf : List Move → CardState → Try → Type 0
TriesOf ms c t = CanTry ms (play_of c) t

all_mapped : {A B : Type 0} (f : A → B) (P : B → Type 0) (xs : List A) → AllByRecursion (λ x. P (f x)) xs → AllByRecursion P (map f xs)
all_mapped f P [] h = tt
all_mapped f P (x ∷ xs) h = (h.0, all_mapped f P xs h.1)

move_can_be : (all : List Move) (c : CardState) (m : Move) → Among m all → AllByRecursion (TriesOf all c) (tries_with c m)
move_can_be all c m i = grind (arith, all_mapped, all_map, manners_can)

moves_can_be : (all ms : List Move) (c : CardState) → ((m : Move) → Among m ms → Among m all) → AllByRecursion (TriesOf all c) (flat_map (tries_with c) ms)
moves_can_be all [] c f = tt
moves_can_be all (m ∷ ms) c f = all_append (TriesOf all c) (tries_with c m) (flat_map (tries_with c) ms) (move_can_be all c m (f m (inl refl))) (moves_can_be all ms c (λ n i. f n (inr i)))

tries_can_be : (ms : List Move) (c : CardState) (t : Try) → Among t (tries_of ms c) → TriesOf ms c t
unfolding tries_of
tries_can_be ms c t i = among_all (TriesOf ms c) t (flat_map (tries_with c) ms) (moves_can_be ms ms c (λ m j. j)) i

-- and so in a play that agrees
can_back : (s : State) (c : CardState) (m : Move) (w : Manner) → is_card_line m.line ≡ true → Agrees s c → CanMake (play_of c) m w → CanMake s m w
can_back s c m w is h can = grind (arith, move_writes)

-- ---- played

err_from : {A B E : Type 0} (f : A → B) (x : Result A E) (e : E) → ok_as f x ≡ Err e → x ≡ Err e
err_from f (Ok a) e h = absurd (cc h)
err_from f (Err d) e h = cc h

module _ (limit : ℕ) (rules : Rules) (moves : AreMoves rules.moves) (start : State) (first : CardState) (agrees : Agrees start first) where
  -- what breaks a rule from every play that agrees with a state
  abbrev BreaksFrom : CardState → List Try → Try → List ℕ → Type 0
  BreaksFrom c front t name = (s : State) → Agrees s c → Breaks rules s c.allowances front t name

  line_to_card : (m : Move) → Among m rules.moves → is_card_line m.line ≡ true
  line_to_card m i = among_all (λ n. is_card_line n.line ≡ true) m rules.moves moves i

  one_more : (c d : CardState) (u : Try) (front : List Try) (t : Try) (name : List ℕ) → Among u (tries_of rules.moves c) → outcome rules.ons c u ≡ Ok d → BreaksFrom d front t name
      → BreaksFrom c (u ∷ front) t name
  one_more c d u front t name i out later s a =
      let can = tries_can_be rules.moves c u i in
      let line = line_to_card u.move can.0 in
      let here = can_back s c u.move u.manner line a can.1 in
      let same = done_same s c u.move u.manner line a here in
      let from = outcome_from rules.ons c u.move u.manner d out in
      let b = from.value in
      let next : BreaksFrom (left_by c u.move u.manner b) front t name = subst (λ (z : CardState). BreaksFrom z front t name) (sym from.same) later in
      ((can.0, here), (b, allowances_same rules.ons u.move _ _ c.allowances same.shows ∙ from.is, next _ (same.after b)))

  last_breaks : (c : CardState) (t : Try) (name : List ℕ) → Among t (tries_of rules.moves c) → outcome rules.ons c t ≡ Err name → BreaksFrom c [] t name
  unfolding outcome
  last_breaks c t name i out s a =
      let can = tries_can_be rules.moves c t i in
      let line = line_to_card t.move can.0 in
      let here = can_back s c t.move t.manner line a can.1 in
      let same = done_same s c t.move t.manner line a here in (
        (can.0, here),
        allowances_same rules.ons t.move _ _ c.allowances same.shows
            ∙ err_from (left_by c t.move t.manner) (allowances_after rules.ons t.move (step_of (play_of c) t.move t.manner) c.allowances) name out,
      )

  path_breaks : (ts : List Try) (c : CardState) → Reaches limit rules first ts c → (front : List Try) (t : Try) (name : List ℕ) → BreaksFrom c front t name
      → Breaks rules start first.allowances (reverse ts ++ front) t name
  path_breaks [] c reach front t name later = subst (λ (z : CardState). BreaksFrom z front t name) reach later start agrees
  path_breaks (u ∷ us) c reach front t name later =
      subst (λ (l : List Try). Breaks rules start first.allowances l t name) (sym (ap (λ (l : List Try). l ++ front) (reverse-append (u ∷ []) us) ∙ append_assoc (reverse us) (u ∷ []) front))
      (path_breaks us reach.0 reach.1 (u ∷ front) t name (one_more reach.0 c u front t name reach.2 reach.3 later))

  -- the tries of a path, played
  record Played (path : List Try) (name : List ℕ) : Type 0 where
    last : Try
    before : List Try
    are : path ≡ last ∷ before
    breaks : Breaks rules start first.allowances (reverse before) last name

  ends_played : (path : List Try) (name : List ℕ) → EndsIn limit rules first path name → Played path name
  ends_played [] name h = absurd h
  ends_played (t ∷ ts) name h =
      record {
        last = t;
        before = ts;
        are = refl;
        breaks =
            subst (λ (l : List Try). Breaks rules start first.allowances l t name) (append-nil (reverse ts))
            (path_breaks ts h.0 h.1 [] t name (last_breaks h.0 t name h.2 h.3));
      }

-- ---- the law

-- a broken rule is broken by its tries when they are played, and by no shorter way
pub broken_law : BrokenLaw
unfolding first_state
broken_law limit n name path text x read ends =
    let moves = moves_of_exploration text x read in
    let start = AfterPower (first_play x.lines) in
    let e = search_from n limit x.rules (first_state x) in
    let found = search_broken limit x.rules (first_state x) n name path (sym (ending_first limit n x) ∙ ends) in
    let many : length path ≡ 0 + length e.news + 1 = found.1 in
    let p = ends_played limit x.rules moves start (first_state x) (first_agrees x) path name found.0 in
    record {
      last = p.last;
      before = p.before;
      are = p.are;
      breaks = p.breaks;
      shortest = λ ts few.
          safe_keeps limit x.rules moves ts start (first_state x) (first_agrees x)
          (search_safe limit x.rules (λ e d k. k ≤ length e.news) (promise_by_depths limit x.rules) n (first_state x) (length ts) (omega (arith, many, few)));
    }
