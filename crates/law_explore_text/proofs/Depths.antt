-- A text that says `depth N` is that of a search of N depths, if it has fewer states than the most.
use Rattle.std.specs.Prelude.{◌≡◌, ℕ, zero, suc, ◌+◌, ◌^◌, ◌<◌, ◌≤◌, Bool, true, false, cond, not, nat_lt, ◌==◌, List, [], ◌∷◌, ◌++◌, codes, decimal, Result, Ok, Err, ⊤, refl}
use Rattle.std.proofs.Common.{arith, ap, sym, ◌∙◌}
use Rattle.std.proofs.lemmas.Bool.{and_parts, ltb-true, ltb-false, eq-eqb, cond_both}
use Rattle.std.proofs.lemmas.Fmt.{decimal_injective}
use Rattle.std.proofs.lemmas.List.{append_assoc}
use Rattle.law_explore.specs.model_text.specs.Text.{every}
use Rattle.law_explore.specs.model_play.specs.Play.{State}
use Rattle.law_explore.specs.Rules.{OnRule, Rules, no_rules, Exploration}
use Rattle.law_explore.specs.States.{CardState, is_known, play_of_deck}
use Rattle.law_explore.specs.Tries.{Try, tries_of, outcome}
use Rattle.law_explore.specs.Search.{Node, Round, Halt, RuleBroken, Full, HaltedRound, with_try, with_new, with_reached, after_outcome, round_of_tries, round_of_states, Ending, All, AtDepth, Broken, TooMany, Search, search_end, ending_of, after_depth, after_round, search_on, search_from, first_state, search_of, Tally, no_tries}
use Rattle.law_explore_text.specs.Report.{silent_lines, silent_numbers, sums_text, ending_text, text_within}
use Rattle.law_explore_text.specs.TextSafety.{DepthTextLaw}
use Rattle.law_explore.proofs.Breaks.{EitherWay, either_way}
use Rattle.law_explore.proofs.Safety.{depth_law}
use Rattle.law_explore_text.proofs.Texts.{other, after, head, after_five, decimal_every, unlines, sums_end, no_depth, silent_no_depth, same_sums, broken_no_sums}

-- ---- how many states there are

module _ (limit : ℕ) (rules : Rules) where
  -- no more than the limit, and as many as the limit where there would be one more
  abbrev Within : Round → Type 0
  Within r = r.count ≤ limit

  abbrev FullAt : Halt → ℕ → Type 0
  FullAt (RuleBroken name path) n = ⊤
  FullAt Full n = n ≡ limit

  abbrev Stops : HaltedRound → Type 0
  Stops h = FullAt h.halt h.count

  new_within : (b : Bool) (n : Node) (r : Round) → nat_lt r.count limit ≡ b → Within r → EitherWay Within Stops (with_new b n r)
  new_within true n r e h = let low : r.count < limit = ltb-true r.count limit e in omega (arith, low)
  new_within false n r e h = let high : limit ≤ r.count = ltb-false r.count limit e in omega (arith, high, h)

  reached_within : (b : Bool) (n : Node) (r : Round) → Within r → EitherWay Within Stops (with_reached b limit n r)
  reached_within true n r h = h
  reached_within false n r h = new_within (nat_lt r.count limit) n r refl h

  outcome_within : (o : Result CardState (List ℕ)) (path : List Try) (r : Round) → Within r → EitherWay Within Stops (after_outcome o limit path r)
  outcome_within (Err name) path r h = tt
  outcome_within (Ok c) path r h = reached_within (is_known c r.known) (record { state = c; path = path }) r h

  tries_within : (n : Node) (ts : List Try) (r : Round) → Within r → EitherWay Within Stops (round_of_tries limit rules.ons n ts r)
  unfolding round_of_tries
  tries_within n [] r h = h
  tries_within n (t ∷ ts) r h =
      either_way Within Within Stops (after_outcome (outcome rules.ons n.state t) limit (t ∷ n.path) (with_try rules.ons n.state t r)) (λ q. round_of_tries limit rules.ons n ts q)
      (outcome_within (outcome rules.ons n.state t) (t ∷ n.path) (with_try rules.ons n.state t r) h) (λ q g. tries_within n ts q g)

  nodes_within : (ns : List Node) (r : Round) → Within r → EitherWay Within Stops (round_of_states limit rules ns r)
  unfolding round_of_states
  nodes_within [] r h = h
  nodes_within (n ∷ ns) r h =
      either_way Within Within Stops (round_of_tries limit rules.ons n (tries_of rules.moves n.state) r) (λ q. round_of_states limit rules ns q)
      (tries_within n (tries_of rules.moves n.state) r h) (λ q g. nodes_within ns q g)

  -- how a search from depth d, n depths deep, ends: at the last of them, or with as many states as the limit
  abbrev EndsAt : Ending → ℕ → ℕ → Type 0
  EndsAt All last states = ⊤
  EndsAt (Broken name path) last states = ⊤
  EndsAt (AtDepth d) last states = d ≡ last
  EndsAt (TooMany d) last states = states ≡ limit

  abbrev Ends : Search → ℕ → Type 0
  Ends e last = EndsAt e.ending last e.states

  halt_ends : (h : Halt) (d last states : ℕ) (tries : Tally) → FullAt h states → Ends (search_end (ending_of h d) states tries) last
  halt_ends (RuleBroken name path) d last states tries h = tt
  halt_ends Full d last states tries h = h

  depth_ends : (last : ℕ) (ns : List Node) (q : Round) (again : List Node → Round → Search) → Ends (again ns q) last → Ends (after_depth ns q again) last
  depth_ends last [] q again later = tt
  depth_ends last (n ∷ ns) q again later = later

  round_ends : (d last : ℕ) (x : Result Round HaltedRound) (again : List Node → Round → Search) → EitherWay Within Stops x → ((ms : List Node) (q : Round) → Within q → Ends (again ms q) last)
      → Ends (after_round x d again) last
  round_ends d last (Err h) again within later = halt_ends h.halt d last h.count h.tally within
  round_ends d last (Ok q) again within later = depth_ends last q.fresh q again (later q.fresh q within)

  explored_ends : (n d last : ℕ) (ns : List Node) (r : Round) → d + n ≡ last → Within r → Ends (search_on n d limit rules ns r) last
  unfolding search_on
  explored_ends zero d last ns r e h = omega (arith, e)
  explored_ends (suc n) d last ns r e h =
      round_ends (d + 1) last (round_of_states limit rules ns (record r { fresh = [] })) (λ ms q. search_on n (d + 1) limit rules ms q) (nodes_within ns (record r { fresh = [] }) h)
      (λ ms q g. explored_ends n (d + 1) last ms q (omega (arith, e)) g)

  search_ends : (n : ℕ) (c : CardState) → 1 ≤ limit → Ends (search_from n limit rules c) n
  unfolding search_from
  search_ends n c low = explored_ends n 0 n (record { state = c; path = [] } ∷ []) (record { known = c ∷ []; fresh = []; count = 1; tally = no_tries rules.ons }) (omega arith) low

-- ---- before a character

-- what comes before the first of a character
abbrev before : ℕ → List ℕ → List ℕ
before c [] = []
before c (x ∷ xs) = cond (x == c) [] (x ∷ before c xs)

before_by : (c x : ℕ) (w t : List ℕ) → not (x == c) ≡ true → before c (w ++ c ∷ t) ≡ w → cond (x == c) [] (x ∷ before c (w ++ c ∷ t)) ≡ x ∷ w
before_by c x w t h e =
    cond_both (x == c) [] (x ∷ before c (w ++ c ∷ t)) (λ (l : List ℕ). l ≡ x ∷ w) (λ same. absurd (cc (h, ap not same))) (λ apart. ap (λ (l : List ℕ). x ∷ l) e)

before_first : (c : ℕ) (w t : List ℕ) → every (other c) w ≡ true → before c (w ++ c ∷ t) ≡ w
before_first c [] t h = ap (λ (b : Bool). cond b [] (c ∷ before c t)) (eq-eqb c c refl)
before_first c (x ∷ w) t h =
    before_by c x w t (and_parts (other c x) (every (other c) w) h).0 (before_first c w t (and_parts (other c x) (every (other c) w) h).1)

-- ---- the numbers of the sums

sums_states : (states tries : ℕ) (how : List ℕ) → before 32 (after 32 (after 32 (sums_text states tries how))) ≡ decimal states
sums_states states tries how = grind (arith, after, append_assoc, before_first, decimal_every)

sums_depth : (states tries d : ℕ) → before 10 (after 32 (after_five (sums_text states tries (codes " depth " ++ decimal d)))) ≡ decimal d
sums_depth states tries d = grind (arith, after, sums_end, before_first, decimal_every)

same_states : (s t d n m e : ℕ) → sums_text s t (codes " depth " ++ decimal d) ≡ sums_text n m (codes " depth " ++ decimal e) → decimal s ≡ decimal n
same_states s t d n m e h =
    sym (sums_states s t (codes " depth " ++ decimal d)) ∙ ap (λ (u : List ℕ). before 32 (after 32 (after 32 u))) h ∙ sums_states n m (codes " depth " ++ decimal e)

same_depth : (s t d n m e : ℕ) → sums_text s t (codes " depth " ++ decimal d) ≡ sums_text n m (codes " depth " ++ decimal e) → decimal d ≡ decimal e
same_depth s t d n m e h = sym (sums_depth s t d) ∙ ap (λ (u : List ℕ). before 10 (after 32 (after_five u))) h ∙ sums_depth n m e

-- ---- endings

all_none : (s t n m d : ℕ) → sums_text s t (codes " all") ≡ sums_text n m (codes " depth " ++ decimal d) → ⊥
all_none s t n m d h =
    grind (arith, sym (sums_end s t (codes "all")) ∙ ap (λ (u : List ℕ). after_five u) h ∙ sums_end n m (codes "depth " ++ decimal d), ap (λ (u : List ℕ). head u) (sym (sums_end s t (codes "all")) ∙ ap (λ (u : List ℕ). after_five u) h ∙ sums_end n m (codes "depth " ++ decimal d)))

module _ (ons : List OnRule) (s : State) (e : Search) (ms : List ℕ) where
  abbrev sums_of : List ℕ → ℕ → ℕ → ℕ → Type 0
  sums_of how n m d = silent_lines (silent_numbers ons e.tally.heard) ++ sums_text e.states e.tally.tries how ≡ silent_lines ms ++ sums_text n m (codes " depth " ++ decimal d)

  sums_same : (how : List ℕ) (n m d : ℕ) → sums_of how n m d → sums_text e.states e.tally.tries how ≡ sums_text n m (codes " depth " ++ decimal d)
  sums_same how n m d h = same_sums (silent_numbers ons e.tally.heard) ms e.states e.tally.tries n m how (codes " depth " ++ decimal d) h

  depth_is : (most : ℕ) (x : Ending) (last n m d : ℕ) → EndsAt most no_rules x last e.states → most < 2 ^ 64 → last < 2 ^ 64 → n < most → d < 2 ^ 64
      → ending_text ons s e x ≡ silent_lines ms ++ sums_text n m (codes " depth " ++ decimal d) → x ≡ AtDepth d
  depth_is most All last n m d ends top a b c h = absurd (all_none e.states e.tally.tries n m d (sums_same (codes " all") n m d h))
  depth_is most (AtDepth f) last n m d ends top a b c h =
      ap (λ (k : ℕ). AtDepth k) (decimal_injective f d (omega (arith, ends, a)) c (same_depth e.states e.tally.tries f n m d (sums_same (codes " depth " ++ decimal f) n m d h)))
  depth_is most (TooMany f) last n m d ends top a b c h =
      absurd (
      let same : e.states ≡ n = decimal_injective e.states n (omega (arith, ends, top)) (omega (arith, b, top)) (same_states e.states e.tally.tries f n m d (sums_same (codes " depth " ++ decimal f) n m d h)) in
      omega (arith, same, ends, b)
      )
  depth_is most (Broken name path) last n m d ends top a b c h = absurd (broken_no_sums (ending_text ons s e (Broken name path)) ms n m (codes " depth " ++ decimal d) refl h)

-- ---- the law

ends_in : (most n : ℕ) (x : Exploration) → 1 ≤ most → let e = search_of most n x in EndsAt most no_rules e.ending n e.states
unfolding search_of
ends_in most n x some = search_ends most x.rules n (first_state x) (omega (arith, some))

-- a text that says `depth N` is that of a search of N depths
pub depth_text_law : DepthTextLaw
unfolding text_within
depth_text_law most n d text x some top small few read says ts short =
    let ons = x.rules.ons in
    let s = play_of_deck x.lines in
    let e = search_of most n x in
    let how = codes " depth " ++ decimal d in
    let end = silent_lines says.silent ++ sums_text says.states says.tries how in
    let ends : ending_text ons s e e.ending ≡ end =
    unlines e.news says.news 1 (ending_text ons s e e.ending) end (no_depth ons s e e.ending) (silent_no_depth says.silent says.states says.tries how) says.is in
    depth_law most n d text x read (depth_is ons s e says.silent most e.ending n says.states says.tries d (ends_in most n x some) top small says.few few ends) ts short
