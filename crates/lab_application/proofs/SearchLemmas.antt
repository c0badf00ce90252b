-- What a search keeps while it makes tries.
use Rattle.std.proofs.Common.{◌≡◌, ◌≢◌, ℕ, zero, suc, List, [], ◌∷◌, ◌++◌, length, map, Option, Some, None, Result, Ok, Err, IfOk, OnOk, refl, sym, ap, subst, ◌∙◌, slice_get}
use Rattle.std.specs.Prelude.{false, is_some}
use Rattle.law_histories.specs.law_explore.specs.Rules as rule
use Rattle.law_histories.specs.law_explore.specs.States as model
use Rattle.law_histories.specs.law_explore.specs.States.{is_known}
use Rattle.law_histories.specs.law_explore.specs.Search.{Node, Round, HaltedRound, with_reached}
use Rattle.law_histories.specs.law_explore.specs.Tries.{Try}
use Rattle.lab_key.specs.declared.kept.Rosters.{Rosters}
use Rattle.lab_key.specs.declared.state.CardState.{CardState}
use Rattle.lab_key.specs.Kept.{IsKeptCard}
use Rattle.lab_search.specs.declared.journey.Manner.{Manner}
use Rattle.lab_search.specs.declared.journey.Step.{Step}
use Rattle.lab_search.specs.declared.making.Candidate.{Candidate}
use Rattle.lab_search.specs.declared.rounds.Halt.{Halt as SearchHalt}
use Rattle.lab_search.specs.declared.rounds.Search.{Search}
use Rattle.lab_search.specs.declared.trying.Laboratory.{Laboratory}
use Rattle.lab_search.specs.declared.trying.Tried.{Tried}
use Rattle.lab_search.specs.declared.trying.Tried.TheVariants as tried
use Rattle.lab_search.specs.Kept.{names_in, root_of, Kept, KeepsKept, TryIs}
use Rattle.lab_search.specs.Rounds.{known_in, round_in, tally_of, try_value, Comes, Depth, Extends, Holds, IsFrom, IsTry, TriesMove}
use Rattle.lab_search.specs.Trying.{CanCut, IsMade, IsMissed}
use Rattle.lab_search.proofs.AttemptLemmas.{keeps_self, keeps_then, keeps_there}
use Rattle.lab_search.proofs.RoundLemmas.{extends_more, extends_none, found_later, holds_still}
use Rattle.lab_application.specs.declared.attempts.Halt.{Halt}
use Rattle.lab_application.specs.declared.attempts.Halt.TheVariants as halt
use Rattle.lab_application.specs.declared.attempts.Reached.{Reached}
use Rattle.lab_application.specs.Finding.{AreKeptWith, BreaksAt, ComesTo, HoldsMore, IfReached, IsKeptWith, IsReachedFrom, IsSameSearch}

-- ---- the same search

pub same_self : (s : Search) → IsSameSearch s s
same_self s = record { keeps = keeps_self s.laboratory s.rosters; room = refl; states = refl; steps = refl }

pub same_then : (s u v : Search) → IsSameSearch s u → IsSameSearch u v → IsSameSearch s v
same_then s u v h k =
    record { keeps = keeps_then s.laboratory u.laboratory v.laboratory s.rosters u.rosters v.rosters h.keeps k.keeps; room = k.room ∙ h.room; states = k.states ∙ h.states; steps = k.steps ∙ h.steps }

-- a laboratory whose device has the same root, with the same budget and with room for as many counts
pub same_laboratory : (s : Search) (lab : Laboratory) → root_of lab ≡ root_of s.laboratory → lab.budget ≡ s.laboratory.budget → length lab.counts.items ≡ length s.laboratory.counts.items → IsSameSearch s (record s { laboratory = lab })
same_laboratory s lab root budget counts = record { keeps = keeps_there s.laboratory lab s.rosters root budget counts; room = refl; states = refl; steps = refl }

pub same_if_ok : {A E : Type 0} (x : Result A E) (s : Search) (lab : Laboratory) → OnOk x (root_of lab ≡ root_of s.laboratory) → OnOk x (lab.budget ≡ s.laboratory.budget) → OnOk x (length lab.counts.items ≡ length s.laboratory.counts.items)
    → OnOk x (IsSameSearch s (record s { laboratory = lab }))
same_if_ok (Ok y) s lab root budget counts = same_laboratory s lab root budget counts
same_if_ok (Err e) s lab root budget counts = tt

pub same_holds : (d : Depth) (ns : List Node) (s u : Search) → IsSameSearch s u → Holds d s ns → Holds d u ns
same_holds d ns s u h = holds_still d s u ns h.keeps h.room h.states h.steps

pub same_tries : (d : Depth) (ns : List Node) (n : Node) (m : rule.Move) (c : Candidate) (i j : ℕ) (s u : Search) → IsSameSearch s u → TriesMove d s ns n m c i j → TriesMove d u ns n m c i j
same_tries d ns n m c i j s u h t =
    record { at = record { holds = same_holds d ns s u h t.at.holds; found = t.at.found }; candidate = t.candidate; place = t.place }

pub kept_with : (s u : Search) (names : List (List ℕ)) (x : CardState) → KeepsKept s.laboratory s.rosters u.laboratory u.rosters → IsKeptWith s names x → IsKeptWith u names x
kept_with s u names x keeps k = (k.0, keeps.kept names x k.0 k.1)

pub are_kept_with : (s u : Search) (names : List (List ℕ)) (rs : List Reached) → KeepsKept s.laboratory s.rosters u.laboratory u.rosters → AreKeptWith s names rs → AreKeptWith u names rs
are_kept_with s u names [] keeps h = tt
are_kept_with s u names (r ∷ rs) keeps h = (kept_with s u names r.state keeps h.0, are_kept_with s u names rs keeps h.1)

-- ---- more nodes

pub tries_more : (d : Depth) (ns all : List Node) (n : Node) (m : rule.Move) (c : Candidate) (i j : ℕ) (s u : Search) → Extends ns all → Holds d u all → TriesMove d s ns n m c i j → TriesMove d u all n m c i j
tries_more d ns all n m c i j s u e h t =
    record { at = record { holds = h; found = found_later ns all i n e t.at.found }; candidate = t.candidate; place = t.place }

pub more_none : (d : Depth) (ns : List Node) (s : Search) → Holds d s ns → HoldsMore d ns s
more_none d ns s h = record { all = ns; grew = extends_none ns; holds = h }

pub more_then : (d : Depth) (ns all : List Node) (s : Search) → Extends ns all → HoldsMore d all s → HoldsMore d ns s
more_then d ns all s e h = record { all = h.all; grew = extends_more ns all h.all e h.grew; holds = h.holds }

-- what tries came to from more nodes, they came to from these
pub comes_then : (d : Depth) (ns all : List Node) (o : Option Halt) (s : Search) → Extends ns all → ComesTo d all o s → ComesTo d ns o s
comes_then d ns all None s e h = more_then d ns all s e h
comes_then d ns all (Some halt.Full) s e h = more_then d ns all s e h
comes_then d ns all (Some (halt.Broken b r)) s e h =
    record { all = h.all; grew = extends_more ns all h.all e h.grew; holds = h.holds; before = h.before; found = h.found; last = h.last; is = h.is }

pub comes_none : (d : Depth) (ns : List Node) (o : Option Halt) (s : Search) → o ≡ None → ComesTo d ns o s → HoldsMore d ns s
comes_none d ns None s e h = h
comes_none d ns (Some k) s e h = absurd (cc e)

-- a search that goes on as the definition does, or ends
pub comes_holds : (d : Depth) (ns : List Node) (x : Result Round HaltedRound) (o : Option SearchHalt) (s : Search) → Comes d ns x o s → HoldsMore d ns s
comes_holds d ns (Ok r) None s h = record { all = h.all; grew = h.grew; holds = h.holds }
comes_holds d ns (Ok r) (Some k) s h = absurd h
comes_holds d ns (Err e) None s h = absurd h
comes_holds d ns (Err e) (Some k) s h = record { all = h.all; grew = h.grew; holds = h.holds }

-- ---- what is kept

-- some names and amounts
abbrev pub amounts_with : List (List ℕ × ℕ) → List ℕ → List (List ℕ × ℕ)
amounts_with [] ks = []
amounts_with (a ∷ held) [] = []
amounts_with (a ∷ held) (k ∷ ks) = (a.0, k) ∷ amounts_with held ks

with_amounts : (held : List (List ℕ × ℕ)) (ks : List ℕ) → length ks ≡ length held → map (λ a. a.1) (amounts_with held ks) ≡ ks
with_amounts [] [] e = refl
with_amounts [] (k ∷ ks) e = absurd (cc e)
with_amounts (a ∷ held) [] e = absurd (cc e)
with_amounts (a ∷ held) (k ∷ ks) e = ap (λ xs. k ∷ xs) (with_amounts held ks (cc e))

with_names : (held : List (List ℕ × ℕ)) (ks : List ℕ) → length ks ≡ length held → map (λ a. a.0) (amounts_with held ks) ≡ map (λ a. a.0) held
with_names [] [] e = refl
with_names [] (k ∷ ks) e = absurd (cc e)
with_names (a ∷ held) [] e = absurd (cc e)
with_names (a ∷ held) (k ∷ ks) e = ap (λ xs. a.0 ∷ xs) (with_names held ks (cc e))

length_map : {A B : Type 0} (f : A → B) (xs : List A) → length (map f xs) ≡ length xs
length_map f [] = refl
length_map f (x ∷ xs) = ap suc (length_map f xs)

-- a card that is kept is so with other amounts, under other names
pub kept_named : (lab : Laboratory) (r : Rosters) (names : List (List ℕ)) (x y : CardState) (c : model.CardState) (held : List (List ℕ × ℕ)) → Kept lab r names x c → y.card ≡ x.card → y.runs ≡ x.runs → length y.allowances.items ≡ length held
    → Kept lab r (map (λ a. a.0) held) y (record c { allowances = amounts_with held y.allowances.items })
kept_named lab r names x y c held k card runs many =
    record {
      card = subst (λ (n : ℕ). IsKeptCard (root_of lab) r n c.base c.live) (sym card) k.card;
      runs = runs ∙ k.runs;
      budget_is = k.budget_is;
      amounts = sym (with_amounts held y.allowances.items many);
      names_are = with_names held y.allowances.items many;
    }

-- and with as many amounts under the same names
pub kept_as : (lab : Laboratory) (r : Rosters) (names : List (List ℕ)) (x y : CardState) (c : model.CardState) → Kept lab r names x c → y.card ≡ x.card → y.runs ≡ x.runs → length y.allowances.items ≡ length x.allowances.items
    → Kept lab r names y (record c { allowances = amounts_with c.allowances y.allowances.items })
kept_as lab r names x y c k card runs count =
    let many : length y.allowances.items ≡ length c.allowances = count ∙ ap length k.amounts ∙ length_map (λ a. a.1) c.allowances in
    subst (λ (ns : List (List ℕ)). Kept lab r ns y (record c { allowances = amounts_with c.allowances y.allowances.items })) k.names_are (kept_named lab r names x y c c.allowances k card runs many)

-- ---- a try

reached_is : (y x : CardState) → tried.Reached y ≡ tried.Reached x → y ≡ x
reached_is y x e = cc e

pub tried_reached : (lab : Laboratory) (r : Rosters) (names : List (List ℕ)) (ons : List rule.OnRule) (c : model.CardState) (m : rule.Move) (w : Manner) (t : Tried) (x : CardState) → t ≡ tried.Reached x → TryIs lab r names ons c m w t
    → IsMade c m w × ((e : model.CardState) × Kept lab r names x e)
tried_reached lab r names ons c m w tried.NotHit x e h = absurd (cc e)
tried_reached lab r names ons c m w (tried.Broken i) x e h = absurd (cc e)
tried_reached lab r names ons c m w (tried.Reached y) x e h =
    let same : y ≡ x = reached_is y x e in
    (h.0, (h.1.0, subst (λ (z : CardState). Kept lab r names z h.1.0) same h.1.2))

pub tried_missed : (lab : Laboratory) (r : Rosters) (names : List (List ℕ)) (ons : List rule.OnRule) (c : model.CardState) (m : rule.Move) (w : Manner) (t : Tried) → t ≡ tried.NotHit → TryIs lab r names ons c m w t → IsMissed c m w
tried_missed lab r names ons c m w tried.NotHit e h = h
tried_missed lab r names ons c m w (tried.Broken i) e h = absurd (cc e)
tried_missed lab r names ons c m w (tried.Reached y) e h = absurd (cc e)

-- ---- results

pub on_ok : {A E : Type 0} (r : Result A E) (P : Type 0) → P → OnOk r P
on_ok (Ok x) P h = h
on_ok (Err e) P h = tt

pub on_ok_then : {A E : Type 0} (r : Result A E) (P Q : Type 0) → (P → Q) → OnOk r P → OnOk r Q
on_ok_then (Ok x) P Q f h = f h
on_ok_then (Err e) P Q f h = tt

pub if_ok_then : {A E : Type 0} (r : Result A E) (P Q : A → Type 0) → ((x : A) → P x → Q x) → IfOk r P → IfOk r Q
if_ok_then (Ok x) P Q f h = f x h
if_ok_then (Err e) P Q f h = tt

-- ---- tries

-- what is reached from a node, by what is known of each
abbrev pub Reaches : Search → Search → Candidate → ℕ → ℕ → Manner → Option Reached → Type 0
Reaches s u c i j w o = (d : Depth) (ns : List Node) (n : Node) (m : rule.Move) → TriesMove d s ns n m c i j → CanCut n.state w → IsReachedFrom d u n m w o

reached_case : (d : Depth) (u : Search) (n : Node) (m : rule.Move) (w : Manner) (o : Option Reached) → IsMade n.state m w → IfReached (IsKeptWith u (names_in d.rules)) o → IsReachedFrom d u n m w o
reached_case d u n m w None made h = absurd h
reached_case d u n m w (Some r) made h = (made, h)

pub all_reached : {E : Type 0} (s u : Search) (c : Candidate) (i j : ℕ) (w : Manner) (r : Result (Option Reached) E)
    → ((d : Depth) (ns : List Node) (n : Node) (m : rule.Move) → TriesMove d s ns n m c i j → CanCut n.state w → IsMade n.state m w × IfOk r (IfReached (IsKeptWith u (names_in d.rules))))
    → IfOk r (Reaches s u c i j w)
all_reached s u c i j w (Ok o) f = λ d ns n m h k. let p = f d ns n m h k in reached_case d u n m w o p.0 p.1
all_reached s u c i j w (Err e) f = tt

-- a rule is broken by a step from a node that is tried
pub breaks_by : (d : Depth) (ns : List Node) (n : Node) (m : rule.Move) (c : Candidate) (i j : ℕ) (w : Manner) (s u : Search) (r : Step) → IsSameSearch s u → TriesMove d s ns n m c i j
    → r ≡ record { before = i; chosen = j; manner = w } → BreaksAt d ns r u
breaks_by d ns n m c i j w s u r same h e =
    subst (λ (q : Step). BreaksAt d ns q u) (sym e) (record {
      all = ns;
      grew = extends_none ns;
      holds = same_holds d ns s u same h.at.holds;
      before = n;
      found = h.at.found;
      last = try_value m w;
      is = record { move = h.place; manner = refl };
    })

pub keeps_equal : (s u : Search) → u.laboratory ≡ s.laboratory → u.rosters ≡ s.rosters → KeepsKept s.laboratory s.rosters u.laboratory u.rosters
keeps_equal s u lab ros =
    record {
      kept = λ names x c k. subst (λ (l : Laboratory). Kept l u.rosters names x c) (sym lab) (subst (λ (r : Rosters). Kept s.laboratory r names x c) (sym ros) k);
      counts = ap (λ (l : Laboratory). length l.counts.items) lab;
    }

-- a state that was kept, or for which there is no room
pub kept_comes : (d : Depth) (ns : List Node) (n : Node) (m : rule.Move) (s u : Search) (r : Step) (x y : CardState) (o : Option SearchHalt) → IsFrom d s ns n r.before → slice_get d.rules.moves r.chosen ≡ Some m
    → IsKeptWith s (names_in d.rules) x → y.card ≡ x.card → y.runs ≡ x.runs → length y.allowances.items ≡ length x.allowances.items
    → ((d : Depth) (ns : List Node) (n : Node) (t : Try) (c : model.CardState) → IsFrom d s ns n r.before → IsTry d.rules.moves r t → Kept s.laboratory s.rosters (names_in d.rules) y c
    → Comes d ns (with_reached (is_known c (known_in ns)) d.most (record { state = c; path = t ∷ n.path }) (round_in d (tally_of s) ns)) o u)
    → HoldsMore d ns u
kept_comes d ns n m s u r x y o from place k card runs count f =
    let kept = kept_as s.laboratory s.rosters (names_in d.rules) x y k.0 k.1 card runs count in
    comes_holds d ns _ o u (f d ns n (try_value m r.manner) _ from (record { move = place; manner = refl }) kept)

kept_append : (s : Search) (names : List (List ℕ)) (rs : List Reached) (r : Reached) → AreKeptWith s names rs → IsKeptWith s names r.state → AreKeptWith s names (rs ++ r ∷ [])
kept_append s names [] r h k = (k, tt)
kept_append s names (x ∷ rs) r h k = (h.0, kept_append s names rs r h.1 k)

-- one more that is kept
pub kept_more : (s : Search) (names : List (List ℕ)) (rs new : List Reached) (r : Reached) → new ≡ rs ++ r ∷ [] → AreKeptWith s names rs → IsKeptWith s names r.state → AreKeptWith s names new
kept_more s names rs new r e h k = subst (λ (xs : List Reached). AreKeptWith s names xs) (sym e) (kept_append s names rs r h k)

-- the one at a place is kept
pub kept_place : (s : Search) (names : List (List ℕ)) (rs : List Reached) (i : ℕ) (r : Reached) → slice_get rs i ≡ Some r → AreKeptWith s names rs → IsKeptWith s names r.state
kept_place s names [] i r e h = absurd (cc e)
kept_place s names (x ∷ rs) zero r e h = let same : x ≡ r = cc e in subst (λ (y : Reached). IsKeptWith s names y.state) same h.0
kept_place s names (x ∷ rs) (suc i) r e h = kept_place s names rs i r e h.1

-- what a move reached in a manner is kept
pub reached_kept : (d : Depth) (u : Search) (n : Node) (m : rule.Move) (w : Manner) (o : Option Reached) (r : Reached) → o ≡ Some r → IsReachedFrom d u n m w o → IsKeptWith u (names_in d.rules) r.state
reached_kept d u n m w None r e h = absurd (cc e)
reached_kept d u n m w (Some x) r e h = let same : x ≡ r = cc e in subst (λ (y : Reached). IsKeptWith u (names_in d.rules) y.state) same h.1

-- and the move was made
pub reached_made : (d : Depth) (u : Search) (n : Node) (m : rule.Move) (w : Manner) (o : Option Reached) (r : Reached) → o ≡ Some r → IsReachedFrom d u n m w o → IsMade n.state m w
reached_made d u n m w None r e h = absurd (cc e)
reached_made d u n m w (Some x) r e h = h.0

-- a move that can be made reaches something
pub none_missed : (d : Depth) (u : Search) (n : Node) (m : rule.Move) (w : Manner) (o : Option Reached) → ((r : Reached) → o ≢ Some r) → IsReachedFrom d u n m w o → IsMissed n.state m w
none_missed d u n m w None not h = h
none_missed d u n m w (Some r) not h = absurd (not r refl)

pub missed_here : (d : Depth) (u : Search) (n : Node) (m : rule.Move) (w : Manner) (o : Option Reached) → o ≡ None → IsReachedFrom d u n m w o → IsMissed n.state m w
missed_here d u n m w None e h = h
missed_here d u n m w (Some r) e h = absurd (cc e)

-- a search that is not ended goes on
pub comes_goes : (d : Depth) (ns : List Node) (o : Option Halt) (s : Search) → is_some o ≡ false → ComesTo d ns o s → HoldsMore d ns s
comes_goes d ns None s e h = h
comes_goes d ns (Some k) s e h = absurd (cc e)

-- the node and the move of a step
pub record StepFrom (d : Depth) (u : Search) (ns : List Node) (n : Node) (m : rule.Move) (r : Step) : Type 0 where
  pub from : IsFrom d u ns n r.before
  pub place : slice_get d.rules.moves r.chosen ≡ Some m

pub step_from : (d : Depth) (ns : List Node) (n : Node) (m : rule.Move) (c : Candidate) (i j : ℕ) (w : Manner) (u : Search) (r : Step) → r ≡ record { before = i; chosen = j; manner = w } → TriesMove d u ns n m c i j → StepFrom d u ns n m r
step_from d ns n m c i j w u r e h = subst (λ (q : Step). StepFrom d u ns n m q) (sym e) (record { from = h.at; place = h.place })

-- tries from a node go on from what a first one came to
pub then_tries : (d : Depth) (ns : List Node) (n : Node) (m : rule.Move) (c : Candidate) (i j : ℕ) (s u : Search) → (a : HoldsMore d ns u) → TriesMove d s ns n m c i j → TriesMove d u a.all n m c i j
then_tries d ns n m c i j s u a h = tries_more d ns a.all n m c i j s u a.grew a.holds h
