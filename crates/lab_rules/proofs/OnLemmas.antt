-- `on` lines by their parts.
use Rattle.std.proofs.Common.{◌≡◌, ℕ, suc, List, [], ◌∷◌, ◌++◌, Bool, true, false, cond, Option, Some, None, Result, Ok, Err, refl, sym, ap, subst, ◌∙◌}
use Rattle.std.specs.Prelude.{bytes_eq, is_none, is_some, option_map}
use Rattle.std.proofs.lemmas.Slice.Eq.{bytes_eq-Decides}
use Rattle.model_device.specs.Bytes.{lookup}
use Rattle.mc_text.specs.model_text.specs.Text.{◌>>=◌, fields, ok_as, only_if}
use Rattle.law_explore.specs.model_play.specs.declared.deck.DeckCause.{DeckCause}
use Rattle.law_explore.specs.model_play.specs.DeckGrammar.{DeckLine}
use Rattle.law_explore.specs.model_play.specs.declared.deck.DeckCause.TheVariants.{NameTwice, UnknownName}
use Rattle.law_explore.specs.model_events.specs.Matching.{plain}
use Rattle.law_explore.specs.Rules as model
use Rattle.law_explore.specs.model_play.specs.RuleLines.{full_parts, name_and_amount, parts_of, Parts}
use Rattle.law_explore.specs.Rules.{move_line, effect_words, occasion_words, with_rule, AllowWord, MoveWord, OnWord}
use Rattle.lab_rules.specs.declared.rules.Move.{Move}
use Rattle.lab_rules.specs.declared.rules.Allowance.{Allowance}
use Rattle.lab_rules.specs.declared.rules.OnRule.{OnRule}
use Rattle.mc_deck.specs.declared.refusal.Fault.{Fault}
use Rattle.mc_deck.specs.declared.refusal.Fault.TheVariants as fault
use Rattle.lab_rules.specs.Moves.{IsMoveDeck}
use Rattle.lab_rules.specs.Parts.{AreFullParts, IsParts}
use Rattle.mc_deck.specs.Refused.{Faulty}
use Rattle.lab_rules.specs.Meanings.{allowance_value, allowance_values, effect_value, effected_on, named_on, occasion_value, on_from, on_of, place_of, AlikeLists, AreDistinct, AreListsRead, AreRuleLists, IsMove, IsOn, IsOnRead}

-- ---- refusals

pub faulty_as : {A B : Type 0} (f : A → B) (x : Result A DeckCause) (e : Fault) → Faulty x e → Faulty (ok_as f x) e
faulty_as f x (fault.Cause c) h = ap (ok_as f) h
faulty_as f x fault.NoMemory h = tt

-- ---- places

place_some_by : (b : Bool) (n : ℕ) (o : Option ℕ) (p : Option ℕ) → ((i : ℕ) → p ≡ Some i → is_some o ≡ true) → (i : ℕ) → cond b (Some 0) (option_map suc p) ≡ Some i → is_some (cond b (Some n) o) ≡ true
place_some_by true n o p h i e = refl
place_some_by false n o None h i e = absurd (cc e)
place_some_by false n o (Some j) h i e = h j refl

-- a name with a place is there
pub place_some : (held : List (List ℕ × ℕ)) (name : List ℕ) (i : ℕ) → place_of held name ≡ Some i → is_some (lookup held name) ≡ true
place_some [] name i e = absurd (cc e)
place_some (a ∷ held) name i e = place_some_by (bytes_eq a.0 name) a.1 (lookup held name) (place_of held name) (place_some held name) i e

place_none_by : (b : Bool) (n : ℕ) (o : Option ℕ) (p : Option ℕ) → (p ≡ None → o ≡ None) → cond b (Some 0) (option_map suc p) ≡ None → cond b (Some n) o ≡ None
place_none_by true n o p h e = absurd (cc e)
place_none_by false n o None h e = h refl
place_none_by false n o (Some j) h e = absurd (cc e)

-- a name without a place is not
pub place_none : (held : List (List ℕ × ℕ)) (name : List ℕ) → place_of held name ≡ None → lookup held name ≡ None
place_none [] name e = refl
place_none (a ∷ held) name e = place_none_by (bytes_eq a.0 name) a.1 (lookup held name) (place_of held name) (place_none held name) e

place_more_by : (b : Bool) (p q : Option ℕ) → ((i : ℕ) → p ≡ Some i → q ≡ Some i) → (i : ℕ) → cond b (Some 0) (option_map suc p) ≡ Some i → cond b (Some 0) (option_map suc q) ≡ Some i
place_more_by true p q h i e = e
place_more_by false None q h i e = absurd (cc e)
place_more_by false (Some j) q h i e = ap (option_map suc) (h j refl) ∙ e

-- a place stays when one more allowance follows
place_more : (held : List (List ℕ × ℕ)) (a : List ℕ × ℕ) (name : List ℕ) (i : ℕ) → place_of held name ≡ Some i → place_of (held ++ a ∷ []) name ≡ Some i
place_more [] a name i e = absurd (cc e)
place_more (b ∷ held) a name i e = place_more_by (bytes_eq b.0 name) (place_of held name) (place_of (held ++ a ∷ []) name) (place_more held a name) i e

-- ---- one more of each

pub alike_more : {A B : Type 0} (R : A → B → Type 0) (xs : List A) (ys : List B) (x : A) (y : B) → AlikeLists R xs ys → R x y → AlikeLists R (xs ++ x ∷ []) (ys ++ y ∷ [])
alike_more R [] [] x y h r = (r, tt)
alike_more R (a ∷ xs) (b ∷ ys) x y h r = (h.0, alike_more R xs ys x y h.1 r)
alike_more R [] (b ∷ ys) x y h r = absurd h
alike_more R (a ∷ xs) [] x y h r = absurd h

alike_other : {A B : Type 0} (R S : A → B → Type 0) → ((x : A) (y : B) → R x y → S x y) → (xs : List A) (ys : List B) → AlikeLists R xs ys → AlikeLists S xs ys
alike_other R S f [] [] h = tt
alike_other R S f (a ∷ xs) (b ∷ ys) h = (f a b h.0, alike_other R S f xs ys h.1)
alike_other R S f [] (b ∷ ys) h = absurd h
alike_other R S f (a ∷ xs) [] h = absurd h

on_more : (held : List (List ℕ × ℕ)) (a : List ℕ × ℕ) (o : OnRule) (r : model.OnRule) → IsOn held o r → IsOn (held ++ a ∷ []) o r
on_more held a o r h = record { line = h.line; moves = h.moves; occasion = h.occasion; pattern = h.pattern; effect = h.effect; place = place_more held a r.name o.allowance h.place; amount = h.amount }

-- what is not found is none of the front
cond_none : (b : Bool) (n : ℕ) (o : Option ℕ) → cond b (Some n) o ≡ None → (b ≡ false) × (o ≡ None)
cond_none true n o e = absurd (cc e)
cond_none false n o e = (refl, e)

other_way : (a b : List ℕ) (d : Bool) → bytes_eq b a ≡ d → bytes_eq a b ≡ false → d ≡ false
other_way a b true e h = let s : bytes_eq a b ≡ true = (bytes_eq-Decides a b).1 (sym ((bytes_eq-Decides b a).0 e)) in absurd (cc (sym h ∙ s))
other_way a b false e h = refl

not_last : (held : List (List ℕ × ℕ)) (a : List ℕ × ℕ) (name : List ℕ) → lookup held name ≡ None → bytes_eq a.0 name ≡ false → lookup (held ++ a ∷ []) name ≡ None
not_last [] a name e h = ap (λ b. cond b (Some a.1) None) h
not_last (b ∷ held) a name e h =
    let parts = cond_none (bytes_eq b.0 name) b.1 (lookup held name) e in
    ap (λ d. cond d (Some b.1) (lookup (held ++ a ∷ []) name)) parts.0 ∙ not_last held a name parts.1 h

pub distinct_more : (held : List (List ℕ × ℕ)) (a : List ℕ × ℕ) → AreDistinct held → lookup held a.0 ≡ None → AreDistinct (held ++ a ∷ [])
distinct_more [] a h e = (refl, tt)
distinct_more (b ∷ held) a h e =
    let parts = cond_none (bytes_eq b.0 a.0) b.1 (lookup held a.0) e in
    (not_last held a b.0 h.0 (other_way b.0 a.0 (bytes_eq a.0 b.0) refl parts.0), distinct_more held a h.1 parts.1)

values_more : (held : List Allowance) (a : Allowance) → allowance_values (held ++ a ∷ []) ≡ allowance_values held ++ allowance_value a ∷ []
values_more [] a = refl
values_more (x ∷ held) a = ap (λ l. allowance_value x ∷ l) (values_more held a)

-- ---- rules with one more

-- the list of a code's moves with one more, if a statement was read
pub moves_more : (ms : List Move) (r : model.Rules) (n : ℕ) (m : Move) (x : Result DeckLine DeckCause) (held : List Allowance) (os : List OnRule) → IsMoveDeck m.deck x
    → AreRuleLists ms held os r → AreListsRead (ms ++ m ∷ []) held os (ok_as (λ l. record r { moves = r.moves ++ record { number = n; text = m.text.now; line = l } ∷ [] }) x)
moves_more ms r n m (Ok l) held os d h = record {
  moves = alike_more IsMove ms r.moves m _ h.moves (record { text = refl; deck = d });
  allowances = h.allowances;
  distinct = h.distinct;
  ons = h.ons;
}
moves_more ms r n m (Err e) held os d h = absurd d

-- one more `on` line
pub ons_more : (ms : List Move) (held : List Allowance) (os : List OnRule) (r : model.Rules) (o : OnRule) (x : Result model.OnRule DeckCause) → IsOnRead r.allowances o x
    → AreRuleLists ms held os r → AreListsRead ms held (os ++ o ∷ []) (ok_as (λ o. record r { ons = r.ons ++ o ∷ [] }) x)
ons_more ms held os r o (Ok p) d h = record {
  moves = h.moves;
  allowances = h.allowances;
  distinct = h.distinct;
  ons = alike_more (IsOn r.allowances) os r.ons o p h.ons d;
}
ons_more ms held os r o (Err e) d h = absurd d

-- one more allowance
pub allowances_more : (ms : List Move) (held : List Allowance) (os : List OnRule) (r : model.Rules) (a : Allowance) → lookup r.allowances a.name.now ≡ None
    → AreRuleLists ms held os r → AreRuleLists ms (held ++ a ∷ []) os (record r { allowances = r.allowances ++ allowance_value a ∷ [] })
allowances_more ms held os r a e h = record {
  moves = h.moves;
  allowances = values_more held a ∙ ap (λ l. l ++ allowance_value a ∷ []) h.allowances;
  distinct = distinct_more r.allowances (allowance_value a) h.distinct e;
  ons = alike_other (IsOn r.allowances) (IsOn (r.allowances ++ allowance_value a ∷ [])) (on_more r.allowances (allowance_value a)) os r.ons h.ons;
}

-- ---- lines of rules by their words

pub move_rule : (r : model.Rules) (n : ℕ) (text : List ℕ) (fs : List (List ℕ))
    → with_rule r n text MoveWord fs ≡ ok_as (λ l. record r { moves = r.moves ++ record { number = n; text = text; line = l } ∷ [] }) (move_line n fs)
unfolding with_rule
move_rule r n text fs = refl

pub allow_rule : (r : model.Rules) (n : ℕ) (text : List ℕ) (fs : List (List ℕ))
    → with_rule r n text AllowWord fs ≡ (name_and_amount fs >>= λ a. only_if (is_none (lookup r.allowances a.0)) NameTwice (record r { allowances = r.allowances ++ a ∷ [] }))
unfolding with_rule
allow_rule r n text fs = refl

on_by : (n : ℕ) (r : model.Rules) (m : Parts model.Occasion) (o : Parts model.Effect) (a : List ℕ × ℕ) (b : Bool)
    → ok_as (λ o. record r { ons = r.ons ++ o ∷ [] }) (only_if b UnknownName (record { number = n; move = m.0; occasion = m.1; pattern = o.0; effect = o.1; name = a.0; amount = a.1 }))
    ≡ only_if b UnknownName (record r { ons = r.ons ++ record { number = n; move = m.0; occasion = m.1; pattern = o.0; effect = o.1; name = a.0; amount = a.1 } ∷ [] })
on_by n r m o a true = refl
on_by n r m o a false = refl

on_named : (n : ℕ) (r : model.Rules) (m : Parts model.Occasion) (o : Parts model.Effect) (y : Result (List ℕ × ℕ) DeckCause)
    → ok_as (λ o. record r { ons = r.ons ++ o ∷ [] }) (named_on n r.allowances m o y)
    ≡ (y >>= λ a. only_if (is_some (lookup r.allowances a.0)) UnknownName (record r { ons = r.ons ++ record { number = n; move = m.0; occasion = m.1; pattern = o.0; effect = o.1; name = a.0; amount = a.1 } ∷ [] }))
on_named n r m o (Ok a) = on_by n r m o a (is_some (lookup r.allowances a.0))
on_named n r m o (Err e) = refl

on_effected : (n : ℕ) (r : model.Rules) (m : Parts model.Occasion) (x : Result (Parts model.Effect) DeckCause)
    → ok_as (λ o. record r { ons = r.ons ++ o ∷ [] }) (effected_on n r.allowances m x)
    ≡ (x >>= λ o. name_and_amount o.2 >>= λ a. only_if (is_some (lookup r.allowances a.0)) UnknownName (record r { ons = r.ons ++ record { number = n; move = m.0; occasion = m.1; pattern = o.0; effect = o.1; name = a.0; amount = a.1 } ∷ [] }))
on_effected n r m (Ok o) = on_named n r m o (name_and_amount o.2)
on_effected n r m (Err e) = refl

on_read_from : (n : ℕ) (r : model.Rules) (x : Result (Parts model.Occasion) DeckCause)
    → ok_as (λ o. record r { ons = r.ons ++ o ∷ [] }) (on_from n r.allowances x)
    ≡ (x >>= λ m. full_parts (parts_of effect_words m.2) >>= λ o. name_and_amount o.2 >>= λ a. only_if (is_some (lookup r.allowances a.0)) UnknownName (record r { ons = r.ons ++ record { number = n; move = m.0; occasion = m.1; pattern = o.0; effect = o.1; name = a.0; amount = a.1 } ∷ [] }))
on_read_from n r (Ok m) = on_effected n r m (full_parts (parts_of effect_words m.2))
on_read_from n r (Err e) = refl

pub on_rule : (r : model.Rules) (n : ℕ) (text : List ℕ) (fs : List (List ℕ)) → with_rule r n text OnWord fs ≡ ok_as (λ o. record r { ons = r.ons ++ o ∷ [] }) (on_of n r.allowances fs)
unfolding with_rule
on_rule r n text fs = sym (on_read_from n r (full_parts (parts_of occasion_words fs)))

-- ---- an `on` line from its parts

-- with all parts: what follows is read of its name and amount
named_from : (n : ℕ) (held : List (List ℕ × ℕ)) (m : Parts model.Occasion) (y : Result (Parts model.Effect) DeckCause) (pattern rest : List ℕ) (v : model.Effect) → AreFullParts pattern v rest y
    → (o : Parts model.Effect) × IsParts pattern v rest o × (effected_on n held m y ≡ named_on n held m o (name_and_amount (fields rest)))
named_from n held m (Ok o) pattern rest v h = (o, h, ap (λ fs. named_on n held m o (name_and_amount fs)) (sym h.behind))
named_from n held m (Err c) pattern rest v h = absurd h

-- the parts of an `on` line
pub record OnParts (n : ℕ) (held : List (List ℕ × ℕ)) (whole : Result model.OnRule DeckCause) (moves pattern rest : List ℕ) (v : model.Occasion) (w : model.Effect) : Type 0 where
  pub first : Parts model.Occasion
  pub second : Parts model.Effect
  pub before : moves ≡ plain first.0
  pub word : v ≡ first.1
  pub between : pattern ≡ plain second.0
  pub next : w ≡ second.1
  pub left : whole ≡ named_on n held first second (name_and_amount (fields rest))

pub all_parts : (n : ℕ) (held : List (List ℕ × ℕ)) (x : Result (Parts model.Occasion) DeckCause) (moves between pattern rest : List ℕ) (v : model.Occasion) (w : model.Effect)
    → AreFullParts moves v between x → AreFullParts pattern w rest (full_parts (parts_of effect_words (fields between))) → OnParts n held (on_from n held x) moves pattern rest v w
all_parts n held (Ok m) moves between pattern rest v w h g =
    let i : AreFullParts pattern w rest (full_parts (parts_of effect_words m.2)) = subst (λ (fs : List (List ℕ)). AreFullParts pattern w rest (full_parts (parts_of effect_words fs))) h.behind g in
    let n = named_from n held m (full_parts (parts_of effect_words m.2)) pattern rest w i in
    record { first = m; second = n.0; before = h.is; word = h.word; between = n.1.is; next = n.1.word; left = n.2 }
all_parts n held (Err c) moves between pattern rest v w h g = absurd h

-- refused in its name and amount
pub name_refused : (n : ℕ) (held : List (List ℕ × ℕ)) (whole : Result model.OnRule DeckCause) (moves pattern rest : List ℕ) (v : model.Occasion) (w : model.Effect) (e : DeckCause)
    → OnParts n held whole moves pattern rest v w → name_and_amount (fields rest) ≡ Err e → whole ≡ Err e
name_refused n held whole moves pattern rest v w e p h = p.left ∙ ap (named_on n held p.first p.second) h

none_is : {A : Type 0} (o : Option A) → o ≡ None → is_some o ≡ false
none_is None e = refl
none_is (Some a) e = absurd (cc e)

abbrev made_on : ℕ → Parts model.Occasion → Parts model.Effect → List ℕ → ℕ → model.OnRule
made_on n m o name amount = record { number = n; move = m.0; occasion = m.1; pattern = o.0; effect = o.1; name = name; amount = amount }

-- refused, since its name is unknown
pub name_unknown : (n : ℕ) (held : List (List ℕ × ℕ)) (whole : Result model.OnRule DeckCause) (moves pattern rest name : List ℕ) (amount : ℕ) (v : model.Occasion) (w : model.Effect)
    → OnParts n held whole moves pattern rest v w → name_and_amount (fields rest) ≡ Ok (name, amount) → place_of held name ≡ None → whole ≡ Err UnknownName
name_unknown n held whole moves pattern rest name amount v w p h e =
    p.left ∙ ap (named_on n held p.first p.second) h
    ∙ ap (λ b. only_if b UnknownName (made_on n p.first p.second name amount)) (none_is (lookup held name) (place_none held name e))

-- an `on` line that was read
pub on_is_read : (n : ℕ) (held : List (List ℕ × ℕ)) (whole : Result model.OnRule DeckCause) (rest name : List ℕ) (o : OnRule) → o.line ≡ n
    → OnParts n held whole o.moves.items o.pattern.items rest (occasion_value o.occasion) (effect_value o.effect) → name_and_amount (fields rest) ≡ Ok (name, o.amount) → place_of held name ≡ Some o.allowance
    → IsOnRead held o whole
on_is_read n held whole rest name o l p h e =
    let i : whole ≡ Ok (made_on n p.first p.second name o.amount) =
    p.left ∙ ap (named_on n held p.first p.second) h
    ∙ ap (λ b. only_if b UnknownName (made_on n p.first p.second name o.amount)) (place_some held name o.allowance e)
    in
    subst (IsOnRead held o) (sym i) (record { line = l; moves = p.before; occasion = p.word; pattern = p.between; effect = p.next; place = e; amount = refl })

-- ---- answers

-- a move that is refused
pub move_faulty : (r : model.Rules) (n : ℕ) (text : List ℕ) (fs : List (List ℕ)) (e : Fault) → Faulty (move_line n fs) e → Faulty (with_rule r n text MoveWord fs) e
move_faulty r n text fs e h =
    subst (λ x. Faulty x e) (sym (move_rule r n text fs)) (faulty_as (λ l. record r { moves = r.moves ++ record { number = n; text = text; line = l } ∷ [] }) (move_line n fs) e h)

-- a move that is added
pub move_added : (ms ns : List Move) (r : model.Rules) (n : ℕ) (m : Move) (held : List Allowance) (os : List OnRule) (fs : List (List ℕ)) → ns ≡ ms ++ m ∷ [] → IsMoveDeck m.deck (move_line n fs)
    → AreRuleLists ms held os r → AreListsRead ns held os (with_rule r n m.text.now MoveWord fs)
move_added ms ns r n m held os fs e d h =
    subst (λ (l : List Move). AreListsRead l held os (with_rule r n m.text.now MoveWord fs)) (sym e)
    (subst (λ x. AreListsRead (ms ++ m ∷ []) held os x) (sym (move_rule r n m.text.now fs)) (moves_more ms r n m (move_line n fs) held os d h))

-- an `on` line that is refused
pub on_faulty : (r : model.Rules) (n : ℕ) (text : List ℕ) (fs : List (List ℕ)) (held : List (List ℕ × ℕ)) (e : Fault) → held ≡ r.allowances → Faulty (on_of n held fs) e → Faulty (with_rule r n text OnWord fs) e
on_faulty r n text fs held e i h =
    subst (λ x. Faulty x e) (sym (on_rule r n text fs)) (faulty_as (λ o. record r { ons = r.ons ++ o ∷ [] }) (on_of n r.allowances fs) e (subst (λ (a : List (List ℕ × ℕ)). Faulty (on_of n a fs) e) i h))

-- an `on` line that is added
pub on_added : (ms : List Move) (held : List Allowance) (os ps : List OnRule) (r : model.Rules) (n : ℕ) (text : List ℕ) (fs : List (List ℕ)) (o : OnRule) → ps ≡ os ++ o ∷ [] → IsOnRead (allowance_values held) o (on_of n (allowance_values held) fs)
    → AreRuleLists ms held os r → AreListsRead ms held ps (with_rule r n text OnWord fs)
on_added ms held os ps r n text fs o e d h =
    let i : IsOnRead r.allowances o (on_of n r.allowances fs) = subst (λ (a : List (List ℕ × ℕ)). IsOnRead a o (on_of n a fs)) h.allowances d in
    subst (λ (l : List OnRule). AreListsRead ms held l (with_rule r n text OnWord fs)) (sym e)
    (subst (λ x. AreListsRead ms held (os ++ o ∷ []) x) (sym (on_rule r n text fs)) (ons_more ms held os r o (on_of n r.allowances fs) i h))

-- an `allow` line whose name or amount is refused
pub allow_faulty : (r : model.Rules) (n : ℕ) (text : List ℕ) (fs : List (List ℕ)) (e : DeckCause) → name_and_amount fs ≡ Err e → with_rule r n text AllowWord fs ≡ Err e
allow_faulty r n text fs e h = allow_rule r n text fs ∙ ap (λ x. x >>= λ a. only_if (is_none (lookup r.allowances a.0)) NameTwice (record r { allowances = r.allowances ++ a ∷ [] })) h

some_none : {A : Type 0} (o : Option A) → is_some o ≡ true → is_none o ≡ false
some_none None e = absurd (cc e)
some_none (Some a) e = refl

allow_by : (r : model.Rules) (n : ℕ) (text : List ℕ) (fs : List (List ℕ)) (a : List ℕ × ℕ) (b : Bool) → name_and_amount fs ≡ Ok a → is_none (lookup r.allowances a.0) ≡ b
    → with_rule r n text AllowWord fs ≡ only_if b NameTwice (record r { allowances = r.allowances ++ a ∷ [] })
allow_by r n text fs a b h e =
    allow_rule r n text fs ∙ ap (λ x. x >>= λ a. only_if (is_none (lookup r.allowances a.0)) NameTwice (record r { allowances = r.allowances ++ a ∷ [] })) h
    ∙ ap (λ b. only_if b NameTwice (record r { allowances = r.allowances ++ a ∷ [] })) e

-- a name that is there
pub allow_twice : (ms : List Move) (held : List Allowance) (os : List OnRule) (r : model.Rules) (n : ℕ) (text name : List ℕ) (amount i : ℕ) (fs : List (List ℕ)) → name_and_amount fs ≡ Ok (name, amount)
    → place_of (allowance_values held) name ≡ Some i → AreRuleLists ms held os r → with_rule r n text AllowWord fs ≡ Err NameTwice
allow_twice ms held os r n text name amount i fs h e are =
    let f : place_of r.allowances name ≡ Some i = subst (λ (a : List (List ℕ × ℕ)). place_of a name ≡ Some i) are.allowances e in
    allow_by r n text fs (name, amount) false h (some_none (lookup r.allowances name) (place_some r.allowances name i f))

-- an allowance that is added
pub allow_added : (ms : List Move) (held more : List Allowance) (os : List OnRule) (r : model.Rules) (n : ℕ) (text : List ℕ) (a : Allowance) (fs : List (List ℕ)) → more ≡ held ++ a ∷ [] → name_and_amount fs ≡ Ok (a.name.now, a.amount)
    → place_of (allowance_values held) a.name.now ≡ None → AreRuleLists ms held os r → AreListsRead ms more os (with_rule r n text AllowWord fs)
allow_added ms held more os r n text a fs e h p are =
    let f : lookup r.allowances a.name.now ≡ None = place_none r.allowances a.name.now (subst (λ (v : List (List ℕ × ℕ)). place_of v a.name.now ≡ None) are.allowances p) in
    subst (λ (l : List Allowance). AreListsRead ms l os (with_rule r n text AllowWord fs)) (sym e)
    (subst (λ x. AreListsRead ms (held ++ a ∷ []) os x) (sym (allow_by r n text fs (a.name.now, a.amount) true h (ap is_none f))) (allowances_more ms held os r a f are))

-- the same by whether it has a place
pub allow_there : (ms : List Move) (held : List Allowance) (os : List OnRule) (r : model.Rules) (n : ℕ) (text name : List ℕ) (amount : ℕ) (o : Option ℕ) (fs : List (List ℕ)) → name_and_amount fs ≡ Ok (name, amount)
    → o ≡ place_of (allowance_values held) name → is_some o ≡ true → AreRuleLists ms held os r → with_rule r n text AllowWord fs ≡ Err NameTwice
allow_there ms held os r n text name amount None fs h e s are = absurd (cc s)
allow_there ms held os r n text name amount (Some i) fs h e s are = allow_twice ms held os r n text name amount i fs h (sym e) are

pub allow_new : (ms : List Move) (held more : List Allowance) (os : List OnRule) (r : model.Rules) (n : ℕ) (text : List ℕ) (a : Allowance) (o : Option ℕ) (fs : List (List ℕ)) → more ≡ held ++ a ∷ [] → name_and_amount fs ≡ Ok (a.name.now, a.amount)
    → o ≡ place_of (allowance_values held) a.name.now → is_some o ≡ false → AreRuleLists ms held os r → AreListsRead ms more os (with_rule r n text AllowWord fs)
allow_new ms held more os r n text a None fs e h p s are = allow_added ms held more os r n text a fs e h (sym p) are
allow_new ms held more os r n text a (Some i) fs e h p s are = absurd (cc s)
