-- Operations digit by digit: ways of the code and of the definition.
use Rattle.std.specs.Prelude.{◌≡◌, ℕ, ◌+◌, ◌<◌, Bool, true, false, cond, not, ◌&&◌, List, [], ◌∷◌, ◌++◌, length, drop, get_or, map, flat_map, reverse, Option, Some, None, refl}
use Rattle.std.proofs.Common.{arith, ap, sym, ◌∙◌, append_assoc}
use Rattle.std.proofs.lemmas.List.{append-nil, drop_more, map-append}
use Rattle.std.proofs.lemmas.Grind.{flat_map-append}
use Rattle.prove_facts.specs.model_prove.specs.Sets.{Set}
use Rattle.prove_facts.specs.model_prove.specs.Facts.{Facts, values_from}
use Rattle.prove_facts.specs.model_prove.specs.Digits.{Flags, Digits, arcs, digits_to, Arc}
use Rattle.prove_facts.specs.model_prove.specs.Work.{Digitwise}
use Rattle.prove_facts.specs.model_prove.specs.Steps as steps
use Rattle.prove_digits.specs.declared.digits.Way.{Way}
use Rattle.prove_digits.specs.Ways.{digits_of, way_value, way_if, ways_found}
use Rattle.prove_facts.specs.declared.values.Values.{Values}
use Rattle.prove_facts.specs.Sets.{set_of}
use Rattle.prove_works.specs.Numbers.{flags_of}
use Rattle.prove_works.specs.Searches.{sets_of}
use Rattle.prove_works.specs.Narrowing.{sets_narrowed}
use Rattle.prove_works.specs.Rows.{IsEven, narrowed_spot, worked_if, sets_worked, way_spots}

abbrev Spots : Type 0
Spots = List steps.Spot

-- ---- one way

first_sets : (xs ys rs : List Values) → length xs ≡ length ys → length xs ≡ length rs → map (λ e. e.a) (digits_of xs ys rs) ≡ sets_of xs
first_sets [] ys rs e f = refl
first_sets (x ∷ xs) [] rs e f = absurd (omega (arith, e))
first_sets (x ∷ xs) (y ∷ ys) [] e f = absurd (omega (arith, f))
first_sets (x ∷ xs) (y ∷ ys) (r ∷ rs) e f = ap (λ (l : List Set). set_of x ∷ l) (first_sets xs ys rs (omega (arith, e)) (omega (arith, f)))

second_sets : (xs ys rs : List Values) → length xs ≡ length ys → length xs ≡ length rs → map (λ e. e.b) (digits_of xs ys rs) ≡ sets_of ys
second_sets [] [] rs e f = refl
second_sets [] (y ∷ ys) rs e f = absurd (omega (arith, e))
second_sets (x ∷ xs) [] rs e f = absurd (omega (arith, e))
second_sets (x ∷ xs) (y ∷ ys) [] e f = absurd (omega (arith, f))
second_sets (x ∷ xs) (y ∷ ys) (r ∷ rs) e f = ap (λ (l : List Set). set_of y ∷ l) (second_sets xs ys rs (omega (arith, e)) (omega (arith, f)))

result_sets : (xs ys rs : List Values) → length xs ≡ length ys → length xs ≡ length rs → map (λ e. e.r) (digits_of xs ys rs) ≡ sets_of rs
result_sets [] ys [] e f = refl
result_sets [] ys (r ∷ rs) e f = absurd (omega (arith, f))
result_sets (x ∷ xs) [] rs e f = absurd (omega (arith, e))
result_sets (x ∷ xs) (y ∷ ys) [] e f = absurd (omega (arith, f))
result_sets (x ∷ xs) (y ∷ ys) (r ∷ rs) e f = ap (λ (l : List Set). set_of r ∷ l) (result_sets xs ys rs (omega (arith, e)) (omega (arith, f)))

either_alone : (b : Bool) (p q : steps.Spot) → cond b (p ∷ []) (q ∷ []) ≡ cond b p q ∷ []
either_alone true p q = refl
either_alone false p q = refl

worked_is : (d : Digitwise) (f : Flags) (ds : List Digits) (o : Option Facts) (p : steps.Spot) → steps.worked_at d f ds o p ≡ worked_if d f (map (λ e. e.r) ds) o p
worked_is d f ds None p = refl
worked_is d f ds (Some facts) p =
    either_alone d.written (steps.written d.at (map (λ e. e.r) ds) (steps.with_facts p facts)) (narrowed_spot facts (steps.compare_after d f p.known.compare) p)

-- the places along a way are those of its sets
pub way_worked : (d : Digitwise) (f : Flags) (w : Way) (p : steps.Spot) → IsEven w
    → sets_worked d f (sets_of w.x.items) (sets_of w.y.items) (sets_of w.r.items) p
    ≡ steps.worked_at d f (digits_of w.x.items w.y.items w.r.items) (steps.narrowed_operands d (digits_of w.x.items w.y.items w.r.items) p.known.bytes) p
way_worked d f w p h =
    let ds = digits_of w.x.items w.y.items w.r.items in
    sym (worked_is d f ds (steps.narrowed_operands d ds p.known.bytes) p
    ∙ ap (λ (xs : List Set). worked_if d f (map (λ e. e.r) ds) (sets_narrowed d xs (map (λ e. e.b) ds) p.known.bytes) p) (first_sets w.x.items w.y.items w.r.items h.0 h.1)
    ∙ ap (λ (ys : List Set). worked_if d f (map (λ e. e.r) ds) (sets_narrowed d (sets_of w.x.items) ys p.known.bytes) p) (second_sets w.x.items w.y.items w.r.items h.0 h.1)
    ∙ ap (λ (rs : List Set). worked_if d f rs (sets_narrowed d (sets_of w.x.items) (sets_of w.y.items) p.known.bytes) p) (result_sets w.x.items w.y.items w.r.items h.0 h.1))

pub when_true : (b : Bool) (r p q : steps.Spot) → b ≡ true → r ≡ p → r ≡ cond b p q
when_true true r p q h e = e
when_true false r p q h e = absurd (cc h)

pub when_false : (b : Bool) (r p q : steps.Spot) → b ≡ false → r ≡ q → r ≡ cond b p q
when_false false r p q h e = e
when_false true r p q h e = absurd (cc h)

allowed_if : (b c : Bool) (n : Spots) → b ≡ false → c ≡ true → n ≡ cond b [] (cond c n [])
allowed_if false true n h i = refl
allowed_if true c n h i = absurd (cc h)
allowed_if false false n h i = absurd (cc i)

-- those that are
pub way_allowed : (d : Digitwise) (dt : ℕ) (p : steps.Spot) (w : Way) (old new : Spots) → IsEven w → (not d.carries && w.c) ≡ false
    → true ≡ steps.allows p.known.compare d d.operand (flags_of w.c w.z)
    → new ≡ old ++ map (steps.lowered dt) (map (steps.flagged d.carries (flags_of w.c w.z)) (sets_worked d (flags_of w.c w.z) (sets_of w.x.items) (sets_of w.y.items) (sets_of w.r.items) p))
    → new ≡ old ++ way_spots d dt p (way_value w)
way_allowed d dt p w old new even carry h n =
    n
    ∙ ap (λ (t : Spots). old ++ map (steps.lowered dt) (map (steps.flagged d.carries (flags_of w.c w.z)) t)) (way_worked d (flags_of w.c w.z) w p even)
    ∙ ap (λ (t : Spots). old ++ t) (allowed_if (not d.carries && w.c) (steps.allows p.known.compare d d.operand (flags_of w.c w.z)) _ carry (sym h))

-- ---- all ways

-- one more way
pub along_next : (f : Flags × List Digits → Spots) (l : List Way) (i : ℕ) (d : Way) (old new all : Spots) → i < length l
    → new ≡ old ++ f (way_value (get_or l i d))
    → old ++ flat_map f (map way_value (drop i l)) ≡ all
    → new ++ flat_map f (map way_value (drop (i + 1) l)) ≡ all
along_next f l i d old new all h n e =
    ap (λ (t : Spots). t ++ flat_map f (map way_value (drop (i + 1) l))) n
    ∙ append_assoc old (f (way_value (get_or l i d))) (flat_map f (map way_value (drop (i + 1) l)))
    ∙ ap (λ (t : List Way). old ++ flat_map f (map way_value t)) (sym (drop_more l i d h))
    ∙ e

no_way : (b c : Bool) (dt : ℕ) (k : Bool) (f : Flags) → [] ≡ cond b [] (map (steps.lowered dt) (cond c (map (steps.flagged k f) []) []))
no_way true c dt k f = refl
no_way false true dt k f = refl
no_way false false dt k f = refl

some_way : (b c : Bool) (dt : ℕ) (n : Spots) → cond b [] (cond c (map (steps.lowered dt) n) []) ++ [] ≡ cond b [] (map (steps.lowered dt) (cond c n []))
some_way true c dt n = refl
some_way false true dt n = append-nil (map (steps.lowered dt) n)
some_way false false dt n = refl

-- the places with some final flags, with DT at most a number
abbrev flag_spots : Digitwise → steps.Spot → List (List Arc) → Flags → Spots
flag_spots d p lists f = cond (steps.allows p.known.compare d d.operand f) (map (steps.flagged d.carries f) (steps.worked d f (digits_to f lists) p)) []

one_flag : (d : Digitwise) (dt : ℕ) (p : steps.Spot) (f : Flags) (o : Option (List Digits))
    → flat_map (way_spots d dt p) (way_if f o)
    ≡ cond (not d.carries && f.c) [] (map (steps.lowered dt) (cond (steps.allows p.known.compare d d.operand f) (map (steps.flagged d.carries f) (steps.worked d f o p)) []))
one_flag d dt p f None = no_way (not d.carries && f.c) (steps.allows p.known.compare d d.operand f) dt d.carries f
one_flag d dt p f (Some ds) =
    some_way (not d.carries && f.c) (steps.allows p.known.compare d d.operand f) dt
    (map (steps.flagged d.carries f) (steps.worked_at d f (reverse ds) (steps.narrowed_operands d (reverse ds) p.known.bytes) p))

four_parts : (f : Flags × List Digits → Spots) (a b c d : List (Flags × List Digits))
    → flat_map f (a ++ (b ++ (c ++ (d ++ [])))) ≡ flat_map f a ++ (flat_map f b ++ (flat_map f c ++ (flat_map f d ++ [])))
four_parts f a b c d =
    flat_map-append f a (b ++ (c ++ (d ++ [])))
    ∙ ap (λ (t : Spots). flat_map f a ++ t) (flat_map-append f b (c ++ (d ++ []))
    ∙ ap (λ (t : Spots). flat_map f b ++ t) (flat_map-append f c (d ++ [])
    ∙ ap (λ (t : Spots). flat_map f c ++ t) (flat_map-append f d [])))

map_four : (g : steps.Spot → steps.Spot) (a b c d : Spots) → map g (a ++ (b ++ (c ++ (d ++ [])))) ≡ map g a ++ (map g b ++ (map g c ++ (map g d ++ [])))
map_four g a b c d =
    map-append g a (b ++ (c ++ (d ++ [])))
    ∙ ap (λ (t : Spots). map g a ++ t) (map-append g b (c ++ (d ++ []))
    ∙ ap (λ (t : Spots). map g b ++ t) (map-append g c (d ++ [])
    ∙ ap (λ (t : Spots). map g c ++ t) (map-append g d [])))

map_two : (g : steps.Spot → steps.Spot) (a b : Spots) → map g (a ++ (b ++ [])) ≡ map g a ++ (map g b ++ [])
map_two g a b = map-append g a (b ++ []) ∙ ap (λ (t : Spots). map g a ++ t) (map-append g b [])

by_flags : (k : Bool) (g : steps.Spot → steps.Spot) (h : Flags → Spots)
    → cond (not k && false) [] (map g (h (flags_of false false))) ++ (cond (not k && false) [] (map g (h (flags_of false true)))
    ++ (cond (not k && true) [] (map g (h (flags_of true false))) ++ (cond (not k && true) [] (map g (h (flags_of true true))) ++ [])))
    ≡ map g (flat_map h (steps.final_flags k))
by_flags true g h = sym (map_four g (h (flags_of false false)) (h (flags_of false true)) (h (flags_of true false)) (h (flags_of true true)))
by_flags false g h = sym (map_two g (h (flags_of false false)) (h (flags_of false true)))

abbrev both : Spots → Spots → Spots → Spots → Spots
both a b c d = a ++ (b ++ (c ++ (d ++ [])))

-- the ways lead to the places of the definition
pub works_is : (d : Digitwise) (dt : ℕ) (p : steps.Spot)
    → flat_map (way_spots d dt p) (ways_found d.op (steps.pairs_of (values_from p.known.bytes d.at d.n) (steps.operand_sets p.known.bytes d.operand d.n)))
    ≡ map (steps.lowered dt) (steps.works_to d p)
works_is d dt p =
    let lists = map (arcs d.op) (reverse (steps.pairs_of (values_from p.known.bytes d.at d.n) (steps.operand_sets p.known.bytes d.operand d.n))) in
    let way = λ (f : Flags). way_if f (digits_to f lists) in
    let k = λ (f : Flags). cond (not d.carries && f.c) [] (map (steps.lowered dt) (flag_spots d p lists f)) in
    let e = λ (f : Flags). one_flag d dt p f (digits_to f lists) in
    let ff = flags_of false false in
    let ft = flags_of false true in
    let tf = flags_of true false in
    let last = flags_of true true in
    four_parts (way_spots d dt p) (way ff) (way ft) (way tf) (way last)
    ∙ ap (λ (t : Spots). both t (flat_map (way_spots d dt p) (way ft)) (flat_map (way_spots d dt p) (way tf)) (flat_map (way_spots d dt p) (way last))) (e ff)
    ∙ ap (λ (t : Spots). both (k ff) t (flat_map (way_spots d dt p) (way tf)) (flat_map (way_spots d dt p) (way last))) (e ft)
    ∙ ap (λ (t : Spots). both (k ff) (k ft) t (flat_map (way_spots d dt p) (way last))) (e tf)
    ∙ ap (λ (t : Spots). both (k ff) (k ft) (k tf) t) (e last)
    ∙ by_flags d.carries (steps.lowered dt) (flag_spots d p lists)
