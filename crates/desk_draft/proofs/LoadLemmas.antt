-- The lines of a deck and the sections of a draft by their names.
use Rattle.std.proofs.Common.{◌≡◌, ℕ, zero, suc, ◌+◌, ◌-◌, ◌<◌, ◌≤◌, Bool, true, false, cond, List, [], ◌∷◌, ◌++◌, length, take, drop, Bor, Option, Some, None, refl, sym, ap, subst, ◌∙◌, append_assoc, append-nil, get_or, arith}
use Rattle.std.specs.Prelude.{bytes_eq, ◌==◌, map, option_map, slice_get}
use Rattle.std.specs.Ordering.{is_eq, nat_cmp}
use Rattle.std.specs.Cmp.Lexicographic.{slice_cmp}
use Rattle.std.proofs.lemmas.Map.Text.{is_eq-slice_cmp}
use Rattle.std.proofs.lemmas.List.{drop_more}
use Rattle.mc_text.specs.model_device.specs.Bytes.{or_else}
use Rattle.mc_text.specs.model_device.proofs.MapLemmas.{same_name}
use Rattle.mc_text.specs.model_text.specs.Text.{lines, with_numbers}
use Rattle.mc_text.specs.Reading.{next_line}
use Rattle.mc_text.proofs.ReadingLemmas.{lines_at, lines_from}
use Rattle.mc_asm.specs.Items.{texts}
use Rattle.desk_draft.specs.declared.source.Source.{Source as CodeSource}
use Rattle.desk_draft.specs.Sources.{source_value}
use Rattle.desk_draft.specs.Listings.{Source}
use Rattle.desk_draft.specs.Verdicts.{line_text, numbered_text, second_field, source_named}

-- ---- the lines of a text

lines_none : (t : List ℕ) → None ≡ next_line t → lines t ≡ []
lines_none t e = lines_at t ∙ ap lines_from (sym e)

lines_some : (t l b : List ℕ) → Some (l, b) ≡ next_line t → lines t ≡ l ∷ lines b
lines_some t l b e = lines_at t ∙ ap lines_from (sym e)

-- one more line
pub lines_more : (so new whole : List (List ℕ)) (t l b : List ℕ) → Some (l, b) ≡ next_line t → new ≡ so ++ l ∷ [] → so ++ lines t ≡ whole → new ++ lines b ≡ whole
lines_more so new whole t l b e h k = ap (λ x. x ++ lines b) h ∙ append_assoc so (l ∷ []) (lines b) ∙ ap (λ x. so ++ x) (sym (lines_some t l b e)) ∙ k

-- after the last line
pub lines_done : (so whole : List (List ℕ)) (t : List ℕ) → None ≡ next_line t → so ++ lines t ≡ whole → so ≡ whole
lines_done so whole t e k = sym (append-nil so) ∙ ap (λ x. so ++ x) (sym (lines_none t e)) ∙ k

pub texts_more : (ls : List (Bor (List ℕ))) (l : Bor (List ℕ)) → texts (ls ++ l ∷ []) ≡ texts ls ++ l.now ∷ []
texts_more [] l = refl
texts_more (k ∷ ls) l = ap (λ x. k.now ∷ x) (texts_more ls l)

-- ---- the line with a number

late : (ls : List (List ℕ)) (k n : ℕ) → n < k → numbered_text (with_numbers k ls) n ≡ []
late [] k n h = refl
late (l ∷ ls) k n h =
    let other : (k == n) ≡ false = grind (arith, h) in
    ap (λ b. cond b l (numbered_text (with_numbers (suc k) ls) n)) other ∙ late ls (suc k) n (omega (arith, h))

numbered_from : (ls : List (List ℕ)) (k i : ℕ) → numbered_text (with_numbers k ls) (k + i) ≡ get_or ls i []
numbered_from [] k i = refl
numbered_from (l ∷ ls) k zero =
    let same : (k == k + 0) ≡ true = grind arith in
    ap (λ b. cond b l (numbered_text (with_numbers (suc k) ls) (k + 0))) same
numbered_from (l ∷ ls) k (suc i) =
    let other : (k == k + suc i) ≡ false = grind arith in
    let next : k + suc i ≡ suc k + i = omega arith in
    ap (λ b. cond b l (numbered_text (with_numbers (suc k) ls) (k + suc i))) other
    ∙ ap (numbered_text (with_numbers (suc k) ls)) next ∙ numbered_from ls (suc k) i

beyond : (ls : List (List ℕ)) (i : ℕ) → length ls ≤ i → get_or ls i [] ≡ []
beyond [] i h = refl
beyond (l ∷ ls) zero h = absurd (omega (arith, h))
beyond (l ∷ ls) (suc i) h = beyond ls i (omega (arith, h))

-- there is no line 0
pub no_line_zero : (deck : List ℕ) (n : ℕ) → n ≡ 0 → [] ≡ line_text deck n
no_line_zero deck n e = sym (ap (line_text deck) e ∙ late (lines deck) 1 0 (omega arith))

texts_length : (ls : List (Bor (List ℕ))) → length (texts ls) ≡ length ls
texts_length [] = refl
texts_length (l ∷ ls) = ap suc (texts_length ls)

-- there is no line past the last
pub no_line_past : (ls : List (Bor (List ℕ))) (deck : List ℕ) (n : ℕ) → texts ls ≡ lines deck → length ls < n → [] ≡ line_text deck n
no_line_past ls deck n e h =
    let next : n ≡ 1 + (n - 1) = omega (arith, h) in
    let few : length (lines deck) ≤ n - 1 = omega (arith, h, ap length (sym e) ∙ texts_length ls) in
    sym (ap (line_text deck) next ∙ numbered_from (lines deck) 1 (n - 1) ∙ beyond (lines deck) (n - 1) few)

text_there : (ls : List (Bor (List ℕ))) (i : ℕ) (t : List ℕ) → option_map (λ (t : Bor (List ℕ)). t.now) (slice_get ls i) ≡ Some t → t ≡ get_or (texts ls) i []
text_there [] i t h = absurd (cc h)
text_there (l ∷ ls) zero t h = let e : l.now ≡ t = cc h in sym e
text_there (l ∷ ls) (suc i) t h = text_there ls i t h

-- the line with a number
pub line_there : (ls : List (Bor (List ℕ))) (deck : List ℕ) (n : ℕ) (t : List ℕ) → texts ls ≡ lines deck → 0 < n → option_map (λ (t : Bor (List ℕ)). t.now) (slice_get ls (n - 1)) ≡ Some t → t ≡ line_text deck n
line_there ls deck n t e h k =
    let next : n ≡ 1 + (n - 1) = omega (arith, h) in
    text_there ls (n - 1) t k ∙ ap (λ (x : List (List ℕ)). get_or x (n - 1) []) e ∙ sym (ap (line_text deck) next ∙ numbered_from (lines deck) 1 (n - 1))

-- the first five fields have the second
second_by : (ts : List (List ℕ)) → second_field (take 5 ts) ≡ second_field ts
second_by [] = refl
second_by (a ∷ []) = refl
second_by (a ∷ b ∷ ts) = refl

pub second_five : (fs ts : List (List ℕ)) → fs ≡ take 5 ts → second_field fs ≡ second_field ts
second_five fs ts e = ap second_field e ∙ second_by ts

-- ---- sections by their names

abbrev Found : Type 0
Found = Option Source

-- the section that was found in a map
abbrev value_of : Option (Bor CodeSource) → Found
value_of o = option_map (λ (s : Bor CodeSource). source_value s.now) o

or_none : (r : Found) → or_else r None ≡ r
or_none (Some x) = refl
or_none None = refl

first_by : (b : Bool) (z : Source) (r s : Found) → cond b (Some z) (or_else r s) ≡ or_else (cond b (Some z) r) s
first_by true z r s = refl
first_by false z r s = refl

-- a section after the others
named_last : (l : List Source) (q : List ℕ) (z : Source) → source_named (l ++ z ∷ []) q ≡ or_else (source_named l q) (cond (bytes_eq z.name q) (Some z) None)
named_last [] q z = refl
named_last (x ∷ l) q z = ap (cond (bytes_eq x.name q) (Some x)) (named_last l q z) ∙ first_by (bytes_eq x.name q) x (source_named l q) (cond (bytes_eq z.name q) (Some z) None)

some_first : (r s : Found) (y : Source) → Some y ≡ r → or_else r s ≡ r
some_first (Some x) s y h = refl
some_first None s y h = absurd (cc h)

there_by : (l : List Source) (q : List ℕ) (z y : Source) (b : Bool) → bytes_eq z.name q ≡ b → Some y ≡ source_named l z.name → or_else (source_named l q) (cond b (Some z) None) ≡ source_named l q
there_by l q z y true e h = some_first (source_named l q) (Some z) y (h ∙ ap (source_named l) (same_name z.name q e))
there_by l q z y false e h = or_none (source_named l q)

-- an earlier section has the name
pub source_there : (l : List Source) (q : List ℕ) (z y : Source) (o : Found) → Some y ≡ source_named l z.name → o ≡ source_named l q → o ≡ source_named (l ++ z ∷ []) q
source_there l q z y o h e = e ∙ sym (named_last l q z ∙ there_by l q z y (bytes_eq z.name q) refl h)

new_by : (l : List Source) (n q : List ℕ) (s : Bor CodeSource) (o : Option (Bor CodeSource)) (b : Bool) → bytes_eq n q ≡ b → None ≡ source_named l n → value_of o ≡ source_named l q
    → value_of (cond b (Some s) o) ≡ or_else (source_named l q) (cond b (Some (source_value s.now)) None)
new_by l n q s o true e h f =
    let i : None ≡ source_named l q = h ∙ ap (source_named l) (same_name n q e) in
    subst (λ (r : Found). Some (source_value s.now) ≡ or_else r (Some (source_value s.now))) i refl
new_by l n q s o false e h f = f ∙ sym (or_none (source_named l q))

-- a section whose name is new
pub source_new : (l : List Source) (n q : List ℕ) (s : Bor CodeSource) (o m : Option (Bor CodeSource)) → (source_value s.now).name ≡ n → m ≡ cond (is_eq (slice_cmp nat_cmp n q)) (Some s) o → None ≡ source_named l n → value_of o ≡ source_named l q
    → value_of m ≡ source_named (l ++ source_value s.now ∷ []) q
source_new l n q s o m i e h f =
    let last = named_last l q (source_value s.now) ∙ ap (λ x. or_else (source_named l q) (cond (bytes_eq x q) (Some (source_value s.now)) None)) i in
    rw (e, is_eq-slice_cmp n q) (new_by l n q s o (bytes_eq n q) refl h f ∙ sym last)

-- the section at an index, after those before it
pub named_more : (so whole : List Source) (ss : List CodeSource) (i : ℕ) (s : CodeSource) → i < length ss → s ≡ get_or ss i s → so ++ map source_value (drop i ss) ≡ whole → (so ++ source_value s ∷ []) ++ map source_value (drop (i + 1) ss) ≡ whole
named_more so whole ss i s h k e =
    append_assoc so (source_value s ∷ []) (map source_value (drop (i + 1) ss))
    ∙ ap (λ x. so ++ (source_value x ∷ map source_value (drop (i + 1) ss))) k
    ∙ ap (λ x. so ++ map source_value x) (sym (drop_more ss i s h)) ∙ e
