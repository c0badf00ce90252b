-- Each command that reaches an application is in a class: one whose lines match it, and whose header has its bytes.
use Rattle.std.proofs.Common.{◌≡◌, ◌⊎◌, inl, inr, ℕ, zero, suc, ◌<◌, ◌≤◌, Bool, true, false, cond, List, [], ◌∷◌, ◌++◌, length, refl, sym, ap, subst, ◌∙◌, arith}
use Rattle.std.specs.Prelude.{⊤, not, ◌&&◌, ◌==◌, map, flat_map}
use Rattle.std.proofs.lemmas.Bool.{or_cases, eqb-true, eq-eqb}
use Rattle.law_prove.specs.model_text.specs.Listing.{hex_text}
use Rattle.law_prove.specs.model_rules.specs.model_events.specs.Matching.{fits}
use Rattle.law_prove.specs.model_prove.specs.Sets.{Set, is_in, all_bytes, with_value}
use Rattle.law_prove.specs.model_prove.specs.Digits.{same}
use Rattle.law_prove.specs.model_prove.specs.Keys.{same_lists}
use Rattle.law_prove.specs.model_prove.specs.Texts.{Opens, opened, all_after, same_opens, after_any, any_count, matches_of}
use Rattle.law_prove.specs.model_prove.specs.Between.{Header, apdu_patterns, classes, with_left, by_left, with_header_byte, all_but, headers, Class, union_all, with_class, with_classes, classes_of}
use Rattle.law_prove.specs.model_prove.specs.Laws.{Among}
use Rattle.law_prove.specs.model_prove.proofs.SetLemmas.{new_is_in, old_is_in, in_first, in_second, is_kept, is_byte, is_first}
use Rattle.law_prove.specs.Coverings.{class_of}
use Rattle.law_prove.proofs.Keys.{same_is, lists_are}
use Rattle.law_prove.proofs.Seen.{FitSets, fit_length}
use Rattle.law_prove_closed.specs.CommandLaws.{HasClass, ClassLaw}
use Rattle.law_prove_closed.proofs.Routes.{Reaches, reached, IsRead, read_of}
use Rattle.law_prove_closed.proofs.Opens.{opens_are, hex_first, any_after, matches_are}
use Rattle.law_prove.proofs.Worked.{fit_last}

-- ---- the values of a byte, by what they leave

-- values are put to what they leave
abbrev HasLeft : Opens → ℕ → List (Opens × Set) → Type 0
HasLeft o v [] = ⊥
HasLeft o v (g ∷ gs) = ((g.0 ≡ o) × (is_in v g.1 ≡ true)) ⊎ HasLeft o v gs

put_left : (b : Bool) (v : ℕ) (o : Opens) (g : Opens × Set) (gs rest : List (Opens × Set)) → same_opens g.0 o ≡ b → HasLeft o v rest → HasLeft o v (cond b ((g.0, with_value v g.1) ∷ gs) (g ∷ rest))
put_left true v o g gs rest e h = inl (opens_are g.0 o e, new_is_in v g.1)
put_left false v o g gs rest e h = inr h

new_left : (v : ℕ) (o : Opens) (gs : List (Opens × Set)) → HasLeft o v (with_left v o gs)
new_left v o [] = inl (refl, is_first v [])
new_left v o (g ∷ gs) = put_left (same_opens g.0 o) v o g gs (with_left v o gs) refl (new_left v o gs)

kept_left : (b : Bool) (v w : ℕ) (p : Opens) (g : Opens × Set) (gs rest : List (Opens × Set)) → HasLeft p w (g ∷ gs) → (HasLeft p w gs → HasLeft p w rest) → HasLeft p w (cond b ((g.0, with_value v g.1) ∷ gs) (g ∷ rest))
kept_left b v w p g gs rest h k = grind (arith, old_is_in)

old_left : (v w : ℕ) (o p : Opens) (gs : List (Opens × Set)) → HasLeft p w gs → HasLeft p w (with_left v o gs)
old_left v w o p [] h = absurd h
old_left v w o p (g ∷ gs) h = kept_left (same_opens g.0 o) v w p g gs (with_left v o gs) h (λ more. old_left v w o p gs more)

left_of : (o : Opens) (v : ℕ) (s : Set) → is_in v s ≡ true → HasLeft (all_after (hex_text (v ∷ [])) o) v (by_left o s)
left_of o v [] h = absurd (cc h)
left_of o v (x ∷ s) h =
    elim (or_cases (x == v) (is_in v s) h) [
      | inl same ↦ subst (λ (z : ℕ). HasLeft (all_after (hex_text (z ∷ [])) o) z (with_left x (all_after (hex_text (x ∷ [])) o) (by_left o s))) (eqb-true x v same) (new_left x (all_after (hex_text (x ∷ [])) o) (by_left o s))
      | inr more ↦ old_left x v (all_after (hex_text (x ∷ [])) o) (all_after (hex_text (v ∷ [])) o) (by_left o s) (left_of o v s more)
    ]

-- ---- headers

-- among headers is one with these bytes, which leave this of the patterns
abbrev HasHeader : Opens → List ℕ → List Header → Type 0
HasHeader o bs [] = ⊥
HasHeader o bs (h ∷ hs) = ((h.left ≡ o) × FitSets bs h.sets) ⊎ HasHeader o bs hs

header_first : (o : Opens) (bs : List ℕ) (xs ys : List Header) → HasHeader o bs xs → HasHeader o bs (xs ++ ys)
header_first o bs [] ys h = absurd h
header_first o bs (x ∷ xs) ys h =
    elim h [
      | inl e ↦ inl e
      | inr more ↦ inr (header_first o bs xs ys more)
    ]

header_second : (o : Opens) (bs : List ℕ) (xs ys : List Header) → HasHeader o bs ys → HasHeader o bs (xs ++ ys)
header_second o bs [] ys h = h
header_second o bs (x ∷ xs) ys h = inr (header_second o bs xs ys h)

each_left : (o : Opens) (bs : List ℕ) (v : ℕ) (ss : List Set) (gs : List (Opens × Set)) → FitSets bs ss → HasLeft o v gs → HasHeader o (bs ++ v ∷ []) (map (λ g. record { left = g.0; sets = ss ++ g.1 ∷ [] }) gs)
each_left o bs v ss [] are h = absurd h
each_left o bs v ss (g ∷ gs) are h =
    elim h [
      | inl e ↦ inl (e.0, fit_last bs ss v g.1 are e.1)
      | inr more ↦ inr (each_left o bs v ss gs are more)
    ]

byte_header : (o : Opens) (bs : List ℕ) (v : ℕ) (s : Set) (hs : List Header) → HasHeader o bs hs → is_in v s ≡ true → HasHeader (all_after (hex_text (v ∷ [])) o) (bs ++ v ∷ []) (flat_map (with_header_byte s) hs)
byte_header o bs v s [] h e = absurd h
byte_header o bs v s (x ∷ hs) h e =
    let next = all_after (hex_text (v ∷ [])) o in
    elim h [
      | inl is ↦ header_first next (bs ++ v ∷ []) (with_header_byte s x) (flat_map (with_header_byte s) hs)
          (each_left next bs v x.sets (by_left x.left s) is.1 (subst (λ (z : Opens). HasLeft (all_after (hex_text (v ∷ [])) z) v (by_left x.left s)) is.0 (left_of x.left v s e)))
      | inr more ↦ header_second next (bs ++ v ∷ []) (with_header_byte s x) (flat_map (with_header_byte s) hs) (byte_header o bs v s hs more e)
    ]

-- a value that is none of some
other_value : (v : ℕ) (vs : List ℕ) → v < 256 → is_in v vs ≡ false → is_in v (all_but vs) ≡ true
other_value v vs low e = is_kept (λ w. not (is_in w vs)) v all_bytes (is_byte v low) (ap (λ (b : Bool). not b) e)

-- a value is none of some if it is neither the first nor one of the rest
none_first : (v w : ℕ) (ws : List ℕ) → (v == w) ≡ false → is_in v ws ≡ false → is_in v (w ∷ ws) ≡ false
none_first v w ws e f = grind (arith, eq-eqb, eqb-true)

-- what a header leaves of patterns, byte by byte
abbrev left_after : Opens → ℕ → ℕ → ℕ → ℕ → Opens
left_after o a b c d = all_after (hex_text (d ∷ [])) (all_after (hex_text (c ∷ [])) (all_after (hex_text (b ∷ [])) (all_after (hex_text (a ∷ [])) o)))

module _ (ps : List (List ℕ)) (cla ins p1 p2 : ℕ) (bytes : (cla < 256) × (ins < 256) × (p1 < 256) × (p2 < 256)) where
  abbrev first_header : Header
  first_header = record { left = map opened ps; sets = [] }

  abbrev after_class : Opens
  after_class = all_after (hex_text (cla ∷ [])) (map opened ps)

  abbrev after_ins : Opens
  after_ins = all_after (hex_text (ins ∷ [])) after_class

  abbrev after_p1 : Opens
  after_p1 = all_after (hex_text (p1 ∷ [])) after_ins

  abbrev zero_class : List Header
  zero_class = with_header_byte (0 ∷ []) first_header

  abbrev other_class : List Header
  other_class = with_header_byte (all_but (0 ∷ 0xBE ∷ 0xFF ∷ [])) first_header

  class_header : (s : Set) → is_in cla s ≡ true → HasHeader after_class (cla ∷ []) (with_header_byte s first_header)
  class_header s e = each_left after_class [] cla [] (by_left (map opened ps) s) tt (left_of (map opened ps) cla s e)

  abbrev select_headers : List Header
  select_headers = flat_map (with_header_byte (all_but (4 ∷ []))) (flat_map (with_header_byte (0xA4 ∷ [])) zero_class)

  abbrev plain_headers : List Header
  plain_headers = flat_map (with_header_byte (all_but (0xA4 ∷ []))) zero_class ++ flat_map (with_header_byte all_bytes) other_class

  abbrev IsThere : Type 0
  IsThere = HasHeader after_p1 (cla ∷ ins ∷ p1 ∷ []) (select_headers ++ flat_map (with_header_byte all_bytes) plain_headers)

  by_plain : HasHeader after_ins (cla ∷ ins ∷ []) plain_headers → IsThere
  by_plain h =
      header_second after_p1 (cla ∷ ins ∷ p1 ∷ []) select_headers (flat_map (with_header_byte all_bytes) plain_headers)
      (byte_header after_ins (cla ∷ ins ∷ []) p1 all_bytes plain_headers h (is_byte p1 bytes.2))

  single : (v w : ℕ) → (v == w) ≡ true → is_in v (w ∷ []) ≡ true
  single v w e = subst (λ (z : ℕ). is_in v (z ∷ []) ≡ true) (eqb-true v w e) (is_first v [])

  in_headers : (a b c : Bool) → (cla == 0) ≡ a → (ins == 0xA4) ≡ b → (p1 == 4) ≡ c → (a && b && c) ≡ false → is_in cla (0xBE ∷ 0xFF ∷ []) ≡ false → IsThere
  in_headers false b c x y z select others =
      by_plain (header_second after_ins (cla ∷ ins ∷ []) (flat_map (with_header_byte (all_but (0xA4 ∷ []))) zero_class) (flat_map (with_header_byte all_bytes) other_class)
      (byte_header after_class (cla ∷ []) ins all_bytes other_class
      (class_header (all_but (0 ∷ 0xBE ∷ 0xFF ∷ [])) (other_value cla (0 ∷ 0xBE ∷ 0xFF ∷ []) bytes.0 (none_first cla 0 (0xBE ∷ 0xFF ∷ []) x others))) (is_byte ins bytes.1)))
  in_headers true false c x y z select others =
      by_plain (header_first after_ins (cla ∷ ins ∷ []) (flat_map (with_header_byte (all_but (0xA4 ∷ []))) zero_class) (flat_map (with_header_byte all_bytes) other_class)
      (byte_header after_class (cla ∷ []) ins (all_but (0xA4 ∷ [])) zero_class (class_header (0 ∷ []) (single cla 0 x)) (other_value ins (0xA4 ∷ []) bytes.1 (none_first ins 0xA4 [] y refl))))
  in_headers true true false x y z select others =
      header_first after_p1 (cla ∷ ins ∷ p1 ∷ []) select_headers (flat_map (with_header_byte all_bytes) plain_headers)
      (byte_header after_ins (cla ∷ ins ∷ []) p1 (all_but (4 ∷ [])) (flat_map (with_header_byte (0xA4 ∷ [])) zero_class)
      (byte_header after_class (cla ∷ []) ins (0xA4 ∷ []) zero_class (class_header (0 ∷ []) (single cla 0 x)) (single ins 0xA4 y)) (other_value p1 (4 ∷ []) bytes.2 (none_first p1 4 [] z refl)))
  in_headers true true true x y z select others = absurd (cc select)

  has_header : IsThere → HasHeader (left_after (map opened ps) cla ins p1 p2) (cla ∷ ins ∷ p1 ∷ p2 ∷ []) (headers ps)
  has_header h = byte_header after_p1 (cla ∷ ins ∷ p1 ∷ []) p2 all_bytes (select_headers ++ flat_map (with_header_byte all_bytes) plain_headers) h (is_byte p2 bytes.3)

-- ---- classes

-- sets of a class that has no more of them hold bytes of another's, once united
union_second : (bs : List ℕ) (ss ts : List Set) → length ss ≤ length bs → FitSets bs ts → FitSets bs (union_all ss ts)
union_second bs [] ts low h = h
union_second [] (s ∷ ss) ts low h = absurd (omega (arith, low))
union_second (b ∷ bs) (s ∷ ss) [] low h = absurd h
union_second (b ∷ bs) (s ∷ ss) (t ∷ ts) low h = (in_second b s t h.0, union_second bs ss ts (omega (arith, low)) h.1)

union_first : (bs : List ℕ) (ss ts : List Set) → length ts ≤ length bs → FitSets bs ss → FitSets bs (union_all ss ts)
union_first [] [] [] low h = tt
union_first [] [] (t ∷ ts) low h = absurd (omega (arith, low))
union_first [] (s ∷ ss) ts low h = absurd h
union_first (b ∷ bs) [] ts low h = absurd h
union_first (b ∷ bs) (s ∷ ss) [] low h = h
union_first (b ∷ bs) (s ∷ ss) (t ∷ ts) low h = (in_first b s t h.0, union_first bs ss ts (omega (arith, low)) h.1)

union_length : (n : ℕ) (ss ts : List Set) → length ss ≤ n → length ts ≤ n → length (union_all ss ts) ≤ n
union_length n [] ts a b = b
union_length n (s ∷ ss) [] a b = a
union_length zero (s ∷ ss) (t ∷ ts) a b = absurd (omega (arith, a))
union_length (suc n) (s ∷ ss) (t ∷ ts) a b = let more = union_length n ss ts (omega (arith, a)) (omega (arith, b)) in omega (arith, more)

-- no class has more sets than this
abbrev AreShort : ℕ → List Class → Type 0
AreShort n [] = ⊤
AreShort n (c ∷ cs) = (length c.sets ≤ n) × AreShort n cs

short_by : (b : Bool) (n : ℕ) (c d : Class) (ds rest : List Class) → length c.sets ≤ n → AreShort n (d ∷ ds) → AreShort n rest → AreShort n (cond b (record { matches = d.matches; sets = union_all c.sets d.sets } ∷ ds) (d ∷ rest))
short_by true n c d ds rest a h k = (union_length n c.sets d.sets a h.0, h.1)
short_by false n c d ds rest a h k = (h.0, k)

with_short : (n : ℕ) (c : Class) (ds : List Class) → length c.sets ≤ n → AreShort n ds → AreShort n (with_class c ds)
with_short n c [] a h = (a, tt)
with_short n c (d ∷ ds) a h = short_by (same_lists same c.matches d.matches) n c d ds (with_class c ds) a h (with_short n c ds a h.1)

new_by : (b : Bool) (bs : List ℕ) (c d : Class) (ds rest : List Class) → same_lists same c.matches d.matches ≡ b → FitSets bs c.sets → length d.sets ≤ length bs → HasClass c.matches bs rest
    → HasClass c.matches bs (cond b (record { matches = d.matches; sets = union_all c.sets d.sets } ∷ ds) (d ∷ rest))
new_by true bs c d ds rest e are low k = inl (sym (lists_are same same_is c.matches d.matches e), union_first bs c.sets d.sets low are)
new_by false bs c d ds rest e are low k = inr k

new_class : (bs : List ℕ) (c : Class) (ds : List Class) → FitSets bs c.sets → AreShort (length bs) ds → HasClass c.matches bs (with_class c ds)
new_class bs c [] are low = inl (refl, are)
new_class bs c (d ∷ ds) are low = new_by (same_lists same c.matches d.matches) bs c d ds (with_class c ds) refl are low.0 (new_class bs c ds are low.1)

old_by : (b : Bool) (m : List Bool) (bs : List ℕ) (c d : Class) (ds rest : List Class) → length c.sets ≤ length bs → HasClass m bs (d ∷ ds) → (HasClass m bs ds → HasClass m bs rest)
    → HasClass m bs (cond b (record { matches = d.matches; sets = union_all c.sets d.sets } ∷ ds) (d ∷ rest))
old_by b m bs c d ds rest low h k = grind (arith, union_second)

old_class : (m : List Bool) (bs : List ℕ) (c : Class) (ds : List Class) → length c.sets ≤ length bs → HasClass m bs ds → HasClass m bs (with_class c ds)
old_class m bs c [] low h = absurd h
old_class m bs c (d ∷ ds) low h = old_by (same_lists same c.matches d.matches) m bs c d ds (with_class c ds) low h (λ more. old_class m bs c ds low more)

-- those of a header
short_classes : (n : ℕ) (ss : List Set) (os : List Opens) (cs : List Class) → length ss ≤ n → AreShort n cs → AreShort n (with_classes ss os cs)
short_classes n ss [] cs a h = h
short_classes n ss (o ∷ os) cs a h = with_short n (record { matches = matches_of o; sets = ss }) (with_classes ss os cs) a (short_classes n ss os cs a h)

old_classes : (m : List Bool) (bs : List ℕ) (ss : List Set) (os : List Opens) (cs : List Class) → length ss ≤ length bs → HasClass m bs cs → HasClass m bs (with_classes ss os cs)
old_classes m bs ss [] cs low h = h
old_classes m bs ss (o ∷ os) cs low h = old_class m bs (record { matches = matches_of o; sets = ss }) (with_classes ss os cs) low (old_classes m bs ss os cs low h)

of_length : (bs : List ℕ) (ss : List Set) → FitSets bs ss → length ss ≤ length bs
of_length bs ss h = let is = fit_length bs ss h in omega (arith, is)

new_classes : (o : Opens) (bs : List ℕ) (ss : List Set) (os : List Opens) (cs : List Class) → FitSets bs ss → AreShort (length bs) cs → Among o os → HasClass (matches_of o) bs (with_classes ss os cs)
new_classes o bs ss [] cs are low a = absurd a
new_classes o bs ss (p ∷ os) cs are low a =
    let c : Class = record { matches = matches_of p; sets = ss } in
    elim a [
      | inl e ↦ subst (λ (z : Opens). HasClass (matches_of z) bs (with_class c (with_classes ss os cs))) e (new_class bs c (with_classes ss os cs) are (short_classes (length bs) ss os cs (of_length bs ss are) low))
      | inr more ↦ old_class (matches_of o) bs c (with_classes ss os cs) (of_length bs ss are) (new_classes o bs ss os cs are low more)
    ]

-- ---- the number of sets of each header

-- each header has this number of sets at the most
abbrev AreBrief : ℕ → List Header → Type 0
AreBrief n [] = ⊤
AreBrief n (h ∷ hs) = (length h.sets ≤ n) × AreBrief n hs

brief_append : (n : ℕ) (xs ys : List Header) → AreBrief n xs → AreBrief n ys → AreBrief n (xs ++ ys)
brief_append n [] ys a b = b
brief_append n (x ∷ xs) ys a b = (a.0, brief_append n xs ys a.1 b)

one_longer : (ss : List Set) (s : Set) → length (ss ++ s ∷ []) ≡ suc (length ss)
one_longer [] s = refl
one_longer (x ∷ ss) s = ap (λ (n : ℕ). suc n) (one_longer ss s)

brief_each : (n : ℕ) (ss : List Set) (gs : List (Opens × Set)) → length ss ≤ n → AreBrief (suc n) (map (λ g. record { left = g.0; sets = ss ++ g.1 ∷ [] }) gs)
brief_each n ss [] low = tt
brief_each n ss (g ∷ gs) low = let is = one_longer ss g.1 in (omega (arith, is, low), brief_each n ss gs low)

brief_bytes : (n : ℕ) (s : Set) (hs : List Header) → AreBrief n hs → AreBrief (suc n) (flat_map (with_header_byte s) hs)
brief_bytes n s [] h = tt
brief_bytes n s (x ∷ hs) h = brief_append (suc n) (with_header_byte s x) (flat_map (with_header_byte s) hs) (brief_each n x.sets (by_left x.left s) h.0) (brief_bytes n s hs h.1)

brief_headers : (ps : List (List ℕ)) → AreBrief 4 (headers ps)
brief_headers ps =
    let first : Header = record { left = map opened ps; sets = [] } in
    let zero_class = with_header_byte (0 ∷ []) first in
    let others = with_header_byte (all_but (0 ∷ 0xBE ∷ 0xFF ∷ [])) first in
    let a : AreBrief 1 zero_class = brief_each 0 [] (by_left (map opened ps) (0 ∷ [])) (omega arith) in
    let b : AreBrief 1 others = brief_each 0 [] (by_left (map opened ps) (all_but (0 ∷ 0xBE ∷ 0xFF ∷ []))) (omega arith) in
    let select = flat_map (with_header_byte (all_but (4 ∷ []))) (flat_map (with_header_byte (0xA4 ∷ [])) zero_class) in
    let plain = flat_map (with_header_byte (all_but (0xA4 ∷ []))) zero_class ++ flat_map (with_header_byte all_bytes) others in
    let two : AreBrief 2 plain =
    brief_append 2 (flat_map (with_header_byte (all_but (0xA4 ∷ []))) zero_class) (flat_map (with_header_byte all_bytes) others) (brief_bytes 1 (all_but (0xA4 ∷ [])) zero_class a) (brief_bytes 1 all_bytes others b)
    in
    brief_bytes 3 all_bytes (select ++ flat_map (with_header_byte all_bytes) plain)
    (brief_append 3 select (flat_map (with_header_byte all_bytes) plain) (brief_bytes 2 (all_but (4 ∷ [])) (flat_map (with_header_byte (0xA4 ∷ [])) zero_class) (brief_bytes 1 (0xA4 ∷ []) zero_class a)) (brief_bytes 2 all_bytes plain two))

short_all : (n : ℕ) (hs : List Header) → AreBrief n hs → AreShort n (classes_of hs)
short_all n [] h = tt
short_all n (x ∷ hs) h = short_classes n x.sets (after_any any_count (x.left ∷ [])) (classes_of hs) h.0 (short_all n hs h.1)

-- the class of a header that any of some bytes follow
class_after : (rest bs : List ℕ) (o : Opens) (hs : List Header) → length rest ≤ any_count → AreBrief (length bs) hs → HasHeader o bs hs → HasClass (matches_of (all_after (hex_text rest) o)) bs (classes_of hs)
class_after rest bs o [] low brief h = absurd h
class_after rest bs o (x ∷ hs) low brief h =
    let left = all_after (hex_text rest) o in
    elim h [
      | inl e ↦ new_classes left bs x.sets (after_any any_count (x.left ∷ [])) (classes_of hs) e.1 (short_all (length bs) hs brief.1)
          (subst (λ (z : Opens). Among left (after_any any_count (z ∷ []))) (sym e.0) (any_after any_count rest o (o ∷ []) low (inl refl)))
      | inr more ↦ old_classes (matches_of left) bs x.sets (after_any any_count (x.left ∷ [])) (classes_of hs) brief.0 (class_after rest bs o hs low brief.1 more)
    ]

-- a header that no other takes is in the class of the patterns that fit it, whatever follows
header_class : (ps : List (List ℕ)) (cla ins p1 p2 : ℕ) (rest : List ℕ) → (cla < 256) × (ins < 256) × (p1 < 256) × (p2 < 256) → (cla == 0xFF) ≡ false → (cla == 0xBE) ≡ false → (cla == 0 && ins == 0xA4 && p1 == 4) ≡ false → length rest ≤ any_count
    → HasClass (map (λ p. fits p (hex_text (cla ∷ ins ∷ p1 ∷ p2 ∷ rest))) ps) (cla ∷ ins ∷ p1 ∷ p2 ∷ []) (classes_of (headers ps))
header_class ps cla ins p1 p2 rest bytes no_ff no_be no_select low =
    let o = map opened ps in
    let left = left_after o cla ins p1 p2 in
    let others : is_in cla (0xBE ∷ 0xFF ∷ []) ≡ false = none_first cla 0xBE (0xFF ∷ []) no_be (none_first cla 0xFF [] no_ff refl) in
    let there : HasHeader left (cla ∷ ins ∷ p1 ∷ p2 ∷ []) (headers ps) =
    has_header ps cla ins p1 p2 bytes (in_headers ps cla ins p1 p2 bytes (cla == 0) (ins == 0xA4) (p1 == 4) refl refl refl no_select others)
    in
    let same : all_after (hex_text (cla ∷ ins ∷ p1 ∷ p2 ∷ rest)) o ≡ all_after (hex_text rest) left =
    hex_first cla (ins ∷ p1 ∷ p2 ∷ rest) o
    ∙ (hex_first ins (p1 ∷ p2 ∷ rest) (all_after (hex_text (cla ∷ [])) o)
    ∙ (hex_first p1 (p2 ∷ rest) (all_after (hex_text (ins ∷ [])) (all_after (hex_text (cla ∷ [])) o))
    ∙ hex_first p2 rest (all_after (hex_text (p1 ∷ [])) (all_after (hex_text (ins ∷ [])) (all_after (hex_text (cla ∷ [])) o)))))
    in
    subst (λ (m : List Bool). HasClass m (cla ∷ ins ∷ p1 ∷ p2 ∷ []) (classes_of (headers ps))) (ap matches_of (sym same) ∙ matches_are (hex_text (cla ∷ ins ∷ p1 ∷ p2 ∷ rest)) ps)
    (class_after rest (cla ∷ ins ∷ p1 ∷ p2 ∷ []) left (headers ps) low (brief_headers ps) there)

-- each command that reaches an application is in a class
pub class_law : ClassLaw
class_law r bytes a routed command =
    let head = command.head in
    let read : IsRead bytes a = read_of bytes a routed head.1.1.1.1.0 in
    let reaches : Reaches bytes a = reached bytes a routed in
    let size : length read.rest ≤ 1030 = read.size in
    subst (λ (b : List ℕ). HasClass (class_of b r.ons) (a.cla ∷ a.ins ∷ a.p1 ∷ a.p2 ∷ []) (classes r)) (sym read.is)
    (header_class (apdu_patterns r.ons) a.cla a.ins a.p1 a.p2 read.rest (head.0, head.1.0, head.1.1.0, head.1.1.1.0) reaches.no_ff reaches.no_be reaches.no_select (omega (arith, size)))
