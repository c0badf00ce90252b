-- The event of an instruction moves by how much totals are off as it moves the sums.
use Rattle.std.specs.Prelude.{◌≡◌, ℕ, zero, suc, ◌+◌, ◌-◌, ◌*◌, ◌%◌, ◌^◌, ◌≤◌, Bool, true, false, cond, ◌||◌, nat_le, List, [], ◌∷◌, length, take, drop, slice_index, bytes_eq, Option, Some, None, refl, ⊤}
use Rattle.std.specs.List.{AllByRecursion}
use Rattle.std.proofs.Common.{arith, ap, sym, subst, ◌∙◌}
use Rattle.std.proofs.Math.Seq.{drop-cons}
use Rattle.std.proofs.lemmas.Bool.{leb-true}
use Rattle.model_sums.specs.model_device.specs.Bytes.{num}
use Rattle.model_sums.specs.model_device.proofs.MapLemmas.{same_name, name_is_itself}
use Rattle.model_sums.specs.model_machine.specs.Frame.{public_base}
use Rattle.model_sums.specs.model_events.specs.Matching.{fits}
use Rattle.model_sums.specs.model_rules.specs.Rules.{Total, Amount, Constant, PublicBytes, SumLine}
use Rattle.model_sums.specs.model_rules.specs.Keeping.{Sum, amount_in, moved_sum, after_sum_line, after_moves, added_to, taken_from, added_by, taken_by}
use Rattle.model_sums.specs.model_prove.specs.Facts.{Memory}
use Rattle.model_sums.specs.model_prove.specs.Digits.{same}
use Rattle.model_sums.specs.Forms.{Form, value, plus, negative}
use Rattle.model_sums.specs.Origins.{Origins, origins_from, form_of}
use Rattle.model_sums.specs.Says.{number_at, AreFrom, OffHolds, OffsHold}
use Rattle.model_sums.specs.Writes.{plus_if, negative_if}
use Rattle.model_sums.specs.Events.{public_size, form_of_amount, off_after_term, off_after_line, offs_after_line, offs_after_event}
use Rattle.law_sums.specs.EventLaws.{has_sum, PublicHolds}
use Rattle.law_sums.proofs.Modulo.{add_same, add_whole, one_less_more, power_positive}
use Rattle.law_sums.proofs.FormLemmas.{value_plus, value_times}
use Rattle.law_sums.proofs.OriginLemmas.{number_value}

-- ---- amounts

-- an amount is the value of a form, if it is known
abbrev IsAmount : List ℕ → Option Form → ℕ → Type 0
IsAmount first None k = ⊤
IsAmount first (Some f) k = k ≡ value f first

public_from : (o : Origins) (first public : List ℕ) (at n : ℕ) → PublicHolds o first public → at + n ≤ length public
    → AreFrom first (origins_from o (public_base + at) n) (take n (drop at public))
public_from o first public at zero h i = tt
public_from o first public at (suc n) h i =
    let cells : drop at public ≡ slice_index public at ∷ drop (suc at) public = drop-cons public at 0 (omega (arith, i)) in
    let rest : AreFrom first (origins_from o (public_base + suc at) n) (take n (drop (suc at) public)) = public_from o first public (suc at) n h (omega (arith, i)) in
    let next : public_base + suc at ≡ suc (public_base + at) = omega arith in
    let moved : AreFrom first (origins_from o (suc (public_base + at)) n) (take n (drop (suc at) public)) =
    subst (λ (x : ℕ). AreFrom first (origins_from o x n) (take n (drop (suc at) public))) next rest in
    subst (λ (bs : List ℕ). AreFrom first (origins_from o (public_base + at) (suc n)) (take (suc n) bs)) (sym cells) (h at, moved)

known_amount : (first : List ℕ) (x : Option Form) (k : ℕ) → ((f : Form) → x ≡ Some f → k ≡ value f first) → IsAmount first x k
known_amount first None k h = tt
known_amount first (Some f) k h = h f refl

guarded_amount : (b : Bool) (first : List ℕ) (x : Option Form) (k : ℕ) → (b ≡ true → IsAmount first x k) → IsAmount first (cond b x None) k
guarded_amount true first x k h = h refl
guarded_amount false first x k h = tt

amount_is : (o : Origins) (first public : List ℕ) (a : Amount) → PublicHolds o first public → public_size ≤ length public
    → IsAmount first (form_of_amount o a) (amount_in public a)
amount_is o first public (Constant k) h i = omega arith
amount_is o first public (PublicBytes at n) h i =
    guarded_amount (nat_le (at + n) public_size) first (form_of (origins_from o (public_base + at) n)) (num (take n (drop at public)))
    (λ b.
    let inside : at + n ≤ public_size = leb-true (at + n) public_size b in
    known_amount first (form_of (origins_from o (public_base + at) n)) (num (take n (drop at public)))
    (λ f e. number_value first (origins_from o (public_base + at) n) (take n (drop at public)) f (public_from o first public at n h (omega (arith, inside, i))) e))

-- ---- one sum

moved_added : (adds : Bool) (k : ℕ) (s : Sum) → (moved_sum adds k s).added ≡ s.added + cond adds k 0
moved_added true k s = refl
moved_added false k s = omega arith

moved_taken : (adds : Bool) (k : ℕ) (s : Sum) → (moved_sum adds k s).taken ≡ s.taken + cond adds 0 k
moved_taken true k s = omega arith
moved_taken false k s = refl

moved_name : (adds : Bool) (k : ℕ) (s : Sum) → (moved_sum adds k s).name ≡ s.name
moved_name true k s = refl
moved_name false k s = refl

-- a sum after a line
abbrev one_after : SumLine → List ℕ → Sum → Sum
one_after l public s = cond (bytes_eq s.name l.name) (moved_sum l.adds (amount_in public l.amount) s) s

one_name : (b : Bool) (adds : Bool) (k : ℕ) (s : Sum) → (cond b (moved_sum adds k s) s).name ≡ s.name
one_name true adds k s = moved_name adds k s
one_name false adds k s = refl

cond_added : (b c : Bool) (adds : Bool) (k : ℕ) (s : Sum) (x y : ℕ) → (b ≡ true → c ≡ true) → (b ≡ false → x ≡ y + cond adds k 0)
    → cond b (cond c (moved_sum adds k s) s).added x ≡ cond b s.added y + cond adds k 0
cond_added b c adds k s x y h i = grind (arith, moved_added)

cond_taken : (b c : Bool) (adds : Bool) (k : ℕ) (s : Sum) (x y : ℕ) → (b ≡ true → c ≡ true) → (b ≡ false → x ≡ y + cond adds 0 k)
    → cond b (cond c (moved_sum adds k s) s).taken x ≡ cond b s.taken y + cond adds 0 k
cond_taken b c adds k s x y h i = grind (arith, moved_taken)

or_second : (b c : Bool) → (b || c) ≡ true → b ≡ false → c ≡ true
or_second true c h e = absurd (cc e)
or_second false c h e = h

-- the sums of its name are moved
added_moved : (l : SumLine) (public : List ℕ) (ss : List Sum) → has_sum ss l.name ≡ true
    → added_to (after_sum_line l public ss) l.name ≡ added_to ss l.name + cond l.adds (amount_in public l.amount) 0
added_moved l public [] h = absurd (cc h)
added_moved l public (s ∷ ss) h =
    let named : (one_after l public s).name ≡ s.name = one_name (bytes_eq s.name l.name) l.adds (amount_in public l.amount) s in
    ap (λ (n : List ℕ). cond (bytes_eq n l.name) (one_after l public s).added (added_to (after_sum_line l public ss) l.name)) named
    ∙ cond_added (bytes_eq s.name l.name) (bytes_eq s.name l.name) l.adds (amount_in public l.amount) s (added_to (after_sum_line l public ss) l.name) (added_to ss l.name)
    (λ e. e) (λ e. added_moved l public ss (or_second (bytes_eq s.name l.name) (has_sum ss l.name) h e))

taken_moved : (l : SumLine) (public : List ℕ) (ss : List Sum) → has_sum ss l.name ≡ true
    → taken_from (after_sum_line l public ss) l.name ≡ taken_from ss l.name + cond l.adds 0 (amount_in public l.amount)
taken_moved l public [] h = absurd (cc h)
taken_moved l public (s ∷ ss) h =
    let named : (one_after l public s).name ≡ s.name = one_name (bytes_eq s.name l.name) l.adds (amount_in public l.amount) s in
    ap (λ (n : List ℕ). cond (bytes_eq n l.name) (one_after l public s).taken (taken_from (after_sum_line l public ss) l.name)) named
    ∙ cond_taken (bytes_eq s.name l.name) (bytes_eq s.name l.name) l.adds (amount_in public l.amount) s (taken_from (after_sum_line l public ss) l.name) (taken_from ss l.name)
    (λ e. e) (λ e. taken_moved l public ss (or_second (bytes_eq s.name l.name) (has_sum ss l.name) h e))

cond_same : (b c : Bool) (x x2 y y2 : ℕ) → (b ≡ true → c ≡ false) → y ≡ y2 → cond b (cond c x2 x) y ≡ cond b x y2
cond_same b c x x2 y y2 h i = grind arith

added_out : (b : Bool) (adds : Bool) (k : ℕ) (s : Sum) → (cond b (moved_sum adds k s) s).added ≡ cond b (moved_sum adds k s).added s.added
added_out true adds k s = refl
added_out false adds k s = refl

taken_out : (b : Bool) (adds : Bool) (k : ℕ) (s : Sum) → (cond b (moved_sum adds k s) s).taken ≡ cond b (moved_sum adds k s).taken s.taken
taken_out true adds k s = refl
taken_out false adds k s = refl

not_false : (b : Bool) → (b ≡ true → ⊥) → b ≡ false
not_false true h = absurd (h refl)
not_false false h = refl

-- a name that is another's is not that of the line
other_name : (s n l : List ℕ) → bytes_eq n l ≡ false → bytes_eq s n ≡ true → bytes_eq s l ≡ false
other_name s n l e h =
    not_false (bytes_eq s l) (λ i.
    let one : s ≡ n = same_name s n h in
    let two : s ≡ l = same_name s l i in
    absurd (cc (e, subst (λ (x : List ℕ). bytes_eq n x ≡ true) (sym one ∙ two) (name_is_itself n))))

-- those of other names stay
added_stays : (l : SumLine) (public : List ℕ) (ss : List Sum) (name : List ℕ) → bytes_eq name l.name ≡ false → added_to (after_sum_line l public ss) name ≡ added_to ss name
added_stays l public [] name e = refl
added_stays l public (s ∷ ss) name e = grind (arith, one_name, added_out, cond_same, other_name, added_stays l public ss name e)

taken_stays : (l : SumLine) (public : List ℕ) (ss : List Sum) (name : List ℕ) → bytes_eq name l.name ≡ false → taken_from (after_sum_line l public ss) name ≡ taken_from ss name
taken_stays l public [] name e = refl
taken_stays l public (s ∷ ss) name e = grind (arith, one_name, taken_out, cond_same, other_name, taken_stays l public ss name e)

-- sums have the same names after a line
pub names_stay : (l : SumLine) (public : List ℕ) (ss : List Sum) (name : List ℕ) → has_sum (after_sum_line l public ss) name ≡ has_sum ss name
names_stay l public [] name = refl
names_stay l public (s ∷ ss) name = grind (arith, one_name, names_stay l public ss name)

-- ---- one term

-- a total is as much off as is said, if something is, modulo m
abbrev IsOff : List ℕ → ℕ → ℕ → ℕ → Option Form → Type 0
IsOff first m x c None = ⊤
IsOff first m x c (Some f) = x % m ≡ (c + value f first) % m

off_at : (first : List ℕ) (m x y c d : ℕ) (off : Option Form) → x ≡ y → c ≡ d → IsOff first m x c off → IsOff first m y d off
off_at first m x y c d None e i h = tt
off_at first m x y c d (Some f) e i h = ap (λ (z : ℕ). z % m) (sym e) ∙ h ∙ ap (λ (z : ℕ). (z + value f first) % m) i

-- what is to be is more
less_off : (first : List ℕ) (n x c k : ℕ) (off by : Option Form) → IsAmount first by k → IsOff first (256 ^ n) x c off
    → IsOff first (256 ^ n) x (c + k) (plus_if off (negative_if n by))
less_off first n x c k None by a h = tt
less_off first n x c k (Some f) None a h = tt
less_off first n x c k (Some f) (Some g) a h =
    let whole : value (plus f (negative n g)) first ≡ value f first + value (negative n g) first = value_plus f (negative n g) first in
    let part : value (negative n g) first ≡ (256 ^ n - 1) * value g first = value_times (256 ^ n - 1) g first in
    let more : (256 ^ n - 1) * value g first + value g first ≡ value g first * 256 ^ n = one_less_more (256 ^ n) (value g first) (power_positive n) in
    let all : c + k + value (plus f (negative n g)) first ≡ c + value f first + value g first * 256 ^ n = omega (arith, whole, part, more, a) in
    h ∙ sym (ap (λ (z : ℕ). z % 256 ^ n) all ∙ add_whole (256 ^ n) (c + value f first) (value g first))

-- what there is besides is more
more_off : (first : List ℕ) (m x c k : ℕ) (off by : Option Form) → IsAmount first by k → IsOff first m x c off → IsOff first m (x + k) c (plus_if off by)
more_off first m x c k None by a h = tt
more_off first m x c k (Some f) None a h = tt
more_off first m x c k (Some f) (Some g) a h =
    let one : (x + k) % m ≡ (c + value f first + value g first) % m = add_same m x (c + value f first) k (value g first) h (ap (λ (z : ℕ). z % m) a) in
    let two : c + value f first + value g first ≡ c + value (plus f g) first = omega (arith, value_plus f g first) in
    one ∙ ap (λ (z : ℕ). z % m) two

-- what a term adds and takes
abbrev term_added : List Sum → Bool × List ℕ → ℕ
term_added ss t = cond t.0 (added_to ss t.1) (taken_from ss t.1)

abbrev term_taken : List Sum → Bool × List ℕ → ℕ
term_taken ss t = cond t.0 (taken_from ss t.1) (added_to ss t.1)

named_term : (sign adds : Bool) (first : List ℕ) (n x c k p q u v r a : ℕ) (off by : Option Form) → u ≡ p + cond adds k 0 → v ≡ q + cond adds 0 k → IsAmount first by k
    → IsOff first (256 ^ n) (x + (cond sign q p + r)) (c + (cond sign p q + a)) off
    → IsOff first (256 ^ n) (x + cond sign v u + r) (c + cond sign u v + a) (off_after_term n (same sign adds) by off)
named_term sign adds first n x c k p q u v r a off by e i b h = grind (arith, off_at, less_off, more_off)

other_term : (sign : Bool) (first : List ℕ) (m x c p q u v r a : ℕ) (off : Option Form) → u ≡ p → v ≡ q
    → IsOff first m (x + (cond sign q p + r)) (c + (cond sign p q + a)) off → IsOff first m (x + cond sign v u + r) (c + cond sign u v + a) off
other_term true first m x c p q u v r a off e i h = off_at first m (x + (q + r)) (x + v + r) (c + (p + a)) (c + u + a) off (omega (arith, i)) (omega (arith, e)) h
other_term false first m x c p q u v r a off e i h = off_at first m (x + (p + r)) (x + u + r) (c + (q + a)) (c + v + a) off (omega (arith, e)) (omega (arith, i)) h

term_moves : (b : Bool) (first : List ℕ) (n x c r a : ℕ) (l : SumLine) (public : List ℕ) (ss : List Sum) (t : Bool × List ℕ) (off by : Option Form)
    → bytes_eq t.1 l.name ≡ b → has_sum ss l.name ≡ true → IsAmount first by (amount_in public l.amount)
    → IsOff first (256 ^ n) (x + (term_taken ss t + r)) (c + (term_added ss t + a)) off
    → IsOff first (256 ^ n) (x + term_taken (after_sum_line l public ss) t + r) (c + term_added (after_sum_line l public ss) t + a)
    (cond b (off_after_term n (same t.0 l.adds) by off) off)
term_moves true first n x c r a l public ss t off by e i b h =
    let one : l.name ≡ t.1 = sym (same_name t.1 l.name e) in
    let p = subst (λ (nm : List ℕ). added_to (after_sum_line l public ss) nm ≡ added_to ss nm + cond l.adds (amount_in public l.amount) 0) one (added_moved l public ss i) in
    let q = subst (λ (nm : List ℕ). taken_from (after_sum_line l public ss) nm ≡ taken_from ss nm + cond l.adds 0 (amount_in public l.amount)) one (taken_moved l public ss i) in
    named_term t.0 l.adds first n x c (amount_in public l.amount) (added_to ss t.1) (taken_from ss t.1) (added_to (after_sum_line l public ss) t.1)
    (taken_from (after_sum_line l public ss) t.1) r a off by p q b h
term_moves false first n x c r a l public ss t off by e i b h = grind (arith, other_term, added_stays, taken_stays)

-- ---- lines

terms_move : (first : List ℕ) (n x c : ℕ) (l : SumLine) (public : List ℕ) (ss : List Sum) (ts : List (Bool × List ℕ)) (off by : Option Form) → has_sum ss l.name ≡ true
    → IsAmount first by (amount_in public l.amount) → IsOff first (256 ^ n) (x + taken_by ss ts) (c + added_by ss ts) off
    → IsOff first (256 ^ n) (x + taken_by (after_sum_line l public ss) ts) (c + added_by (after_sum_line l public ss) ts) (off_after_line n l by ts off)
terms_move first n x c l public ss [] off by i b h = h
terms_move first n x c l public ss (t ∷ ts) off by i b h =
    let rest : List Sum = after_sum_line l public ss in
    let next : Option Form = cond (bytes_eq t.1 l.name) (off_after_term n (same t.0 l.adds) by off) off in
    let one : IsOff first (256 ^ n) (x + term_taken rest t + taken_by ss ts) (c + term_added rest t + added_by ss ts) next =
    term_moves (bytes_eq t.1 l.name) first n x c (taken_by ss ts) (added_by ss ts) l public ss t off by refl i b h in
    let all : IsOff first (256 ^ n) (x + term_taken rest t + taken_by rest ts) (c + term_added rest t + added_by rest ts) (off_after_line n l by ts next) =
    terms_move first n (x + term_taken rest t) (c + term_added rest t) l public ss ts next by i b one in
    off_at first (256 ^ n) (x + term_taken rest t + taken_by rest ts) (x + (term_taken rest t + taken_by rest ts)) (c + term_added rest t + added_by rest ts)
    (c + (term_added rest t + added_by rest ts)) (off_after_line n l by ts next) (omega arith) (omega arith) all

off_is : (first : List ℕ) (m : Memory) (ss : List Sum) (t : Total) (off : Option Form) → OffHolds first m ss t off
    → IsOff first (256 ^ t.n) (number_at m t.at t.n + taken_by ss t.terms) (t.constant + added_by ss t.terms) off
off_is first m ss t None h = tt
off_is first m ss t (Some f) h = h

is_off : (first : List ℕ) (m : Memory) (ss : List Sum) (t : Total) (off : Option Form)
    → IsOff first (256 ^ t.n) (number_at m t.at t.n + taken_by ss t.terms) (t.constant + added_by ss t.terms) off → OffHolds first m ss t off
is_off first m ss t None h = tt
is_off first m ss t (Some f) h = h

line_moves : (first : List ℕ) (m : Memory) (l : SumLine) (public : List ℕ) (ss : List Sum) (by : Option Form) (ts : List Total) (os : List (Option Form))
    → has_sum ss l.name ≡ true → IsAmount first by (amount_in public l.amount) → OffsHold first m ss ts os
    → OffsHold first m (after_sum_line l public ss) ts (offs_after_line l by ts os)
line_moves first m l public ss by [] os i b h = tt
line_moves first m l public ss by (t ∷ ts) [] i b h = tt
line_moves first m l public ss by (t ∷ ts) (o ∷ os) i b h = grind (arith, is_off, terms_move, off_is, line_moves first m l public ss by ts os i b h.1)

line_if : (b : Bool) (first : List ℕ) (m : Memory) (l : SumLine) (public : List ℕ) (ss : List Sum) (by : Option Form) (ts : List Total) (os : List (Option Form))
    → has_sum ss l.name ≡ true → IsAmount first by (amount_in public l.amount) → OffsHold first m ss ts os
    → OffsHold first m (cond b (after_sum_line l public ss) ss) ts (cond b (offs_after_line l by ts os) os)
line_if true first m l public ss by ts os i b h = line_moves first m l public ss by ts os i b h
line_if false first m l public ss by ts os i b h = h

names_if : (b : Bool) (l : SumLine) (public : List ℕ) (ss : List Sum) (ls : List SumLine) → AllByRecursion (λ k. has_sum ss k.name ≡ true) ls
    → AllByRecursion (λ k. has_sum (cond b (after_sum_line l public ss) ss) k.name ≡ true) ls
names_if false l public ss ls h = h
names_if true l public ss [] h = tt
names_if true l public ss (k ∷ ls) h = (names_stay l public ss k.name ∙ h.0, names_if true l public ss ls h.1)

-- an event moves what is known as it moves the sums
pub event_moves : (ts : List Total) (ls : List SumLine) (line public first : List ℕ) (m : Memory) (ss : List Sum) (o : Origins)
    → AllByRecursion (λ l. has_sum ss l.name ≡ true) ls → PublicHolds o first public → public_size ≤ length public
    → (os : List (Option Form)) → OffsHold first m ss ts os → OffsHold first m (after_moves ls line public ss) ts (offs_after_event ts ls line o os)
event_moves ts [] line public first m ss o n p i os h = h
event_moves ts (l ∷ ls) line public first m ss o n p i os h =
    let b : Bool = fits l.line line in
    event_moves ts ls line public first m (cond b (after_sum_line l public ss) ss) o (names_if b l public ss ls n.1) p i
    (cond b (offs_after_line l (form_of_amount o l.amount) ts os) os)
    (line_if b first m l public ss (form_of_amount o l.amount) ts os n.0 (amount_is o first public l.amount p i) h)
