-- Walks along totals and by how much they are off.
use Rattle.std.proofs.Common.{◌≡◌, ◌∙◌, ℕ, ◌+◌, ◌<◌, ◌≤◌, List, [], ◌∷◌, ◌++◌, length, drop, get_or, Bool, true, false, cond, Option, Some, None, refl, sym, ap, subst, append_assoc}
use Rattle.std.proofs.lemmas.List.{append-nil, drop_more, drop_all}
use Rattle.std.specs.Prelude.{◌||◌}
use Rattle.mc_arith.specs.model_machine.specs.Frame.{Frame}
use Rattle.prove_facts.specs.model_rules.specs.Rules.{SumLine, Total}
use Rattle.prove_facts.specs.model_prove.specs.Reach.{Reach, some_reached}
use Rattle.prove_forms.specs.model_sums.specs.Events.{off_after_line, offs_after_line}
use Rattle.prove_forms.specs.model_sums.specs.Forms as forms
use Rattle.prove_forms.specs.model_sums.specs.Moves.{offs_not_reached}
use Rattle.prove_forms.specs.model_sums.specs.Sums.{evens}
use Rattle.prove_forms.specs.model_sums.specs.Writes.{is_block, is_total_block, off_after, offs_after}
use Rattle.lab_app_rules.specs.declared.rules.Balance.{Balance}
use Rattle.prove_forms.specs.declared.forms.Form.{Form}
use Rattle.prove_forms.specs.Forms.{OptionalIs, OptionalsAre}
use Rattle.lab_app_rules.specs.Sums.{AreTotals, IsTotal}

-- by how much a total is off, if that is known
abbrev pub Off : Type 0
Off = Option forms.Form

-- by how much each total is off
abbrev pub Offs : Type 0
Offs = List Off

-- ---- lists of forms

-- one more form
pub optionals_push : (ps : List (Option Form)) (fs : Offs) (p : Option Form) (f : Off) → OptionalsAre ps fs → OptionalIs p f → OptionalsAre (ps ++ p ∷ []) (fs ++ f ∷ [])
optionals_push [] [] p f a i = (i, tt)
optionals_push [] (g ∷ fs) p f a i = absurd a
optionals_push (q ∷ ps) [] p f a i = absurd a
optionals_push (q ∷ ps) (g ∷ fs) p f a i = (a.0, optionals_push ps fs p f a.1 i)

-- ---- a total at a time

-- what is left of a list from a place on, and that it is the total there that comes first
pub record First (names : List (List ℕ)) (left : List Total) (b : Balance) (bs : List Balance) : Type 0 where
  pub total : Total
  pub is : IsTotal names total b
  pub more : List Total
  pub are : AreTotals names more bs
  pub same : left ≡ total ∷ more

first_by : (names : List (List ℕ)) (left : List Total) (b : Balance) (bs : List Balance) → AreTotals names left (b ∷ bs) → First names left b bs
first_by names [] b bs are = absurd are
first_by names (t ∷ ts) b bs are = record { total = t; is = are.0; more = ts; are = are.1; same = refl }

-- the first total of those that are left
pub first_total : (names : List (List ℕ)) (left : List Total) (bs : List Balance) (i : ℕ) (b : Balance) → b ≡ get_or bs i b → i < length bs → AreTotals names left (drop i bs)
    → First names left b (drop (i + 1) bs)
first_total names left bs i b e l are =
    first_by names left b (drop (i + 1) bs)
    (subst (λ (x : List Balance). AreTotals names left x) (drop_more bs i b l ∙ ap (λ (x : Balance). x ∷ drop (i + 1) bs) (sym e)) are)

-- no total is left
pub no_total : (names : List (List ℕ)) (left : List Total) (bs : List Balance) (i : ℕ) → length bs ≤ i → AreTotals names left (drop i bs) → left ≡ []
no_total names [] bs i l are = refl
no_total names (t ∷ left) bs i l are = absurd (subst (λ (x : List Balance). AreTotals names (t ∷ left) x) (drop_all i bs l) are)

-- ---- evens

-- those of the totals so far are there
pub record Evens (names : List (List ℕ)) (ts : List Total) (bs : List Balance) (offs : List (Option Form)) : Type 0 where
  pub left : List Total
  pub are : AreTotals names left bs
  pub done : Offs
  pub made : OptionalsAre offs done
  pub same : evens ts ≡ done ++ evens left

-- a list is one longer
abbrev pub Grows : List (Option Form) → List (Option Form) → Off → Type 0
Grows old new f = (fs : Offs) → OptionalsAre old fs → OptionalsAre new (fs ++ f ∷ [])

-- one more total is taken as off by zero
pub evens_next : (names : List (List ℕ)) (ts : List Total) (bs : List Balance) (i : ℕ) (b : Balance) (old new : List (Option Form)) → b ≡ get_or bs i b → i < length bs
    → Evens names ts (drop i bs) old → Grows old new (Some (forms.number 0)) → Evens names ts (drop (i + 1) bs) new
evens_next names ts bs i b old new e l w g =
    let f = first_total names w.left bs i b e l w.are in
    record {
      left = f.more;
      are = f.are;
      done = w.done ++ Some (forms.number 0) ∷ [];
      made = g w.done w.made;
      same = w.same ∙ ap (λ (x : List Total). w.done ++ evens x) f.same ∙ sym (append_assoc w.done (Some (forms.number 0) ∷ []) (evens f.more));
    }

-- if no total is left, each is taken as even
pub evens_end : (names : List (List ℕ)) (ts : List Total) (bs : List Balance) (i : ℕ) (offs : List (Option Form)) → length bs ≤ i
    → Evens names ts (drop i bs) offs → OptionalsAre offs (evens ts)
evens_end names ts bs i offs l w =
    subst (λ (x : Offs). OptionalsAre offs x)
    (sym (w.same ∙ ap (λ (x : List Total). w.done ++ evens x) (no_total names w.left bs i l w.are) ∙ append-nil w.done)) w.made

-- ---- each

-- by how much each total is off, if a function says it of one
abbrev pub each : (Total → Off → Off) → List Total → Offs → Offs
each F [] fs = []
each F (t ∷ ts) [] = []
each F (t ∷ ts) (f ∷ fs) = F t f ∷ each F ts fs

-- those of the totals so far are there, and by how much the others are off is left
pub record Walk (F : Total → Off → Off) (names : List (List ℕ)) (ts : List Total) (fs : Offs) (bs : List Balance) (rest offs : List (Option Form)) : Type 0 where
  pub left : List Total
  pub are : AreTotals names left bs
  pub gs : Offs
  pub rests : OptionalsAre rest gs
  pub done : Offs
  pub made : OptionalsAre offs done
  pub same : each F ts fs ≡ done ++ each F left gs

-- by how much the first total is off, and what is left
pub record FirstOff (gs : Offs) (p : Option Form) (ps : List (Option Form)) : Type 0 where
  pub off : Off
  pub is : OptionalIs p off
  pub more : Offs
  pub are : OptionalsAre ps more
  pub same : gs ≡ off ∷ more

-- a list of by how much totals are off begins with the first
pub first_off : (gs : Offs) (p : Option Form) (ps : List (Option Form)) → OptionalsAre (p ∷ ps) gs → FirstOff gs p ps
first_off [] p ps are = absurd are
first_off (f ∷ gs) p ps are = record { off = f; is = are.0; more = gs; are = are.1; same = refl }

-- the function of a total comes after those of the totals before
pub walk_next : (F : Total → Off → Off) (names : List (List ℕ)) (ts : List Total) (fs : Offs) (bs : List Balance) (i : ℕ) (b : Balance) (rest more : List (Option Form)) (p : Option Form)
    (old new : List (Option Form)) (q : Option Form) → b ≡ get_or bs i b → i < length bs → rest ≡ p ∷ more
    → ((t : Total) (f : Off) → IsTotal names t b → OptionalIs p f → OptionalIs q (F t f))
    → ((gs : Offs) (f : Off) → OptionalsAre old gs → OptionalIs q f → OptionalsAre new (gs ++ f ∷ []))
    → Walk F names ts fs (drop i bs) rest old → Walk F names ts fs (drop (i + 1) bs) more new
walk_next F names ts fs bs i b rest more p old new q k l e one grows w =
    let t = first_total names w.left bs i b k l w.are in
    let o = first_off w.gs p more (subst (λ (x : List (Option Form)). OptionalsAre x w.gs) e w.rests) in
    let x = F t.total o.off in
    record {
      left = t.more;
      are = t.are;
      gs = o.more;
      rests = o.are;
      done = w.done ++ x ∷ [];
      made = grows w.done x w.made (one t.total o.off t.is o.is);
      same = w.same ∙ ap (λ (y : List Total). w.done ++ each F y w.gs) t.same ∙ ap (λ (y : Offs). w.done ++ each F (t.total ∷ t.more) y) o.same
          ∙ sym (append_assoc w.done (x ∷ []) (each F t.more o.more));
    }

-- a list of none of them is empty
pub no_off : (gs : Offs) (ps : List (Option Form)) → ps ≡ [] → OptionalsAre ps gs → gs ≡ []
no_off [] ps e are = refl
no_off (g ∷ gs) ps e are = absurd (subst (λ (x : List (Option Form)). OptionalsAre x (g ∷ gs)) e are)

each_none : (F : Total → Off → Off) (ts : List Total) → each F ts [] ≡ []
each_none F [] = refl
each_none F (t ∷ ts) = refl

-- nothing is left of by how much totals are off
pub walk_stop : (F : Total → Off → Off) (names : List (List ℕ)) (ts : List Total) (fs : Offs) (bs : List Balance) (rest offs : List (Option Form)) → rest ≡ []
    → Walk F names ts fs bs rest offs → OptionalsAre offs (each F ts fs)
walk_stop F names ts fs bs rest offs e w =
    subst (λ (x : Offs). OptionalsAre offs x)
    (sym (w.same ∙ ap (λ (x : Offs). w.done ++ each F w.left x) (no_off w.gs rest e w.rests) ∙ ap (λ (x : Offs). w.done ++ x) (each_none F w.left) ∙ append-nil w.done)) w.made

-- no total is left
pub walk_end : (F : Total → Off → Off) (names : List (List ℕ)) (ts : List Total) (fs : Offs) (bs : List Balance) (i : ℕ) (rest offs : List (Option Form)) → length bs ≤ i
    → Walk F names ts fs (drop i bs) rest offs → OptionalsAre offs (each F ts fs)
walk_end F names ts fs bs i rest offs l w =
    subst (λ (x : Offs). OptionalsAre offs x)
    (sym (w.same ∙ ap (λ (x : List Total). w.done ++ each F x w.gs) (no_total names w.left bs i l w.are) ∙ append-nil w.done)) w.made

-- ---- one of some

-- what the totals that are left say of a block is what all say
pub record Blocks (a n : ℕ) (names : List (List ℕ)) (ts : List Total) (bs : List Balance) : Type 0 where
  pub left : List Total
  pub are : AreTotals names left bs
  pub same : is_total_block left a n ≡ is_total_block ts a n

same_block : (a n : ℕ) (names : List (List ℕ)) (t : Total) (b : Balance) → IsTotal names t b → is_block a n t.at t.n ≡ is_block a n b.at b.n
same_block a n names t b i = ap (λ (x : ℕ). is_block a n x t.n) i.at ∙ ap (λ (x : ℕ). is_block a n b.at x) i.n

passes : (b c : Bool) → b ≡ false → (b || c) ≡ c
passes true c e = absurd (cc e)
passes false c e = refl

takes : (b c : Bool) → b ≡ true → (b || c) ≡ true
takes true c e = refl
takes false c e = absurd (cc e)

-- a total that is not this block leaves those after it to be so
pub blocks_next : (a n : ℕ) (names : List (List ℕ)) (ts : List Total) (bs : List Balance) (i : ℕ) (b : Balance) (c : Bool) → b ≡ get_or bs i b → i < length bs
    → c ≡ is_block a n b.at b.n → c ≡ false → Blocks a n names ts (drop i bs) → Blocks a n names ts (drop (i + 1) bs)
blocks_next a n names ts bs i b c k l e isnt w =
    let t = first_total names w.left bs i b k l w.are in
    record {
      left = t.more;
      are = t.are;
      same = sym (ap (λ (x : List Total). is_total_block x a n) t.same
          ∙ passes (is_block a n t.total.at t.total.n) (is_total_block t.more a n) (same_block a n names t.total b t.is ∙ sym e ∙ isnt)) ∙ w.same;
    }

-- a total that is this block makes it one of a total
pub blocks_here : (a n : ℕ) (names : List (List ℕ)) (ts : List Total) (bs : List Balance) (i : ℕ) (b : Balance) (c : Bool) → b ≡ get_or bs i b → i < length bs
    → c ≡ is_block a n b.at b.n → c ≡ true → Blocks a n names ts (drop i bs) → true ≡ is_total_block ts a n
blocks_here a n names ts bs i b c k l e is w =
    let t = first_total names w.left bs i b k l w.are in
    sym (takes (is_block a n t.total.at t.total.n) (is_total_block t.more a n) (same_block a n names t.total b t.is ∙ sym e ∙ is))
    ∙ sym (ap (λ (x : List Total). is_total_block x a n) t.same) ∙ w.same

-- if no total is left, the block is none of a total
pub blocks_end : (a n : ℕ) (names : List (List ℕ)) (ts : List Total) (bs : List Balance) (i : ℕ) → length bs ≤ i → Blocks a n names ts (drop i bs) → false ≡ is_total_block ts a n
blocks_end a n names ts bs i l w = sym (ap (λ (x : List Total). is_total_block x a n) (no_total names w.left bs i l w.are)) ∙ w.same

-- ---- which function it is

-- by how much totals are off after a write
pub written_each : (a n : ℕ) (g : Off) (ts : List Total) (fs : Offs) → offs_after a n g ts fs ≡ each (off_after a n g) ts fs
written_each a n g [] fs = refl
written_each a n g (t ∷ ts) [] = refl
written_each a n g (t ∷ ts) (f ∷ fs) = ap (λ (x : Offs). off_after a n g t f ∷ x) (written_each a n g ts fs)

-- after a write within a reach
pub reached_each : (f : Frame) (r : Reach) (ts : List Total) (fs : Offs)
    → offs_not_reached f r ts fs ≡ each (λ t o. cond (some_reached f r t.at t.n) None o) ts fs
reached_each f r [] fs = refl
reached_each f r (t ∷ ts) [] = refl
reached_each f r (t ∷ ts) (o ∷ fs) = ap (λ (x : Offs). cond (some_reached f r t.at t.n) None o ∷ x) (reached_each f r ts fs)

-- after a line
pub line_each : (l : SumLine) (g : Off) (ts : List Total) (fs : Offs) → offs_after_line l g ts fs ≡ each (λ t o. off_after_line t.n l g t.terms o) ts fs
line_each l g [] fs = refl
line_each l g (t ∷ ts) [] = refl
line_each l g (t ∷ ts) (f ∷ fs) = ap (λ (x : Offs). off_after_line t.n l g t.terms f ∷ x) (line_each l g ts fs)
