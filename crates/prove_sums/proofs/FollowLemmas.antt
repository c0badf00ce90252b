-- What follows from what is known for sums.
use Rattle.std.proofs.Common.{◌≡◌, ◌∙◌, ℕ, ◌+◌, ◌<◌, ◌≤◌, List, [], ◌∷◌, length, drop, get_or, Bool, true, false, Option, refl, ap, subst}
use Rattle.std.specs.Prelude.{◌&&◌, ◌||◌, ◌==◌}
use Rattle.prove_facts.specs.model_rules.specs.Rules.{Total}
use Rattle.prove_forms.specs.model_sums.specs.Forms as forms
use Rattle.prove_forms.specs.model_sums.specs.Sums as sums
use Rattle.lab_app_rules.specs.declared.rules.Balance.{Balance}
use Rattle.prove_forms.specs.declared.forms.Form.{Form}
use Rattle.prove_forms.specs.Forms.{OptionalIs, OptionalsAre}
use Rattle.lab_app_rules.specs.Sums.{AreTotals, IsTotal}
use Rattle.prove_sums.specs.declared.values.More.{More}
use Rattle.prove_sums.specs.Values.{MoreIs, MoresAre}
use Rattle.prove_sums.proofs.MoreLemmas.{Mores, first_more, no_more}
use Rattle.prove_sums.proofs.WalkLemmas.{Off, Offs, first_off, first_total, no_off, no_total}

both : (b c d : Bool) → b ≡ true → d ≡ (b && c) → c ≡ true → d ≡ true
both true c d e f h = f ∙ h
both false c d e f h = absurd (cc e)

-- ---- even totals

-- if the totals that are left are even, all are
pub record Even (names : List (List ℕ)) (ts : List Total) (fs : Offs) (bs : List Balance) (rest : List (Option Form)) : Type 0 where
  pub left : List Total
  pub are : AreTotals names left bs
  pub gs : Offs
  pub rests : OptionalsAre rest gs
  pub same : sums.are_even left gs ≡ true → sums.are_even ts fs ≡ true

-- if a total is even, those after it decide whether all are
pub even_next : (names : List (List ℕ)) (ts : List Total) (fs : Offs) (bs : List Balance) (i : ℕ) (b : Balance) (rest more : List (Option Form)) (p : Option Form) → b ≡ get_or bs i b
    → i < length bs → rest ≡ p ∷ more → ((t : Total) (f : Off) → IsTotal names t b → OptionalIs p f → sums.is_even t f ≡ true)
    → Even names ts fs (drop i bs) rest → Even names ts fs (drop (i + 1) bs) more
even_next names ts fs bs i b rest more p k l e one w =
    let t = first_total names w.left bs i b k l w.are in
    let o = first_off w.gs p more (subst (λ (x : List (Option Form)). OptionalsAre x w.gs) e w.rests) in
    record {
      left = t.more;
      are = t.are;
      gs = o.more;
      rests = o.are;
      same = λ h. w.same
          (both (sums.is_even t.total o.off) (sums.are_even t.more o.more) (sums.are_even w.left w.gs) (one t.total o.off t.is o.is)
          (ap (λ (x : List Total). sums.are_even x w.gs) t.same ∙ ap (λ (x : Offs). sums.are_even (t.total ∷ t.more) x) o.same) h);
    }

-- if no total is left, all are even
pub even_end : (names : List (List ℕ)) (ts : List Total) (fs : Offs) (bs : List Balance) (i : ℕ) (rest : List (Option Form)) → length bs ≤ i
    → Even names ts fs (drop i bs) rest → sums.are_even ts fs ≡ true
even_end names ts fs bs i rest l w = w.same (ap (λ (x : List Total). sums.are_even x w.gs) (no_total names w.left bs i l w.are))

-- ---- loaded blocks

either : (b c d : Bool) → b ≡ true → d ≡ (b || c) → d ≡ true
either true c d e f = f
either false c d e f = absurd (cc e)

later : (b c d : Bool) → d ≡ (b || c) → c ≡ true → d ≡ true
later true c d f h = f
later false c d f h = f ∙ h

-- whether a loaded block is another
abbrev pub is_this : sums.More → sums.More → Bool
is_this r q = r.at == q.at && r.from == q.from && r.n == q.n && forms.same_forms q.n r.form q.form

-- if one of the blocks that are left is another, one of all is
pub record Has (rs : Mores) (q : sums.More) (ps : List More) : Type 0 where
  pub left : Mores
  pub are : MoresAre ps left
  pub same : sums.has_more left q ≡ true → sums.has_more rs q ≡ true

-- the blocks after one that is not the other decide whether one of all is
pub has_next : (rs : Mores) (q : sums.More) (ps : List More) (i : ℕ) (p : More) → p ≡ get_or ps i p → i < length ps → Has rs q (drop i ps) → Has rs q (drop (i + 1) ps)
has_next rs q ps i p e l w =
    let f = first_more w.left ps i p e l w.are in
    record {
      left = f.more;
      are = f.are;
      same = λ h. w.same (later (is_this f.one q) (sums.has_more f.more q) (sums.has_more w.left q) (ap (λ (x : Mores). sums.has_more x q) f.same) h);
    }

-- a block that is the other is one of all
pub has_here : (rs : Mores) (q : sums.More) (ps : List More) (i : ℕ) (p : More) → p ≡ get_or ps i p → i < length ps → ((r : sums.More) → MoreIs p r → is_this r q ≡ true)
    → Has rs q (drop i ps) → sums.has_more rs q ≡ true
has_here rs q ps i p e l one w =
    let f = first_more w.left ps i p e l w.are in
    w.same (either (is_this f.one q) (sums.has_more f.more q) (sums.has_more w.left q) (one f.one f.is) (ap (λ (x : Mores). sums.has_more x q) f.same))

-- if the blocks that are left are in a list, all are
pub record Follow (rs qs : Mores) (ps : List More) : Type 0 where
  pub left : Mores
  pub are : MoresAre ps left
  pub same : sums.mores_follow rs left ≡ true → sums.mores_follow rs qs ≡ true

-- if a block is in the list, those after it decide whether all are
pub follow_next : (rs qs : Mores) (ps : List More) (i : ℕ) (p : More) → p ≡ get_or ps i p → i < length ps → ((q : sums.More) → MoreIs p q → sums.has_more rs q ≡ true)
    → Follow rs qs (drop i ps) → Follow rs qs (drop (i + 1) ps)
follow_next rs qs ps i p e l one w =
    let f = first_more w.left ps i p e l w.are in
    record {
      left = f.more;
      are = f.are;
      same = λ h. w.same
          (both (sums.has_more rs f.one) (sums.mores_follow rs f.more) (sums.mores_follow rs w.left) (one f.one f.is) (ap (λ (x : Mores). sums.mores_follow rs x) f.same) h);
    }

-- if no block is left, all are in the list
pub follow_end : (rs qs : Mores) (ps : List More) (i : ℕ) → length ps ≤ i → Follow rs qs (drop i ps) → sums.mores_follow rs qs ≡ true
follow_end rs qs ps i l w = w.same (ap (λ (x : Mores). sums.mores_follow rs x) (no_more w.left ps i l w.are))

-- ---- by how much totals are off

-- if by how much those are off that are left follows, it does for all
pub record Paired (names : List (List ℕ)) (ts : List Total) (fs gs : Offs) (bs : List Balance) (rest others : List (Option Form)) : Type 0 where
  pub left : List Total
  pub are : AreTotals names left bs
  pub first : Offs
  pub firsts : OptionalsAre rest first
  pub second : Offs
  pub seconds : OptionalsAre others second
  pub same : sums.offs_follow left first second ≡ true → sums.offs_follow ts fs gs ≡ true

-- if by how much a total is off follows, the totals after it decide for all
pub offs_next : (names : List (List ℕ)) (ts : List Total) (fs gs : Offs) (bs : List Balance) (i : ℕ) (b : Balance) (rest others more most : List (Option Form)) (p q : Option Form)
    → b ≡ get_or bs i b → i < length bs → rest ≡ p ∷ more → others ≡ q ∷ most
    → ((t : Total) (f g : Off) → IsTotal names t b → OptionalIs p f → OptionalIs q g → sums.off_follows t f g ≡ true)
    → Paired names ts fs gs (drop i bs) rest others → Paired names ts fs gs (drop (i + 1) bs) more most
offs_next names ts fs gs bs i bal rest others more most p q z l e k one w =
    let t = first_total names w.left bs i bal z l w.are in
    let a = first_off w.first p more (subst (λ (x : List (Option Form)). OptionalsAre x w.first) e w.firsts) in
    let b = first_off w.second q most (subst (λ (x : List (Option Form)). OptionalsAre x w.second) k w.seconds) in
    record {
      left = t.more;
      are = t.are;
      first = a.more;
      firsts = a.are;
      second = b.more;
      seconds = b.are;
      same = λ h. w.same
          (both (sums.off_follows t.total a.off b.off) (sums.offs_follow t.more a.more b.more) (sums.offs_follow w.left w.first w.second) (one t.total a.off b.off t.is a.is b.is)
          (ap (λ (x : List Total). sums.offs_follow x w.first w.second) t.same
          ∙ ap (λ (x : Offs). sums.offs_follow (t.total ∷ t.more) x w.second) a.same
          ∙ ap (λ (x : Offs). sums.offs_follow (t.total ∷ t.more) (a.off ∷ a.more) x) b.same) h);
    }

nothing_follows : (ts : List Total) (fs : Offs) → sums.offs_follow ts fs [] ≡ true
nothing_follows [] fs = refl
nothing_follows (t ∷ ts) fs = refl

-- nothing else is left to follow
pub offs_stop : (names : List (List ℕ)) (ts : List Total) (fs gs : Offs) (bs : List Balance) (rest others : List (Option Form)) → others ≡ []
    → Paired names ts fs gs bs rest others → sums.offs_follow ts fs gs ≡ true
offs_stop names ts fs gs bs rest others e w =
    w.same (ap (λ (x : Offs). sums.offs_follow w.left w.first x) (no_off w.second others e w.seconds) ∙ nothing_follows w.left w.first)

-- no total is left
pub offs_end : (names : List (List ℕ)) (ts : List Total) (fs gs : Offs) (bs : List Balance) (i : ℕ) (rest others : List (Option Form)) → length bs ≤ i
    → Paired names ts fs gs (drop i bs) rest others → sums.offs_follow ts fs gs ≡ true
offs_end names ts fs gs bs i rest others l w =
    w.same (ap (λ (x : List Total). sums.offs_follow x w.first w.second) (no_total names w.left bs i l w.are))
