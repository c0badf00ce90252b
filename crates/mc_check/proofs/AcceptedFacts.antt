-- What holds at a fact of accepted code: no cause, and room for its stack above each base that its routine may have.
use Rattle.std.proofs.Common.{◌≡◌, ℕ, ◌+◌, ◌≤◌, Bool, true, false, cond, List, length, Result, Ok, Err, refl, ap, ◌∙◌, inl, inr, arith}
use Rattle.std.specs.Prelude.{◌&&◌, not, nat_lt, is_some}
use Rattle.std.proofs.lemmas.Bool.{false_from_ne_true, true_from_ne_false, ltb-true, ltb-false, cases_lt, not_from_true}
use Rattle.law_family.specs.model_text.specs.declared.checker.CheckCause.{CheckCause}
use Rattle.law_family.specs.model_text.specs.declared.checker.CheckCause.TheVariants.{Undefined, Past, Indirect, Returns, Under, Target, Recursive, Deep}
use Rattle.law_family.specs.model_machine.specs.declared.instruction.DecodeFault.{DecodeFault}
use Rattle.law_family.specs.model_machine.specs.declared.instruction.DecodeFault.TheVariants as fault
use Rattle.law_family.specs.model_machine.specs.declared.instruction.Ins.{Ins}
use Rattle.law_family.specs.model_machine.specs.Code.{instruction_at}
use Rattle.model_stack.specs.StackRows.{need, is_indirect, counts, places_inside}
use Rattle.model_stack.specs.StackShape.{Fact, is_main, FactLook, Bad, Stands, fact_look, look, Gives, Reached, Depth, IsBase, Accepts}

-- ---- the look of a fact

-- none of the tests holds
none_bad : (a b c d : Bool) (w x y z : CheckCause) (l : FactLook) → a ≡ false → b ≡ false → c ≡ false → d ≡ false → cond a (Bad w) (cond b (Bad x) (cond c (Bad y) (cond d (Bad z) l))) ≡ l
none_bad a b c d w x y z l p q r s = rw (p, q, r, s) refl

-- ---- facts of accepted code

-- the instruction at a fact that breaks no rule
pub record GoodAt (code : List ℕ) (f : Fact) (i : Ins) (next : ℕ) : Type 0 where
  pub decoded : instruction_at code f.place ≡ Ok (i, next)
  pub stands : look code f ≡ Stands i next
  pub direct : is_indirect i ≡ false
  pub home : (is_main f.routine && is_some (counts i)) ≡ false
  pub needs : need i ≤ f.height
  pub inside : places_inside (length code) i next ≡ true

-- room for `height` bytes above a base, within the stack and within the deepest height
pub record HasStackRoom (session most base height : ℕ) : Type 0 where
  pub stack : session + base + height ≤ 512
  pub deepest : base + height ≤ most

-- each routine that is reached has a base
abbrev pub HasBases : List ℕ → Type 0
HasBases code = (f : Fact) → Reached code f → (b : ℕ) × IsBase code f.routine b

module _ (code : List ℕ) (session most : ℕ) (accepts : Accepts code session most) where
  pub undefined_never : (f : Fact) → Reached code f → instruction_at code f.place ≡ Err fault.Undefined → ⊥
  undefined_never f reached is = accepts.sound f Undefined reached is

  pub past_never : (f : Fact) → Reached code f → instruction_at code f.place ≡ Err fault.Past → ⊥
  past_never f reached is = accepts.sound f Past reached is

  stands_at : (f : Fact) (i : Ins) (next : ℕ) → instruction_at code f.place ≡ Ok (i, next) → is_indirect i ≡ false → (is_main f.routine && is_some (counts i)) ≡ false → nat_lt f.height (need i) ≡ false → places_inside (length code) i next ≡ true → look code f ≡ Stands i next
  unfolding look
  stands_at f i next is direct home enough inside =
      ap (λ (r : Result (Ins × ℕ) DecodeFault). fact_look (length code) f r) is
      ∙ none_bad (is_indirect i) (is_main f.routine && is_some (counts i)) (nat_lt f.height (need i)) (not (places_inside (length code) i next)) Indirect Returns Under Target (Stands i next) direct home enough (not_from_true _ inside)

  pub good_at : (f : Fact) → Reached code f → (i : Ins) (next : ℕ) → instruction_at code f.place ≡ Ok (i, next) → GoodAt code f i next
  good_at f reached i next is =
      let direct : is_indirect i ≡ false = false_from_ne_true (is_indirect i) (λ e. accepts.sound f Indirect reached (i, next, is, e)) in
      let home : (is_main f.routine && is_some (counts i)) ≡ false = false_from_ne_true _ (λ e. accepts.sound f Returns reached (inl (i, next, is, e))) in
      let enough : nat_lt f.height (need i) ≡ false = false_from_ne_true _ (λ e. accepts.sound f Under reached (inl (i, next, is, ltb-true f.height (need i) e))) in
      let inside : places_inside (length code) i next ≡ true = true_from_ne_false _ (λ e. accepts.sound f Target reached (i, next, is, e)) in
      record { decoded = is; stands = stands_at f i next is direct home enough inside; direct = direct; home = home; needs = ltb-false f.height (need i) enough; inside = inside }

  module _ (bases : HasBases code) where
    fits_at : (f : Fact) (greatest : ℕ) → Reached code f → IsBase code f.routine greatest → session + greatest + f.height ≤ 512
    fits_at f greatest reached is =
        elim (cases_lt 512 (session + greatest + f.height)) [
          | inl deep ↦ absurd (accepts.sound f Deep reached (record { sound = λ g at itself. accepts.sound g Recursive at itself; base = greatest; is_base = is; deep = deep }))
          | inr fits ↦ fits
        ]

    pub room_at : (f : Fact) (b : ℕ) → Reached code f → Depth code f.routine b → HasStackRoom session most b f.height
    room_at f b reached depth =
        let greatest = (bases f reached).0 in
        let is : IsBase code f.routine greatest = (bases f reached).1 in
        let low : b ≤ greatest = is.greatest b depth in
        let fits : session + greatest + f.height ≤ 512 = fits_at f greatest reached is in
        let deepest : greatest + f.height ≤ most = accepts.deepest.greatest f greatest reached is in
        record { stack = omega (arith, low, fits); deepest = omega (arith, low, deepest) }

    pub gives_at : (f : Fact) (b : ℕ) (i : Ins) (next : ℕ) → Reached code f → Depth code f.routine b → GoodAt code f i next → Gives code f i next
    gives_at f b i next reached depth good =
        let room = room_at f b reached depth in
        let fits : session + b + f.height ≤ 512 = room.stack in
        record { stands = good.stands; height = omega (arith, fits) }
