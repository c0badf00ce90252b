-- What a sheet holds: a text of which a front was written and the rest is gathered, or of which a proper front was
-- written before its sink failed.
use Rattle.std.specs.Prelude.{◌≡◌, ℕ, List, [], ◌++◌, Option, Some, None, Result, Ok, Err}
use Rattle.std.proofs.Common.{refl, sym, subst, ◌∙◌, append_assoc, append-nil}
use Rattle.mc_streams.specs.declared.refusals.WriteFault.{WriteFault}
use Rattle.mc_streams.specs.declared.sink.Sink.{Ghosts}
use Rattle.mc_text.specs.Texts.{sunk, Sunk, Writes, Fails}
use Rattle.desk_steps.specs.declared.sheet.Sheet.{Sheet}

-- the fault of a sink that failed
abbrev pub fault_in : Result (Unit {0}) WriteFault → Option WriteFault
fault_in (Ok u) = None
fault_in (Err f) = Some f

-- the result of what was written, by the fault of the sink
abbrev pub written_by : Option WriteFault → Result (Unit {0}) WriteFault
written_by None = Ok tt
written_by (Some f) = Err f

-- a text from a state of a sink on, by the fault of its writer and by what is gathered
abbrev pub HoldsBy : Option WriteFault → Sunk → List ℕ → List ℕ → Sunk → Type 0
HoldsBy None a whole gathered b = (written : List ℕ) × (whole ≡ written ++ gathered) × Writes a written b
HoldsBy (Some f) a whole gathered b = Fails a whole b

-- a whole text is written after what was written before, by the fault of its writer and its sink before and after
pub record PutsOn (f : Option WriteFault) (b : Sunk) (text : List ℕ) (g : Option WriteFault) (c : Sunk) : Type 0 where
  pub on : (a : Sunk) (whole : List ℕ) → HoldsBy f a whole [] b → HoldsBy g a (whole ++ text) [] c

-- nothing is written
pub puts_nothing : (f : Option WriteFault) (b : Sunk) → PutsOn f b [] f b
puts_nothing f b = record { on = λ a whole h. subst (λ (t : List ℕ). HoldsBy f a t [] b) (sym (append-nil whole)) h }

-- a text is written after a text
pub puts_both : {f g h : Option WriteFault} {b c d : Sunk} {x y : List ℕ} → PutsOn f b x g c → PutsOn g c y h d → PutsOn f b (x ++ y) h d
puts_both {f} {g} {h} {b} {c} {d} {x} {y} first rest = record { on = λ a whole k. subst (λ (t : List ℕ). HoldsBy h a t [] d) (append_assoc whole x y) (rest.on a (whole ++ x) (first.on a whole k)) }

module _ {T : Type 0} (sink : Ghosts T) where
  -- a sheet holds a text from a state of its sink on
  abbrev pub Holds : Sunk → List ℕ → Sheet T → Type 0
  Holds a whole q = HoldsBy q.fault a whole q.text.items (sunk sink q.out.now)

  -- a sheet holds a text after what it held before, for the same sink
  pub record Adds (q : Sheet T) (text : List ℕ) (r : Sheet T) : Type 0 where
    pub holds : (a : Sunk) (whole : List ℕ) → Holds a whole q → Holds a (whole ++ text) r
    pub same : r.out.ghost_name ≡ q.out.ghost_name

  -- a sheet to which nothing was added is unchanged
  pub adds_none : (q : Sheet T) → Adds q [] q
  adds_none q = record { holds = λ a whole h. subst (λ (t : List ℕ). Holds a t q) (sym (append-nil whole)) h; same = refl }

  -- a text after a text
  pub adds_on : (q r s : Sheet T) (x y : List ℕ) → Adds q x r → Adds r y s → Adds q (x ++ y) s
  adds_on q r s x y first rest = record {
    holds = λ a whole h. subst (λ (t : List ℕ). Holds a t s) (append_assoc whole x y) (rest.holds a (whole ++ x) (first.holds a whole h));
    same = rest.same ∙ first.same;
  }

  -- an equal text
  pub adds_as : (q r : Sheet T) (x y : List ℕ) → x ≡ y → Adds q x r → Adds q y r
  adds_as q r x y e h = subst (λ (t : List ℕ). Adds q t r) e h
