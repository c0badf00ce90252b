-- No row abends with 09, which an exit alone has.
use Rattle.std.proofs.Common.{ℕ, Bool, true, false, cond, List, [], ◌∷◌, Option, Some, None}
use Rattle.std.specs.Prelude.{⊤}
use Rattle.model_events.specs.model_machine.specs.declared.instruction.Ins.{Ins}
use Rattle.model_events.specs.model_machine.specs.declared.instruction.Ins.TheVariants as ins
use Rattle.model_events.specs.model_machine.specs.declared.machine.Abend.{Abend}
use Rattle.model_events.specs.model_machine.specs.Frame.{Frame}
use Rattle.model_events.specs.model_machine.specs.Primitives.{Around, Done, Primitive, CheckCase, LoadCcr, StoreCcr, Lookup, MemoryCompare, MemoryCopy, DelegateTo, DelegatorAid, Digest, CompareFixed, CopyFixed, SetProtection, Encipher, Decipher, Sign, BitByte, ShiftLeft, ShiftRight, BitWord, primitive, reported_causes, later_causes, prim_causes}
use Rattle.model_events.specs.model_machine.specs.Row.{causes, effect, first_cause, RowEnd, Abends, Does, row_end, row}
use Rattle.law_promise.specs.Domain.{IsRowCause}

-- each cause of a list is one of a row
abbrev AreRowCauses : List (Abend × Bool) → Type 0
AreRowCauses [] = ⊤
AreRowCauses (c ∷ cs) = IsRowCause c.0 × AreRowCauses cs

-- if a row abends, it is with one of these
abbrev pub OnAbend : RowEnd → (Abend → Type 0) → Type 0
OnAbend (Abends cause) P = P cause
OnAbend (Does d) P = ⊤

reported_are : (f : Frame) (a : ℕ) (n : Option (List ℕ)) → AreRowCauses (reported_causes f a n)
reported_are f a None = tt
reported_are f a (Some name) = (tt, (tt, tt))

later_are : (p : Primitive) (args : List ℕ) (f : Frame) (public : List ℕ) (x : Around) → AreRowCauses (later_causes p args f public x)
unfolding later_causes
later_are CheckCase args f public x = (tt, (tt, tt))
later_are LoadCcr args f public x = (tt, tt)
later_are StoreCcr args f public x = (tt, tt)
later_are Lookup args f public x = (tt, (tt, tt))
later_are MemoryCompare args f public x = (tt, (tt, (tt, tt)))
later_are MemoryCopy args f public x = (tt, (tt, (tt, (tt, tt))))
later_are DelegateTo args f public x = (tt, (tt, (tt, tt)))
later_are DelegatorAid args f public x = (tt, reported_are _ _ x.delegator)
later_are Digest args f public x = (tt, (tt, (tt, (tt, tt))))
later_are CompareFixed args f public x = (tt, (tt, tt))
later_are CopyFixed args f public x = (tt, (tt, (tt, tt)))
later_are SetProtection args f public x = tt
later_are (Encipher c) args f public x = (tt, (tt, (tt, tt)))
later_are (Decipher c) args f public x = (tt, (tt, (tt, tt)))
later_are (Sign c) args f public x = (tt, (tt, (tt, tt)))
later_are BitByte args f public x = (tt, tt)
later_are ShiftLeft args f public x = (tt, tt)
later_are ShiftRight args f public x = (tt, tt)
later_are BitWord args f public x = (tt, tt)

prim_are : (p : Option Primitive) (args : List ℕ) (f : Frame) (public : List ℕ) (x : Around) → AreRowCauses (prim_causes p args f public x)
prim_are None args f public x = (tt, tt)
prim_are (Some p) args f public x = (tt, (tt, later_are p args f public x))

all_are : (i : Ins) (f : Frame) (public : List ℕ) (x : Around) → AreRowCauses (causes i f public x)
unfolding causes
all_are ins.Nop f public x = tt
all_are (ins.Setsw sw) f public x = tt
all_are (ins.Setla la) f public x = tt
all_are (ins.Setswla sw la) f public x = tt
all_are ins.Exit f public x = tt
all_are (ins.Exitsw sw) f public x = tt
all_are (ins.Exitla la) f public x = tt
all_are (ins.Exitswla sw la) f public x = tt
all_are (ins.Branch k d) f public x = (tt, tt)
all_are (ins.Jump k to) f public x = (tt, (tt, tt))
all_are (ins.Call k to) f public x = (tt, (tt, (tt, tt)))
all_are (ins.Pushz n) f public x = (tt, (tt, tt))
all_are (ins.Pushb b) f public x = (tt, tt)
all_are (ins.Pushw w) f public x = (tt, tt)
all_are (ins.Popn n) f public x = (tt, (tt, tt))
all_are ins.Popb f public x = (tt, tt)
all_are ins.Popw f public x = (tt, tt)
all_are (ins.Prim set number args) f public x = prim_are (primitive set number) args f public x
all_are ins.Ret f public x = (tt, (tt, tt))
all_are (ins.Reti i) f public x = (tt, (tt, tt))
all_are (ins.Reto o) f public x = (tt, (tt, tt))
all_are (ins.Retio i o) f public x = (tt, (tt, tt))
all_are (ins.Load tag off n) f public x = (tt, (tt, (tt, (tt, tt))))
all_are (ins.Store tag off n) f public x = (tt, (tt, (tt, (tt, tt))))
all_are (ins.Loadi tag off n) f public x = (tt, (tt, (tt, (tt, tt))))
all_are (ins.Storei tag off n) f public x = (tt, (tt, (tt, (tt, tt))))
all_are (ins.Loada tag off) f public x = (tt, (tt, tt))
all_are (ins.Index tag off size) f public x = (tt, (tt, (tt, tt)))
all_are (ins.Setb tag off b) f public x = (tt, (tt, (tt, tt)))
all_are (ins.Cmpb tag off b) f public x = (tt, (tt, tt))
all_are (ins.Addb tag off b) f public x = (tt, (tt, (tt, tt)))
all_are (ins.Subb tag off b) f public x = (tt, (tt, (tt, tt)))
all_are (ins.Setw tag off w) f public x = (tt, (tt, (tt, tt)))
all_are (ins.Cmpw tag off w) f public x = (tt, (tt, tt))
all_are (ins.Addw tag off w) f public x = (tt, (tt, (tt, tt)))
all_are (ins.Subw tag off w) f public x = (tt, (tt, (tt, tt)))
all_are (ins.Clearn tag off n) f public x = (tt, (tt, (tt, (tt, tt))))
all_are (ins.Testn tag off n) f public x = (tt, (tt, (tt, tt)))
all_are (ins.Incn tag off n) f public x = (tt, (tt, (tt, (tt, tt))))
all_are (ins.Decn tag off n) f public x = (tt, (tt, (tt, (tt, tt))))
all_are (ins.Notn tag off n) f public x = (tt, (tt, (tt, (tt, tt))))
all_are (ins.Cmpn tag off n) f public x = (tt, (tt, (tt, tt)))
all_are (ins.Addn tag off n) f public x = (tt, (tt, (tt, (tt, tt))))
all_are (ins.Subn tag off n) f public x = (tt, (tt, (tt, (tt, tt))))
all_are (ins.Andn tag off n) f public x = (tt, (tt, (tt, (tt, tt))))
all_are (ins.Orn tag off n) f public x = (tt, (tt, (tt, (tt, tt))))
all_are (ins.Xorn tag off n) f public x = (tt, (tt, (tt, (tt, tt))))

first_by : (b : Bool) (a : Abend) (rest : Option Abend) (d : Done) → IsRowCause a → OnAbend (row_end rest d) IsRowCause → OnAbend (row_end (cond b (Some a) rest) d) IsRowCause
first_by true a rest d is h = is
first_by false a rest d is h = h

first_is : (cs : List (Abend × Bool)) (d : Done) → AreRowCauses cs → OnAbend (row_end (first_cause cs) d) IsRowCause
first_is [] d h = tt
first_is (c ∷ cs) d h = first_by c.1 c.0 (first_cause cs) d h.0 (first_is cs d h.1)

-- if a row abends, it is not with 09
pub row_cause : (i : Ins) (f : Frame) (public : List ℕ) (x : Around) → OnAbend (row i f public x) IsRowCause
unfolding row
row_cause i f public x = first_is (causes i f public x) (effect i f public x) (all_are i f public x)
