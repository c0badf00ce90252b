-- The text that a filter's job writes, and the number of its status.
use Rattle.std.proofs.Common.{◌≡◌, ◌≤◌, ℕ, zero, suc, cond, nat_eq, List, Result, Ok, Err, OnErr, OnOk, refl, arith, ap, sym, subst, ◌∙◌}
use Rattle.model_device.specs.Counts.{Rose}
use Rattle.mc_streams.specs.Streams.{Grew, GrewByPart}
use Rattle.mc_streams.specs.declared.refusals.WriteFault.{WriteFault as Fault}
use Rattle.mc_text.specs.Texts.{Puts, Sunk}
use Rattle.mc_filter.specs.declared.status.Status.{Status}
use Rattle.mc_filter.specs.declared.status.Status.TheVariants.{Done, Failed, NoForm, ReadFault, WriteFault, NoMemory, Partial}
use Rattle.mc_filter.specs.Statuses.{status_after_writing, number_of, IsNumberOf}

-- a text was put, from the contract of the call that wrote an equal one
pub puts_by : (a b : Sunk) (piece text : List ℕ) (r : Result (Unit {0}) Fault) → piece ≡ text → OnOk r (Grew a.taken b.taken piece)
    → OnErr r (Rose a.faults b.faults) → OnErr r (GrewByPart a.taken b.taken piece) → OnOk r (b.faults ≡ a.faults) → Puts a text r b
puts_by a b piece text (Ok u) is grew rose part quiet = record { whole = subst (λ (t : List ℕ). Grew a.taken b.taken t) is grew; counted = quiet }
puts_by a b piece text (Err f) is grew rose part quiet = record { part = subst (λ (t : List ℕ). GrewByPart a.taken b.taken t) is part; cause = rose }

-- if the sink did not fail, a text was written whole
pub written_whole : (a b : Sunk) (text : List ℕ) (good s : Status) (r : Result (Unit {0}) Fault) → (Rose a.faults b.faults → ⊥)
    → s ≡ status_after_writing good r → Puts a text r b → s ≡ good
written_whole a b text good s (Ok u) quiet e put = e
written_whole a b text good s (Err f) quiet e put = absurd (quiet put.cause)

-- the status with a number
numbered : ℕ → Status
numbered n = cond (nat_eq n 0) Done (cond (nat_eq n 1) Failed (cond (nat_eq n 2) NoForm (cond (nat_eq n 3) ReadFault (cond (nat_eq n 4) WriteFault (cond (nat_eq n 5) NoMemory Partial)))))

numbered_is : (s : Status) → numbered (number_of s) ≡ s
unfolding numbered
numbered_is Done = refl
numbered_is Failed = refl
numbered_is NoForm = refl
numbered_is ReadFault = refl
numbered_is WriteFault = refl
numbered_is NoMemory = refl
numbered_is Partial = refl

-- two statuses with one number are equal
pub same_status : (s t : Status) (n : ℕ) → n ≡ number_of s → n ≡ number_of t → s ≡ t
same_status s t n e f = sym (numbered_is s) ∙ ap numbered (sym e ∙ f) ∙ numbered_is t

-- what holds of the status with a number
pub at_number : (Says : Status → Type 0) (t : Status) (n : ℕ) → IsNumberOf Says n → n ≡ number_of t → Says t
at_number Says t n h is = subst (λ (s : Status). Says s) (same_status h.0 t n h.1 is) h.2

number_bound : (Says : Status → Type 0) (s : Status) → (Says Partial → ⊥) → Says s → number_of s ≤ 5
number_bound Says Done never h = omega arith
number_bound Says Failed never h = omega arith
number_bound Says NoForm never h = omega arith
number_bound Says ReadFault never h = omega arith
number_bound Says WriteFault never h = omega arith
number_bound Says NoMemory never h = omega arith
number_bound Says Partial never h = absurd (never h)

-- the greatest number of a status, if a job is never done in part
pub at_most_five : (Says : Status → Type 0) (n : ℕ) → (Says Partial → ⊥) → IsNumberOf Says n → n ≤ 5
at_most_five Says n never h = subst (λ (k : ℕ). k ≤ 5) (sym h.1) (number_bound Says h.0 never h.2)

-- a number of a status, by what holds of each
pub some_number : (Says : Status → Type 0) (n : ℕ) → n ≤ 5 → (n ≡ 0 → Says Done) → (n ≡ 1 → Says Failed) → (n ≡ 2 → Says NoForm) → (n ≡ 3 → Says ReadFault) → (n ≡ 4 → Says WriteFault) → (n ≡ 5 → Says NoMemory) → IsNumberOf Says n
some_number Says zero few a b c d e f = (Done, refl, a refl)
some_number Says (suc zero) few a b c d e f = (Failed, refl, b refl)
some_number Says (suc (suc zero)) few a b c d e f = (NoForm, refl, c refl)
some_number Says (suc (suc (suc zero))) few a b c d e f = (ReadFault, refl, d refl)
some_number Says (suc (suc (suc (suc zero)))) few a b c d e f = (WriteFault, refl, e refl)
some_number Says (suc (suc (suc (suc (suc zero))))) few a b c d e f = (NoMemory, refl, f refl)
some_number Says (suc (suc (suc (suc (suc (suc n)))))) few a b c d e f = absurd (omega (arith, few))
