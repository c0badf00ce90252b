-- The meaning of the status with which a job ended.
use Rattle.std.proofs.Common.{◌≡◌, Bool, true, false, Result, Ok, Err, IfErr, IfOk, refl, sym, subst}
use Rattle.mc_text.specs.Texts.{Sunk}
use Rattle.mc_filter.specs.Inputs.{Stream, TookLimited}
use Rattle.mc_streams.specs.declared.refusals.WriteFault.{WriteFault as Fault}
use Rattle.mc_filter.specs.Outside.{JobSays, Outside, SaysNoMemory, SaysReadFault}
use Rattle.mc_filter.specs.Statuses.{status_after_writing, RejectionEnds}
use Rattle.mc_filter.specs.declared.rejection.Rejection.{Rejection}
use Rattle.mc_filter.specs.declared.rejection.Rejection.TheVariants as rejection
use Rattle.mc_filter.specs.declared.status.Status.{Status}
use Rattle.mc_filter.proofs.Outside as filter
use Rattle.meldesk.specs.Jobs.{MadeText}
use Rattle.meldesk.specs.Jobs as text
use Rattle.meldesk.specs.Running.{RejectsText, WritesDraft}
use Rattle.meldesk.specs.Statuses.{status_if, DeckDone, DeckSays, MeldeskDone, TextSays}
use Rattle.meldesk.specs.Verdicts.{Refusal, Whole}

-- source and sink before and after a call
abbrev pub around : Stream → Stream → Sunk → Sunk → Outside
around i j x y = record { input_old = i; input = j; out_old = x; out = y }

-- the promise of a job that was done, at the status that its writing ended with, by whether its draft passes
says_by : (Did : Status → Type 0) (Faulty Short : Type 0) (passes : Bool) (r : Result (Unit {0}) Fault) (s : Status) → s ≡ status_after_writing (status_if passes) r → Did s → JobSays Did Faulty Short s
says_by Did Faulty Short true r s e d = filter.says_done Did Faulty Short r s e d
says_by Did Faulty Short false r s e d = filter.says_refused Did Faulty Short r s e d

-- ---- a text

-- the text of a draft was written
says_written : (t : MadeText) (s : Status) (a : Outside) → WritesDraft t s a → TextSays s t a
says_written t s a w =
    says_by (MeldeskDone t a) (SaysReadFault (TookLimited a.input_old a.input) a) (SaysNoMemory (TookLimited a.input_old a.input) a) w.passes w.written.result s w.written.status
    (record { verdict = Whole w.passes w.text; due = w.due; done = w.written })

-- a text was not made
says_rejected : (t : MadeText) (i j : Stream) (x m y : Sunk) (e : Rejection) (s : Status) → m ≡ x → RejectsText t (around i j x m) e → RejectionEnds e x s y → TextSays s t (around i j x y)
says_rejected t i j x m y (rejection.Refusal line) s same why ends =
    let a = around i j x y in
    filter.says_refused (MeldeskDone t a) (SaysReadFault (TookLimited i j) a) (SaysNoMemory (TookLimited i j) a) ends.result s ends.status
    (record { verdict = Refusal line.items; due = why; done = ends })
says_rejected t i j x m y rejection.ReadFault s same why ends =
    subst (λ (s : Status). TextSays s t (around i j x y)) (sym ends.0) (record { cause = why.0; source = why.1; written = ends.1 })
says_rejected t i j x m y rejection.NoMemory s same why ends =
    subst (λ (s : Status). TextSays s t (around i j x y)) (sym ends.0) (record { quiet = why.0; source = why.1; written = ends.1 })

-- the end of a job that makes a text, by its result, after which its sink is m, and by what was written at its end
pub says_text : (t : MadeText) (i j : Stream) (x m y : Sunk) (r : Result Status Rejection) (s : Status) → IfOk r (λ q. WritesDraft t q (around i j x m)) → IfErr r (λ e. RejectsText t (around i j x m) e) → IfErr r (λ e. m ≡ x)
    → IfOk r (λ q. (s ≡ q) × (y ≡ m)) → IfErr r (λ e. RejectionEnds e m s y) → TextSays s t (around i j x y)
says_text t i j x m y (Ok q) s wrote rejects same done ends =
    subst (λ (s : Status). TextSays s t (around i j x y)) (sym done.0)
    (subst (λ (y : Sunk). TextSays q t (around i j x y)) (sym done.1) (says_written t q (around i j x m) wrote))
says_text t i j x m y (Err e) s wrote rejects same done ends =
    says_rejected t i j x m y e s same rejects (subst (λ (m : Sunk). RejectionEnds e m s y) same ends)

-- ---- a deck, whose refusal goes to another sink, which is u before it and v after it

deck_written : (s : Status) (a : Outside) (u : Sunk) → WritesDraft text.Deck s a → DeckSays s a u u
deck_written s a u w =
    says_by (DeckDone a u u) (SaysReadFault (TookLimited a.input_old a.input) a × (u ≡ u)) (SaysNoMemory (TookLimited a.input_old a.input) a × (u ≡ u)) w.passes w.written.result s w.written.status
    (record { verdict = Whole w.passes w.text; due = w.due; done = (w.written, refl) })

deck_rejected : (i j : Stream) (x m u v : Sunk) (e : Rejection) (s : Status) → m ≡ x → RejectsText text.Deck (around i j x m) e → RejectionEnds e u s v → DeckSays s (around i j x m) u v
deck_rejected i j x m u v (rejection.Refusal line) s same why ends =
    let a = around i j x m in
    filter.says_refused (DeckDone a u v) (SaysReadFault (TookLimited i j) a × (v ≡ u)) (SaysNoMemory (TookLimited i j) a × (v ≡ u)) ends.result s ends.status
    (record { verdict = Refusal line.items; due = why; done = (ends, same) })
deck_rejected i j x m u v rejection.ReadFault s same why ends =
    subst (λ (s : Status). DeckSays s (around i j x m) u v) (sym ends.0) (record { cause = why.0; source = why.1; written = same }, ends.1)
deck_rejected i j x m u v rejection.NoMemory s same why ends =
    subst (λ (s : Status). DeckSays s (around i j x m) u v) (sym ends.0) (record { quiet = why.0; source = why.1; written = same }, ends.1)

-- the end of the job that writes a deck, by its result, after which its sink is m
pub says_deck : (i j : Stream) (x m u v : Sunk) (r : Result Status Rejection) (s : Status) → IfOk r (λ q. WritesDraft text.Deck q (around i j x m)) → IfErr r (λ e. RejectsText text.Deck (around i j x m) e) → IfErr r (λ e. m ≡ x)
    → IfOk r (λ q. (s ≡ q) × (v ≡ u)) → IfErr r (λ e. RejectionEnds e u s v) → DeckSays s (around i j x m) u v
says_deck i j x m u v (Ok q) s wrote rejects same done ends =
    subst (λ (s : Status). DeckSays s (around i j x m) u v) (sym done.0)
    (subst (λ (v : Sunk). DeckSays q (around i j x m) u v) (sym done.1) (deck_written q (around i j x m) u wrote))
says_deck i j x m u v (Err e) s wrote rejects same done ends = deck_rejected i j x m u v e s same rejects ends
