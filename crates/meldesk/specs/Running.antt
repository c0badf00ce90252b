-- The parts of a job that makes a text, and why it is not done.
use Rattle.std.specs.Prelude.{◌≡◌, ℕ, Bool, true, false, List, map, Result, Ok, Err}
use Rattle.mc_deck.specs.model_play.specs.declared.deck.DeckCause.{DeckCause}
use Rattle.mc_filter.specs.declared.status.Status.{Status}
use Rattle.mc_filter.specs.Inputs.{FailsReading, ReadsLimited, Rejects}
use Rattle.mc_filter.specs.Lines.{deck_line, too_long}
use Rattle.mc_filter.specs.Outside.{IsRead, Outside}
use Rattle.mc_filter.specs.Statuses.{IsWritten}
use Rattle.mc_filter.specs.declared.rejection.Rejection.{Rejection}
use Rattle.mc_filter.specs.declared.rejection.Rejection.TheVariants as rejection
use Rattle.desk_draft.specs.declared.draft.Section.{Section}
use Rattle.desk_draft.specs.Drafts.{Draft}
use Rattle.desk_draft.specs.Listings.{Desk}
use Rattle.desk_draft.specs.Written.{section_value}
use Rattle.meldesk.specs.Jobs.{MadeText}
use Rattle.meldesk.specs.Statuses.{status_if}
use Rattle.meldesk.specs.Verdicts.{IsTextOf, JobVerdict, Refusal, Whole}

-- the draft with this deck and these sections
abbrev pub draft_with : List ℕ → List Section → Draft
draft_with deck sections = record { deck = deck; sections = map (section_value deck) sections }

-- the line that refuses a draft
abbrev pub refused_draft : {A : Type 0} → Result A (ℕ × DeckCause) → List ℕ → Type 0
refused_draft (Ok d) line = ⊥
refused_draft (Err e) line = line ≡ deck_line e

-- the line that refuses a draft or its deck, which may not be too long
abbrev pub refused_desk : Bool → Result Desk (ℕ × DeckCause) → List ℕ → Type 0
refused_desk true desk line = line ≡ too_long
refused_desk false (Ok d) line = ⊥
refused_desk false (Err e) line = line ≡ deck_line e

-- a rejection of a draft, by the verdicts that the draft may have
abbrev pub RejectsAs : (JobVerdict → Type 0) → Rejection → Type 0
RejectsAs IsOf why = Rejects (λ line. IsOf (Refusal line)) why

-- why a text was not made: a line that refuses its draft, one call of its source that failed, or out of memory, in
-- which case none did
abbrev pub RejectsText : MadeText → Outside → Rejection → Type 0
RejectsText t a (rejection.Refusal line) = IsRead Refusal (IsTextOf t) a.input_old a.input (Refusal line.items)
RejectsText t a rejection.ReadFault = FailsReading a.input_old a.input
RejectsText t a rejection.NoMemory = ReadsLimited a.input_old a.input

-- the text of a draft was written
pub record WritesDraft (t : MadeText) (s : Status) (a : Outside) : Type 0 where
  pub passes : Bool
  pub text : List ℕ
  pub due : IsRead Refusal (IsTextOf t) a.input_old a.input (Whole passes text)
  pub written : IsWritten (status_if passes) text s a.out_old a.out
