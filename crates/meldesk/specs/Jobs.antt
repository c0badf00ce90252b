-- The jobs that the words of the command line select.
use Rattle.std.specs.Prelude.{ℕ, Bool, not, ◌&&◌, nat_le, ◌==◌, List, [], ◌∷◌, ◌++◌, length, bytes_eq, codes, cond, string_bytes, is_none, Option, Some, None}
use Rattle.std.specs.declared.alloc.Global.{Global}
use Rattle.std.specs.declared.string.String.{String}
use Rattle.mc_text.specs.model_text.specs.Text.{first_cut, is_empty}
use Rattle.meldesk.specs.declared.job.Job.{Job}
use Rattle.meldesk.specs.declared.job.Job.TheVariants as job
use Rattle.meldesk.specs.declared.job.Play.{Play}
use Rattle.meldesk.specs.declared.job.Play.TheVariants as play
use Rattle.meldesk.specs.declared.job.About.{About}
use Rattle.meldesk.specs.declared.job.About.TheVariants as about
use Rattle.meldesk.specs.declared.job.Text.{Text}
use Rattle.meldesk.specs.declared.job.Text.TheVariants as text

-- a text that is made from a draft: its deck, the code of each section, the stack checker's verdicts, the names and labels,
-- or all that is wrong with it for a file of a name
pub data MadeText : Type 0 where
  Deck : MadeText
  Listing : MadeText
  Verdicts : MadeText
  Names : MadeText
  Explained : (name : List ℕ) → MadeText

-- what is shown of a play: its trace, its lines and turns as JSON Lines, or its coverage as the record of a file
pub data Shown : Type 0 where
  Trace : Shown
  Steps : Shown
  Coverage : (name : List ℕ) → Shown

-- a job: a text made from a draft, what is shown of the play of its deck, or what the program says of itself
pub data DeskJob : Type 0 where
  Makes : (made : MadeText) → DeskJob
  Shows : (shown : Shown) → DeskJob
  Describes : (about : About) → DeskJob

-- what a play of the code shows
abbrev pub shown_by : Play → Shown
shown_by play.Trace = Trace
shown_by play.Steps = Steps
shown_by (play.Cover name) = Coverage name.now

-- the text of the code
abbrev pub text_value : Text → MadeText
text_value text.Deck = Deck
text_value text.Listing = Listing
text_value text.Verdicts = Verdicts
text_value text.Names = Names
text_value (text.Explained name) = Explained name.now

-- the job of the code
abbrev pub job_value : Job → DeskJob
job_value (job.Write t) = Makes (text_value t)
job_value (job.Play p) = Shows (shown_by p)
job_value (job.Describe t) = Describes t

-- the job that a word selects
abbrev pub job_named : List ℕ → Option DeskJob
job_named w =
    cond (bytes_eq w (codes "deck")) (Some (Makes Deck)) (cond (bytes_eq w (codes "list")) (Some (Makes Listing)) (
    cond (bytes_eq w (codes "check")) (Some (Makes Verdicts)) (cond (bytes_eq w (codes "names")) (Some (Makes Names)) (
    cond (bytes_eq w (codes "trace")) (Some (Shows Trace)) (cond (bytes_eq w (codes "steps")) (Some (Shows Steps)) (
    cond (bytes_eq w (codes "--help")) (Some (Describes about.Help)) (cond (bytes_eq w (codes "--version")) (Some (Describes about.Version)) None)
    ))
    ))
    ))

-- whether a file may have this name in what is written: 1 to 255 bytes, none of them a line feed
abbrev pub is_file_name : List ℕ → Bool
is_file_name n = not (is_empty n) && nat_le (length n) 255 && is_none (first_cut (λ c. c == 10) n).1

-- the job that a word selects with the name of a file
abbrev pub job_for : List ℕ → List ℕ → Option DeskJob
job_for w n = cond (bytes_eq w (codes "cover")) (Some (Shows (Coverage n))) (cond (bytes_eq w (codes "explain")) (Some (Makes (Explained n))) None)

-- the job that a word and a name select
abbrev pub job_with : List ℕ → List ℕ → Option DeskJob
job_with w n = cond (is_file_name n) (job_for w n) None

-- the job that the words of the command line select
abbrev pub job_of : List (String Global) → Option DeskJob
job_of [] = None
job_of (w ∷ []) = job_named (string_bytes w)
job_of (w ∷ n ∷ []) = job_with (string_bytes w) (string_bytes n)
job_of (w ∷ n ∷ x ∷ ws) = None

-- the text that is written if the words select no job
abbrev pub usage : List ℕ
usage = codes "usage: meldesk deck | list | check | trace | steps | names | explain NAME | cover NAME\n"

-- the version
abbrev pub version : List ℕ
version = codes "meldesk 3\n"

-- what the program reads and writes, its jobs, an example, and its page
abbrev pub help : List ℕ
help =
    codes "usage: meldesk deck | list | check | trace | steps | names | explain NAME | cover NAME\n\nmeldesk reads a draft from standard input, a deck in whose app sections bytes and numbers have names, and writes to standard output.\n\n" ++
    codes "  deck        the deck of the draft\n  list        the code of each section line by line\n  check       the stack checker's verdicts, with source lines; status 1 if code is refused\n" ++
    codes "  trace       plays the deck: its trace, with source lines, operands and stack\n" ++
    codes "  steps       plays the deck: each line and each turn as a line of JSON, with what it changed\n" ++
    codes "  names       the names and labels of the sections as lines of JSON\n  explain NAME  all that is wrong with the draft, as editors read it, for the file NAME\n" ++
    codes "  cover NAME  plays the deck: how often each line ran, as an LCOV record for the file NAME\n\n" ++
    codes "Example: meldesk deck < purse.draft | melcard play\nThe page is docs/DESK.md.\n"

-- what the program says of itself
abbrev pub about_text : About → List ℕ
about_text about.Help = help
about_text about.Version = version
