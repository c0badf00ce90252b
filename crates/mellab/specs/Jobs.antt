-- What the words of the command line select: a job, or what the program says of itself.
use Rattle.std.specs.Prelude.{ℕ, List, [], ◌∷◌, ◌++◌, bytes_eq, codes, cond, length, nat_le, string_bytes, Option, Some, None}
use Rattle.std.specs.declared.alloc.Global.{Global}
use Rattle.std.specs.declared.string.String.{String}
use Rattle.mc_text.specs.model_text.specs.Text.{decimal_number}
use Rattle.lab_deck.specs.law_explore_text.specs.law_explore.specs.Search.{most_states}
use Rattle.mellab.specs.declared.job.Job.{Job}
use Rattle.mellab.specs.declared.job.Job.TheVariants as job
use Rattle.mellab.specs.declared.job.About.{About}
use Rattle.mellab.specs.declared.job.About.TheVariants as about
use Rattle.mellab.specs.declared.job.Request.{Request}
use Rattle.mellab.specs.declared.job.Request.TheVariants as request

-- what one word selects
abbrev pub request_named : List ℕ → Option Request
request_named w =
    cond (bytes_eq w (codes "expect")) (Some (request.Do job.Expect)) (cond (bytes_eq w (codes "sweep")) (Some (request.Do job.Sweep)) (
    cond (bytes_eq w (codes "prove")) (Some (request.Do job.Prove)) (cond (bytes_eq w (codes "--help")) (Some (request.Describe about.Help)) (
    cond (bytes_eq w (codes "--version")) (Some (request.Describe about.Version)) None
    ))
    ))

-- a number that is at least 1
abbrev pub at_least_one : Option ℕ → Option ℕ
at_least_one None = None
at_least_one (Some n) = cond (nat_le 1 n) (Some n) None

-- the number that a word spells: as many decimal digits at the most, at least 1
abbrev pub number_of : ℕ → List ℕ → Option ℕ
number_of digits w = cond (nat_le (length w) digits) (at_least_one (decimal_number w)) None

-- the depth that a word spells
abbrev pub depth_of : List ℕ → Option ℕ
depth_of w = number_of 6 w

-- the most states that two words name
abbrev pub most_named : List ℕ → List ℕ → Option ℕ
most_named option m = cond (bytes_eq option (codes "--states")) (number_of 8 m) None

-- the exploration of a depth with the most states, if both are known
abbrev pub exploration_of : Option ℕ → Option ℕ → Option Request
exploration_of (Some depth) (Some most) = Some (request.Do (job.Explore depth most))
exploration_of depth most = None

-- the exploration that a word and the word of a depth select
abbrev pub exploration_named : List ℕ → List ℕ → Option ℕ → Option Request
exploration_named w d most = cond (bytes_eq w (codes "explore")) (exploration_of (depth_of d) most) None

-- what the words of the command line select
abbrev pub request_of : List (String Global) → Option Request
request_of [] = None
request_of (w ∷ []) = request_named (string_bytes w)
request_of (w ∷ d ∷ []) = exploration_named (string_bytes w) (string_bytes d) (Some most_states)
request_of (w ∷ d ∷ o ∷ []) = None
request_of (w ∷ d ∷ o ∷ m ∷ []) = exploration_named (string_bytes w) (string_bytes d) (most_named (string_bytes o) (string_bytes m))
request_of (w ∷ d ∷ o ∷ m ∷ x ∷ ws) = None

-- the text that is written if the words select nothing
abbrev pub usage : List ℕ
usage = codes "usage: mellab expect | sweep | explore N | prove\n"

-- the version
abbrev pub version : List ℕ
version = codes "mellab 3\n"

-- what the program reads and writes, its jobs, an example, and its page
abbrev pub help : List ℕ
help =
    codes "usage: mellab expect | sweep | explore N | prove\n\nmellab reads a deck of melcard from standard input, plays it on cards of its own, and writes to standard output.\n\n" ++
    codes "  expect     each expectation of the deck that failed, and how many did; status 1 if one did\n" ++
    codes "  sweep      cuts power in each device write of each line: what the card was then; status 1 if a line marked whole is not, or is not swept\n" ++
    codes "  explore N  tries every sequence of at most N moves of the deck, each whole and cut in each write: the shortest that breaks a rule\n" ++
    codes "             of the deck, with status 1, or status 6 if not all was explored; N --states M keeps at most M states, in place of 1000000\n" ++
    codes "  prove      decides whether an application keeps the rules of the deck, whatever a terminal sends; status 1 if that is not proved\n\n" ++
    codes "Example: mellab sweep < purse.deck\nThe page is docs/LABORATORY.md.\n"

-- what the program says of itself
abbrev pub about_text : About → List ℕ
about_text about.Help = help
about_text about.Version = version
