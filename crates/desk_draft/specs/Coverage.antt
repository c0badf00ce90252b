-- How often each line of code ran and each branch went each way, as a record of LCOV (geninfo, "tracefile").
use Rattle.std.specs.Prelude.{ℕ, ◌-◌, Bool, true, false, cond, not, ◌&&◌, nat_lt, ◌==◌, List, [], ◌∷◌, ◌++◌, map, filter, flat_map, length, codes, decimal, Option, Some, None, Result, Ok, Err}
use Rattle.mc_text.specs.model_machine.specs.declared.instruction.Ins.{Ins}
use Rattle.mc_text.specs.model_machine.specs.declared.instruction.Ins.TheVariants as ins
use Rattle.mc_text.specs.model_machine.specs.declared.instruction.DecodeFault.{DecodeFault}
use Rattle.mc_text.specs.model_text.specs.Text.{is_within}
use Rattle.mc_text.specs.model_machine.specs.Code.{front}
use Rattle.mc_text.specs.model_machine.specs.Row.{holds}
use Rattle.mc_deck.specs.model_play.specs.Play.{Step}
use Rattle.desk_draft.specs.Listings.{CodeLine, Source}
use Rattle.desk_draft.specs.FullTurns.{FullTurn, turns_of_step}
use Rattle.desk_draft.specs.Traces.{is_turn_of}

-- ---- branches

-- the condition of an instruction that goes elsewhere where it holds, none of one that always does or takes its target
-- from the stack
abbrev pub condition_in : ℕ → Option ℕ
condition_in k = cond (is_within 1 6 k) (Some k) None

-- the condition of a branch, jump or call
abbrev pub condition_of : Ins → Option ℕ
condition_of (ins.Branch k d) = condition_in k
condition_of (ins.Jump k to) = condition_in k
condition_of (ins.Call k to) = condition_in k
condition_of i = None

-- the condition of the instruction at the front of a line's code
abbrev pub condition_decoded : Result (Ins × ℕ) DecodeFault → Option ℕ
condition_decoded (Ok i) = condition_of i.0
condition_decoded (Err e) = None

-- the condition of a line
abbrev pub line_condition : CodeLine → Option ℕ
line_condition l = condition_decoded (front l.bytes)

-- ---- counts

-- whether a turn decoded an instruction
abbrev pub is_decoded : Option Ins → Bool
is_decoded None = false
is_decoded (Some i) = true

-- whether a turn decoded the instruction at a place
abbrev pub is_decoded_at : ℕ → FullTurn → Bool
is_decoded_at place t = is_decoded t.turn.ins && (t.turn.at == place)

-- a line of code with its turns
pub record CoveredLine : Type 0 where
  pub line : CodeLine
  pub turns : List FullTurn

-- a line of code with those of its section's turns that decoded the instruction at its place
abbrev pub covered_line : List FullTurn → CodeLine → CoveredLine
covered_line ts l = record { line = l; turns = filter (is_decoded_at l.place) ts }

-- the lines of sections in order; a turn is of the first section that it runs
abbrev pub covered_lines : List Source → List FullTurn → List CoveredLine
covered_lines [] ts = []
covered_lines (s ∷ ss) ts =
    map (covered_line (filter (λ t. is_turn_of t s) ts)) s.lines
    ++ covered_lines ss (filter (λ t. not (is_turn_of t s)) ts)

-- how many of some turns found the condition of their branch to hold, which leaves the flags as they are
abbrev pub count_taken : ℕ → List FullTurn → ℕ
count_taken k ts = length (filter (λ t. holds k t.frame) ts)

-- a branch of a line: its line, whether its line ran, and how often it went this way
pub record CoveredBranch : Type 0 where
  pub number : ℕ
  pub way : ℕ
  pub ran : Bool
  pub count : ℕ

-- the two ways of a line under a condition: where it held, and where not
abbrev pub branches_under : CoveredLine → Option ℕ → List CoveredBranch
branches_under c None = []
branches_under c (Some k) =
    let n = length c.turns in
    let taken = count_taken k c.turns in
    record { number = c.line.number; way = 0; ran = nat_lt 0 n; count = taken }
    ∷ record { number = c.line.number; way = 1; ran = nat_lt 0 n; count = n - taken } ∷ []

-- the branches of a line
abbrev pub branches_of : CoveredLine → List CoveredBranch
branches_of c = branches_under c (line_condition c.line)

-- ---- the record

-- the line of a covered line
abbrev pub line_record : CoveredLine → List ℕ
line_record c = codes "DA:" ++ decimal c.line.number ++ codes "," ++ decimal (length c.turns) ++ codes "\n"

-- a count, `-` where the line never ran
abbrev pub count_text : CoveredBranch → List ℕ
count_text b = cond b.ran (decimal b.count) (codes "-")

-- the line of a branch
abbrev pub branch_record : CoveredBranch → List ℕ
branch_record b =
    codes "BRDA:" ++ decimal b.number ++ codes ",0," ++ decimal b.way ++ codes "," ++ count_text b ++ codes "\n"

-- a line with a count
abbrev pub count_record : List ℕ → ℕ → List ℕ
count_record word n = word ++ decimal n ++ codes "\n"

-- the record of lines and their branches
abbrev pub record_of : List ℕ → List CoveredLine → List CoveredBranch → List ℕ
record_of name ls bs =
    codes "TN:\nSF:" ++ name ++ codes "\n" ++ flat_map line_record ls ++ flat_map branch_record bs
    ++ count_record (codes "BRF:") (length bs)
    ++ count_record (codes "BRH:") (length (filter (λ b. nat_lt 0 b.count) bs))
    ++ count_record (codes "LF:") (length ls)
    ++ count_record (codes "LH:") (length (filter (λ c. nat_lt 0 (length c.turns)) ls))
    ++ codes "end_of_record\n"

-- the record of a play of a draft's deck, under the name of its file
unfoldable pub coverage : List ℕ → List Source → List Step → List ℕ
unfolding turns_of_step
coverage name ss ts =
    let ls = covered_lines ss (flat_map turns_of_step ts) in
    record_of name ls (flat_map branches_of ls)
