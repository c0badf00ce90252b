-- An instruction of a draft and what it becomes in the deck: each operand that is a name, with the rest of the line as
-- it was.
use Rattle.std.specs.Prelude.{ℕ, ◌-◌, ℤ, pos, ◌+ℤ◌, Bool, true, false, cond, ◌&&◌, nat_lt, ◌==◌, List, [], ◌∷◌, ◌++◌, length, drop, bytes_eq, codes, decimal, Option, Some, None, Result, Ok}
use Rattle.mc_text.specs.model_device.specs.Bytes.{lookup, has_name}
use Rattle.mc_text.specs.model_text.specs.Text.{◌>>=◌, ok_as, only_if, pieces, first_cut, decimal_number}
use Rattle.mc_text.specs.model_text.specs.Listing.{address_text}
use Rattle.mc_deck.specs.model_play.specs.declared.deck.DeckCause.{DeckCause}
use Rattle.mc_deck.specs.model_play.specs.declared.deck.DeckCause.TheVariants.{OutOfRange}
use Rattle.desk_draft.specs.Parts.{part_of, with_core, before_rest, first_word, after_word, without_comment}
use Rattle.desk_draft.specs.Declarations.{NameMeaning, Bytes, Number}

-- the words that go to a place of the code, whose operands name conditions and labels
abbrev pub jump_words : List (List ℕ)
jump_words = codes "BRANCH" ∷ codes "JUMP" ∷ codes "CALL" ∷ []

-- the words that move bytes to the stack and from it
abbrev pub moving_words : List (List ℕ)
moving_words = codes "LOAD" ∷ codes "STORE" ∷ []

-- the words of one block of bytes
abbrev pub one_block_words : List (List ℕ)
one_block_words = codes "CLEARN" ∷ codes "TESTN" ∷ codes "INCN" ∷ codes "DECN" ∷ codes "NOTN" ∷ []

-- the words of a block of bytes and the top of the stack
abbrev pub two_block_words : List (List ℕ)
two_block_words = codes "CMPN" ∷ codes "ADDN" ∷ codes "SUBN" ∷ codes "ANDN" ∷ codes "ORN" ∷ codes "XORN" ∷ []

-- the words whose second operand is the length of the first
abbrev pub sized_words : List (List ℕ)
sized_words = moving_words ++ one_block_words ++ two_block_words

-- ---- one operand

-- bytes at an offset of a register, with their size where that is wanted
abbrev pub bytes_text : Bool → ℕ → ℤ → ℕ → List ℕ
bytes_text true tag at size = address_text tag at ++ codes "," ++ decimal size
bytes_text false tag at size = address_text tag at

-- an operand that is a name
abbrev pub named_text : Bool → List ℕ → Option NameMeaning → List ℕ
named_text sized t None = t
named_text sized t (Some (Bytes tag at size)) = bytes_text sized tag at size
named_text sized t (Some (Number number)) = number

-- an operand that is a name and `.size`
abbrev pub size_text : List ℕ → Option NameMeaning → List ℕ
size_text t (Some (Bytes tag at size)) = decimal size
size_text t meaning = t

-- an operand that is a name, `+` and K: the place K bytes further, and the size less K
abbrev pub shifted_text : Bool → List ℕ → Option NameMeaning → Option ℕ → Result (List ℕ) DeckCause
shifted_text sized t (Some (Bytes tag at size)) (Some k) =
    only_if (nat_lt k size) OutOfRange (bytes_text sized tag (at +ℤ pos k) (size - k))
shifted_text sized t meaning k = Ok t

-- an operand without `+`
abbrev pub plain_operand : List (List ℕ × NameMeaning) → Bool → List ℕ → List ℕ × Option (List ℕ) → List ℕ
plain_operand names sized t (name, None) = named_text sized t (lookup names t)
plain_operand names sized t (name, Some part) = cond (bytes_eq part (codes "size")) (size_text t (lookup names name)) t

-- an operand by what stands before its first `+`, and after it
abbrev pub operand_by_parts :
    List (List ℕ × NameMeaning) → Bool → List ℕ → List ℕ × Option (List ℕ) → Result (List ℕ) DeckCause
operand_by_parts names sized t (name, None) = Ok (plain_operand names sized t (first_cut (λ c. c == 46) t))
operand_by_parts names sized t (name, Some k) = shifted_text sized t (lookup names name) (decimal_number k)

-- what an operand becomes; `sized` is whether a name of bytes stands for its size, too
abbrev pub operand_text : List (List ℕ × NameMeaning) → Bool → List ℕ → Result (List ℕ) DeckCause
operand_text names sized t = operand_by_parts names sized t (first_cut (λ c. c == 43) t)

-- ---- a line

-- what a piece between two commas becomes: its operand, with its blanks
abbrev pub piece_text : List (List ℕ × NameMeaning) → Bool → List ℕ → Result (List ℕ) DeckCause
piece_text names sized p = let f = part_of p in ok_as (with_core f) (operand_text names sized f.core)

-- what the pieces after commas become, each with its comma
abbrev pub later_text : List (List ℕ × NameMeaning) → Bool → List (List ℕ) → Result (List ℕ) DeckCause
later_text names sized [] = Ok []
later_text names sized (p ∷ ps) =
    piece_text names sized p >>= λ t. ok_as (λ rest. 44 ∷ (t ++ rest)) (later_text names sized ps)

-- what the pieces between the commas of operands become
abbrev pub pieces_text : List (List ℕ × NameMeaning) → Bool → List (List ℕ) → Result (List ℕ) DeckCause
pieces_text names sized [] = Ok []
pieces_text names sized (p ∷ ps) =
    piece_text names sized p >>= λ t. ok_as (λ rest. t ++ rest) (later_text names sized ps)

-- what the operands of a word become; the size is added where there is one
abbrev pub operands_text : List (List ℕ × NameMeaning) → List ℕ → List (List ℕ) → Result (List ℕ) DeckCause
operands_text names word ps = pieces_text names (has_name word sized_words && (length ps == 1)) ps

-- what stands after a word becomes
abbrev pub after_text : List (List ℕ × NameMeaning) → List ℕ → List ℕ → Result (List ℕ) DeckCause
after_text names word after =
    cond (has_name word jump_words) (Ok after) (operands_text names word (pieces (λ c. c == 44) after))

-- what the part of a line after its label becomes
abbrev pub body_text : List (List ℕ × NameMeaning) → List ℕ → Result (List ℕ) DeckCause
body_text names body =
    let after = after_word body in
    ok_as (λ t. before_rest body after ++ t) (after_text names (first_word body) after)

-- what a line without its comment becomes, by what stands before its first colon, and after it
abbrev pub labelled_text : List (List ℕ × NameMeaning) → List ℕ × Option (List ℕ) → Result (List ℕ) DeckCause
labelled_text names (body, None) = body_text names body
labelled_text names (label, Some body) = ok_as (λ t. label ++ 58 ∷ t) (body_text names body)

-- the deck's line of an instruction, where these names are in force
unfoldable pub instruction_text : List (List ℕ × NameMeaning) → List ℕ → Result (List ℕ) DeckCause
instruction_text names l =
    let code = without_comment l in
    ok_as (λ t. t ++ drop (length code) l) (labelled_text names (first_cut (λ c. c == 58) code))
