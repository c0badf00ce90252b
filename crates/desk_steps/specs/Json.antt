-- The texts of JSON: the characters of strings, keys, and the runs of addresses whose bytes differ.
use Rattle.std.specs.Prelude.{ℕ, ◌+◌, Bool, true, false, cond, ◌&&◌, nat_le, ◌==◌, List, [], ◌∷◌, ◌++◌, codes, decimal}
use Rattle.mc_text.specs.model_text.specs.Listing.{hex_text}

-- ---- strings and keys

-- a character of a string: escaped if it is a quotation mark, a backslash, or no printable character of ASCII
abbrev pub character : ℕ → List ℕ
character c =
    cond (c == 34) (92 ∷ 34 ∷ []) (cond (c == 92) (92 ∷ 92 ∷ []) (
    cond (nat_le 32 c && nat_le c 126) (c ∷ []) (codes "\\u00" ++ hex_text (c ∷ []))
    ))

-- the characters of a string
abbrev pub characters : List ℕ → List ℕ
characters [] = []
characters (c ∷ cs) = character c ++ characters cs

-- ---- runs

-- a run: its address and its bytes
abbrev pub run_text : ℕ × List ℕ → List ℕ
run_text r = codes "[" ++ decimal r.0 ++ codes ",\"" ++ hex_text r.1 ++ codes "\"]"

-- runs after another one
abbrev pub runs_after : List (ℕ × List ℕ) → List ℕ
runs_after [] = []
runs_after (r ∷ rs) = codes "," ++ run_text r ++ runs_after rs

-- runs, after another one or as the first
abbrev pub runs_more : Bool → List (ℕ × List ℕ) → List ℕ
runs_more true rs = runs_after rs
runs_more false [] = []
runs_more false (r ∷ rs) = run_text r ++ runs_after rs

-- runs in brackets
abbrev pub runs_text : List (ℕ × List ℕ) → List ℕ
runs_text rs = codes "[" ++ runs_more false rs ++ codes "]"

-- whether there is a run, or was one before
abbrev pub any_run : Bool → List (ℕ × List ℕ) → Bool
any_run any [] = any
any_run any (r ∷ rs) = true
