-- The laws of logs.
use Rattle.std.proofs.Common.{◌≡◌, ℕ, List, [], ◌∷◌, ◌++◌, Option, Some, None, refl, sym, ap, subst, ◌∙◌, append_assoc}
use Rattle.model_text.specs.model_machine.specs.Chain.{Turn}
use Rattle.model_text.specs.TurnText.{turn_line, turn_lines}
use Rattle.mc_streams.specs.declared.refusals.WriteFault.{WriteFault}
use Rattle.mc_text.specs.Texts.{Sunk, Writes, Fails}
use Rattle.mc_text.specs.Logs.{Log, LoggedAs, LoggedBy, Logged}
use Rattle.mc_text.proofs.TextLemmas.{writes_then, writes_none, fails_then, fails_before}

-- the lines of turns followed by others
pub lines_append : (ts us : List Turn) → turn_lines (ts ++ us) ≡ turn_lines ts ++ turn_lines us
lines_append [] us = refl
lines_append (t ∷ ts) us = ap (λ (l : List ℕ). turn_line t ++ l) (lines_append ts us) ∙ sym (append_assoc (turn_line t) (turn_lines ts) (turn_lines us))

-- no turns are logged
none_by : (f : Option WriteFault) (a : Sunk) → LoggedBy f a [] (record { out = a; fault = f })
none_by None a = writes_none a
none_by (Some f) a = (refl, refl)

pub logged_none : (l : Log) → Logged l [] l
logged_none l = none_by l.fault l.out

-- turns followed by others, in a log that had no fault before
as_on : (f : Option WriteFault) (a b : Sunk) (n : Log) (ts us : List Turn) → LoggedAs f a ts b → LoggedBy f b us n → LoggedAs n.fault a (ts ++ us) n.out
as_on (Some f) a b n ts us first rest =
    subst (λ (g : Option WriteFault). LoggedAs g a (ts ++ us) n.out) (sym rest.0)
    (subst (λ (o : Sunk). Fails a (turn_lines (ts ++ us)) o) (sym rest.1) (subst (λ (l : List ℕ). Fails a l b) (sym (lines_append ts us)) (fails_before (turn_lines us) first)))
as_on None a b n ts us first rest = more n.fault rest
  where
    more : (g : Option WriteFault) → LoggedAs g b us n.out → LoggedAs g a (ts ++ us) n.out
    more None rest = subst (λ (l : List ℕ). Writes a l n.out) (sym (lines_append ts us)) (writes_then first rest)
    more (Some g) rest = subst (λ (l : List ℕ). Fails a l n.out) (sym (lines_append ts us)) (fails_then first rest)

-- turns followed by others
by_on : (f : Option WriteFault) (a : Sunk) (m n : Log) (ts us : List Turn) → LoggedBy f a ts m → LoggedBy m.fault m.out us n → LoggedBy f a (ts ++ us) n
by_on None a m n ts us first rest = as_on m.fault a m.out n ts us first rest
by_on (Some f) a m n ts us first rest =
    let stays = subst (λ (g : Option WriteFault). LoggedBy g m.out us n) first.0 rest in
    (stays.0, stays.1 ∙ first.1)

pub logged_on : (l m n : Log) (ts us : List Turn) → Logged l ts m → Logged m us n → Logged l (ts ++ us) n
logged_on l m n ts us first rest = by_on l.fault l.out m n ts us first rest
