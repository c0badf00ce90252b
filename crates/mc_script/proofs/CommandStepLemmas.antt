-- The lines that are commands to a card, as the play takes them.
use Rattle.std.proofs.Common.{◌≡◌, ℕ, true, List, Option, None, refl, arith}
use Rattle.model_play.specs.model_card.specs.Items.{moves}
use Rattle.model_play.specs.Play as play
use Rattle.model_play.specs.Play.{Unarmed, State, BeforePower, AfterPower, Warm, FailedWrite, step, card_line, before_power_line, is_card_line, moves_of}
use Rattle.mc_script.specs.declared.commands.CardLine.{CardLine}
use Rattle.mc_script.specs.declared.commands.CardLine.TheVariants as command
use Rattle.mc_script.specs.Counting.{line_powers, line_pokes, line_cuts, line_fails}
use Rattle.mc_script.specs.Commands.{deck_line_of}

pub after_power_is : (c : CardLine) (w : Warm) (n : ℕ) (x : Option FailedWrite) → step (AfterPower w) (n, deck_line_of c) x ≡ card_line n (deck_line_of c) w w.live w.base x
unfolding step
after_power_is (command.Select aid) w n x = refl
after_power_is (command.Delete aid) w n x = refl
after_power_is (command.Apdu bytes) w n x = refl
after_power_is (command.Load u fixed session) w n x = refl

pub before_power_is : (c : CardLine) (m : List (List ℕ)) (b : ℕ) (a : play.Armed) (n : ℕ) (x : Option FailedWrite) → step (BeforePower m b a) (n, deck_line_of c) x ≡ before_power_line n (deck_line_of c) m b a Unarmed
unfolding step
before_power_is (command.Select aid) m b a n x = refl
before_power_is (command.Delete aid) m b a n x = refl
before_power_is (command.Apdu bytes) m b a n x = refl
before_power_is (command.Load u fixed session) m b a n x = refl

pub moves_after_power : (c : CardLine) (w : Warm) (n : ℕ) → moves_of (AfterPower w) (n, deck_line_of c) ≡ moves (card_line n (deck_line_of c) w w.live w.base None).items
unfolding step moves_of
moves_after_power (command.Select aid) w n = omega arith
moves_after_power (command.Delete aid) w n = omega arith
moves_after_power (command.Apdu bytes) w n = omega arith
moves_after_power (command.Load u fixed session) w n = omega arith

pub moves_before_power : (c : CardLine) (m : List (List ℕ)) (b : ℕ) (a : play.Armed) (n : ℕ) → moves_of (BeforePower m b a) (n, deck_line_of c) ≡ 0
unfolding step moves_of
moves_before_power (command.Select aid) m b a n = refl
moves_before_power (command.Delete aid) m b a n = refl
moves_before_power (command.Apdu bytes) m b a n = refl
moves_before_power (command.Load u fixed session) m b a n = refl

pub is_card : (c : CardLine) → is_card_line (deck_line_of c) ≡ true
is_card c = grind arith

pub no_powers : (c : CardLine) → line_powers (deck_line_of c) ≡ 0
no_powers c = grind arith

pub no_pokes : (c : CardLine) (s : State) → line_pokes s (deck_line_of c) ≡ 0
no_pokes c s = grind arith

pub no_cuts : (c : CardLine) → line_cuts (deck_line_of c) ≡ 0
no_cuts c = grind arith

pub no_fails : (c : CardLine) → line_fails (deck_line_of c) ≡ 0
no_fails c = grind arith
