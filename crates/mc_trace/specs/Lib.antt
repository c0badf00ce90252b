pub use Rattle.model_text.specs.TurnText
pub use Rattle.mc_machine.specs.Turns
