-- the libraries below that those above cite through this one
pub use Rattle.mc_text.specs.model_text as model_text
pub use Rattle.prove_facts.specs.model_rules as model_rules
pub use Rattle.lab_app_rules as lab_app_rules
