use Rattle.std.proofs.Common.{length, ap, ◌∙◌}
use Rattle.mc_words.specs.model_device.specs.Card.{Card}
use Rattle.mc_words.specs.model_device.specs.Layout.{spans, gaps}
use Rattle.mc_blocks.proofs.Bridge.{well_laid}
use Rattle.mc_words.specs.model_device.proofs.LayoutLemmas.{closed_means}
use Rattle.mc_blocks.proofs.laws.walks_card.Goals as goal

pub returns-clause-gaps : goal.returns-clause-gaps
returns-clause-gaps c = λ m image closed h. ap (λ (k : Card). gaps k) (closed_means m closed) ∙ (well_laid m image closed h).gaps

pub returns-clause-spans : goal.returns-clause-spans
returns-clause-spans c = λ m image closed h. ap (λ (k : Card). spans k) (closed_means m closed) ∙ (well_laid m image closed h).spans

pub returns-clause-count : goal.returns-clause-count
returns-clause-count c = λ m image closed h. ap (λ (k : Card). length k.apps) (closed_means m closed) ∙ (well_laid m image closed h).apps
