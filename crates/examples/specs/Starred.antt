-- The starred examples of document 01, "Examples", as one claim about the definitions.
-- Assumes nothing.
use Rattle.counts_rules.specs.Worked as counts
use Rattle.build_rules.specs.Worked as building
use Rattle.estimate_rules.specs.Worked as estimates

pub record Starred : Type 0 where
  pub counts : counts.Worked
  pub histograms : building.Worked
  pub answers : estimates.Worked
