-- The starred examples hold of the definitions. Assumes nothing.
use Rattle.counts_rules.proofs.Computed as counts
use Rattle.build_rules.proofs.Computed as building
use Rattle.estimate_rules.proofs.Computed as estimates
use Rattle.examples.specs.Starred.{Starred}

pub starred : Starred
starred = record { counts = counts.worked; histograms = building.worked; answers = estimates.worked }
