-- `estimator::pieces::bucket_total` meets its contract: the total code of a readable list is valid.
-- Assumes nothing.
use Rattle.std.proofs.Common.{◌≡◌, true, sym, subst, ℕ}
use Rattle.counts_rules.specs.Total.{valid_code}
use Rattle.words_rules.proofs.Proved.{histogram}
use Rattle.estimator.proofs.pieces.bucket_total.Goals as goal

pub total_number-requires : goal.total_number-requires
total_number-requires c =
    let h = c.args.histogram in
    subst (λ (n : ℕ). valid_code n ≡ true) (sym c.total_at.ensures) (histogram.holds h.words.now h.readable c.args.b c.requires).total_valid
