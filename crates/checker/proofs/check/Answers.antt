-- `checker::check` meets its contract: where there is no fault the histogram's quality is sound.
-- Assumes nothing.
use Rattle.std.proofs.Common.{◌≡◌, arith, sym, subst}
use Rattle.fit.specs.Accepted.{check_fault}
use Rattle.list_rules.specs.Private.Sound.{Sound}
use Rattle.checker.proofs.HistogramLaws.{sound}
use Rattle.checker.proofs.check.Goals as goal

pub invariant_of-matched : goal.invariant_of-matched
invariant_of-matched c =
    let a = c.args in
    let e : check_fault a.freqs.now a.words.now ≡ 0 = grind arith in
    record {
      checkable = record {
        no_fault = e;
        sound = subst (Sound a.freqs.now) (sym c.quality_of-quality.ensures) (sound a.freqs.now a.words.now e);
      };
    }
