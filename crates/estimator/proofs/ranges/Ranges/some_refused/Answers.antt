-- `estimator::ranges::Ranges::some_refused` meets its contract: the closure tests range i.
-- Assumes nothing.
use Rattle.std.proofs.Common.{refl, rules, tests}
use Rattle.laws.proofs.AnyLaws.{some_from_any}
use Rattle.estimator.proofs.ranges.Ranges.some_refused.Goals as goal

pub returns : goal.returns
returns c = some_from_any _ _ c.any.ensures.ran refl c.count.ensures (λ x b q k. search (rules, tests))
