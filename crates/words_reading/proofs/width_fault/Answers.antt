-- `words_reading::width_fault` meets its contract: the closure computes what the sentence asks of a bucket.
-- Assumes nothing.
use Rattle.std.proofs.Common.{refl, rules, tests}
use Rattle.words_rules.specs.Reading.{width_fault}
use Rattle.laws.proofs.AnyLaws.{some_from_any}
use Rattle.words_reading.proofs.width_fault.Goals as goal

pub returns : goal.returns
unfolding width_fault
returns c = some_from_any _ _ c.any.ensures.ran refl c.bucket_count-buckets.ensures (λ x b q k. search (rules, tests))
