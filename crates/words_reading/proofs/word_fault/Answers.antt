-- `words_reading::word_fault` meets its contract: the closure computes what the sentence asks of a bucket.
-- Assumes nothing.
use Rattle.std.proofs.Common.{refl, rules, tests}
use Rattle.words_rules.specs.Reading.{word_fault}
use Rattle.laws.proofs.AnyLaws.{some_from_any}
use Rattle.words_reading.proofs.word_fault.Goals as goal

pub returns : goal.returns
unfolding word_fault
returns c = some_from_any _ _ c.any.ensures.ran refl c.bucket_count-buckets.ensures (λ x b q k. search (rules, tests))
