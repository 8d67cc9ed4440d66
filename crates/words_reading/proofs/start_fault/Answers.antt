-- `words_reading::start_fault` meets its contract: where it refuses the starts break a rule, and after the loop they keep all.
-- Assumes nothing.
use Rattle.std.proofs.Common.{sym, arith}
use Rattle.words_rules.proofs.StartLaws.{no_start_fault}
use Rattle.words_reading.proofs.start_fault.Goals as goal

pub returns : goal.returns
returns c =
    let p = c.loop-b.invariant in
    let n = c.bucket_count-buckets.ensures in
    sym (no_start_fault c.args.words.now (record { first = p.first; rise = λ i h. p.rise i (omega arith); below = λ i h. p.below i (omega arith) }))
