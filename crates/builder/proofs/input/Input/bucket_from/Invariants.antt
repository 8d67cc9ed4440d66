-- `builder::input::Input::bucket_from` meets its contract. At the loop the first k bucketlets are those of the definition.
-- Assumes nothing.
use lib.ListN.{length}
use Rattle.builder.proofs.LayLaws.{Laid}
use Rattle.builder.proofs.input.Input.bucket_from.Given as goal

abbrev pub invariant-loop-k : goal.invariant-loop-k
invariant-loop-k l = Laid l.self.q l.self.freqs.now (length l.self.freqs.now) l.a l.widths l.classes l.total l.at l.k
