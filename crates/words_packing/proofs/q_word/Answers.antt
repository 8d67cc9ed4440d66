-- `words_packing::q_word` meets its contract: the second field goes onto bits that are still 0.
-- Assumes nothing.
use Rattle.std.proofs.Math.Dec.{lit≤}
use Rattle.laws.proofs.FieldLaws.{alone, onto}
use Rattle.words_packing.proofs.q_word.Goals as goal

pub returns : goal.returns
returns c = (onto c.args.qd 9 0 (lit≤ tt) (alone c.args.qn 19 10 c.put_at.ensures) c.put_at-2.ensures).is
