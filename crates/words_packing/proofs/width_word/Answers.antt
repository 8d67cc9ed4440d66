-- `words_packing::width_word` meets its contract: each field goes onto bits that are still 0, so that `|` is `+`.
-- Assumes nothing.
use Rattle.std.proofs.Math.Dec.{lit≤}
use Rattle.laws.proofs.FieldLaws.{of_kind_lem, onto}
use Rattle.words_packing.proofs.width_word.Goals as goal

pub returns : goal.returns
returns c =
    let a = c.args in
    let w = onto a.a 26 18 (lit≤ tt) (of_kind_lem 3 27 (lit≤ tt)) c.put_at.ensures in
    let x = onto a.b 17 9 (lit≤ tt) w c.put_at-2.ensures in
    (onto a.c 8 0 (lit≤ tt) x c.put_at-3.ensures).is
