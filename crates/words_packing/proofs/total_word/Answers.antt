-- `words_packing::total_word` meets its contract: each field goes onto bits that are still 0, so that `|` is `+`.
-- Assumes nothing.
use Rattle.std.proofs.Math.Dec.{lit≤}
use Rattle.laws.proofs.FieldLaws.{of_kind_lem, onto}
use Rattle.words_packing.proofs.total_word.Goals as goal

pub returns : goal.returns
returns c =
    let a = c.args in
    let w = onto a.c5 29 24 (lit≤ tt) (of_kind_lem 2 30 (lit≤ tt)) c.put_at.ensures in
    let x = onto a.c6 23 18 (lit≤ tt) w c.put_at-2.ensures in
    let y = onto a.c7 17 12 (lit≤ tt) x c.put_at-3.ensures in
    (onto a.total 11 0 (lit≤ tt) y c.put_at-4.ensures).is
