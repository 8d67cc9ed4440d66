-- `words_packing::class_word` meets its contract: each field goes onto bits that are still 0, so that `|` is `+`.
-- Assumes nothing.
use Rattle.std.proofs.Math.Dec.{lit≤}
use Rattle.laws.proofs.FieldLaws.{of_kind_lem, onto}
use Rattle.words_packing.proofs.class_word.Goals as goal

pub returns : goal.returns
returns c =
    let a = c.args in
    let w = onto a.c0 29 24 (lit≤ tt) (of_kind_lem 2 30 (lit≤ tt)) c.put_at.ensures in
    let x = onto a.c1 23 18 (lit≤ tt) w c.put_at-2.ensures in
    let y = onto a.c2 17 12 (lit≤ tt) x c.put_at-3.ensures in
    let z = onto a.c3 11 6 (lit≤ tt) y c.put_at-4.ensures in
    (onto a.c4 5 0 (lit≤ tt) z c.put_at-5.ensures).is
