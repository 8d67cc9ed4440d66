-- `words_packing::start_word` meets its contract: each field goes onto bits that are still 0, so that `|` is `+`.
-- Assumes nothing.
use Rattle.std.proofs.Common.{◌≡◌, refl, ap, ◌∙◌, Bool, true, false, cond, ℕ}
use Rattle.std.proofs.Math.Dec.{lit≤}
use Rattle.std.specs.Int.{from_bool}
use Rattle.laws.proofs.FieldLaws.{of_kind_lem, onto}
use Rattle.laws.specs.Field.{put}
use Rattle.words_packing.proofs.start_word.Goals as goal

bit : (flag : Bool) → from_bool flag ≡ cond flag 1 0
bit true = refl
bit false = refl

pub returns : goal.returns
returns c =
    let a = c.args in
    let w = onto a.start 29 10 (lit≤ tt) (of_kind_lem 1 30 (lit≤ tt)) c.put_at.ensures in
    let x = onto (cond a.flag 1 0) 9 9 (lit≤ tt) w (c.put_at-2.ensures ∙ ap (λ (v : ℕ). put v 9 9) (c.from.ensures ∙ bit a.flag)) in
    (onto a.listed 8 0 (lit≤ tt) x c.put_at-3.ensures).is
