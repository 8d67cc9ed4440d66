-- Laws of one line (specs/Private/Changing.antt). It keeps both bounds exactly if the frequency and the sum, each with the change, come to a count
-- from 0 up to the limit: the others stay as they are, and the sum is at least the frequency.
-- Assumes nothing.
use mathlib.Core.Path.{◌≡◌, sym, ap, ◌∙◌}
use mathlib.Core.Bool.{true, false}
use mathlib.Core.List.{List}
use mathlib.Core.Logic.{⊎_elim}
use Prim.Native.Nat.{ℕ, ◌+◌, ◌-◌, ◌<◌}
use native.Mathlib.Omega.{arith}
use borrow.Author.Tests.{ltb-true, lt-ltb}
use lib.IntN.{ℤ, pos, nat_abs, ◌+ℤ◌}
use lib.ListN.{length, get_or, set, length-set}
use lib.Seq.{get_or-set_same}
use lib.Signed.{lt_z}
use Rattle.laws.specs.Each.{some}
use Rattle.laws.specs.Sums.{sum}
use Rattle.laws.proofs.EachLaws.{some_at}
use Rattle.laws.proofs.SumsLaws.{get_d_le_sum}
use Rattle.laws.proofs.Tests.{holds_left, holds_right, chosen, not_chosen}
use Rattle.counts_rules.specs.Limit.{limit}
use Rattle.journal_rules.specs.Lines.{signed, unsigned, sumℤ, frequency_at, after_line}
use Rattle.journal_rules.specs.Replaying.{below_zero, breaks}
use Rattle.journal_rules.proofs.SignedLaws.{change_moved, signed_at, signed_length, signed_sum, signed_set, unsigned_signed, sum_after_line}
use Rattle.journal_rules.proofs.LinesLaws.{signed_kept}
use Rattle.std.specs.Prelude.{None, Some}
use Rattle.journal.specs.Private.Changing.{changed_by, line_of, line_changed, line_left}
use Rattle.journal.proofs.CountLaws.{to_is, broken_is, above_is, count_answered, broken_answered}

module _ (fs : List ℕ) (e : ℕ) (c : ℤ) where
  abbrev after : List ℤ
  after = after_line (signed fs) e c

  pub line_broken : breaks (after_line (signed fs) e c) ≡ true → (None ≡ line_changed fs e c) × (fs ≡ line_left fs e c)
  unfolding line_changed line_left
  line_broken t = (chosen (breaks after) None (Some (sum (line_of fs e c))) t, chosen (breaks after) fs (line_of fs e c) t)

  line_kept : breaks after ≡ false → (Some (sum (line_of fs e c)) ≡ line_changed fs e c) × (line_of fs e c ≡ line_left fs e c)
  unfolding line_changed line_left
  line_kept f = (not_chosen (breaks after) None (Some (sum (line_of fs e c))) f, not_chosen (breaks after) fs (line_of fs e c) f)

  -- a line that is answered with a sum kept both bounds, and one that is not broke one

  pub was_kept : (n : ℕ) → Some n ≡ line_changed fs e c → (breaks (after_line (signed fs) e c) ≡ false) × (n ≡ sum (line_of fs e c)) × (line_left fs e c ≡ line_of fs e c)
  unfolding line_changed
  was_kept n p = let k = count_answered (breaks after) (sum (line_of fs e c)) n p in (k.0, k.1, sym (line_kept k.0).1)

  pub was_broken : None ≡ line_changed fs e c → breaks (after_line (signed fs) e c) ≡ true
  unfolding line_changed
  was_broken p = broken_answered (breaks after) (sum (line_of fs e c)) p

  module _ (inside : e < length fs) where
    within : e < length (signed fs)
    within = omega (arith, signed_length fs)

    line_at : frequency_at after e ≡ pos (get_or fs e 0) +ℤ c
    line_at = get_or-set_same (signed fs) e (frequency_at (signed fs) e +ℤ c) (pos 0) within ∙ ap (λ (z : ℤ). z +ℤ c) (signed_at fs e)

    line_sum : sumℤ after ≡ pos (sum fs) +ℤ c
    line_sum = sum_after_line (signed fs) e c within ∙ ap (λ (z : ℤ). z +ℤ c) (signed_sum fs)

    frequency_below : lt_z (pos (get_or fs e 0) +ℤ c) (pos 0) ≡ true → breaks after ≡ true
    unfolding breaks
    frequency_below t =
        let l : e < length after = simp length-set within in
        holds_left (some (length after) (below_zero after)) _ (some_at (length after) (below_zero after) e l (ap (λ (z : ℤ). lt_z z (pos 0)) line_at ∙ t))

    sum_above : (n : ℕ) → pos (sum fs) +ℤ c ≡ pos n → limit < n → breaks after ≡ true
    unfolding breaks
    sum_above n p h = holds_right (some (length after) (below_zero after)) _ (ap (λ (z : ℤ). lt_z (pos limit) z) (line_sum ∙ p) ∙ lt-ltb limit n h)

    -- the sum moves as the frequency does
    abbrev rest : ℕ
    rest = sum fs - get_or fs e 0

    sum_moves : (n : ℕ) → pos (get_or fs e 0) +ℤ c ≡ pos n → pos (sum fs) +ℤ c ≡ pos (n + rest)
    sum_moves n p =
        let s : sum fs ≡ get_or fs e 0 + rest = omega (arith, get_d_le_sum fs e) in
        ap (λ (k : ℕ). pos k +ℤ c) s ∙ change_moved (get_or fs e 0) rest n c p

    pub frequency_broken : None ≡ changed_by (get_or fs e 0) c → breaks (after_line (signed fs) e c) ≡ true
    frequency_broken p =
        ⊎_elim frequency_below
        (λ t. let a = above_is (pos (get_or fs e 0) +ℤ c) t in sum_above (a.0 + rest) (sum_moves a.0 a.1) (omega (arith, a.2)))
        (broken_is (pos (get_or fs e 0) +ℤ c) (sym p))

    pub sum_broken : (n : ℕ) → Some n ≡ changed_by (get_or fs e 0) c → None ≡ changed_by (sum fs) c → breaks (after_line (signed fs) e c) ≡ true
    sum_broken n f p =
        let moved = sum_moves n (to_is (pos (get_or fs e 0) +ℤ c) n (sym f)).0 in
        ⊎_elim
        (λ t. absurd (omega (arith, ltb-true (n + rest) 0 (ap (λ (z : ℤ). lt_z z (pos 0)) (sym moved) ∙ t))))
        (λ t. let a = above_is (pos (sum fs) +ℤ c) t in sum_above a.0 a.1 a.2)
        (broken_is (pos (sum fs) +ℤ c) (sym p))

    module _ (n m : ℕ) (f : Some n ≡ changed_by (get_or fs e 0) c) (s : Some m ≡ changed_by (sum fs) c) where
      is_set : after ≡ signed (set fs e n)
      is_set =
          ap (λ (z : ℤ). set (signed fs) e z) (ap (λ (z : ℤ). z +ℤ c) (signed_at fs e) ∙ (to_is (pos (get_or fs e 0) +ℤ c) n (sym f)).0)
          ∙ sym (signed_set fs e n)

      new_sum : m ≡ sum (set fs e n)
      new_sum = ap nat_abs (sym (to_is (pos (sum fs) +ℤ c) m (sym s)).0 ∙ sym line_sum ∙ ap sumℤ is_set ∙ signed_sum (set fs e n))

      new_list : line_of fs e c ≡ set fs e n
      new_list = ap unsigned is_set ∙ unsigned_signed (set fs e n)

      pub both_within : (Some m ≡ line_changed fs e c) × (set fs e n ≡ line_left fs e c)
      both_within =
          let k = line_kept (ap breaks is_set ∙ signed_kept (set fs e n) (omega (arith, new_sum, (to_is (pos (sum fs) +ℤ c) m (sym s)).1))) in
          (ap Some (new_sum ∙ ap sum (sym new_list)) ∙ k.0, sym new_list ∙ k.1)
