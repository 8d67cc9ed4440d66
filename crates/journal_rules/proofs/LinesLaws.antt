-- Laws of the list after some lines (specs/Lines.antt): its length stays, each of its numbers has moved by its entry's changes and its sum by all of
-- them. And of its bounds (`breaks` of specs/Replaying.antt): a list that keeps them is one of frequencies.
-- Assumes nothing.
use mathlib.Core.Path.{◌≡◌, refl, sym, ap, ◌∙◌}
use mathlib.Core.Bool.{Bool, true, false, cond}
use mathlib.Core.List.{List}
use Prim.Native.Nat.{ℕ, zero, suc, ◌≤◌, ◌<◌}
use native.Mathlib.Omega.{arith}
use borrow.Author.Tests.{ltb-true, ltb-false, le-ltb, eqb-true, eqb-false, not-false}
use lib.Dec.{eqb}
use lib.IntN.{ℤ, pos, nat_abs, ◌+ℤ◌, +ℤ_idr, +ℤ_assoc}
use lib.ListN.{length, get_or, take, length-set, get_or-map}
use lib.Seq.{get_or-set_same, get_or-set_other}
use lib.Signed.{lt_z}
use Rattle.laws.specs.Each.{some}
use Rattle.laws.specs.Sums.{sum}
use Rattle.laws.proofs.EachLaws.{some_none, none_at}
use Rattle.laws.proofs.Tests.{neither, neither_left, neither_right}
use Rattle.counts_rules.specs.Limit.{limit}
use Rattle.journal_rules.specs.Lines.{signed, unsigned, sumℤ, frequency_at, entry_at, change_at, after_line, after_lines, changes_of}
use Rattle.journal_rules.specs.Replaying.{outside_fault, outside_at, below_zero, breaks, after_all}
use Rattle.journal_rules.proofs.SignedLaws.{signed_at, signed_length, signed_sum, unsigned_length, signed_unsigned, sum_next, sum_after_line}

pub after_none : (zs : List ℤ) (es : List ℕ) (cs : List ℤ) → after_lines zs es cs 0 ≡ zs
unfolding after_lines
after_none zs es cs = refl

pub after_next : (zs : List ℤ) (es : List ℕ) (cs : List ℤ) (n : ℕ) → after_lines zs es cs (suc n) ≡ after_line (after_lines zs es cs n) (entry_at es n) (change_at cs n)
unfolding after_lines
after_next zs es cs n = refl

after_length : (zs : List ℤ) (es : List ℕ) (cs : List ℤ) (n : ℕ) → length (after_lines zs es cs n) ≡ length zs
unfolding after_lines
after_length zs es cs zero = refl
after_length zs es cs (suc n) = simp length-set (after_length zs es cs n)

-- a line changes its own entry, and no other
after_line_at : (zs : List ℤ) (a : ℕ) (c : ℤ) (e : ℕ) → e < length zs → frequency_at (after_line zs a c) e ≡ frequency_at zs e +ℤ cond (eqb a e) c (pos 0)
after_line_at zs a c e h = go (eqb a e) refl
  where
    go : (t : Bool) → eqb a e ≡ t → frequency_at (after_line zs a c) e ≡ frequency_at zs e +ℤ cond t c (pos 0)
    go true q =
        let s : a ≡ e = eqb-true a e q in
        rw s (get_or-set_same zs e (frequency_at zs e +ℤ c) (pos 0) h)
    go false q =
        get_or-set_other zs a e (frequency_at zs a +ℤ c) (pos 0) (λ s. eqb-false a e q (sym s)) ∙ sym (+ℤ_idr (frequency_at zs e))

after_at : (zs : List ℤ) (es : List ℕ) (cs : List ℤ) (n e : ℕ) → e < length zs → frequency_at (after_lines zs es cs n) e ≡ frequency_at zs e +ℤ changes_of es cs e n
unfolding after_lines changes_of
after_at zs es cs zero e h = sym (+ℤ_idr (frequency_at zs e))
after_at zs es cs (suc n) e h =
    let now = after_lines zs es cs n in
    let moved = cond (eqb (entry_at es n) e) (change_at cs n) (pos 0) in
    after_line_at now (entry_at es n) (change_at cs n) e (omega (arith, after_length zs es cs n))
    ∙ ap (λ (z : ℤ). z +ℤ moved) (after_at zs es cs n e h)
    ∙ +ℤ_assoc (frequency_at zs e) (changes_of es cs e n) moved

-- an entry of no line keeps its number
after_other : (zs : List ℤ) (es : List ℕ) (cs : List ℤ) (n e : ℕ) → ((i : ℕ) → i < n → entry_at es i ≡ e → ⊥) → frequency_at (after_lines zs es cs n) e ≡ frequency_at zs e
unfolding after_lines
after_other zs es cs zero e h = refl
after_other zs es cs (suc n) e h =
    get_or-set_other (after_lines zs es cs n) (entry_at es n) e _ (pos 0) (λ s. h n (omega arith) (sym s)) ∙ after_other zs es cs n e (λ i l. h i (omega arith))

after_sum : (zs : List ℤ) (es : List ℕ) (cs : List ℤ) (n : ℕ) → ((i : ℕ) → i < n → entry_at es i < length zs) → sumℤ (after_lines zs es cs n) ≡ sumℤ zs +ℤ sumℤ (take n cs)
unfolding after_lines
after_sum zs es cs zero h = sym (+ℤ_idr (sumℤ zs))
after_sum zs es cs (suc n) h =
    let now = after_lines zs es cs n in
    sum_after_line now (entry_at es n) (change_at cs n) (omega (arith, after_length zs es cs n, h n (omega arith)))
    ∙ ap (λ (z : ℤ). z +ℤ change_at cs n) (after_sum zs es cs n (λ i l. h i (omega arith)))
    ∙ +ℤ_assoc (sumℤ zs) (sumℤ (take n cs)) (change_at cs n)
    ∙ ap (λ (z : ℤ). sumℤ zs +ℤ z) (sym (sum_next n cs))

-- the entries of lines that 26 does not refuse
pub inside_at : (fs es : List ℕ) → outside_fault fs es ≡ false → (i : ℕ) → i < length es → entry_at es i < length fs
unfolding outside_fault
inside_at fs es f i h = ltb-true (entry_at es i) (length fs) (not-false _ (none_at (length es) (outside_at fs es) f i h))

-- ---- the lines over a list of frequencies

module _ (fs es : List ℕ) (cs : List ℤ) where
  pub after_long : (n : ℕ) → length (after_lines (signed fs) es cs n) ≡ length fs
  after_long n = after_length (signed fs) es cs n ∙ signed_length fs

  pub after_frequency : (n e : ℕ) → e < length fs → frequency_at (after_lines (signed fs) es cs n) e ≡ pos (get_or fs e 0) +ℤ changes_of es cs e n
  after_frequency n e h = after_at (signed fs) es cs n e (omega (arith, signed_length fs)) ∙ ap (λ (z : ℤ). z +ℤ changes_of es cs e n) (signed_at fs e)

  pub after_summed : length es ≡ length cs → outside_fault fs es ≡ false → (n : ℕ) → n ≤ length cs → sumℤ (after_lines (signed fs) es cs n) ≡ pos (sum fs) +ℤ sumℤ (take n cs)
  after_summed paired inside n h =
      after_sum (signed fs) es cs n (λ i l. omega (arith, signed_length fs, inside_at fs es inside i (omega arith)))
      ∙ ap (λ (z : ℤ). z +ℤ sumℤ (take n cs)) (signed_sum fs)

  -- and after all of them

  pub all_long : length (after_all fs es cs) ≡ length fs
  all_long = unsigned_length (after_lines (signed fs) es cs (length cs)) ∙ after_long (length cs)

  pub all_other : (e : ℕ) → ((i : ℕ) → i < length cs → entry_at es i ≡ e → ⊥) → get_or (after_all fs es cs) e 0 ≡ get_or fs e 0
  all_other e h =
      get_or-map nat_abs (after_lines (signed fs) es cs (length cs)) e (pos 0)
      ∙ ap nat_abs (after_other (signed fs) es cs (length cs) e h ∙ signed_at fs e)

-- ---- a list that keeps both bounds

module _ (zs : List ℤ) (kept : breaks zs ≡ false) where
  pub none_below : (e : ℕ) → e < length zs → below_zero zs e ≡ false
  unfolding breaks
  none_below e h = none_at (length zs) (below_zero zs) (neither_left (some (length zs) (below_zero zs)) (lt_z (pos limit) (sumℤ zs)) kept) e h

  pub kept_signed : signed (unsigned zs) ≡ zs
  kept_signed = signed_unsigned zs none_below

  -- the sum of the frequencies
  kept_sum : pos (sum (unsigned zs)) ≡ sumℤ zs
  kept_sum = sym (signed_sum (unsigned zs)) ∙ ap sumℤ kept_signed

  pub kept_limit : sum (unsigned zs) ≤ limit
  unfolding breaks
  kept_limit =
      ltb-false limit (sum (unsigned zs))
      (ap (λ (z : ℤ). lt_z (pos limit) z) kept_sum ∙ neither_right (some (length zs) (below_zero zs)) (lt_z (pos limit) (sumℤ zs)) kept)

-- frequencies whose sum is within the limit keep both bounds
pub signed_kept : (fs : List ℕ) → sum fs ≤ limit → breaks (signed fs) ≡ false
unfolding breaks
signed_kept fs h =
    neither (some (length (signed fs)) (below_zero (signed fs))) (lt_z (pos limit) (sumℤ (signed fs)))
    (some_none (length (signed fs)) (below_zero (signed fs)) (λ e l. ap (λ (z : ℤ). lt_z z (pos 0)) (signed_at fs e) ∙ le-ltb (get_or fs e 0) 0 (omega arith)))
    (ap (λ (z : ℤ). lt_z (pos limit) z) (signed_sum fs) ∙ le-ltb limit (sum fs) h)
