-- Laws of joined journals (specs/AddingUp.antt): their lines go through the lists of the first journal and then through those that the second makes of
-- the last of them. So 26 names the joined journal where it names either, and 27 where it names the first or the second over what the first left.
-- Assumes nothing.
use mathlib.Core.Path.{◌≡◌, refl, sym, ap, ◌∙◌}
use mathlib.Core.Bool.{Bool, not, ◌||◌}
use mathlib.Core.List.{List, ◌++◌}
use Prim.Native.Nat.{ℕ, zero, suc, ◌+◌, ◌≤◌, ◌<◌}
use native.Mathlib.Nat.{le_refl, add-zero, add-suc}
use native.Mathlib.Omega.{arith}
use lib.Dec.{ltb}
use lib.IntN.{ℤ, pos}
use lib.ListN.{length, length-append, get_or-append}
use lib.Seq.{get_or-append-add}
use Rattle.laws.specs.Each.{some}
use Rattle.laws.proofs.EachLaws.{some_add, some_same}
use Rattle.journal_rules.specs.Lines.{signed, entry_at, after_line, after_lines}
use Rattle.journal_rules.specs.Replaying.{outside_at, outside_fault, breaks, breaks_after, bound_fault}

-- 27 of a list with sign, as `bound_fault` says it of frequencies

abbrev pub bound_from : List ℤ → List ℕ → List ℤ → Bool
bound_from zs es cs = some (length cs) (λ i. breaks (after_lines zs es cs (suc i)))

pub bound_from_lem : (fs es : List ℕ) (cs : List ℤ) (zs : List ℤ) → signed fs ≡ zs → bound_fault fs es cs ≡ bound_from zs es cs
unfolding bound_fault
bound_from_lem fs es cs zs e = ap (λ (l : List ℤ). bound_from l es cs) e

-- two tests, one or the other
either_same : {a b c d : Bool} → a ≡ c → b ≡ d → (a || b) ≡ (c || d)
either_same p q = λ i. p i || q i

-- ---- the entries

module _ (es₁ es₂ : List ℕ) where
  entry_first : (n : ℕ) → n < length es₁ → entry_at (es₁ ++ es₂) n ≡ entry_at es₁ n
  entry_first n h = get_or-append es₁ es₂ 0 n h

  entry_second : (n : ℕ) → entry_at (es₁ ++ es₂) (length es₁ + n) ≡ entry_at es₂ n
  entry_second n = get_or-append-add es₁ es₂ n 0

  pub outside_joined : (fs : List ℕ) → outside_fault fs (es₁ ++ es₂) ≡ (outside_fault fs es₁ || outside_fault fs es₂)
  unfolding outside_fault
  outside_joined fs =
      ap (λ (n : ℕ). some n (outside_at fs (es₁ ++ es₂))) (length-append es₁ es₂)
      ∙ some_add (length es₁) (length es₂) (outside_at fs (es₁ ++ es₂))
      ∙ either_same
      (some_same (length es₁) _ _ (λ i h. ap (λ (e : ℕ). not (ltb e (length fs))) (entry_first i h)))
      (some_same (length es₂) _ _ (λ i h. ap (λ (e : ℕ). not (ltb e (length fs))) (entry_second i)))

-- ---- the lines

module _ (es₁ es₂ : List ℕ) (cs₁ cs₂ : List ℤ) (paired : length es₁ ≡ length cs₁) where
  after_first : (zs : List ℤ) (n : ℕ) → n ≤ length cs₁ → after_lines zs (es₁ ++ es₂) (cs₁ ++ cs₂) n ≡ after_lines zs es₁ cs₁ n
  unfolding after_lines
  after_first zs zero h = refl
  after_first zs (suc n) h =
      let l = after_first zs n (omega arith) in
      let e = entry_first es₁ es₂ n (omega arith) in
      let c = get_or-append cs₁ cs₂ (pos 0) n (omega arith) in
      λ i. after_line (l i) (e i) (c i)

  after_second : (zs : List ℤ) (n : ℕ) → after_lines zs (es₁ ++ es₂) (cs₁ ++ cs₂) (length cs₁ + n) ≡ after_lines (after_lines zs es₁ cs₁ (length cs₁)) es₂ cs₂ n
  unfolding after_lines
  after_second zs zero = ap (after_lines zs (es₁ ++ es₂) (cs₁ ++ cs₂)) (add-zero (length cs₁)) ∙ after_first zs (length cs₁) (le_refl (length cs₁))
  after_second zs (suc n) =
      let l = after_second zs n in
      let e = ap (λ (m : ℕ). entry_at (es₁ ++ es₂) (m + n)) (sym paired) ∙ entry_second es₁ es₂ n in
      let c = get_or-append-add cs₁ cs₂ n (pos 0) in
      ap (after_lines zs (es₁ ++ es₂) (cs₁ ++ cs₂)) (add-suc (length cs₁) n) ∙ λ i. after_line (l i) (e i) (c i)

  -- after all lines
  pub after_both : (zs : List ℤ) → after_lines zs (es₁ ++ es₂) (cs₁ ++ cs₂) (length (cs₁ ++ cs₂)) ≡ after_lines (after_lines zs es₁ cs₁ (length cs₁)) es₂ cs₂ (length cs₂)
  after_both zs = ap (after_lines zs (es₁ ++ es₂) (cs₁ ++ cs₂)) (length-append cs₁ cs₂) ∙ after_second zs (length cs₂)

  pub bound_joined : (fs : List ℕ)
      → bound_fault fs (es₁ ++ es₂) (cs₁ ++ cs₂) ≡ (bound_fault fs es₁ cs₁ || bound_from (after_lines (signed fs) es₁ cs₁ (length cs₁)) es₂ cs₂)
  unfolding bound_fault
  bound_joined fs =
      ap (λ (n : ℕ). some n (breaks_after fs (es₁ ++ es₂) (cs₁ ++ cs₂))) (length-append cs₁ cs₂)
      ∙ some_add (length cs₁) (length cs₂) (breaks_after fs (es₁ ++ es₂) (cs₁ ++ cs₂))
      ∙ either_same
      (some_same (length cs₁) _ _ (λ i h. ap breaks (after_first (signed fs) (suc i) h)))
      (some_same (length cs₂) _ _
      (λ i h. ap breaks (ap (after_lines (signed fs) (es₁ ++ es₂) (cs₁ ++ cs₂)) (sym (add-suc (length cs₁) i)) ∙ after_second (signed fs) (suc i))))
