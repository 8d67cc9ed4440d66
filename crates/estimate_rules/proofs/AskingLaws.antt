-- Laws of asking (specs/Asking.antt): what the 1 for a sum of 0 is, and a range within a readable list is answered with its
-- estimate.
-- Assumes nothing.
use mathlib.Core.Path.{◌≡◌, refl, sym, ap, ◌∙◌}
use mathlib.Core.Bool.{Bool, true, false, cond, not, ◌&&◌}
use mathlib.Core.List.{List, [], ◌∷◌}
use mathlib.Core.Logic.{◌⊎◌, inl, inr}
use Prim.Native.Nat.{ℕ, ◌≤◌, max}
use native.Mathlib.Omega.{arith}
use borrow.Author.Tests.{ltb-false, le-ltb, eqb-true, eqb-false, eq-eqb, ne_eqb}
use lib.Dec.{ltb, eqb}
use Rattle.laws.specs.Reply.{answered, refused}
use Rattle.laws.proofs.ReplyLaws.{reply_refused, reply_answered}
use Rattle.laws.proofs.Tests.{neither, neither_left, neither_right}
use Rattle.laws.proofs.RefusalLaws.{numbered, none_left, passed, none_true, append_passed, append_refused, append_first, refused as refused_at}
use Rattle.words_rules.specs.Words.{entries}
use Rattle.words_rules.specs.Reading.{read_sentences, read_fault, Readable}
use Rattle.estimate_rules.specs.declared.Fraction.{Fraction}
use Rattle.estimate_rules.specs.Fraction.{rounded}
use Rattle.estimate_rules.specs.Exact.{exact}
use Rattle.estimate_rules.specs.Asking.{range_fault, ask_fault, raised, estimate, estimate_reply}

-- ---- the 1 for a sum of 0

module _ (x y n : ℕ) where
  -- the rounded sum is answered, or that is 0 and 1 is
  pub raised_or : (raised x y n ≡ n) ⊎ ((n ≡ 0) × (raised x y n ≡ 1))
  unfolding raised
  raised_or = go (not (eqb x y)) (eqb n 0) refl
    where
      go : (t u : Bool) → eqb n 0 ≡ u → (cond (t && u) 1 n ≡ n) ⊎ ((n ≡ 0) × (cond (t && u) 1 n ≡ 1))
      go true true e = inr (eqb-true n 0 e, refl)
      go true false e = inl refl
      go false u e = inl refl

  pub raised_empty : x ≡ y → raised x y n ≡ n
  unfolding raised
  raised_empty e = simp (eq-eqb x y e)

  -- a range that isn't empty, as the code has it
  pub raised_some : (x ≡ y → ⊥) → raised x y n ≡ max 1 n
  unfolding raised
  raised_some d = ap (λ (t : Bool). cond (not t && eqb n 0) 1 n) (ne_eqb x y d) ∙ go (eqb n 0) refl
    where
      go : (u : Bool) → eqb n 0 ≡ u → cond u 1 n ≡ max 1 n
      go true e = omega (arith, eqb-true n 0 e)
      go false e = let z = eqb-false n 0 e in omega arith

-- so the estimate is its sum, rounded up, or 1
pub estimate_some : (ws : List ℕ) (x y n : ℕ) (e : Fraction) → (x ≡ y → ⊥) → n ≡ max 1 (rounded e) → e ≡ exact ws x y → n ≡ estimate ws x y
unfolding estimate
estimate_some ws x y n e d p q = p ∙ ap (λ (f : Fraction). max 1 (rounded f)) q ∙ sym (raised_some x y (rounded (exact ws x y)) d)

-- ---- what is answered

-- a range that 14 does not refuse lies within the list
pub range_says : (ws : List ℕ) (x y : ℕ) → range_fault ws x y ≡ false → (x ≤ y) × (y ≤ entries ws)
unfolding range_fault
range_says ws x y f = (ltb-false y x (neither_left (ltb y x) (ltb (entries ws) y) f), ltb-false (entries ws) y (neither_right (ltb y x) (ltb (entries ws) y) f))

module _ (ws : List ℕ) (x y : ℕ) where
  pub list_first : (read_fault ws ≡ 0 → ⊥) → ask_fault ws x y ≡ read_fault ws
  unfolding numbered
  list_first h = append_refused (read_sentences ws) (record { number = 14; holds = range_fault ws x y } ∷ []) refl h

  pub range_refused : Readable ws → range_fault ws x y ≡ true → ask_fault ws x y ≡ 14
  unfolding numbered
  range_refused r t =
      append_passed (read_sentences ws) (record { number = 14; holds = range_fault ws x y } ∷ []) refl r
      ∙ refused_at (record { number = 14; holds = range_fault ws x y }) [] t

  pub range_passed : Readable ws → range_fault ws x y ≡ false → ask_fault ws x y ≡ 0
  unfolding numbered
  range_passed r f =
      append_passed (read_sentences ws) (record { number = 14; holds = range_fault ws x y } ∷ []) refl r
      ∙ passed (record { number = 14; holds = range_fault ws x y }) [] f
      ∙ none_left

  pub asked_readable : ask_fault ws x y ≡ 0 → Readable ws
  unfolding numbered
  asked_readable e = append_first (read_sentences ws) (record { number = 14; holds = range_fault ws x y } ∷ []) refl e

  pub asked_within : ask_fault ws x y ≡ 0 → (x ≤ y) × (y ≤ entries ws)
  unfolding numbered
  asked_within e =
      range_says ws x y
      (none_true (record { number = 14; holds = range_fault ws x y } ∷ []) refl
      (sym (append_passed (read_sentences ws) (record { number = 14; holds = range_fault ws x y } ∷ []) refl (asked_readable e)) ∙ e)).0

  pub asked_refused : (n : ℕ) → n ≡ ask_fault ws x y → (n ≡ 0 → ⊥) → refused n ≡ estimate_reply ws x y
  unfolding estimate_reply
  asked_refused = reply_refused (ask_fault ws x y) (estimate ws x y)

  pub asked_answered : ask_fault ws x y ≡ 0 → answered (estimate ws x y) ≡ estimate_reply ws x y
  unfolding estimate_reply
  asked_answered = reply_answered (ask_fault ws x y) (estimate ws x y)

module _ (ws : List ℕ) (x y : ℕ) (readable : Readable ws) (ordered : x ≤ y) (ends : y ≤ entries ws) where
  in_list : range_fault ws x y ≡ false
  unfolding range_fault
  in_list = neither (ltb y x) (ltb (entries ws) y) (le-ltb y x ordered) (le-ltb (entries ws) y ends)

  pub no_fault : ask_fault ws x y ≡ 0
  no_fault = range_passed ws x y readable in_list

  pub reply_is : estimate_reply ws x y ≡ answered (estimate ws x y)
  reply_is = sym (asked_answered ws x y no_fault)
