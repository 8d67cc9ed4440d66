-- The reply of a call that is refused or answers, and the lent list that it leaves.
-- Assumes nothing.
use mathlib.Core.Path.{◌≡◌, ap, ◌∙◌}
use mathlib.Core.Bool.{cond}
use mathlib.Core.List.{List}
use Prim.Native.Nat.{ℕ}
use borrow.Author.Tests.{eq-eqb, ne_eqb}
use lib.Dec.{eqb}
use Rattle.laws.specs.Reply.{answered, refused}

-- a call that answers v where there is no fault, and else is refused
module _ (fault v : ℕ) where
  pub reply_refused : (n : ℕ) → n ≡ fault → (n ≡ 0 → ⊥) → refused n ≡ cond (eqb fault 0) (answered v) (refused fault)
  reply_refused n e z = simp (ne_eqb fault 0 (λ p. z (e ∙ p))) (ap refused e)

  pub reply_answered : fault ≡ 0 → answered v ≡ cond (eqb fault 0) (answered v) (refused fault)
  reply_answered e = simp (eq-eqb fault 0 e)

-- and leaves a lent list as `new`, or as it was
module _ (fault v : ℕ) (new old : List ℕ) where
  pub lent_refused : (n : ℕ) → n ≡ fault → (n ≡ 0 → ⊥) → (refused n ≡ cond (eqb fault 0) (answered v) (refused fault)) × (old ≡ cond (eqb fault 0) new old)
  lent_refused n e z = (reply_refused fault v n e z, simp (ne_eqb fault 0 (λ p. z (e ∙ p))))

  pub lent_answered : fault ≡ 0 → (answered v ≡ cond (eqb fault 0) (answered v) (refused fault)) × (new ≡ cond (eqb fault 0) new old)
  lent_answered e = (reply_answered fault v e, simp (eq-eqb fault 0 e))
