-- What `any` answers of the numbers below n: `some`, of a closure that computes a test of each.
-- Assumes nothing.
use Rattle.std.proofs.Common.{◌≡◌, ap, ◌∙◌, ℕ, Bool, arith}
use Rattle.std.proofs.lemmas.Iterator.{YieldsList-from_range}
use Rattle.std.proofs.lemmas.Iterator.Search.{any_from_yields_List}
use Rattle.std.proofs.lemmas.List.FromFn.{length-range_with_len, get_or-range_with_len}
use Rattle.std.proofs.iter.Yields.{nat_range_steps}
use Rattle.std.specs.List.{range_with_len}
use Rattle.std.specs.Fn.{Called}
use Rattle.std.specs.Iterator.{ChecksAny}
use Rattle.std.specs.declared.ops.Range.{Range}
use denote.Param.Members.{Mut}
use Rattle.laws.specs.Each.{some}
use Rattle.laws.proofs.EachLaws.{some_same}
use Rattle.laws.proofs.SomeLaws.{any_is_some}

pub some_from_any : (n : ℕ) (p : ℕ → Bool) {F : Type 0} {g : Mut F (ℕ × Unit {0}) Bool} {s u : Range ℕ} {f : F} {r : Bool} → ChecksAny nat_range_steps g s f r u
    → s.start ≡ 0 → s.end ≡ n → ((x : ℕ) (b : Bool) (q : F) → Called g f (x, tt) b q → (q ≡ f) × (b ≡ p x)) → r ≡ some n p
some_from_any n p {u = u} {f = f} {r = r} a z e k =
    any_from_yields_List p u f r a (YieldsList-from_range 0 n n (λ i. record { start = z i; end = e i }) (omega arith)) k
    ∙ any_is_some p n (range_with_len 0 n) (length-range_with_len 0 n)
    ∙ some_same n _ p (λ i b. ap p (get_or-range_with_len 0 n i 0 b ∙ omega arith))
