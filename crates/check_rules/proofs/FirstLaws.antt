-- Laws of what fails first (specs/Failing.antt): nothing fails exactly if no answer on the way is against it, and else the answer is the first
-- that is. By induction on how many are left. And what an answer's reply says of it. Assumes nothing.
use mathlib.Core.Path.{◌≡◌, refl, sym, ap, ◌∙◌}
use mathlib.Core.Bool.{true, false, cond}
use mathlib.Core.Logic.{⊎_elim}
use Prim.Native.Nat.{ℕ, zero, suc, ◌+◌, ◌≤◌, ◌<◌}
use native.Mathlib.Nat.{eq-or-lt_of_le}
use native.Mathlib.Omega.{arith}
use lib.Dec.{eqb}
use Rattle.std.specs.Prelude.{Result, Ok, Err}
use Rattle.refusals.specs.declared.Refusal.{Refusal}
use Rattle.refusals.specs.Numbers.{number_of}
use Rattle.refusals.proofs.NumberLaws.{numbered, same_number}
use Rattle.check_rules.specs.declared.Sort.{Sort}
use Rattle.check_rules.specs.declared.Sort.TheVariants.{Bucketlet, Part, Bucket}
use Rattle.check_rules.specs.declared.Verdict.{Verdict}
use Rattle.check_rules.specs.declared.Verdict.TheVariants.{Accepted, Fails}
use Rattle.check_rules.specs.Reply.{Answer, sort_number, verdict_reply, refused_answer, answer_of}
use Rattle.check_rules.specs.Failing.{or_next, first_failing}

-- an answer is the accepted one if its reply says so
pub accepted_reply : (v : Verdict) → (verdict_reply v).accepted ≡ true → v ≡ Accepted
accepted_reply Accepted e = refl
accepted_reply (Fails f) e = let z : ◌≡◌ {A = ℕ} 0 1 = cc in absurd (omega arith)

-- of two answers
pub next_accepted : (v next : Verdict) → v ≡ Accepted → or_next v next ≡ next
next_accepted v next e = ap (λ (u : Verdict). or_next u next) e

pub next_other : (v next : Verdict) → (v ≡ Accepted → ⊥) → or_next v next ≡ v
next_other Accepted next h = absurd (h refl)
next_other (Fails f) next h = refl

pub accepted_left : (v next : Verdict) → or_next v next ≡ Accepted → v ≡ Accepted
accepted_left Accepted next e = refl
accepted_left (Fails f) next e = e

pub accepted_right : (v next : Verdict) → or_next v next ≡ Accepted → next ≡ Accepted
accepted_right v next e = sym (next_accepted v next (accepted_left v next e)) ∙ e

-- ---- the answer of a reply

pub no_refusal : (v : Verdict) → (verdict_reply v).refusal ≡ 0
no_refusal Accepted = refl
no_refusal (Fails f) = refl

sort_of_number : ℕ → Sort
sort_of_number n = cond (eqb n 1) Bucketlet (cond (eqb n 2) Part Bucket)

sort_again : (s : Sort) → sort_of_number (sort_number s) ≡ s
unfolding sort_of_number
sort_again Bucketlet = refl
sort_again Part = refl
sort_again Bucket = refl

same_sort : (s t : Sort) → sort_number s ≡ sort_number t → s ≡ t
same_sort s t e = sym (sort_again s) ∙ ap sort_of_number e ∙ sort_again t

same_verdict : (v u : Verdict) → verdict_reply v ≡ verdict_reply u → v ≡ u
same_verdict Accepted u e = sym (accepted_reply u (sym (ap (λ (a : Answer). a.accepted) e)))
same_verdict (Fails f) Accepted e = accepted_reply (Fails f) (ap (λ (a : Answer). a.accepted) e)
same_verdict (Fails f) (Fails g) e =
    let s = same_sort f.sort g.sort (ap (λ (a : Answer). a.sort) e) in
    λ i. Fails (record { start = (e i).start; end = (e i).end; sort = s i })

pub same_answer : (r s : Result Verdict Refusal) → answer_of r ≡ answer_of s → r ≡ s
same_answer (Ok v) (Ok u) e = ap Ok (same_verdict v u e)
same_answer (Ok v) (Err b) e = absurd (omega (arith, numbered b, no_refusal v, ap (λ (a : Answer). a.refusal) e))
same_answer (Err a) (Ok u) e = absurd (omega (arith, numbered a, no_refusal u, ap (λ (a : Answer). a.refusal) e))
same_answer (Err a) (Err b) e = ap Err (same_number a b (ap (λ (a : Answer). a.refusal) e))

-- ---- the first on a way

module _ (answer : ℕ → Verdict) where
  pub all_accepted : (n i : ℕ) → ((k : ℕ) → i ≤ k → k < i + n → answer k ≡ Accepted) → first_failing answer n i ≡ Accepted
  unfolding first_failing
  all_accepted zero i h = refl
  all_accepted (suc n) i h = next_accepted (answer i) _ (h i (omega arith) (omega arith)) ∙ all_accepted n (suc i) (λ k g l. h k (omega arith) (omega arith))

  pub accepted_all : (n i : ℕ) → first_failing answer n i ≡ Accepted → (k : ℕ) → i ≤ k → k < i + n → answer k ≡ Accepted
  unfolding first_failing
  accepted_all zero i e k g l = absurd (omega arith)
  accepted_all (suc n) i e k g l =
      ⊎_elim
      (λ (d : i ≡ k). ap answer (sym d) ∙ accepted_left (answer i) (first_failing answer n (suc i)) e)
      (λ (d : i < k). accepted_all n (suc i) (accepted_right (answer i) (first_failing answer n (suc i)) e) k d (omega arith))
      (eq-or-lt_of_le g)

  -- the first that is not the accepted one
  pub first_at : (n i k : ℕ) → i ≤ k → k < i + n → ((m : ℕ) → i ≤ m → m < k → answer m ≡ Accepted) → (answer k ≡ Accepted → ⊥)
      → first_failing answer n i ≡ answer k
  unfolding first_failing
  first_at zero i k g l before against = absurd (omega arith)
  first_at (suc n) i k g l before against =
      ⊎_elim
      (λ (d : i ≡ k). next_other (answer i) _ (λ e. against (ap answer (sym d) ∙ e)) ∙ ap answer d)
      (λ (d : i < k).
      next_accepted (answer i) _ (before i (omega arith) d) ∙ first_at n (suc i) k d (omega arith) (λ m h j. before m (omega arith) j) against)
      (eq-or-lt_of_le g)
