-- Where no start is at fault, starts rise from 0 and stay below d (specs/Reading.antt, sentence 10), and so buckets tile the entries.
-- Assumes nothing.
use mathlib.Core.Path.{◌≡◌, sym, ap, subst}
use mathlib.Core.Bool.{Bool, true, false, not, ◌||◌}
use mathlib.Core.List.{List}
use mathlib.Core.Logic.{⊎_elim}
use Prim.Native.Nat.{ℕ, zero, suc, ◌+◌, ◌-◌, ◌≤◌, ◌<◌}
use native.Mathlib.Nat.{eq-or-lt_of_le, le_of_eq, le_of_lt, le_of_suc-le-suc, lt_of_le_of_lt}
use native.Mathlib.Omega.{arith}
use borrow.Author.Tests.{leb-false, lt-leb, ltb-true, ltb-false, lt-ltb, le-ltb, eqb-true, eq-eqb, not-false}
use lib.Dec.{leb, ltb, eqb}
use Rattle.laws.specs.Each.{some}
use Rattle.laws.proofs.EachLaws.{none_at, some_none}
use Rattle.laws.proofs.Tests.{neither, neither_left, neither_right, tested}
use Rattle.words_rules.specs.Words.{entries, buckets, start, end}
use Rattle.words_rules.specs.Reading.{start_fault}
use Rattle.words_rules.specs.Claims.{Tiles}

-- where a bucket ends
pub end_next : (ws : List ℕ) (b : ℕ) → b + 1 < buckets ws → end ws b ≡ start ws (b + 1)
end_next ws b h = simp (lt-ltb (b + 1) (buckets ws) h)

pub end_last : (ws : List ℕ) (b : ℕ) → buckets ws ≤ b + 1 → end ws b ≡ entries ws
end_last ws b h = simp (le-ltb (b + 1) (buckets ws) h)

pub record Starts (ws : List ℕ) : Type 0 where
  pub first : start ws 0 ≡ 0
  pub rise : (b : ℕ) → b + 1 < buckets ws → start ws b < start ws (b + 1)
  pub below : (b : ℕ) → b < buckets ws → start ws b < entries ws

module _ (ws : List ℕ) where
  first_fault : Bool
  first_fault = not (eqb (start ws 0) 0)

  rise_fault : Bool
  rise_fault = some (buckets ws - 1) (λ b. leb (start ws (b + 1)) (start ws b))

  below_fault : Bool
  below_fault = some (buckets ws) (λ b. leb (entries ws) (start ws b))

  pub starts : start_fault ws ≡ false → Starts ws
  unfolding start_fault first_fault rise_fault below_fault
  starts f =
      let fr = neither_left (first_fault || rise_fault) below_fault f in
      record {
        first = eqb-true _ _ (not-false _ (neither_left first_fault rise_fault fr));
        rise = λ b h. leb-false _ _ (none_at (buckets ws - 1) (λ b. leb (start ws (b + 1)) (start ws b)) (neither_right first_fault rise_fault fr) b (omega arith));
        below = λ b h. leb-false _ _ (none_at (buckets ws) (λ b. leb (entries ws) (start ws b)) (neither_right (first_fault || rise_fault) below_fault f) b h);
      }

  pub no_start_fault : Starts ws → start_fault ws ≡ false
  unfolding start_fault first_fault rise_fault below_fault
  no_start_fault s =
      let f : first_fault ≡ false = ap not (eq-eqb _ _ s.first) in
      let r : rise_fault ≡ false = some_none _ _ (λ b h. lt-leb _ _ (s.rise b (omega arith))) in
      let l : below_fault ≡ false = some_none _ _ (λ b h. lt-leb _ _ (s.below b h)) in
      neither (first_fault || rise_fault) below_fault (neither first_fault rise_fault f r) l

module _ (ws : List ℕ) (s : Starts ws) where
  pub starts_mono : (a b : ℕ) → a ≤ b → b < buckets ws → start ws a ≤ start ws b
  starts_mono a zero h g = let e : a ≡ 0 = omega arith in le_of_eq (ap (start ws) e)
  starts_mono a (suc b) h g =
      ⊎_elim
      (λ (e : a ≡ suc b). le_of_eq (ap (start ws) e))
      (λ (l : a < suc b).
      let e : suc b ≡ b + 1 = omega arith in
      let i : start ws a ≤ start ws b = starts_mono a b (le_of_suc-le-suc l) (omega arith) in
      let j : start ws b < start ws (b + 1) = s.rise b (omega arith) in
      rw e (le_of_lt (lt_of_le_of_lt i j)))
      (eq-or-lt_of_le h)

  -- a bucket has entries, and ends within the list
  span_of : (b : ℕ) → b < buckets ws → (start ws b < end ws b) × (end ws b ≤ entries ws)
  span_of b h = ⊎_elim next last (tested (ltb (b + 1) (buckets ws)))
    where
      next : ltb (b + 1) (buckets ws) ≡ true → (start ws b < end ws b) × (end ws b ≤ entries ws)
      next t =
          let l : b + 1 < buckets ws = ltb-true _ _ t in
          let e = end_next ws b l in
          (subst (λ (n : ℕ). start ws b < n) (sym e) (s.rise b l), subst (λ (n : ℕ). n ≤ entries ws) (sym e) (le_of_lt (s.below (b + 1) l)))

      last : ltb (b + 1) (buckets ws) ≡ false → (start ws b < end ws b) × (end ws b ≤ entries ws)
      last t =
          let e = end_last ws b (ltb-false _ _ t) in
          (subst (λ (n : ℕ). start ws b < n) (sym e) (s.below b h), le_of_eq e)

  pub tiles : Tiles ws
  tiles =
      record {
        first_start = s.first;
        next_start = λ b h. end_next ws b h;
        last_end = end_last ws (buckets ws - 1) (omega arith);
        not_empty = λ b h. (span_of b h).0;
        within = λ b h. (span_of b h).1;
      }
