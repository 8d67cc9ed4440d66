-- The steps of the search inside a bucketlet: the ranges before the one in hand are good, by start and then by end, so the first that is not is
-- the answer. Assumes nothing.
use mathlib.Core.Path.{◌≡◌, refl, sym, ap, subst, ◌∙◌}
use mathlib.Core.Bool.{true, false}
use mathlib.Core.List.{List}
use mathlib.Core.Logic.{⊎_elim}
use Prim.Native.Nat.{ℕ, ◌+◌, ◌-◌, ◌≤◌, ◌<◌}
use native.Mathlib.Nat.{eq-or-lt_of_le}
use native.Mathlib.Numerals.{add-one}
use native.Mathlib.Omega.{arith}
use lib.ListN.{get_or, length, take, drop}
use Rattle.std.proofs.lemmas.List.{get_or-take, get_or-drop, length-take, length-drop}
use Rattle.laws.specs.Sums.{part_sum}
use Rattle.laws.proofs.SumsLaws.{part_next}
use Rattle.list_rules.specs.declared.Quality.{Quality}
use Rattle.check_rules.specs.declared.Verdict.TheVariants.{Fails}
use Rattle.check_rules.specs.Failing.{count_good, range_good, sort_of, bucketlet_verdict}
use Rattle.check_rules.specs.Claims.{FirstRange}
use Rattle.check_rules.proofs.RangeLaws.{first_range}

module _ (q : Quality) (fs : List ℕ) (a w s : ℕ) where
  -- every range that starts before i is good
  pub record Starts (i : ℕ) : Type 0 where
    pub within : i ≤ w
    pub good : (x y : ℕ) → x < i → x < y → y ≤ w → range_good q fs a w s x y ≡ true

  -- so is every range from i of at most n entries, and the count is that of the longest of them
  pub record Ends (i n count : ℕ) : Type 0 where
    pub within : i + n ≤ w
    pub counts : count ≡ part_sum (a + i) n fs
    pub good : (y : ℕ) → i < y → y ≤ i + n → range_good q fs a w s i y ≡ true

  -- every range from i is good
  pub next_start : (i n count : ℕ) → Starts i → Ends i n count → i < w → i + n ≡ w → Starts (i + 1)
  next_start i n count r e h l =
      record {
        within = omega arith;
        good = λ x y g m k. ⊎_elim (λ (d : x ≡ i). subst (λ (z : ℕ). range_good q fs a w s z y ≡ true) {x = i} {y = x} (omega arith) (e.good y (omega arith) (omega arith))) (λ (d : x < i). r.good x y d m k) (eq-or-lt_of_le (omega arith));
      }

  -- one entry more, with the frequency f
  module _ (i n count f : ℕ) (e : Ends i n count) (next : f ≡ get_or fs (a + i + n) 0) (h : i + n < w) where
    pub next_count : count + f ≡ part_sum (a + i) (n + 1) fs
    next_count = rw (add-one n) (part_next (a + i) n (a + i + n) f count fs refl next e.counts)

    pub next_tested : count_good q (count + f) (n + 1) s w ≡ range_good q fs a w s i (i + (n + 1))
    next_tested = let m : n + 1 ≡ i + (n + 1) - i = omega arith in let c = next_count in λ k. count_good q ((c ∙ ap (λ (x : ℕ). part_sum (a + i) x fs) m) k) (m k) s w

    pub next_end : count_good q (count + f) (n + 1) s w ≡ true → Ends i (n + 1) (count + f)
    next_end t =
        record {
          within = omega arith;
          counts = next_count;
          good = λ y g l. ⊎_elim (λ (d : y ≡ i + (n + 1)). ap (range_good q fs a w s i) d ∙ sym next_tested ∙ t) (λ (d : y < i + (n + 1)). e.good y g (omega arith)) (eq-or-lt_of_le l);
        }

    -- the first range that fails is the answer
    pub found : Starts i → count_good q (count + f) (n + 1) s w ≡ false
        → Fails (record { start = a + i; end = a + i + (n + 1); sort = sort_of (n + 1) w }) ≡ bucketlet_verdict q fs a w s
    found r t =
        let m : n + 1 ≡ i + (n + 1) - i = omega arith in
        let o : a + i + (n + 1) ≡ a + (i + (n + 1)) = omega arith in
        let first : FirstRange q fs a w s i (i + (n + 1)) = record { some = omega arith; inside = omega arith; fails = sym next_tested ∙ t; earlier_start = r.good; earlier_end = λ y g l. e.good y g (omega arith) } in
        (λ k. Fails (record { start = a + i; end = o k; sort = sort_of (m k) w })) ∙ sym (first_range q fs a w s i (i + (n + 1)) first)

-- the slice from the start i on of a bucketlet inside the list
module _ (fs : List ℕ) (a w i : ℕ) (inside : a + w ≤ length fs) (h : i ≤ w) where
  abbrev pub rest : List ℕ
  rest = take (a + w - (a + i)) (drop (a + i) fs)

  pub rest_length : length rest ≡ w - i
  rest_length = omega (arith, length-take (a + w - (a + i)) (drop (a + i) fs), length-drop (a + i) fs)

  -- its entry n
  pub entry_of : (n : ℕ) → n < length rest → get_or rest n 0 ≡ get_or fs (a + i + n) 0
  entry_of n l = get_or-take (a + w - (a + i)) (drop (a + i) fs) n 0 (omega (arith, rest_length)) ∙ get_or-drop (a + i) fs n 0
