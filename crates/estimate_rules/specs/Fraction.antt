-- Fractions as a sum of them is kept: a whole part beside top / bottom, so that whole numbers stay outside the common denominator.
-- Assumes nothing.
use Rattle.std.specs.Prelude.{ℕ, zero, suc, ◌+◌, ◌-◌, ◌*◌, ◌/◌}
use Rattle.estimate_rules.specs.declared.Fraction.{Fraction}

abbrev pub number : ℕ → Fraction
number n = record { whole = n; top = 0; bottom = 1 }

abbrev pub nothing : Fraction
nothing = number 0

abbrev pub quotient : ℕ → ℕ → Fraction
quotient top bottom = record { whole = 0; top = top; bottom = bottom }

abbrev pub plus : Fraction → Fraction → Fraction
plus a b =
    record {
      whole = a.whole + b.whole;
      top = a.top * b.bottom + b.top * a.bottom;
      bottom = a.bottom * b.bottom;
    }

-- what stands over the bottom where the whole part is brought there too; the fraction is 0 exactly if this is
abbrev pub numerator : Fraction → ℕ
numerator e = e.whole * e.bottom + e.top

-- rounded up to a whole number (claim rounded_up)
unfoldable pub rounded : Fraction → ℕ
rounded e = e.whole + (e.top + (e.bottom - 1)) / e.bottom

-- the sum of the first n of numbered fractions
unfoldable pub sum_of : ℕ → (ℕ → Fraction) → Fraction
sum_of zero f = nothing
sum_of (suc n) f = plus (sum_of n f) (f n)
