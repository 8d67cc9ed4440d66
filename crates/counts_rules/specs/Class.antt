-- Classes, 6 bits wide (document 01, "How counts are written small", its first paragraph).
-- Assumes nothing.
use Rattle.std.specs.Prelude.{Bool, not, ◌&&◌, ℕ, zero, suc, ◌-◌, ◌*◌, ◌^◌, ◌≤◌, ◌<◌, leb}
use Rattle.laws.specs.Search.{first, root}
use Rattle.counts_rules.specs.Form.{Base, base}

-- base^k <= v
abbrev pub reaches : Base → ℕ → ℕ → Bool
reaches b k v = leb (b.num ^ k) (v * b.den ^ k)

-- base^(c-1) <= v < base^c
abbrev pub in_class : Base → ℕ → ℕ → Bool
in_class b c v = reaches b (c - 1) v && not (reaches b c v)

-- the class that holds a count of at least 1; none is above v times den (claims has_class_lem, one-class)
abbrev pub class_holding : Base → ℕ → ℕ
class_holding b v = first (λ c. in_class b c v) (v * b.den) 1

-- the class of a count, which is 0 for 0 (document 02, request iv)
unfoldable pub class_of : Base → ℕ → ℕ
class_of b zero = 0
class_of b (suc v) = class_holding b (suc v)

-- the smallest count that is not below the class, with which the class begins (claims start_reaches, start_least)
unfoldable pub class_start : Base → ℕ → ℕ
class_start b c = first (λ v. reaches b (c - 1) v) (b.num ^ c) 0

-- the number that a class stands for: the largest whole r with r squared at most base^(2c-1) (claim number_rule); class 0 stands for 0
unfoldable pub class_number : Base → ℕ → ℕ
class_number b zero = 0
class_number b (suc c) = root (b.num ^ (2 * suc c - 1)) (b.den ^ (2 * suc c - 1))

-- the number that stands for a count
abbrev pub class_value : ℕ → ℕ
class_value v = class_number base (class_of base v)

-- the rule of the classes as a statement: c is a class of v
pub record Class (b : Base) (v c : ℕ) : Type 0 where
  pub least : 1 ≤ c
  pub reached : b.num ^ (c - 1) ≤ v * b.den ^ (c - 1)
  pub not_next : v * b.den ^ c < b.num ^ c
