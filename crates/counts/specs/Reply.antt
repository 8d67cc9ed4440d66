-- What the four calls answer: a refusal's number, or 0 and a value (document 01, "When a call is turned away", 16 and 17).
-- Assumes nothing.
use Rattle.std.specs.Prelude.{cond, ℕ}
use Rattle.laws.specs.Reply.{Reply, answered, refused}
use Rattle.counts_rules.specs.Limit.{countable}
use Rattle.counts_rules.specs.Form.{base, used_class}
use Rattle.counts_rules.specs.Class.{class_of, class_number}
use Rattle.counts_rules.specs.Total.{total_code, total_number, valid_code}

-- 16 for a count above the limit
unfoldable pub class_reply : ℕ → Reply
class_reply v = cond (countable v) (answered (class_of base v)) (refused 16)

unfoldable pub total_reply : ℕ → Reply
total_reply t = cond (countable t) (answered (total_code t)) (refused 16)

-- 17 for a class that is 2, 63 or above, and for a code that is not valid
unfoldable pub class_meaning : ℕ → Reply
class_meaning c = cond (used_class c) (answered (class_number base c)) (refused 17)

unfoldable pub total_meaning : ℕ → Reply
total_meaning c = cond (valid_code c) (answered (total_number c)) (refused 17)
