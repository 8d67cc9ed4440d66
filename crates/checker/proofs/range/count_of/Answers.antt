-- `checker::range::count_of` meets its contract: the library's sum is that of the definition.
-- Assumes nothing.
use Rattle.std.proofs.Common.{rules, ◌≡◌, ◌∙◌, ℕ, sum_by}
use Rattle.laws.proofs.SumsLaws.{sum_is_by}
use Rattle.checker.proofs.range.count_of.Goals as goal

pub returns : goal.returns
returns c =
    let e : c.sum.result ≡ sum_by (λ (n : ℕ). n) c.args.part.now = search rules in
    e ∙ sum_is_by c.args.part.now
