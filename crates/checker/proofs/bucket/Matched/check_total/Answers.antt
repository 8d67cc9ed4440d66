-- `checker::bucket::Matched::check_total` meets its contract: the code is valid, so it is read, and its number is near to the count or not.
-- Assumes nothing.
use Rattle.std.proofs.Common.{◌≡◌, sym, ◌∙◌}
use Rattle.counts_rules.specs.Total.{total_number}
use Rattle.counts.proofs.CallLaws.{total_number_lem}
use Rattle.check_rules.specs.Checking.{total_verdict}
use Rattle.check_rules.proofs.RangeLaws.{good_accepted, bad_fails}
use Rattle.checker.proofs.StartLaws.{same_near}
use Rattle.checker.proofs.bucket.Matched.check_total.Goals as goal

pub unreachable-requires : goal.unreachable-requires
unreachable-requires c = c.in_default.not-Ok _ (total_number_lem _ c.args.code c.requires.valid c.number_of_total.ensures)

pub returns-then-not-is_near : goal.returns-then-not-is_near
unfolding total_verdict
returns-then-not-is_near c =
    let e = total_number_lem _ c.args.code c.requires.valid c.number_of_total.ensures in
    let n : c.from.result ≡ total_number c.args.code = cc in
    sym (bad_fails _ _ (sym (same_near c.args.self.now.quality 1 _ _ _ _ c.count_of.ensures n) ∙ sym c.is_near.ensures ∙ c.if-not-is_near.true))

pub returns : goal.returns
unfolding total_verdict
returns c =
    let e = total_number_lem _ c.args.code c.requires.valid c.number_of_total.ensures in
    let n : c.from.result ≡ total_number c.args.code = cc in
    sym (good_accepted _ _ (sym (same_near c.args.self.now.quality 1 _ _ _ _ c.count_of.ensures n) ∙ sym c.is_near.ensures ∙ c.if-not-is_near.false))
