-- `checker::bucket::Matched::check_bucketlet` meets its contract: the class is in use, so it is read.
-- Assumes nothing.
use Rattle.std.proofs.Common.{◌≡◌, ap, arith, ◌∙◌}
use Rattle.counts_rules.specs.Form.{base}
use Rattle.counts_rules.specs.Class.{class_number}
use Rattle.counts_rules.proofs.BaseLaws.{number_small}
use Rattle.counts.proofs.CallLaws.{class_number_lem}
use Rattle.check_rules.specs.Failing.{bucketlet_verdict}
use Rattle.checker.proofs.bucket.Matched.check_bucketlet.Goals as goal

pub unreachable-requires : goal.unreachable-requires
unreachable-requires c = c.in_default.not-Ok _ (class_number_lem _ c.args.class c.requires.used c.number_of_class.ensures)

pub invariant_of-bucketlet : goal.invariant_of-bucketlet
invariant_of-bucketlet c =
    let e = class_number_lem _ c.args.class c.requires.used c.number_of_class.ensures in
    let n : c.from.result ≡ class_number base c.args.class = cc in
    record {
      searchable = record {
        sound = c.args.self.now.checkable.sound;
        inside = c.requires.inside;
        narrow = c.requires.narrow;
        number_small = omega (arith, number_small c.args.class c.requires.used);
      };
    }

pub returns : goal.returns
returns c =
    let s = c.args.self.now in
    let e = class_number_lem _ c.args.class c.requires.used c.number_of_class.ensures in
    let n : c.from.result ≡ class_number base c.args.class = cc in
    c.check.ensures ∙ ap (bucketlet_verdict s.quality s.freqs.now c.args.start c.args.width) n
