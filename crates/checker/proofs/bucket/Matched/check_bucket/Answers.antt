-- `checker::bucket::Matched::check_bucket` meets its contract. At the loop nothing fails in the bucketlets before the one in hand, which starts at `at`.
-- Assumes nothing.
use Rattle.std.proofs.Common.{◌≡◌, length, arith, ◌∙◌}
use Rattle.std.proofs.lemmas.List.{length_push}
use Rattle.std.proofs.lemmas.Slice.Zip.{zip_turn, zip_end}
use Rattle.check_rules.specs.declared.Verdict.TheVariants.{Fails}
use Rattle.checker.specs.Private.Searching.{verdict_of}
use Rattle.checker.proofs.BucketSteps.{turn, searchable, next_passed, bucketlet_answers, all_passed, totalled, total_answers}
use Rattle.checker.proofs.bucket.Matched.check_bucket.Goals as goal

pub check_bucketlet-requires : goal.check_bucketlet-requires
check_bucketlet-requires c =
    let s = c.args.self.now in
    let l = c.loop-width in
    let t = turn s.freqs.now s.words.now s.quality s.checkable c.args.b c.requires c.bucket_at-bucket.result c.bucket_at-bucket.ensures l.at (length l.yielded) _ _ l.invariant
    (zip_turn c.bucket_at-bucket.result.widths c.bucket_at-bucket.result.classes l.yielded c.into_iter-width-iterator.result l.width-iterator c.next.new.self c.next.result (cc) (cc) l.yielded_by (c.in-Some.width, c.in-Some.class) c.in-Some.is c.next.ensures.steps) in
    searchable s.freqs.now s.words.now s.quality s.checkable c.args.b c.requires l.at (length l.yielded) _ _ t

pub returns-in_err-check_bucketlet : goal.returns-in_err-check_bucketlet
returns-in_err-check_bucketlet c =
    let s = c.args.self.now in
    let l = c.loop-width in
    let t = turn s.freqs.now s.words.now s.quality s.checkable c.args.b c.requires c.bucket_at-bucket.result c.bucket_at-bucket.ensures l.at (length l.yielded) _ _ l.invariant
    (zip_turn c.bucket_at-bucket.result.widths c.bucket_at-bucket.result.classes l.yielded c.into_iter-width-iterator.result l.width-iterator c.next.new.self c.next.result (cc) (cc) l.yielded_by (c.in-Some.width, c.in-Some.class) c.in-Some.is c.next.ensures.steps) in
    let f = c.in_err-check_bucketlet.field-0.0 in
    let e : verdict_of c.from_residual.result ≡ Fails f = grind arith in
    e ∙ bucketlet_answers s.freqs.now s.words.now s.quality s.checkable c.args.b c.requires l.at (length l.yielded) _ _ f t c.in_err-check_bucketlet.ensures

pub overflow_add-at : goal.overflow_add-at
overflow_add-at c =
    let s = c.args.self.now in
    let l = c.loop-width in
    let t = turn s.freqs.now s.words.now s.quality s.checkable c.args.b c.requires c.bucket_at-bucket.result c.bucket_at-bucket.ensures l.at (length l.yielded) _ _ l.invariant
    (zip_turn c.bucket_at-bucket.result.widths c.bucket_at-bucket.result.classes l.yielded c.into_iter-width-iterator.result l.width-iterator c.next.new.self c.next.result (cc) (cc) l.yielded_by (c.in-Some.width, c.in-Some.class) c.in-Some.is c.next.ensures.steps) in
    let p = searchable s.freqs.now s.words.now s.quality s.checkable c.args.b c.requires l.at (length l.yielded) _ _ t in
    omega (arith, p.inside, s.checkable.sound.many)

pub loop-width-preserved : goal.loop-width-preserved
loop-width-preserved c =
    let s = c.args.self.now in
    let l = c.loop-width in
    let t = turn s.freqs.now s.words.now s.quality s.checkable c.args.b c.requires c.bucket_at-bucket.result c.bucket_at-bucket.ensures l.at (length l.yielded) _ _ l.invariant
    (zip_turn c.bucket_at-bucket.result.widths c.bucket_at-bucket.result.classes l.yielded c.into_iter-width-iterator.result l.width-iterator c.next.new.self c.next.result (cc) (cc) l.yielded_by (c.in-Some.width, c.in-Some.class) c.in-Some.is c.next.ensures.steps) in
    rw length_push (next_passed s.freqs.now s.words.now s.quality s.checkable c.args.b c.requires l.at (length l.yielded) _ _ t c.in_ok-check_bucketlet.ensures)

pub check_total-requires : goal.check_total-requires
check_total-requires c =
    let s = c.args.self.now in
    let l = c.loop-width in
    let all = all_passed s.freqs.now s.words.now s.quality s.checkable c.args.b c.requires c.bucket_at-bucket.result c.bucket_at-bucket.ensures l.at (length l.yielded) l.invariant
    (zip_end c.bucket_at-bucket.result.widths c.bucket_at-bucket.result.classes l.yielded c.into_iter-width-iterator.result l.width-iterator c.next.new.self c.next.result (cc) (cc) l.yielded_by c.in-None.is c.next.ensures.steps) in
    totalled s.freqs.now s.words.now s.quality s.checkable c.args.b c.requires _ c.bucket_at-bucket.ensures l.at all

pub returns : goal.returns
returns c =
    let s = c.args.self.now in
    let l = c.loop-width in
    let all = all_passed s.freqs.now s.words.now s.quality s.checkable c.args.b c.requires c.bucket_at-bucket.result c.bucket_at-bucket.ensures l.at (length l.yielded) l.invariant
    (zip_end c.bucket_at-bucket.result.widths c.bucket_at-bucket.result.classes l.yielded c.into_iter-width-iterator.result l.width-iterator c.next.new.self c.next.result (cc) (cc) l.yielded_by c.in-None.is c.next.ensures.steps) in
    total_answers s.freqs.now s.words.now s.quality s.checkable c.args.b c.requires _ c.bucket_at-bucket.ensures l.at _ all c.check_total.ensures
