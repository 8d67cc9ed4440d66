-- `estimator::pieces::bucketlets_piece` meets its contract: at the loop the bucketlets before those that are left are summed, and the sum is small.
-- Assumes nothing.
use Rattle.std.proofs.Common.{◌≡◌, rules, refl, sym, ap, ◌∙◌, arith, length}
use Rattle.std.proofs.lemmas.Slice.Zip.{Zip-more}
use Rattle.std.specs.Iterator.Adapters.{zip_first, zip_second}
use Rattle.std.specs.Slice.Iter.{iter_rest}
use Rattle.words_rules.specs.declared.Bucket.{Bucket}
use Rattle.estimator.specs.Private.Adding.{Addable}
use Rattle.estimator.proofs.WalkLaws.{walk_start, along_step, addable}
use Rattle.estimator.proofs.pieces.bucketlets_piece.Goals as goal
use Rattle.estimator.proofs.pieces.bucketlets_piece.Goals.{In-Some}

pub loop-w-init : goal.loop-w-init
loop-w-init c =
    let e = c.bucket_at-bucket.ensures in
    let widths : iter_rest (zip_first c.into_iter-w-iterator.result) ≡ c.bucket_at-bucket.result.widths = search rules in
    let classes : iter_rest (zip_second c.into_iter-w-iterator.result) ≡ c.bucket_at-bucket.result.classes = search rules in
    record {
      k = 0;
      walked = walk_start _ c.args.range.x c.args.range.y _ c.nothing-sum.ensures _ (omega (arith, ap (λ (r : Bucket). r.start) e));
      widths_left = widths ∙ ap (λ (r : Bucket). r.widths) e;
      classes_left = classes ∙ ap (λ (r : Bucket). r.classes) e;
    }

-- the next bucketlet may be added
next_addable : (c : In-Some) → Addable c.loop-w.sum.fraction c.args.range.x c.args.range.y c.loop-w.a c.in-Some.w.now c.in-Some.class.now
next_addable c =
    let h = c.args.histogram in
    let r = c.args.range in
    let l = c.loop-w in
    let e = c.bucket_at-bucket.ensures in
    let widths : length c.bucket_at-bucket.result.widths ≡ 8 = search rules in
    let classes : length c.bucket_at-bucket.result.classes ≡ 8 = search rules in
    let m = Zip-more l.w-iterator c.next.new.self _ (c.in-Some.w, c.in-Some.class) c.in-Some.is c.next.ensures.steps in
    addable h.words.now h.readable r.x r.y c.args.b c.requires _ refl l.sum.fraction l.a _ _ l.invariant (ap (λ (r : Bucket). length r.widths) (sym e) ∙ widths)
    (ap (λ (r : Bucket). length r.classes) (sym e) ∙ classes) _ _ _ _ m.0 m.1

pub with_piece-sum-requires : goal.with_piece-sum-requires
with_piece-sum-requires c = next_addable (goal.at.with_piece-sum-requires c).In-Some

pub overflow_add-a : goal.overflow_add-a
overflow_add-a c = omega (arith, (next_addable (goal.at.overflow_add-a c).In-Some).within)

pub loop-w-preserved : goal.loop-w-preserved
loop-w-preserved c =
    let r = c.args.range in
    let l = c.loop-w in
    let e = c.bucket_at-bucket.ensures in
    let widths : length c.bucket_at-bucket.result.widths ≡ 8 = search rules in
    let classes : length c.bucket_at-bucket.result.classes ≡ 8 = search rules in
    let m = Zip-more l.w-iterator c.next.new.self _ (c.in-Some.w, c.in-Some.class) c.in-Some.is c.next.ensures.steps in
    along_step _ r.x r.y l.sum.fraction l.a _ _ l.invariant (ap (λ (r : Bucket). length r.widths) (sym e) ∙ widths)
    (ap (λ (r : Bucket). length r.classes) (sym e) ∙ classes) _ _ _ _ m.0 m.1 _ c.with_piece-sum.ensures
