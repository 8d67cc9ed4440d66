-- `estimator::worksheet::exact_by` meets its contract: what the buckets of the two ends give, with the totals of those between, is the sum.
-- Assumes nothing.
use Rattle.std.proofs.Common.{◌≡◌, ℕ, ◌-◌, ◌<◌, ◌≤◌, List, ◌∙◌, arith}
use Rattle.words_rules.specs.Words.{entries}
use Rattle.words_rules.specs.Finding.{bucket_by_halving}
use Rattle.estimator.specs.Private.Sheets.{WithTotals}
use Rattle.estimator.proofs.SheetLaws.{few, Ends, ends}
use Rattle.estimator.proofs.worksheet.exact_by.Goals as goal

-- the buckets of the two ends
found : {ws totals : List ℕ} {x y a b : ℕ} → y ≤ entries ws → WithTotals ws totals × (x < y) → a ≡ bucket_by_halving ws x → b ≡ bucket_by_halving ws (y - 1)
    → Ends ws totals x y a b
found {ws} {totals} {x} {y} {a} {b} h r p q = ends ws totals r.0 x y r.1 h a b p q

pub bucket_piece-requires : goal.bucket_piece-requires
bucket_piece-requires c = (found c.args.asked.within c.requires c.bucket_of-first.ensures c.bucket_of-last.ensures).first_in

pub invariant_of-sum : goal.invariant_of-sum
invariant_of-sum c =
    record { small = (found c.args.asked.within c.requires c.bucket_of-first.ensures c.bucket_of-last.ensures).first_small _ c.bucket_piece.ensures }

pub returns-then-first-last : goal.returns-then-first-last
returns-then-first-last c =
    (found c.args.asked.within c.requires c.bucket_of-first.ensures c.bucket_of-last.ensures).in_one (omega arith) _ c.bucket_piece.ensures

pub offset_bounds-totals-last : goal.offset_bounds-totals-last
offset_bounds-totals-last c =
    let f = found c.args.asked.within c.requires c.bucket_of-first.ensures c.bucket_of-last.ensures in
    omega (arith, few c.args.asked.histogram.words.now c.args.totals.now c.requires.0, f.last_in)

pub bounds-totals-last : goal.bounds-totals-last
bounds-totals-last c =
    let f = found c.args.asked.within c.requires c.bucket_of-first.ensures c.bucket_of-last.ensures in
    omega (arith, c.requires.0.enough, f.last_in)

pub overflow_add-first : goal.overflow_add-first
overflow_add-first c =
    let f = found c.args.asked.within c.requires c.bucket_of-first.ensures c.bucket_of-last.ensures in
    omega (arith, few c.args.asked.histogram.words.now c.args.totals.now c.requires.0, f.first_in)

pub offset_bounds-totals-first : goal.offset_bounds-totals-first
offset_bounds-totals-first c =
    let f = found c.args.asked.within c.requires c.bucket_of-first.ensures c.bucket_of-last.ensures in
    omega (arith, few c.args.asked.histogram.words.now c.args.totals.now c.requires.0, f.first_in)

pub bounds-totals-first : goal.bounds-totals-first
bounds-totals-first c =
    let f = found c.args.asked.within c.requires c.bucket_of-first.ensures c.bucket_of-last.ensures in
    omega (arith, c.requires.0.enough, f.first_in)

pub overflow_sub-totals : goal.overflow_sub-totals
overflow_sub-totals c =
    (found c.args.asked.within c.requires c.bucket_of-first.ensures c.bucket_of-last.ensures).between_some (λ e. omega arith)

pub invariant_of-sum-2 : goal.invariant_of-sum-2
invariant_of-sum-2 c =
    record { small = (found c.args.asked.within c.requires c.bucket_of-first.ensures c.bucket_of-last.ensures).first_small _ c.bucket_piece.ensures }

pub plus-requires : goal.plus-requires
plus-requires c =
    let f = found c.args.asked.within c.requires c.bucket_of-first.ensures c.bucket_of-last.ensures in
    f.before_small (λ e. omega arith) _ _ c.bucket_piece.ensures c.whole-between.ensures

pub bucket_piece-requires-2 : goal.bucket_piece-requires-2
bucket_piece-requires-2 c = (found c.args.asked.within c.requires c.bucket_of-first.ensures c.bucket_of-last.ensures).last_in

pub plus-requires-2 : goal.plus-requires-2
plus-requires-2 c =
    let f = found c.args.asked.within c.requires c.bucket_of-first.ensures c.bucket_of-last.ensures in
    f.all_small (λ e. omega arith) _ _ _ _ c.bucket_piece.ensures c.whole-between.ensures c.plus.ensures c.bucket_piece-2.ensures

pub returns : goal.returns
returns c =
    let f = found c.args.asked.within c.requires c.bucket_of-first.ensures c.bucket_of-last.ensures in
    c.plus-2.ensures
    ∙ f.all_is (λ z. omega arith) _ _ _ _ c.bucket_piece.ensures c.whole-between.ensures c.plus.ensures c.bucket_piece-2.ensures
