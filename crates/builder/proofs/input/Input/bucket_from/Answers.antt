-- `builder::input::Input::bucket_from` meets its contract. At the loop the first k bucketlets are those of the definition.
-- Assumes nothing.
use mathlib.Core.Path.{◌≡◌, subst, ap, ◌∙◌}
use mathlib.Core.List.{List}
use Prim.Native.Nat.{ℕ, suc, ◌+◌, ◌-◌, ◌^◌, ◌≤◌, ◌<◌}
use native.Mathlib.Numerals.{add-one}
use native.Mathlib.Omega.{arith}
use lib.ListN.{length, get_or, take, drop}
use Rattle.std.specs.Prelude.{sum_by}
use Rattle.laws.specs.Sums.{sum, prefix_sum, part_sum}
use Rattle.laws.proofs.SumsLaws.{sum_is_by, part_le}
use Rattle.counts_rules.specs.Limit.{limit}
use Rattle.words_rules.specs.Limits.{max_width}
use Rattle.list_rules.specs.declared.Quality.{Quality}
use Rattle.build_rules.specs.Bucket.{bucket_widths, limits_of, width_within}
use Rattle.build_rules.proofs.WidthLaws.{count_small}
use Rattle.build_rules.proofs.BucketLaws.{place_next, place_within, limit_bounds}
use Rattle.list_rules.specs.Private.Sound.{Sound}
use Rattle.builder.proofs.LayLaws.{Laid, width_of, laid_more, laid_all, width_step, total_step, total_all}
use Rattle.builder.proofs.input.Input.bucket_from.Goals as goal

-- an entry of a stretch of the list, or its end
record Layable (fs : List ℕ) (q : Quality) (end a : ℕ) : Type 0 where
  sound : Sound fs q
  inside : end ≤ length fs
  before : a ≤ end

-- the entries of a bucketlet, as the code has them
module _ (fs : List ℕ) (at w : ℕ) where
  abbrev part : List ℕ
  part = take (at + w - at) (drop at fs)

  counted : (count : ℕ) → count ≡ sum part → count ≡ part_sum at w fs
  counted count e = e ∙ ap (λ (n : ℕ). part_sum at n fs) {x = at + w - at} {y = w} (omega arith)

  countable : sum fs ≤ limit → sum_by (λ (n : ℕ). n) part < 2 ^ 32
  countable h = omega (arith, h, sum_is_by part, part_le at (at + w - at) fs)

module _ (fs : List ℕ) (q : Quality) (end a : ℕ) (p : Layable fs q end a) (widths classes : List ℕ) (total at k : ℕ) (l : Laid q fs end a widths classes total at k) where
  module _ (less : k < 8) (most : ℕ) (m : most ≡ get_or (limits_of (get_or widths 0 0)) k 0) where
    layable : Layable fs q end at × most ≤ max_width
    layable = (
      record { sound = p.sound; inside = p.inside; before = omega (arith, l.at_place, place_within q fs end a p.before k l.places) },
      omega (arith, m, limit_bounds (get_or widths 0 0) k less),
    )

    module _ (w : ℕ) (d : w ≡ width_within q fs end at most) where
      -- the width in hand is that of the definition
      grown : w ≡ width_of q fs end a k
      grown = width_step q fs end a k less widths classes total at l most w m d

      -- and it stays within the stretch
      inside : at + w ≤ end
      inside = omega (arith, grown, l.at_place, place_next q fs end a k, place_within q fs end a p.before (suc k) (omega arith))

      module _ (count : ℕ) (e : count ≡ part_sum at w fs) where
        small : count ≤ limit
        small = omega (arith, e, count_small q fs p.sound at w)

        total_small : total + count ≤ limit
        total_small =
            omega (
              arith,
              total_step q fs end a k less widths classes total at l w count grown e,
              count_small q fs p.sound a (prefix_sum (suc k) (bucket_widths q fs end a)),
            )

  -- all eight are there
  module _ (done : 8 ≤ k) where
    all : Laid q fs end a widths classes total at 8
    all = subst (Laid q fs end a widths classes total at) {x = k} {y = 8} (omega (arith, l.places)) l

    all_small : total ≤ limit
    all_small = omega (arith, total_all q fs end a widths classes total at all, count_small q fs p.sound a (sum (bucket_widths q fs end a)))

begins : (fs : List ℕ) (q : Quality) (a : ℕ) → Sound fs q → a < length fs → Layable fs q (length fs) a
begins fs q a s h = record { sound = s; inside = omega arith; before = omega arith }

pub width_within-w-requires : goal.width_within-w-requires
width_within-w-requires c =
    let l = c.loop-k in
    let r =
    layable c.args.self.now.freqs.now c.args.self.now.q (length c.args.self.now.freqs.now) c.args.a (begins c.args.self.now.freqs.now c.args.self.now.q c.args.a c.args.self.now.sound c.requires) l.widths l.classes l.total l.at l.k l.invariant (omega arith) c.width_limit-most.result c.width_limit-most.ensures in
    (r.0.before, r.1)

pub offset_bounds-self-at : goal.offset_bounds-self-at
offset_bounds-self-at c =
    let l = c.loop-k in
    let p = (begins c.args.self.now.freqs.now c.args.self.now.q c.args.a c.args.self.now.sound c.requires) in
    let i =
    inside c.args.self.now.freqs.now c.args.self.now.q (length c.args.self.now.freqs.now) c.args.a p l.widths l.classes l.total l.at l.k l.invariant (omega arith) c.width_limit-most.result
    c.width_limit-most.ensures c.width_within-w.result c.width_within-w.ensures in
    omega (arith, i, p.inside, p.sound.many)

pub slice_bounds-count_of-end : goal.slice_bounds-count_of-end
slice_bounds-count_of-end c =
    let l = c.loop-k in
    let p = (begins c.args.self.now.freqs.now c.args.self.now.q c.args.a c.args.self.now.sound c.requires) in
    let i =
    inside c.args.self.now.freqs.now c.args.self.now.q (length c.args.self.now.freqs.now) c.args.a p l.widths l.classes l.total l.at l.k l.invariant (omega arith) c.width_limit-most.result
    c.width_limit-most.ensures c.width_within-w.result c.width_within-w.ensures in
    omega (arith, i, p.inside)

pub count_of-count-requires : goal.count_of-count-requires
count_of-count-requires c = countable c.args.self.now.freqs.now c.loop-k.at c.width_within-w.result c.args.self.now.sound.total

pub overflow_cast-widths : goal.overflow_cast-widths
overflow_cast-widths c =
    let l = c.loop-k in
    let p = (begins c.args.self.now.freqs.now c.args.self.now.q c.args.a c.args.self.now.sound c.requires) in
    let i =
    inside c.args.self.now.freqs.now c.args.self.now.q (length c.args.self.now.freqs.now) c.args.a p l.widths l.classes l.total l.at l.k l.invariant (omega arith) c.width_limit-most.result
    c.width_limit-most.ensures c.width_within-w.result c.width_within-w.ensures in
    omega (arith, i, p.inside, p.sound.many)

pub class_for-requires : goal.class_for-requires
class_for-requires c =
    let l = c.loop-k in
    small c.args.self.now.freqs.now c.args.self.now.q (length c.args.self.now.freqs.now) c.args.a (begins c.args.self.now.freqs.now c.args.self.now.q c.args.a c.args.self.now.sound c.requires) l.widths l.classes l.total l.at l.k l.invariant (omega arith) c.width_limit-most.result
    c.width_limit-most.ensures c.width_within-w.result c.width_within-w.ensures c.count_of-count.result (counted c.args.self.now.freqs.now l.at c.width_within-w.result _ c.count_of-count.ensures)

pub overflow_add-total : goal.overflow_add-total
overflow_add-total c =
    let l = c.loop-k in
    let s =
    total_small c.args.self.now.freqs.now c.args.self.now.q (length c.args.self.now.freqs.now) c.args.a (begins c.args.self.now.freqs.now c.args.self.now.q c.args.a c.args.self.now.sound c.requires) l.widths l.classes l.total l.at l.k l.invariant (omega arith) c.width_limit-most.result
    c.width_limit-most.ensures c.width_within-w.result c.width_within-w.ensures c.count_of-count.result (counted c.args.self.now.freqs.now l.at c.width_within-w.result _ c.count_of-count.ensures) in
    omega (arith, s)

pub overflow_add-at : goal.overflow_add-at
overflow_add-at c =
    let l = c.loop-k in
    let i =
    inside c.args.self.now.freqs.now c.args.self.now.q (length c.args.self.now.freqs.now) c.args.a (begins c.args.self.now.freqs.now c.args.self.now.q c.args.a c.args.self.now.sound c.requires) l.widths l.classes l.total l.at l.k l.invariant (omega arith) c.width_limit-most.result
    c.width_limit-most.ensures c.width_within-w.result c.width_within-w.ensures in
    omega (arith, i)

pub loop-k-preserved : goal.loop-k-preserved
loop-k-preserved c =
    let l = c.loop-k in
    let g =
    grown c.args.self.now.freqs.now c.args.self.now.q (length c.args.self.now.freqs.now) c.args.a (begins c.args.self.now.freqs.now c.args.self.now.q c.args.a c.args.self.now.sound c.requires) l.widths l.classes l.total l.at l.k l.invariant (omega arith) c.width_limit-most.result
    c.width_limit-most.ensures c.width_within-w.result c.width_within-w.ensures in
    rw (add-one l.k)
    (laid_more c.args.self.now.q c.args.self.now.freqs.now (length c.args.self.now.freqs.now) c.args.a l.k (omega arith) l.widths l.classes l.total l.at l.invariant _ _ _ g (counted c.args.self.now.freqs.now l.at c.width_within-w.result _ c.count_of-count.ensures) c.class_for.ensures)

pub code_for-requires : goal.code_for-requires
code_for-requires c =
    let l = c.loop-k in
    all_small c.args.self.now.freqs.now c.args.self.now.q (length c.args.self.now.freqs.now) c.args.a (begins c.args.self.now.freqs.now c.args.self.now.q c.args.a c.args.self.now.sound c.requires) l.widths l.classes l.total l.at l.k l.invariant (omega arith)

pub returns : goal.returns
returns c =
    let l = c.loop-k in
    laid_all c.args.self.now.q c.args.self.now.freqs.now (length c.args.self.now.freqs.now) c.args.a l.widths l.classes l.total l.at
    (all c.args.self.now.freqs.now c.args.self.now.q (length c.args.self.now.freqs.now) c.args.a (begins c.args.self.now.freqs.now c.args.self.now.q c.args.a c.args.self.now.sound c.requires) l.widths l.classes l.total l.at l.k l.invariant (omega arith)) _ _ c.is_eighth_free.ensures c.code_for.ensures
