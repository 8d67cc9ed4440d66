-- `builder::bucketlet::Bucketlet::width_from` meets its contract. At the loop all widths up to the one reached fit, and what is kept stands for its ranges.
-- Assumes nothing.
use mathlib.Core.Path.{◌≡◌, refl, sym, ap, subst}
use mathlib.Core.Bool.{Bool, true, false}
use mathlib.Core.List.{List}
use Prim.Native.Nat.{ℕ, suc, ◌-◌, ◌≤◌, ◌<◌, max}
use native.Mathlib.Omega.{arith}
use Rattle.counts_rules.specs.Limit.{limit}
use Rattle.counts_rules.specs.Class.{class_value}
use Rattle.list_rules.specs.declared.Quality.{Quality}
use Rattle.build_rules.specs.Width.{fits_at, width}
use Rattle.build_rules.proofs.WidthLaws.{value_small}
use Rattle.build_bounds.specs.declared.Over.TheVariants.{Count}
use Rattle.build_bounds.specs.declared.Bound.{Bound}
use Rattle.build_bounds.specs.declared.Bounds.{Bounds}
use Rattle.build_bounds.specs.declared.Grown.{Grown}
use Rattle.build_bounds.specs.declared.Kept.{Kept}
use Rattle.build_bounds.specs.declared.Point.{Point}
use Rattle.build_bounds.specs.Private.Growing.{Ending, Heavy, Light, Longest, Movable, Standing, Widenable, Widened, BoundsSeen, Continued, Growable, Testable, low_bound, up_bound, point, passes, bounds, unsearched}
use Rattle.build_bounds.proofs.RangeLaws.{count_small, growable_inside}
use Rattle.build_bounds.proofs.LongestLaws.{longest_end}
use Rattle.build_bounds.proofs.BoundLaws.{standing_begins}
use Rattle.build_bounds.proofs.TriedLaws.{testable}
use Rattle.build_bounds.proofs.GrowLaws.{fits_next, end_fits, width_is}
use Rattle.builder.proofs.bucketlet.Bucketlet.width_from.Invariants.{Going}
use Rattle.builder.proofs.bucketlet.Bucketlet.width_from.Goals as goal

-- the second bound, as the code has it
module _ (q : Quality) (threshold : ℕ) (e : threshold ≡ (up_bound q).threshold) where
  abbrev bound : Bound
  bound = record { over = Count; threshold = threshold }

  upper : bound ≡ up_bound q
  upper = ap (λ (l : ℕ). record { over = Count; threshold = l }) e

begins : (fs : List ℕ) (a most : ℕ) (q : Quality) (k : Grown) (low up : Kept) → Continued q fs a most k → low ≡ unsearched k.bounds.low → up ≡ unsearched k.bounds.up
    → Going fs a most q low up k.bounds.longest k.reached
begins fs a most q k low up p e d =
    let w = k.reached.at in
    record {
      fits_to = p.fits_to;
      low_stands = subst (Standing (low_bound q) fs a w w) (sym e) (standing_begins (low_bound q) fs a w k.bounds.low p.seen.low);
      up_stands = subst (Standing (up_bound q) fs a w w) (sym d) (standing_begins (up_bound q) fs a w k.bounds.up p.seen.up);
      longest_is = p.seen.longest;
    }

module _ (fs : List ℕ) (a most : ℕ) (q : Quality) (g : Growable fs a most q) (low up : Kept) (longest : ℕ) (p : Point) (l : Going fs a most q low up longest p) where
  full : most ≤ p.at → p.at ≡ width q fs a most
  full h = width_is q fs a g.sound most p l.fits_to (λ n. absurd (omega arith))

  module _ (less : p.at < most) where
    movable : Movable fs a (suc p.at) p
    movable = record { inside = growable_inside fs a most (suc p.at) q g (omega arith); is_point = l.fits_to.is_point }

    module _ (end : Point) (e : end ≡ point fs a (suc p.at)) where
      -- the next width is inside the list
      end_at : end.at ≡ suc p.at
      end_at = ap (λ (x : Point). x.at) e

      ending : Ending fs a end
      ending = record { inside = growable_inside fs a most end.at q g (omega (arith, end_at)); some = omega (arith, end_at); is_point = rw e }

      -- what stood for the width before it
      stood : (b : Bound) (k : Kept) → Standing b fs a p.at p.at k → Standing b fs a (end.at - 1) (end.at - 1) k
      stood b k h = let before : p.at ≡ end.at - 1 = omega (arith, end_at) in subst (λ (w : ℕ). Standing b fs a w w k) before h

      low_widenable : Widenable (low_bound q) fs a low end
      low_widenable = record { ending = ending; standing = stood (low_bound q) low l.low_stands }

      module _ (threshold : ℕ) (t : threshold ≡ (up_bound q).threshold) where
        up_widenable : Widenable (bound q threshold t) fs a up end
        up_widenable =
            record {
              ending = ending;
              standing = subst (λ (b : Bound). Standing b fs a (end.at - 1) (end.at - 1) up) (sym (upper q threshold t)) (stood (up_bound q) up l.up_stands);
            }

        -- what stands for it now
        module _ (low₁ up₁ : Kept) (lw : Widened (low_bound q) fs a end.at low₁) (uw : Widened (bound q threshold t) fs a end.at up₁) where
          up_widened : Widened (up_bound q) fs a end.at up₁
          up_widened = subst (λ (b : Bound). Widened b fs a end.at up₁) (upper q threshold t) uw

          light_before : up₁.light.at ≤ end.at
          light_before = up_widened.standing.starts.light_inside

          module _ (longest₁ : ℕ) (is : longest₁ ≡ max longest (end.at - up₁.light.at)) where
            longest_now : Longest (up_bound q).threshold fs a end.at 0 longest₁
            longest_now =
                let u = up_widened in
                let v = p.at in
                let h = (up_bound q).threshold in
                let n = up₁.light.at in
                let k =
                longest_end h fs a v n longest (omega (arith, light_before, end_at)) (subst (λ (w : ℕ). Light h fs a n w) end_at u.light)
                (λ i o. subst (λ (w : ℕ). Heavy h fs a i w) end_at (u.standing.starts.heavy i o)) l.longest_is in
                subst (λ (w : ℕ). Longest h fs a w 0 longest₁) (sym end_at) (subst (λ (m : ℕ). Longest h fs a (suc v) 0 m) (omega (arith, is, end_at)) k)

            module _ (b : Bounds) (made : b ≡ bounds low₁.greatest up₁.greatest longest₁) where
              seen_now : BoundsSeen q fs a end.at 0 b
              seen_now = subst (BoundsSeen q fs a end.at 0) (sym made) (record { low = lw.standing.seen; up = up_widened.standing.seen; longest = longest_now })

              small : end.count ≤ limit
              small = omega (arith, ap (λ (x : Point). x.count) e, count_small fs a _ (suc p.at) ending.inside)

              module _ (s : ℕ) (value : s ≡ class_value end.count) where
                tests : Testable q b s end.at
                tests = testable q fs a end.at s b g.sound ending.inside (omega (arith, value, value_small end.count small)) seen_now

                -- what the test says of the next width
                tested : (u : Bool) → u ≡ passes q b s end.at → fits_at q fs a (suc p.at) ≡ u
                tested u x = sym (end_fits q fs a g.sound (suc p.at) s end b u x e value seen_now)

                again : true ≡ passes q b s end.at → Going fs a most q low₁ up₁ longest₁ end
                again x =
                    record {
                      fits_to = fits_next q fs a g.sound most p end l.fits_to less e (tested true x);
                      low_stands = lw.standing;
                      up_stands = up_widened.standing;
                      longest_is = longest_now;
                    }

                stops : false ≡ passes q b s end.at → p.at ≡ width q fs a most
                stops x = width_is q fs a g.sound most p l.fits_to (λ h. tested false x)

pub loop-grown-init : goal.loop-grown-init
loop-grown-init c =
    begins c.args.self.now.freqs.now c.args.self.now.first c.args.self.now.most c.args.self.now.q c.args.known _ _ c.requires c.unsearched-low.ensures c.unsearched-up.ensures

pub one_later-end-requires : goal.one_later-end-requires
one_later-end-requires c =
    let l = c.loop-grown in
    movable c.args.self.now.freqs.now c.args.self.now.first c.args.self.now.most c.args.self.now.q c.args.self.now.growable l.low l.up l.longest l.grown l.invariant (omega arith)

pub widened-low-requires : goal.widened-low-requires
widened-low-requires c =
    let l = c.loop-grown in
    low_widenable c.args.self.now.freqs.now c.args.self.now.first c.args.self.now.most c.args.self.now.q c.args.self.now.growable l.low l.up l.longest l.grown l.invariant (omega arith) c.one_later-end.result c.one_later-end.ensures

pub widened-up-requires : goal.widened-up-requires
widened-up-requires c =
    let l = c.loop-grown in
    up_widenable c.args.self.now.freqs.now c.args.self.now.first c.args.self.now.most c.args.self.now.q c.args.self.now.growable l.low l.up l.longest l.grown l.invariant (omega arith) c.one_later-end.result c.one_later-end.ensures c.threshold.result c.threshold.ensures

pub class_value-requires : goal.class_value-requires
class_value-requires c =
    let l = c.loop-grown in
    small c.args.self.now.freqs.now c.args.self.now.first c.args.self.now.most c.args.self.now.q c.args.self.now.growable l.low l.up l.longest l.grown l.invariant (omega arith) c.one_later-end.result c.one_later-end.ensures c.threshold.result c.threshold.ensures
    c.widened-low.result c.widened-up.result c.widened-low.ensures c.widened-up.ensures c.max-longest.result (omega (arith, c.max-longest.ensures))
    _ refl

pub passes-requires : goal.passes-requires
passes-requires c =
    let l = c.loop-grown in
    tests c.args.self.now.freqs.now c.args.self.now.first c.args.self.now.most c.args.self.now.q c.args.self.now.growable l.low l.up l.longest l.grown l.invariant (omega arith) c.one_later-end.result c.one_later-end.ensures c.threshold.result c.threshold.ensures
    c.widened-low.result c.widened-up.result c.widened-low.ensures c.widened-up.ensures c.max-longest.result (omega (arith, c.max-longest.ensures))
    _ refl c.class_value.result c.class_value.ensures

pub loop-grown-preserved : goal.loop-grown-preserved
loop-grown-preserved c =
    let l = c.loop-grown in
    again c.args.self.now.freqs.now c.args.self.now.first c.args.self.now.most c.args.self.now.q c.args.self.now.growable l.low l.up l.longest l.grown l.invariant (omega arith) c.one_later-end.result c.one_later-end.ensures c.threshold.result c.threshold.ensures
    c.widened-low.result c.widened-up.result c.widened-low.ensures c.widened-up.ensures c.max-longest.result (omega (arith, c.max-longest.ensures))
    _ refl c.class_value.result c.class_value.ensures c.if-not-passes.ensures

pub returns-then-not-passes : goal.returns-then-not-passes
returns-then-not-passes c =
    let l = c.loop-grown in
    stops c.args.self.now.freqs.now c.args.self.now.first c.args.self.now.most c.args.self.now.q c.args.self.now.growable l.low l.up l.longest l.grown l.invariant (omega arith) c.one_later-end.result c.one_later-end.ensures c.threshold.result c.threshold.ensures
    c.widened-low.result c.widened-up.result c.widened-low.ensures c.widened-up.ensures c.max-longest.result (omega (arith, c.max-longest.ensures))
    _ refl c.class_value.result c.class_value.ensures c.if-not-passes.ensures

pub returns-after-loop-grown : goal.returns-after-loop-grown
returns-after-loop-grown c =
    let l = c.loop-grown in
    full c.args.self.now.freqs.now c.args.self.now.first c.args.self.now.most c.args.self.now.q c.args.self.now.growable l.low l.up l.longest l.grown l.invariant (omega arith)
