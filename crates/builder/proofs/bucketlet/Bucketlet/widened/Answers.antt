-- `builder::bucketlet::Bucketlet::widened` meets its contract. Where no range exceeds the greatest fraction, what was kept stands; else it is searched for.
-- Assumes nothing.
use mathlib.Core.Path.{◌≡◌, sym, ap, subst, ◌∙◌}
use mathlib.Core.Bool.{true, false}
use mathlib.Core.List.{List}
use Prim.Native.Nat.{ℕ, ◌-◌, ◌<◌}
use native.Mathlib.Omega.{arith}
use Rattle.build_bounds.specs.declared.Ratio.{Ratio}
use Rattle.build_bounds.specs.declared.Bound.{Bound}
use Rattle.build_bounds.specs.declared.Kept.{Kept}
use Rattle.build_bounds.specs.declared.Point.{Point}
use Rattle.build_bounds.specs.Private.Growing.{Small, above, fraction_of, Between, Ending, Advanced, Widened, Searchable}
use Rattle.build_bounds.proofs.RangeLaws.{fraction_small}
use Rattle.build_bounds.proofs.BoundLaws.{between, not_above_lower, lowest_later, stays}
use Rattle.builder.proofs.bucketlet.Bucketlet.widened.Goals as goal

module _ (b : Bound) (fs : List ℕ) (a : ℕ) (k : Kept) (end : Point) (e : Ending fs a end) (r : Advanced b fs a k end) where
  none : k.light.at ≡ 0 → Widened b fs a end.at k
  none z =
      record {
        standing = stays b fs a (end.at - 1) end.at k (omega (arith, e.some)) r.standing r.light (λ h. absurd (omega arith));
        light = r.light;
      }

  -- the range from the lowest start to the end
  range : Between k.greatest k.lowest end
  range =
      let s = r.standing.starts in
      between b fs a (end.at - 1) 0 end.at k.greatest k.lowest end e.inside r.standing.seen s.lowest_point e.is_point (omega (arith, s.lowest_inside, s.light_inside)) (omega arith)

  small : (f : Ratio) → f ≡ fraction_of b.over k.lowest end → Small f × Small k.greatest
  small f d = (subst Small (sym d) (fraction_small b.over k.greatest k.lowest end range), range.ratio_small)

  -- what is tested
  module _ (f : Ratio) (d : f ≡ fraction_of b.over k.lowest end) where
    exceeding : true ≡ above f k.greatest → 0 < k.light.at → Searchable b fs a k end
    exceeding t h = record { ending = e; advanced = r; some = h; exceeds = sym (t ∙ ap (λ (g : Ratio). above g k.greatest) d) }

    not_exceeding : false ≡ above f k.greatest → Widened b fs a end.at k
    not_exceeding t =
        record {
          standing =
              stays b fs a (end.at - 1) end.at k (omega (arith, e.some)) r.standing r.light
              (λ h. not_above_lower b fs a k.greatest k.lowest end r.standing.starts.lowest_point e.is_point range.at (sym (t ∙ ap (λ (g : Ratio). above g k.greatest) d)));
          light = r.light;
        }

pub advanced-ready-requires : goal.advanced-ready-requires
advanced-ready-requires c =
    let p = c.requires in
    record {
      ending = p.ending;
      standing =
          record {
            seen = p.standing.seen;
            starts = lowest_later c.args.b c.args.self.now.freqs.now c.args.self.now.first (c.args.end.at - 1) c.args.end.at c.args.known (omega arith) p.standing.starts;
          };
    }

pub fraction-requires : goal.fraction-requires
fraction-requires c =
    let r = range c.args.b c.args.self.now.freqs.now c.args.self.now.first c.advanced-ready.result c.args.end c.requires.ending c.advanced-ready.ensures in
    (r.at, r.count)

pub is_above-requires : goal.is_above-requires
is_above-requires c =
    small c.args.b c.args.self.now.freqs.now c.args.self.now.first c.advanced-ready.result c.args.end c.requires.ending c.advanced-ready.ensures c.fraction.result c.fraction.ensures

pub searched-requires : goal.searched-requires
searched-requires c =
    exceeding c.args.b c.args.self.now.freqs.now c.args.self.now.first c.advanced-ready.result c.args.end c.requires.ending c.advanced-ready.ensures c.fraction.result c.fraction.ensures
    c.if-is_above.ensures (omega arith)

pub returns : goal.returns
returns c =
    not_exceeding c.args.b c.args.self.now.freqs.now c.args.self.now.first c.advanced-ready.result c.args.end c.requires.ending c.advanced-ready.ensures c.fraction.result c.fraction.ensures
    c.if-is_above.ensures
