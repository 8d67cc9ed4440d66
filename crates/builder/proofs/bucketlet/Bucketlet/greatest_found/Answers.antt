-- `builder::bucketlet::Bucketlet::greatest_found` meets its contract. At the loop the greatest fraction is that of all ranges to earlier ends and of those to this end from the start on.
-- Assumes nothing.
use mathlib.Core.Path.{◌≡◌, refl, ap, sym, subst}
use mathlib.Core.List.{List}
use Prim.Native.Nat.{ℕ, suc, ◌-◌, ◌≤◌, ◌<◌}
use native.Mathlib.Omega.{arith}
use Rattle.build_bounds.specs.declared.Ratio.{Ratio}
use Rattle.build_bounds.specs.declared.Bound.{Bound}
use Rattle.build_bounds.specs.declared.Kept.{Kept}
use Rattle.build_bounds.specs.declared.Point.{Point}
use Rattle.build_bounds.specs.Private.Growing.{IsPoint, Between, Small, Searchable, Found, point, fraction_of, greater}
use Rattle.build_bounds.proofs.RangeLaws.{count_mono, heavy_some, fraction_small}
use Rattle.build_bounds.proofs.BoundLaws.{Searching, between, search_begins, search_step, search_splits, search_moved}
use Rattle.builder.proofs.bucketlet.Bucketlet.greatest_found.Invariants.{Row}
use Rattle.builder.proofs.bucketlet.Bucketlet.greatest_found.Goals as goal

-- what is known at i is known after i - 1
earlier : (b : Bound) (fs : List ℕ) (a w n i : ℕ) (known p : Ratio) → 0 < i → Searching b fs a w n known i p → Searching b fs a w n known (suc (i - 1)) p
earlier b fs a w n i known p h s = subst (λ (j : ℕ). Searching b fs a w n known j p) {x = i} {y = suc (i - 1)} (omega arith) s

module _ (b : Bound) (fs : List ℕ) (a : ℕ) (k : Kept) (end : Point) (p : Searchable b fs a k end) where
  begins : Row b fs a end.at k.light.at k.greatest k.greatest k.light
  begins =
      record {
        is_start = p.advanced.standing.starts.light_point;
        inside = omega arith;
        searching = search_begins b fs a (end.at - 1) end.at k.light.at k.greatest (omega (arith, p.ending.some)) p.advanced.standing.seen p.advanced.light;
      }

  module _ (g : Ratio) (start : Point) (r : Row b fs a end.at k.light.at k.greatest g start) where
    ends : start.at ≡ 0 → Found b fs a k end g
    ends z =
        search_moved b fs a k end g p.advanced.standing.starts p.ending.is_point p.some p.exceeds
        (subst (λ (j : ℕ). Searching b fs a end.at k.light.at k.greatest j g) z r.searching)

    module _ (some : 0 < start.at) (next : Point) (here : next ≡ point fs a (start.at - 1)) where
      -- no start is later than the last one
      below : (last : Point) → last ≡ point fs a (k.light.at - 1) → next.count ≤ last.count
      below last e =
          omega (
            arith,
            ap (λ (x : Point). x.count) here,
            ap (λ (x : Point). x.count) e,
            count_mono fs a (start.at - 1) (k.light.at - 1) (omega (arith, r.inside)),
          )

      -- the range from the start in hand
      range : Between g next end
      range =
          between b fs a end.at _ end.at g _ end p.ending.inside r.searching.seen
          (subst (IsPoint fs a) (sym here) refl) p.ending.is_point (omega (arith, ap (λ (x : Point). x.at) here, r.inside, p.advanced.standing.starts.light_inside)) (omega arith)

      small : (f : Ratio) → f ≡ fraction_of b.over next end → Small f × Small g
      small f e = (subst Small (sym e) (fraction_small b.over g next end range), range.ratio_small)

      step : (f h : Ratio) → f ≡ fraction_of b.over next end → h ≡ greater g f → Row b fs a end.at k.light.at k.greatest h next
      step f h e d =
          let i = start.at - 1 in
          let at = ap (λ (x : Point). x.at) here in
          let heavy = p.advanced.standing.starts.heavy i (omega (arith, r.inside)) in
          record {
            is_start = subst (IsPoint fs a) (sym here) refl;
            inside = omega (arith, r.inside);
            searching =
                subst (λ (j : ℕ). Searching b fs a end.at k.light.at k.greatest j h) (sym at)
                (search_step b fs a end.at k.light.at i k.greatest g _ _ _ end p.ending.inside (omega (arith, r.inside)) heavy here p.ending.is_point refl e d
                (earlier b fs a end.at k.light.at start.at k.greatest g some r.searching));
          }

      splits : (last : Point) → last ≡ point fs a (k.light.at - 1) → b.threshold < last.count - next.count → Found b fs a k end g
      splits last e t =
          let m = k.light.at - 1 in
          let late = p.advanced.standing.starts.heavy m (omega (arith, p.some)) in
          search_moved b fs a k end g p.advanced.standing.starts p.ending.is_point p.some p.exceeds
          (search_splits b fs a end.at k.light.at (start.at - 1) m k.greatest g (heavy_some fs a b.threshold m end.at late)
          (omega (arith, t, ap (λ (x : Point). x.count) here, ap (λ (x : Point). x.count) e)) late
          (earlier b fs a end.at k.light.at start.at k.greatest g some r.searching))

pub loop-start-init : goal.loop-start-init
loop-start-init c = begins c.args.b c.args.self.now.freqs.now c.args.self.now.first c.args.known c.args.end c.requires

pub overflow_sub-last : goal.overflow_sub-last
overflow_sub-last c =
    below c.args.b c.args.self.now.freqs.now c.args.self.now.first c.args.known c.args.end c.requires c.loop-start.greatest c.loop-start.start c.loop-start.invariant (omega arith)
    c.one_earlier-start.result c.one_earlier-start.ensures c.one_earlier-last.result c.one_earlier-last.ensures

pub fraction-requires : goal.fraction-requires
fraction-requires c =
    let r =
    range c.args.b c.args.self.now.freqs.now c.args.self.now.first c.args.known c.args.end c.requires c.loop-start.greatest c.loop-start.start c.loop-start.invariant (omega arith)
    c.one_earlier-start.result c.one_earlier-start.ensures in
    (r.at, r.count)

pub greater_of-greatest-requires : goal.greater_of-greatest-requires
greater_of-greatest-requires c =
    small c.args.b c.args.self.now.freqs.now c.args.self.now.first c.args.known c.args.end c.requires c.loop-start.greatest c.loop-start.start c.loop-start.invariant (omega arith)
    c.one_earlier-start.result c.one_earlier-start.ensures c.fraction.result c.fraction.ensures

pub loop-start-preserved : goal.loop-start-preserved
loop-start-preserved c =
    step c.args.b c.args.self.now.freqs.now c.args.self.now.first c.args.known c.args.end c.requires c.loop-start.greatest c.loop-start.start c.loop-start.invariant (omega arith)
    c.one_earlier-start.result c.one_earlier-start.ensures c.fraction.result c.greater_of-greatest.result c.fraction.ensures c.greater_of-greatest.ensures

pub returns-after-loop-start : goal.returns-after-loop-start
returns-after-loop-start c =
    ends c.args.b c.args.self.now.freqs.now c.args.self.now.first c.args.known c.args.end c.requires c.loop-start.greatest c.loop-start.start c.loop-start.invariant (omega arith)

pub returns-then-b-last : goal.returns-then-b-last
returns-then-b-last c =
    splits c.args.b c.args.self.now.freqs.now c.args.self.now.first c.args.known c.args.end c.requires c.loop-start.greatest c.loop-start.start c.loop-start.invariant (omega arith)
    c.one_earlier-start.result c.one_earlier-start.ensures c.one_earlier-last.result c.one_earlier-last.ensures c.if-b-last.true
