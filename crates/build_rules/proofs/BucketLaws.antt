-- Laws of a bucket: which width and class stand at each place, that it stays within its stretch, and that before the stretch's end all eight of its
-- bucketlets hold an entry.
-- Assumes nothing.
use mathlib.Core.Path.{◌≡◌, refl, sym, ap, subst, ◌∙◌}
use mathlib.Core.Bool.{Bool, true, false, cond}
use mathlib.Core.List.{List, [], ◌∷◌}
use Prim.Native.Nat.{ℕ, zero, suc, ◌+◌, ◌-◌, ◌≤◌, ◌<◌}
use native.Mathlib.Nat.{add-zero, le_trans, le_of_suc-le-suc, not-suc-le-zero}
use native.Mathlib.Omega.{arith}
use borrow.Author.Tests.{leb-true}
use lib.Dec.{leb}
use lib.ListN.{length, get_or}
use Rattle.laws.specs.Sums.{sum, prefix_sum, part_sum}
use Rattle.laws.proofs.Table.{at}
use Rattle.laws.proofs.SumsLaws.{get_d_le_sum, prefix_suc, prefix_all}
use Rattle.counts_rules.specs.Form.{base}
use Rattle.counts_rules.proofs.ClassLaws.{class_none}
use Rattle.words_rules.specs.Limits.{max_listed, max_width}
use Rattle.list_rules.specs.declared.Quality.{Quality}
use Rattle.list_rules.specs.Private.Sound.{Sound}
use Rattle.build_rules.specs.Bucket.{width_within, widths_from, first_free, limits_of, bucket_widths, bucketlet_class, classes_from}
use Rattle.build_rules.proofs.WidthLaws.{width_within_lem, width_some}

-- each limit is at least 1 and at most 4,095
pub limit_bounds : (first k : ℕ) → k < 8 → (1 ≤ get_or (limits_of first) k 0) × (get_or (limits_of first) k 0 ≤ max_width)
limit_bounds first k h = go (first_free first)
  where
    limits : Bool → List ℕ
    limits t = max_width ∷ max_listed ∷ max_listed ∷ max_listed ∷ max_listed ∷ max_listed ∷ max_listed ∷ cond t max_listed max_width ∷ []

    go : (t : Bool) → (1 ≤ get_or (limits t) k 0) × (get_or (limits t) k 0 ≤ max_width)
    go true = (leb-true 1 _ (at (λ k x. leb 1 x) (limits true) refl k h), leb-true _ max_width (at (λ k x. leb x max_width) (limits true) refl k h))
    go false = (leb-true 1 _ (at (λ k x. leb 1 x) (limits false) refl k h), leb-true _ max_width (at (λ k x. leb x max_width) (limits false) refl k h))

-- ---- widths that follow one another

module _ (q : Quality) (fs : List ℕ) (end : ℕ) where
  -- a width stops at its limit and at the end
  stops_at_limit : (a most : ℕ) → width_within q fs end a most ≤ most
  stops_at_limit a most = le_trans (width_within_lem q fs a _) (omega arith)

  stops_at_end : (a most : ℕ) → width_within q fs end a most ≤ end - a
  stops_at_end a most = le_trans (width_within_lem q fs a _) (omega arith)

  from_length : (a : ℕ) (limits : List ℕ) → length (widths_from q fs end a limits) ≡ length limits
  unfolding widths_from
  from_length a [] = refl
  from_length a (most ∷ rest) = ap suc (from_length (a + width_within q fs end a most) rest)

  from_at : (a : ℕ) (limits : List ℕ) (k : ℕ) → k < length limits
      → get_or (widths_from q fs end a limits) k 0 ≡ width_within q fs end (a + prefix_sum k (widths_from q fs end a limits)) (get_or limits k 0)
  unfolding widths_from
  from_at a [] k h = absurd (not-suc-le-zero h)
  from_at a (most ∷ rest) zero h = ap (λ (a : ℕ). width_within q fs end a most) (sym (add-zero a))
  from_at a (most ∷ rest) (suc k) h =
      let w = width_within q fs end a most in
      let p = prefix_sum k (widths_from q fs end (a + w) rest) in
      let e : a + w + p ≡ a + (w + p) = omega arith in
      from_at (a + w) rest k (le_of_suc-le-suc h) ∙ ap (λ (a : ℕ). width_within q fs end a (get_or rest k 0)) e

module _ (q : Quality) (fs : List ℕ) (end a : ℕ) where
  -- the width of the first bucketlet, on which the limits of the others depend
  abbrev first : ℕ
  first = width_within q fs end a max_width

  widths_from_lem : bucket_widths q fs end a ≡ widths_from q fs end a (limits_of first)
  unfolding bucket_widths widths_from
  widths_from_lem = refl

  pub widths_length : length (bucket_widths q fs end a) ≡ 8
  widths_length = ap length widths_from_lem ∙ from_length q fs end a (limits_of first)

  pub first_is : get_or (bucket_widths q fs end a) 0 0 ≡ first
  unfolding bucket_widths
  first_is = refl

  -- where bucketlet k starts
  abbrev pub place_of : ℕ → ℕ
  place_of k = a + prefix_sum k (bucket_widths q fs end a)

  pub width_at_lem : (k : ℕ) → k < 8 → get_or (bucket_widths q fs end a) k 0 ≡ width_within q fs end (place_of k) (get_or (limits_of (get_or (bucket_widths q fs end a) 0 0)) k 0)
  width_at_lem k h =
      subst (λ (ws : List ℕ). get_or ws k 0 ≡ width_within q fs end (a + prefix_sum k ws) (get_or (limits_of first) k 0)) (sym widths_from_lem) (from_at q fs end a (limits_of first) k h)
      ∙ ap (λ (n : ℕ). width_within q fs end (place_of k) (get_or (limits_of n) k 0)) (sym first_is)

  pub place_next : (k : ℕ) → place_of (suc k) ≡ place_of k + get_or (bucket_widths q fs end a) k 0
  place_next k = omega (arith, prefix_suc k (bucket_widths q fs end a))

  pub width_limited : (k : ℕ) → k < 8 → get_or (bucket_widths q fs end a) k 0 ≤ get_or (limits_of (get_or (bucket_widths q fs end a) 0 0)) k 0
  width_limited k h = rw (width_at_lem k h) (stops_at_limit q fs end (place_of k) _)

  width_inside : (k : ℕ) → k < 8 → get_or (bucket_widths q fs end a) k 0 ≤ end - place_of k
  width_inside k h = rw (width_at_lem k h) (stops_at_end q fs end (place_of k) _)

  -- no bucketlet passes the end
  pub place_within : a ≤ end → (k : ℕ) → k ≤ 8 → place_of k ≤ end
  place_within h zero l = omega arith
  place_within h (suc k) l = omega (arith, place_next k, width_inside k l, place_within h k (omega arith))

  pub next_is : a + sum (bucket_widths q fs end a) ≡ place_of 8
  next_is = let e = prefix_all 8 (bucket_widths q fs end a) (omega (arith, widths_length)) in omega arith

  pub sum_within : a ≤ end → a + sum (bucket_widths q fs end a) ≤ end
  sum_within h = omega (arith, next_is, place_within h 8 (omega arith))

  -- ---- before the end each bucketlet holds an entry

  module _ (sound : Sound fs q) (inside : end ≤ length fs) where
    pub width_pos : (k : ℕ) → k < 8 → place_of k < end → 1 ≤ get_or (bucket_widths q fs end a) k 0
    width_pos k h l =
        rw (width_at_lem k h) (width_some q fs sound (place_of k) _ (omega (arith, limit_bounds (get_or (bucket_widths q fs end a) 0 0) k h)) (omega arith))

    pub places_grow : (k : ℕ) → k ≤ 8 → place_of k < end → k ≤ prefix_sum k (bucket_widths q fs end a)
    places_grow zero h l = omega arith
    places_grow (suc k) h l =
        let before : place_of k < end = omega (arith, place_next k) in
        omega (arith, places_grow k (omega arith) before, width_pos k h before, prefix_suc k (bucket_widths q fs end a))

    -- so a bucket holds an entry, and eight where another follows it
    pub sum_some : a < end → 1 ≤ sum (bucket_widths q fs end a)
    sum_some h = omega (arith, width_pos 0 (omega arith) (omega arith), get_d_le_sum (bucket_widths q fs end a) 0)

    pub sum_eight : a + sum (bucket_widths q fs end a) < end → 8 ≤ sum (bucket_widths q fs end a)
    sum_eight h =
        let e = prefix_all 8 (bucket_widths q fs end a) (omega (arith, widths_length)) in
        omega (arith, places_grow 8 (omega arith) (omega (arith, next_is)))

-- ---- classes that follow one another

pub classes_length : (fs : List ℕ) (a : ℕ) (ws : List ℕ) → length (classes_from fs a ws) ≡ length ws
unfolding classes_from
classes_length fs a [] = refl
classes_length fs a (w ∷ ws) = ap suc (classes_length fs (a + w) ws)

pub class_at_lem : (fs : List ℕ) (a : ℕ) (ws : List ℕ) (k : ℕ) → k < length ws
    → get_or (classes_from fs a ws) k 0 ≡ bucketlet_class fs (a + prefix_sum k ws) (get_or ws k 0)
unfolding classes_from
class_at_lem fs a [] k h = absurd (not-suc-le-zero h)
class_at_lem fs a (w ∷ ws) zero h = ap (λ (a : ℕ). bucketlet_class fs a w) (sym (add-zero a))
class_at_lem fs a (w ∷ ws) (suc k) h =
    let e : a + w + prefix_sum k ws ≡ a + (w + prefix_sum k ws) = omega arith in
    class_at_lem fs (a + w) ws k (le_of_suc-le-suc h) ∙ ap (λ (a : ℕ). bucketlet_class fs a (get_or ws k 0)) e

-- that of an empty bucketlet is 0
pub class_of_none : (fs : List ℕ) (a : ℕ) (ws : List ℕ) (k : ℕ) → k < length ws → get_or ws k 0 ≡ 0 → get_or (classes_from fs a ws) k 0 ≡ 0
class_of_none fs a ws k h e =
    let place = a + prefix_sum k ws in
    class_at_lem fs a ws k h ∙ class_none base (omega arith) (omega arith) (part_sum place (get_or ws k 0) fs) (ap (λ (w : ℕ). part_sum place w fs) e)
