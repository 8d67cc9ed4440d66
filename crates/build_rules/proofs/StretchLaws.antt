-- Where the buckets of a stretch start and what their words are: bucket k starts where the one before it ends, and the last ends at the end.
-- Assumes nothing.
use mathlib.Core.Path.{◌≡◌, sym, ap, subst, ◌∙◌}
use mathlib.Core.List.{List, [], ◌∷◌, ◌++◌}
use mathlib.Core.Logic.{⊎_elim}
use Prim.Native.Nat.{ℕ, zero, suc, ◌+◌, ◌-◌, ◌*◌, ◌≤◌, ◌<◌}
use native.Mathlib.Nat.{eq-or-lt_of_le, le_of_suc-le-suc, not-suc-le-zero}
use native.Mathlib.Omega.{arith}
use lib.ListN.{length, take, drop}
use lib.Seq.{take_at, drop_at, drop-drop}
use Rattle.laws.specs.Sums.{sum}
use Rattle.words_rules.specs.declared.Bucket.{Bucket}
use Rattle.words_rules.specs.Decoded.{encode}
use Rattle.words_rules.specs.Words.{bucket_words}
use Rattle.list_rules.specs.declared.Quality.{Quality}
use Rattle.list_rules.specs.Private.Sound.{Sound}
use Rattle.build_rules.specs.Bucket.{bucket_widths, bucket_from}
use Rattle.build_rules.specs.Words.{buckets_from, bucket_words_of, start_from}
use Rattle.build_rules.proofs.BucketLaws.{sum_within, sum_some, sum_eight}
use Rattle.build_rules.proofs.WordsLaws.{encode_length, buckets_more, buckets_done}

module _ (q : Quality) (fs : List ℕ) (end : ℕ) (sound : Sound fs q) (inside : end ≤ length fs) where
  -- the stretch from a on, with room for its buckets
  pub record Laid (a : ℕ) (rs : List Bucket) : Type 0 where
    pub starts : (k : ℕ) → k < length rs → start_from q fs end a k < end
    pub ends : start_from q fs end a (length rs) ≡ end
    pub words : (k : ℕ) → k < length rs → take bucket_words (drop (bucket_words * k) (bucket_words_of rs)) ≡ encode (bucket_from q fs end (start_from q fs end a k))
    pub few : 8 * length rs ≤ end - a + 7

  laid_none : (a : ℕ) → a ≡ end → Laid a []
  unfolding start_from
  laid_none a e =
      record { starts = λ k h. absurd (not-suc-le-zero h); ends = e; words = λ k h. absurd (not-suc-le-zero h); few = omega arith }

  -- a bucket before those that follow it
  laid_more : (a : ℕ) (rs : List Bucket) → a < end → Laid (a + sum (bucket_widths q fs end a)) rs → Laid a (bucket_from q fs end a ∷ rs)
  unfolding start_from bucket_words_of
  laid_more a rs h r =
      let r₀ = bucket_from q fs end a in
      record {
        starts = λ k l. start k l;
        ends = r.ends;
        words = λ k l. word k l;
        few = count (length rs) r.few r.starts;
      }
    where
      next : ℕ
      next = a + sum (bucket_widths q fs end a)

      start : (k : ℕ) → k < suc (length rs) → start_from q fs end a k < end
      start zero l = h
      start (suc k) l = r.starts k (le_of_suc-le-suc l)

      word : (k : ℕ) → k < suc (length rs) → take bucket_words (drop (bucket_words * k) (encode (bucket_from q fs end a) ++ bucket_words_of rs)) ≡ encode (bucket_from q fs end (start_from q fs end a k))
      word zero l = take_at (encode (bucket_from q fs end a)) (bucket_words_of rs) bucket_words (encode_length (bucket_from q fs end a))
      word (suc k) l =
          let e : bucket_words * suc k ≡ bucket_words + bucket_words * k = omega arith in
          ap (λ (n : ℕ). take bucket_words (drop n (encode (bucket_from q fs end a) ++ bucket_words_of rs))) e
          ∙ ap (take bucket_words) (sym (drop-drop (bucket_words * k) bucket_words (encode (bucket_from q fs end a) ++ bucket_words_of rs)))
          ∙ ap (λ (ws : List ℕ). take bucket_words (drop (bucket_words * k) ws)) (drop_at (encode (bucket_from q fs end a)) (bucket_words_of rs) bucket_words (encode_length (bucket_from q fs end a)))
          ∙ r.words k (le_of_suc-le-suc l)

      -- a bucket that another follows holds eight entries
      count : (m : ℕ) → 8 * m ≤ end - next + 7 → ((k : ℕ) → k < m → start_from q fs end next k < end) → 8 * suc m ≤ end - a + 7
      count zero f s = omega arith
      count (suc m) f s =
          let more = s 0 (omega arith) in
          omega (arith, f, sum_eight q fs end a sound inside more, more)

  pub laid : (n a : ℕ) → a ≤ end → end - a ≤ n → Laid a (buckets_from n q fs end a)
  laid zero a h l = subst (Laid a) (sym (buckets_done q fs end 0 a (omega arith))) (laid_none a (omega arith))
  laid (suc n) a h l =
      ⊎_elim
      (λ (e : a ≡ end). subst (Laid a) (sym (buckets_done q fs end (suc n) a (omega arith))) (laid_none a e))
      (λ (g : a < end).
      subst (Laid a) (sym (buckets_more q fs end n a g))
      (laid_more a _ g (laid n (a + sum (bucket_widths q fs end a)) (sum_within q fs end a h) (omega (arith, sum_some q fs end a sound inside g)))))
      (eq-or-lt_of_le h)
