-- The words written so far and the buckets that are left: together they are the histogram's.
-- Assumes nothing.
use mathlib.Core.Path.{◌≡◌, refl, sym, ap, ◌∙◌}
use mathlib.Core.List.{List, [], ◌∷◌, ◌++◌, append_assoc, append-nil}
use Prim.Native.Nat.{ℕ, suc, ◌+◌, ◌-◌, ◌*◌, ◌≤◌, ◌<◌}
use native.Mathlib.Nat.{zero-add}
use native.Mathlib.Omega.{arith}
use lib.ListN.{length, take, drop, length-append, length-take, take-append-drop}
use lib.Seq.{take_at, drop_at, drop-drop}
use Rattle.laws.specs.Sums.{sum}
use Rattle.words_rules.specs.declared.Bucket.{Bucket}
use Rattle.words_rules.specs.Words.{head_words, bucket_words, encode_head}
use Rattle.words_rules.specs.Decoded.{encode}
use Rattle.list_rules.specs.declared.Quality.{Quality}
use Rattle.list_rules.specs.Private.Sound.{Sound}
use Rattle.build_rules.specs.Bucket.{bucket_widths, bucket_from}
use Rattle.build_rules.specs.Words.{buckets_from, stretch, bucket_words_of, head_with, words}
use Rattle.build_rules.proofs.BucketLaws.{sum_within, sum_eight}
use Rattle.build_rules.proofs.WordsLaws.{encode_length, words_length, buckets_more, buckets_done}
use Rattle.builder.specs.Private.Filling.{max_buckets, Bodied, Whole}

-- ---- a bucket's words after those that stand

-- l up to the place n, then `done`, then l from there on: with `more` after `done`
pub next_words : (l o done more : List ℕ) (h n m : ℕ) → h ≤ length l → length done ≡ n → length more ≡ m → o ≡ take h l ++ done ++ drop (h + n) l
    → take (h + n) o ++ more ++ drop (h + n + m) o ≡ take h l ++ (done ++ more) ++ drop (h + (n + m)) l
next_words l o done more h n m k e d p =
    let front : length (take h l ++ done) ≡ h + n = length-append (take h l) done ∙ (let t = length-take h l in omega arith) in
    let t : take (h + n) o ≡ take h l ++ done = ap (take (h + n)) p ∙ take_at (take h l ++ done) (drop (h + n) l) (h + n) front in
    let r : drop (h + n) o ≡ drop (h + n) l = ap (drop (h + n)) p ∙ drop_at (take h l ++ done) (drop (h + n) l) (h + n) front in
    let f : drop (h + n + m) o ≡ drop (h + (n + m)) l =
    sym (drop-drop m (h + n) o) ∙ ap (drop m) r ∙ drop-drop m (h + n) l ∙ ap (λ (j : ℕ). drop j l) {x = h + n + m} {y = h + (n + m)} (omega arith) in
    ap (λ (x : List ℕ). x ++ more ++ drop (h + n + m) o) t
    ∙ ap (λ (x : List ℕ). take h l ++ done ++ more ++ x) f
    ∙ ap (λ (x : List ℕ). x ++ drop (h + (n + m)) l) (append_assoc (take h l) done more)

-- ---- the loop over the buckets

module _ (fs : List ℕ) (q : Quality) (old : List ℕ) where
  -- the buckets that are left
  abbrev left : ℕ → ℕ → List Bucket
  left b start = buckets_from (length fs - b) q fs (length fs) start

  pub record Filling (new : List ℕ) (b start : ℕ) : Type 0 where
    pub within : start ≤ length fs
    pub ahead : start < length fs → 8 * b ≤ start
    pub few : b ≤ max_buckets
    pub done : List ℕ
    pub size : length done ≡ bucket_words * b
    pub standing : new ≡ take head_words old ++ done ++ drop (head_words + bucket_words * b) old
    pub rest : bucket_words_of (stretch q fs (length fs) 0) ≡ done ++ bucket_words_of (left b start)
    pub count : length (stretch q fs (length fs) 0) ≡ b + length (left b start)

  pub filling_none : head_words ≤ length old → Filling old 0 0
  filling_none h =
      record {
        within = omega arith;
        ahead = λ l. omega arith;
        few = omega arith;
        done = [];
        size = refl;
        standing = sym (ap (λ (x : List ℕ). x ++ drop head_words old) (append-nil (take head_words old)) ∙ take-append-drop head_words old);
        rest = ap (λ (n : ℕ). bucket_words_of (buckets_from n q fs (length fs) 0)) {x = length fs} {y = length fs - 0} (omega arith);
        count = ap (λ (n : ℕ). length (buckets_from n q fs (length fs) 0)) {x = length fs} {y = length fs - 0} (omega arith) ∙ sym (zero-add _);
      }

  module _ (sound : Sound fs q) (new : List ℕ) (b start : ℕ) (f : Filling new b start) (more : start < length fs) where
    here : left b start ≡ bucket_from q fs (length fs) start ∷ left (suc b) (start + sum (bucket_widths q fs (length fs) start))
    here =
        ap (λ (n : ℕ). buckets_from n q fs (length fs) start) {x = length fs - b} {y = suc (length fs - suc b)} (omega (arith, f.ahead more))
        ∙ buckets_more q fs (length fs) (length fs - suc b) start more

    pub filling_more : head_words ≤ length old → (o : List ℕ) → o ≡ take (head_words + bucket_words * b) new ++ encode (bucket_from q fs (length fs) start) ++ drop (head_words + bucket_words * b + bucket_words) new
        → Filling o (suc b) (start + sum (bucket_widths q fs (length fs) start))
    unfolding bucket_words_of
    filling_more h o e =
        let r = bucket_from q fs (length fs) start in
        let next = start + sum (bucket_widths q fs (length fs) start) in
        let next_words_end : bucket_words * b + bucket_words ≡ bucket_words * suc b = omega arith in
        record {
          within = sum_within q fs (length fs) start (omega arith);
          ahead = λ l. omega (arith, f.ahead more, sum_eight q fs (length fs) start sound (omega arith) l);
          few = omega (arith, f.ahead more, sound.many);
          done = f.done ++ encode r;
          size = length-append f.done (encode r) ∙ (let s = f.size in let t = encode_length r in omega arith);
          standing = e ∙ next_words old new f.done (encode r) head_words (bucket_words * b) bucket_words h f.size (encode_length r) f.standing ∙ ap (λ (n : ℕ). take head_words old ++ (f.done ++ encode r) ++ drop (head_words + n) old) next_words_end;
          rest = f.rest ∙ ap (λ (rs : List Bucket). f.done ++ bucket_words_of rs) here ∙ sym (append_assoc f.done (encode r) (bucket_words_of (left (suc b) next)));
          count = omega (arith, f.count, ap length here);
        }

  pub filling_done : (new : List ℕ) (b start : ℕ) → Filling new b start → length fs ≤ start → Bodied fs q old new b
  unfolding bucket_words_of
  filling_done new b start f h =
      let none : left b start ≡ [] = buckets_done q fs (length fs) (length fs - b) start h in
      let w : bucket_words_of (stretch q fs (length fs) 0) ≡ f.done = f.rest ∙ ap (λ (rs : List Bucket). f.done ++ bucket_words_of rs) none ∙ append-nil f.done in
      record {
        count = omega (arith, f.count, ap length none);
        few = f.few;
        body = f.standing ∙ ap (λ (x : List ℕ). take head_words old ++ x ++ drop (head_words + bucket_words * b) old) (sym w);
      }

-- ---- the head words before the buckets

pub whole : (fs : List ℕ) (q : Quality) (old new o : List ℕ) (b n : ℕ) → head_words ≤ length old → length new ≡ length old
    → o ≡ encode_head (head_with q (length fs) b) ++ drop head_words new → n ≡ head_words + bucket_words * b → Bodied fs q old new b → Whole fs q o n
unfolding words
whole fs q old new o b n h e w m r =
    let rs = stretch q fs (length fs) 0 in
    let body = bucket_words_of rs in
    let rest = drop (head_words + bucket_words * b) old in
    let head = encode_head (head_with q (length fs) b) in
    let front : length (take head_words old) ≡ head_words = length-take head_words old ∙ (omega arith) in
    let tail : drop head_words new ≡ body ++ rest = ap (drop head_words) (r.body ∙ append_assoc (take head_words old) body rest) ∙ drop_at (take head_words old) (body ++ rest) head_words front in
    let all : o ≡ head ++ (body ++ rest) = w ∙ ap (λ (x : List ℕ). head ++ x) tail in
    let same : head ++ body ≡ words q fs = ap (λ (x : ℕ). encode_head (head_with q (length fs) x) ++ body) r.count in
    let size : length (head ++ body) ≡ n = length-append head body ∙ (let s = words_length rs in let c = r.count in omega arith) in
    record {
      count = sym (ap length (sym same) ∙ size);
      few = omega (arith, r.few);
      front = ap (take n) (all ∙ sym (append_assoc head body rest)) ∙ take_at (head ++ body) rest n size ∙ same;
    }
