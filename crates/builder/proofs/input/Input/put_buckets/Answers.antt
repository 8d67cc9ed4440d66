-- `builder::input::Input::put_buckets` meets its contract. At the loop b buckets are written, and what is left of the definition starts at the next entry.
-- Assumes nothing.
use mathlib.Core.Path.{◌≡◌, refl, sym, ap, ◌∙◌}
use mathlib.Core.List.{List, ◌++◌, append_assoc}
use Prim.Native.Nat.{ℕ, ◌+◌, ◌-◌, ◌*◌, ◌≤◌, ◌<◌}
use native.Mathlib.Numerals.{add-one}
use native.Mathlib.Omega.{arith}
use lib.ListN.{length, take, drop}
use borrow.Rule.Slice.PartMut.{mid_of, post_of, put_mid, same_len_mid, Post-is}
use Rattle.laws.specs.Sums.{sum}
use Rattle.words_rules.specs.Words.{head_words, bucket_words}
use Rattle.words_rules.specs.Decoded.{encode}
use Rattle.list_rules.specs.declared.Quality.{Quality}
use Rattle.list_rules.specs.Private.Sound.{Sound}
use Rattle.build_rules.specs.Bucket.{bucket_widths, bucket_from}
use Rattle.build_rules.specs.Words.{max_words}
use Rattle.build_rules.proofs.BucketLaws.{sum_some}
use Rattle.builder.specs.declared.bucket.Placed.{Placed}
use Rattle.builder.specs.Private.Laying.{placed}
use Rattle.builder.proofs.FillLaws.{Filling, filling_more, filling_done}
use Rattle.builder.proofs.input.Input.put_buckets.Goals as goal

module _ (fs : List ℕ) (q : Quality) (old : List ℕ) (sound : Sound fs q) (large : max_words ≤ length old) (now : List ℕ) (b start : ℕ) (same : length now ≡ length old) (f : Filling fs q old now b start) (more : start < length fs) (p : Placed) (e : p ≡ placed q fs (length fs) start) where
  abbrev width : ℕ
  width = sum (bucket_widths q fs (length fs) start)

  -- the next bucket starts after this one
  next : p.next ≡ start + width
  next = ap (λ (x : Placed). x.next) e

  less : length fs - p.next < length fs - start
  less = omega (arith, next, sum_some q fs (length fs) start sound (omega arith) more)

  again : (packed put new : List ℕ) → packed ≡ encode p.bucket → put ≡ packed
      → new ≡ put_mid (head_words + bucket_words * b) (head_words + bucket_words * b + bucket_words - (head_words + bucket_words * b)) now put
      → length put ≡ length (mid_of (head_words + bucket_words * b) (head_words + bucket_words * b + bucket_words - (head_words + bucket_words * b)) now)
      → (length new ≡ length old) × Filling fs q old new (b + 1) p.next
  again packed put new d s n m =
      let at = head_words + bucket_words * b in
      let k = at + bucket_words - at in
      let here = bucket_from q fs (length fs) start in
      let r = encode here in
      let is : put ≡ r = s ∙ d ∙ ap (λ (x : Placed). encode x.bucket) e in
      let all : new ≡ take at now ++ r ++ drop (at + bucket_words) now =
      n
      ∙ ap (λ (x : List ℕ). take at now ++ (x ++ post_of at k now)) is
      ∙ ap (λ (x : List ℕ). take at now ++ (r ++ x)) (Post-is at (at + bucket_words) now (omega arith))
      ∙ sym (append_assoc (take at now) r _) in
      (ap length n ∙ same_len_mid at k now put m ∙ same, rw (add-one b, next) (filling_more fs q old sound now b start f more (omega arith) new all))

pub loop-start-smaller : goal.loop-start-smaller
loop-start-smaller c =
    let l = c.loop-start in
    less c.args.self.now.freqs.now c.args.self.now.q c.args.words.now c.args.self.now.sound c.requires l.words l.b l.start l.invariant.0 l.invariant.1 c.loop-start-test.true
    c.bucket_from-placed.result c.bucket_from-placed.ensures

pub loop-start-preserved : goal.loop-start-preserved
loop-start-preserved c =
    let l = c.loop-start in
    again c.args.self.now.freqs.now c.args.self.now.q c.args.words.now c.args.self.now.sound c.requires l.words l.b l.start l.invariant.0 l.invariant.1 c.loop-start-test.true
    c.bucket_from-placed.result c.bucket_from-placed.ensures c.encode-packed.result c.copy_from_slice.new.self _ c.encode-packed.ensures c.copy_from_slice.ensures.after refl c.copy_from_slice.ensures.len

pub returns : goal.returns
returns c =
    let l = c.loop-start in
    filling_done c.args.self.now.freqs.now c.args.self.now.q c.args.words.now l.words l.b l.start l.invariant.1 c.loop-start-test.false
