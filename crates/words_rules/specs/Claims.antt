-- What is claimed of the words: decoding and encoding undo one another, and in a readable list buckets tile the entries and bucketlets tile
-- their bucket. proofs/Proved.antt proves it.
-- Assumes nothing.
use Rattle.std.specs.Prelude.{◌≡◌, true, false, List, ℕ, ◌+◌, ◌-◌, ◌*◌, ◌^◌, ◌≤◌, ◌<◌, length}
use Rattle.laws.specs.Sums.{sum}
use Rattle.counts_rules.specs.Form.{form, used_class}
use Rattle.counts_rules.specs.Total.{valid_code}
use Rattle.words_rules.specs.declared.Head.{Head}
use Rattle.words_rules.specs.declared.Bucket.{Bucket}
use Rattle.list_rules.specs.Limits.{max_entries, max_theta, max_q_part, max_q}
use Rattle.words_rules.specs.Limits.{max_listed, max_width}
use Rattle.words_rules.specs.Words.{head_words, bucket_words, word, kind, entries, theta, qn, qd, buckets, head_of, encode_head, packed_at, start_in, listed_in, start, end, span}
use Rattle.words_rules.specs.Decoded.{decode, encode, listed_at, class_at, bucket_at, bucketlet_start, bucketlet_end, width_at}
use Rattle.words_rules.specs.Reading.{words_broken, Readable}
use Rattle.words_rules.specs.Finding.{find_fault, bucket_of, bucket_by_halving, found, bucketlet_of}

-- the fields of a bucket that ends at `end` are in range
pub record InRange (r : Bucket) (end : ℕ) : Type 0 where
  pub eight_widths : length r.widths ≡ 8
  pub eight_classes : length r.classes ≡ 8
  pub start_bits : r.start < 2 ^ 20
  pub listed_bits : (k : ℕ) → k < 7 → listed_at r k ≤ max_listed
  pub class_bits_lem : (k : ℕ) → k < 8 → class_at r k < 2 ^ form.class_bits
  pub total_bits : r.total < 2 ^ 12
  pub ends : r.start + sum r.widths ≡ end

-- the parts of q that a head holds have ten bits
pub record HeadInRange (h : Head) : Type 0 where
  pub qn_bits : h.qn < 2 ^ 10
  pub qd_bits : h.qd < 2 ^ 10

pub record Inverse : Type 0 where
  -- of heads; of the third word only twenty bits are fields
  pub head_back : (h : Head) → HeadInRange h → head_of (encode_head h) ≡ h
  pub head_again : (ws : List ℕ) → length ws ≡ head_words → word ws 2 < 2 ^ 20 → encode_head (head_of ws) ≡ ws
  -- of buckets
  pub decode_encode : (r : Bucket) (end : ℕ) → InRange r end → decode (encode r) end ≡ r
  pub encode_decode : (packed : List ℕ) (end : ℕ) → length packed ≡ bucket_words → words_broken packed ≡ false → encode (decode packed end) ≡ packed
  -- what either gives is in range for the other
  pub encoded : (r : Bucket) → words_broken (encode r) ≡ false
  pub decoded : (packed : List ℕ) (end : ℕ) → start_in packed + sum (listed_in packed) ≤ end → InRange (decode packed end) end

pub record HeadLimits (ws : List ℕ) : Type 0 where
  pub words : length ws ≡ head_words + bucket_words * buckets ws
  pub kinds : (i : ℕ) → i < head_words → kind (word ws i) ≡ 0
  pub some_entries : 1 ≤ entries ws
  pub most_entries : entries ws ≤ max_entries
  pub least_theta : 1 ≤ theta ws
  pub most_theta : theta ws ≤ max_theta
  pub least_qn_lem : 1 ≤ qn ws
  pub most_qn : qn ws ≤ max_q_part
  pub least_qd_lem : 1 ≤ qd ws
  pub most_qd : qd ws ≤ max_q_part
  pub least_q : form.least_qn * qd ws ≤ form.least_qd * qn ws
  pub most_q : qn ws ≤ max_q * qd ws
  pub some_buckets : 1 ≤ buckets ws
  pub most_buckets : buckets ws ≤ entries ws

-- buckets follow one another from 0 to d
pub record Tiles (ws : List ℕ) : Type 0 where
  pub first_start : start ws 0 ≡ 0
  pub next_start : (b : ℕ) → b + 1 < buckets ws → end ws b ≡ start ws (b + 1)
  pub last_end : end ws (buckets ws - 1) ≡ entries ws
  pub not_empty : (b : ℕ) → b < buckets ws → start ws b < end ws b
  pub within : (b : ℕ) → b < buckets ws → end ws b ≤ entries ws

-- entry e lies in bucket b
pub record InBucket (ws : List ℕ) (e b : ℕ) : Type 0 where
  pub is_bucket : b < buckets ws
  pub from : start ws b ≤ e
  pub before : e < end ws b

-- entry e lies in bucketlet k of a bucket
pub record InBucketlet (r : Bucket) (e k : ℕ) : Type 0 where
  pub is_bucketlet : k < 8
  pub from : bucketlet_start r k ≤ e
  pub before : e < bucketlet_end r k

-- each entry has one bucket, and in it one bucketlet, which is not empty
pub record Entries (ws : List ℕ) : Type 0 where
  pub has_bucket : (e : ℕ) → e < entries ws → InBucket ws e (bucket_of ws e)
  pub one_bucket_lem : (e b : ℕ) → InBucket ws e b → bucket_of ws e ≡ b
  pub halved : (e : ℕ) → e < entries ws → bucket_by_halving ws e ≡ bucket_of ws e
  pub has_bucketlet : (e b : ℕ) → InBucket ws e b → InBucketlet (bucket_at ws b) e (bucketlet_of (bucket_at ws b) e)
  pub one_bucketlet : (e b k : ℕ) → InBucketlet (bucket_at ws b) e k → bucketlet_of (bucket_at ws b) e ≡ k
  pub not_empty : (e b k : ℕ) → InBucketlet (bucket_at ws b) e k → 0 < width_at (bucket_at ws b) k

-- the finder hands back the words of the entry's bucket
pub record Finds (ws : List ℕ) : Type 0 where
  pub no_fault : (e : ℕ) → e < entries ws → find_fault ws e ≡ 0
  pub packed : (e : ℕ) → e < entries ws → found ws e ≡ packed_at ws (bucket_of ws e)

-- what bucket b holds
pub record Holds (ws : List ℕ) (b : ℕ) : Type 0 where
  pub in_range : InRange (bucket_at ws b) (end ws b)
  pub spanned : sum (bucket_at ws b).widths ≡ span ws b
  pub widths : (k : ℕ) → width_at (bucket_at ws b) k ≤ max_width
  pub empty_class : (k : ℕ) → k < 8 → width_at (bucket_at ws b) k ≡ 0 → class_at (bucket_at ws b) k ≡ 0
  pub class_used : (k : ℕ) → k < 8 → used_class (class_at (bucket_at ws b) k) ≡ true
  pub total_valid : valid_code (bucket_at ws b).total ≡ true
  pub total_0 : (bucket_at ws b).total ≡ 0 → (k : ℕ) → k < 8 → class_at (bucket_at ws b) k ≡ 0

pub record Histogram : Type 0 where
  pub limits : (ws : List ℕ) → Readable ws → HeadLimits ws
  pub tiles : (ws : List ℕ) → Readable ws → Tiles ws
  pub entries : (ws : List ℕ) → Readable ws → Entries ws
  pub finds : (ws : List ℕ) → Readable ws → Finds ws
  pub holds : (ws : List ℕ) → Readable ws → (b : ℕ) → b < buckets ws → Holds ws b
