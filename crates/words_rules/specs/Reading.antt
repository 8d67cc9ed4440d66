-- What makes a list of words no histogram: sentences 7, 24 and 8 to 12 (document 01, "When a call is turned away"; 24: document 02, request v), each
-- over all buckets.
-- Assumes nothing.
use Rattle.std.specs.Prelude.{◌≡◌, Bool, not, ◌&&◌, ◌||◌, List, [], ◌∷◌, ℕ, ◌+◌, ◌-◌, ◌*◌, ◌^◌, leb, ltb, eqb, length}
use Rattle.laws.specs.Each.{some}
use Rattle.laws.specs.Field.{field}
use Rattle.laws.specs.Refusal.{Sentence, refusal}
use Rattle.laws.specs.Sums.{sum}
use Rattle.counts_rules.specs.Form.{used_class}
use Rattle.counts_rules.specs.Total.{valid_code}
use Rattle.words_rules.specs.declared.Head.{Head}
use Rattle.words_rules.specs.declared.Bucket.{Bucket}
use Rattle.laws.specs.Between.{between}
use Rattle.list_rules.specs.Limits.{entries_good, theta_good, q_good, q_large}
use Rattle.words_rules.specs.Limits.{max_width}
use Rattle.words_rules.specs.Words.{head_words, bucket_words, word, kind, entries, qn, qd, buckets, head_of, packed_at, listed_in, start, span}
use Rattle.words_rules.specs.Decoded.{width_at, class_at, bucket_at}

-- 7: there are fewer than four words, or a head word breaks its layout or limits. Of the third only bits 19 to 0 are fields; a word that is
-- within its limits has kind 0.

unfoldable pub head_good : Head → Bool
head_good h = entries_good h.entries && theta_good h.theta && q_good h.qn h.qd && between 1 h.entries h.buckets

unfoldable pub head_fault : List ℕ → Bool
head_fault ws = ltb (length ws) head_words || not (ltb (word ws 2) (2 ^ 20)) || not (head_good (head_of ws))

-- 24: q is above 8

unfoldable pub large_q_fault : List ℕ → Bool
large_q_fault ws = q_large (qn ws) (qd ws)

-- 8: the length is not 4 plus 5 times the buckets

unfoldable pub length_fault : List ℕ → Bool
length_fault ws = not (eqb (length ws) (head_words + bucket_words * buckets ws))

-- 9: a bucket word has a wrong kind or a set bit outside its fields. Only the last two words have such bits.

abbrev pub wrong_kind : List ℕ → Bool
wrong_kind packed =
    not (eqb (kind (word packed 0)) 1 && eqb (kind (word packed 1)) 2 && eqb (kind (word packed 2)) 2 && eqb (kind (word packed 3)) 3 && eqb (kind (word packed 4)) 3)

abbrev pub outside_bit : List ℕ → Bool
outside_bit packed = not (eqb (field (word packed 3) 29 27) 0 && eqb (field (word packed 4) 29 27) 0)

unfoldable pub words_broken : List ℕ → Bool
words_broken packed = wrong_kind packed || outside_bit packed

unfoldable pub word_fault : List ℕ → Bool
word_fault ws = some (buckets ws) (λ b. words_broken (packed_at ws b))

-- 10: the first start is not 0, or a start is not above the one before it, or not below d

unfoldable pub start_fault : List ℕ → Bool
start_fault ws =
    not (eqb (start ws 0) 0)
    || some (buckets ws - 1) (λ b. leb (start ws (b + 1)) (start ws b))
    || some (buckets ws) (λ b. leb (entries ws) (start ws b))

-- 11: the listed widths exceed their bucket, or the free width is above 4,095

unfoldable pub widths_broken : ℕ → ℕ → Bool
widths_broken span listed = ltb span listed || ltb max_width (span - listed)

unfoldable pub width_fault : List ℕ → Bool
width_fault ws = some (buckets ws) (λ b. widths_broken (span ws b) (sum (listed_in (packed_at ws b))))

-- 12: a class is 2 or 63, which are those of six bits that no count has, a width is 0 and its class is not, or a total code is not valid; code 0 is
-- valid exactly when all eight classes are 0 (document 02, request iv)

unfoldable pub class_broken : ℕ → ℕ → Bool
class_broken width class = not (used_class class) || eqb width 0 && not (eqb class 0)

abbrev pub has_class : Bucket → ℕ → Bool
has_class r k = not (eqb (class_at r k) 0)

-- one of the eight classes is not 0
abbrev pub some_class : Bucket → Bool
some_class r = some 8 (has_class r)

unfoldable pub total_broken : Bucket → Bool
total_broken r = not (valid_code r.total) || eqb r.total 0 && some_class r

unfoldable pub codes_broken : Bucket → Bool
codes_broken r = some 8 (λ k. class_broken (width_at r k) (class_at r k)) || total_broken r

unfoldable pub code_fault : List ℕ → Bool
code_fault ws = some (buckets ws) (λ b. codes_broken (bucket_at ws b))

abbrev pub read_sentences : List ℕ → List Sentence
read_sentences ws =
    record { number = 7; holds = head_fault ws }
    ∷ record { number = 24; holds = large_q_fault ws }
    ∷ record { number = 8; holds = length_fault ws }
    ∷ record { number = 9; holds = word_fault ws }
    ∷ record { number = 10; holds = start_fault ws }
    ∷ record { number = 11; holds = width_fault ws }
    ∷ record { number = 12; holds = code_fault ws }
    ∷ []

abbrev pub read_fault : List ℕ → ℕ
read_fault ws = refusal (read_sentences ws)

-- the list is a histogram
abbrev pub Readable : List ℕ → Type 0
Readable ws = read_fault ws ≡ 0
