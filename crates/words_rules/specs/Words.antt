-- Where the words of a histogram stand and what their fields are (document 01, "Words"). Past the end of a list each word reads 0, so that
-- every definition has a value for every list.
-- Assumes nothing.
use Rattle.std.specs.Prelude.{Bool, cond, List, [], ◌∷◌, ℕ, ◌+◌, ◌-◌, ◌*◌, ◌/◌, ◌^◌, ltb, eqb, get_or}
use Rattle.laws.specs.Field.{field, put}
use Rattle.counts_rules.specs.Form.{form}
use Rattle.words_rules.specs.declared.Head.{Head}

abbrev pub head_words : ℕ
head_words = 4

abbrev pub bucket_words : ℕ
bucket_words = form.bucket_words

abbrev pub word : List ℕ → ℕ → ℕ
word ws i = get_or ws i 0

-- the place of word j of bucket b
abbrev pub place : ℕ → ℕ → ℕ
place b j = head_words + bucket_words * b + j

-- bits 31 and 30
abbrev pub kind : ℕ → ℕ
kind w = w / 2 ^ 30

-- what the head words hold

abbrev pub entries : List ℕ → ℕ
entries ws = word ws 0

abbrev pub theta : List ℕ → ℕ
theta ws = word ws 1

abbrev pub qn : List ℕ → ℕ
qn ws = field (word ws 2) 19 10

abbrev pub qd : List ℕ → ℕ
qd ws = field (word ws 2) 9 0

abbrev pub buckets : List ℕ → ℕ
buckets ws = word ws 3

abbrev pub head_of : List ℕ → Head
head_of ws = record { entries = entries ws; theta = theta ws; qn = qn ws; qd = qd ws; buckets = buckets ws }

-- and back, each part of q cut to its bits

abbrev pub q_word : ℕ → ℕ → ℕ
q_word qn qd = put qn 19 10 + put qd 9 0

abbrev pub encode_head : Head → List ℕ
encode_head h = h.entries ∷ h.theta ∷ q_word h.qn h.qd ∷ h.buckets ∷ []

-- the words of bucket b
abbrev pub packed_at : List ℕ → ℕ → List ℕ
packed_at ws b = word ws (place b 0) ∷ word ws (place b 1) ∷ word ws (place b 2) ∷ word ws (place b 3) ∷ word ws (place b 4) ∷ []

-- what a bucket's words hold

abbrev pub start_in : List ℕ → ℕ
start_in packed = field (word packed 0) 29 10

-- whether the eighth bucketlet is the free one; else the first is
abbrev pub flag_in : List ℕ → Bool
flag_in packed = eqb (field (word packed 0) 9 9) 1

-- the widths of all bucketlets but the free one, in order
abbrev pub listed_in : List ℕ → List ℕ
listed_in packed =
    field (word packed 0) 8 0
    ∷ field (word packed 3) 26 18 ∷ field (word packed 3) 17 9 ∷ field (word packed 3) 8 0
    ∷ field (word packed 4) 26 18 ∷ field (word packed 4) 17 9 ∷ field (word packed 4) 8 0
    ∷ []

abbrev pub classes_in : List ℕ → List ℕ
classes_in packed =
    field (word packed 1) 29 24 ∷ field (word packed 1) 23 18 ∷ field (word packed 1) 17 12 ∷ field (word packed 1) 11 6 ∷ field (word packed 1) 5 0
    ∷ field (word packed 2) 29 24 ∷ field (word packed 2) 23 18 ∷ field (word packed 2) 17 12
    ∷ []

abbrev pub total_in : List ℕ → ℕ
total_in packed = field (word packed 2) 11 0

-- the span of bucket b, which ends where the next starts, the last at d

abbrev pub start : List ℕ → ℕ → ℕ
start ws b = start_in (packed_at ws b)

abbrev pub end : List ℕ → ℕ → ℕ
end ws b = cond (ltb (b + 1) (buckets ws)) (start ws (b + 1)) (entries ws)

abbrev pub span : List ℕ → ℕ → ℕ
span ws b = end ws b - start ws b
