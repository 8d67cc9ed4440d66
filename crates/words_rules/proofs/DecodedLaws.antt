-- Decoding and encoding undo one another (specs/Claims.antt, `Inverse`). Each field comes back because the fields of a word share no bit; the
-- free width comes back because it is what the listed ones leave of the span.
-- Assumes nothing.
use mathlib.Core.Path.{◌≡◌, refl, sym, ap, subst, ◌∙◌}
use mathlib.Core.Bool.{Bool, true, false, cond, ◌&&◌}
use mathlib.Core.List.{List, [], ◌∷◌, ◌++◌}
use mathlib.Core.Logic.{⊎_elim}
use Prim.Native.Nat.{ℕ, zero, suc, ◌+◌, ◌-◌, ◌^◌, ◌≤◌, ◌<◌}
use native.Mathlib.Omega.{arith}
use borrow.Author.Tests.{eq-eqb, eqb-true, eqb-false, not-false}
use lib.Dec.{eqb}
use lib.ListN.{length, get_or, length-append, get_or-append}
use Rattle.laws.specs.Field.{field, put}
use Rattle.laws.specs.Sums.{sum}
use Rattle.laws.specs.Tabulate.{tabulate}
use Rattle.laws.proofs.FieldLaws.{next_field, no_field}
use Rattle.laws.proofs.SumsLaws.{sum_append}
use Rattle.laws.proofs.TabulateLaws.{by_elements}
use Rattle.laws.proofs.Tests.{both_left, both_right, neither_left, neither_right, tested}
use Rattle.words_rules.specs.declared.Bucket.{Bucket}
use Rattle.words_rules.specs.Words.{word, kind, start_in, flag_in, listed_in, classes_in}
use Rattle.words_rules.specs.Decoded.{with_free, decode, listed_at, class_at, of_kind, start_word, class_word, total_word, width_word, encode, width_at}
use Rattle.words_rules.specs.Reading.{wrong_kind, outside_bit, words_broken}
use Rattle.words_rules.specs.Claims.{InRange}
use Rattle.words_rules.specs.Limits.{max_listed}

-- the bit of a flag
bit : (f : Bool) → eqb (cond f 1 0) 1 ≡ f
bit true = refl
bit false = refl

bit_lt : (f : Bool) → cond f 1 0 < 2
bit_lt true = omega arith
bit_lt false = omega arith

bit_back : (x : ℕ) → x < 2 → cond (eqb x 1) 1 0 ≡ x
bit_back x h = go (eqb x 1) refl
  where
    go : (t : Bool) → eqb x 1 ≡ t → cond t 1 0 ≡ x
    go true q = sym (eqb-true x 1 q)
    go false q = let n : x ≡ 1 → ⊥ = eqb-false x 1 q in omega arith

-- a listed width is found again beside the free one
listed_beside : (f : Bool) (free k : ℕ) (l : List ℕ) → k < length l → get_or (with_free f free l) (cond f k (suc k)) 0 ≡ get_or l k 0
listed_beside true free k l h = get_or-append l (free ∷ []) 0 k h
listed_beside false free k l h = refl

pub sum_with_free : (f : Bool) (free : ℕ) (l : List ℕ) → sum (with_free f free l) ≡ free + sum l
sum_with_free true free l = sum_append l (free ∷ []) ∙ (omega arith)
sum_with_free false free l = refl

-- ---- the fields of a word that was made of them

start_back : (s l : ℕ) (f : Bool) → s < 2 ^ 20 → field (start_word s f l) 29 10 ≡ s
start_back s l f h = omega (arith, bit_lt f)

flag_back : (s l : ℕ) (f : Bool) → eqb (field (start_word s f l) 9 9) 1 ≡ f
flag_back s l f = let e : field (start_word s f l) 9 9 ≡ cond f 1 0 = omega (arith, bit_lt f) in ap (λ (n : ℕ). eqb n 1) e ∙ bit f

total_back : (a b c t : ℕ) → t < 2 ^ 12 → field (total_word a b c t) 11 0 ≡ t
total_back a b c t h = omega arith

classes_back : (f : ℕ → ℕ) → ((k : ℕ) → k < 8 → f k < 2 ^ 6) → (t : ℕ)
    → let u = class_word (f 0) (f 1) (f 2) (f 3) (f 4) in
    let v = total_word (f 5) (f 6) (f 7) t in
    field u 29 24 ∷ field u 23 18 ∷ field u 17 12 ∷ field u 11 6 ∷ field u 5 0 ∷ field v 29 24 ∷ field v 23 18 ∷ field v 17 12 ∷ [] ≡ tabulate 8 f
classes_back f h t =
    let u = class_word (f 0) (f 1) (f 2) (f 3) (f 4) in
    let v = total_word (f 5) (f 6) (f 7) t in
    let e₀ : field u 29 24 ≡ f 0 = omega (arith, h 0 (omega arith)) in
    let e₁ : field u 23 18 ≡ f 1 = omega (arith, h 1 (omega arith)) in
    let e₂ : field u 17 12 ≡ f 2 = omega (arith, h 2 (omega arith)) in
    let e₃ : field u 11 6 ≡ f 3 = omega (arith, h 3 (omega arith)) in
    let e₄ : field u 5 0 ≡ f 4 = omega (arith, h 4 (omega arith)) in
    let e₅ : field v 29 24 ≡ f 5 = omega (arith, h 5 (omega arith)) in
    let e₆ : field v 23 18 ≡ f 6 = omega (arith, h 6 (omega arith)) in
    let e₇ : field v 17 12 ≡ f 7 = omega (arith, h 7 (omega arith)) in
    λ i. e₀ i ∷ e₁ i ∷ e₂ i ∷ e₃ i ∷ e₄ i ∷ e₅ i ∷ e₆ i ∷ e₇ i ∷ []

listed_back : (f : ℕ → ℕ) → ((k : ℕ) → k < 7 → f k ≤ max_listed) → (s : ℕ) (g : Bool)
    → let t = start_word s g (f 0) in
    let u = width_word (f 1) (f 2) (f 3) in
    let v = width_word (f 4) (f 5) (f 6) in
    field t 8 0 ∷ field u 26 18 ∷ field u 17 9 ∷ field u 8 0 ∷ field v 26 18 ∷ field v 17 9 ∷ field v 8 0 ∷ [] ≡ tabulate 7 f
listed_back f h s g =
    let t = start_word s g (f 0) in
    let u = width_word (f 1) (f 2) (f 3) in
    let v = width_word (f 4) (f 5) (f 6) in
    let e₀ : field t 8 0 ≡ f 0 = omega (arith, bit_lt g, h 0 (omega arith)) in
    let e₁ : field u 26 18 ≡ f 1 = omega (arith, h 1 (omega arith)) in
    let e₂ : field u 17 9 ≡ f 2 = omega (arith, h 2 (omega arith)) in
    let e₃ : field u 8 0 ≡ f 3 = omega (arith, h 3 (omega arith)) in
    let e₄ : field v 26 18 ≡ f 4 = omega (arith, h 4 (omega arith)) in
    let e₅ : field v 17 9 ≡ f 5 = omega (arith, h 5 (omega arith)) in
    let e₆ : field v 8 0 ≡ f 6 = omega (arith, h 6 (omega arith)) in
    λ i. e₀ i ∷ e₁ i ∷ e₂ i ∷ e₃ i ∷ e₄ i ∷ e₅ i ∷ e₆ i ∷ []

-- the listed widths, with what they leave of the span at the free place, are the widths
widths_back : (f : Bool) (w : List ℕ) → length w ≡ 8 → (s end : ℕ) → s + sum w ≡ end
    → let l = tabulate 7 (λ k. get_or w (cond f k (suc k)) 0) in with_free f (end - s - sum l) l ≡ w
widths_back true w h s end e =
    let t = by_elements 8 w h in
    let l = tabulate 7 (λ k. get_or w k 0) in
    let free : end - s - sum l ≡ get_or w 7 0 = omega (arith, ap sum t) in
    ap (λ (n : ℕ). l ++ (n ∷ [])) free ∙ sym t
widths_back false w h s end e =
    let t = by_elements 8 w h in
    let l = tabulate 7 (λ k. get_or w (suc k) 0) in
    let free : end - s - sum l ≡ get_or w 0 0 = omega (arith, ap sum t) in
    ap (λ (n : ℕ). n ∷ l) free ∙ sym t

pub decode_encode : (r : Bucket) (end : ℕ) → InRange r end → decode (encode r) end ≡ r
unfolding encode decode
decode_encode r end h =
    let s = start_back r.start (listed_at r 0) r.flag h.start_bits in
    let f = flag_back r.start (listed_at r 0) r.flag in
    let l = listed_back (listed_at r) h.listed_bits r.start r.flag in
    let c = classes_back (class_at r) h.class_bits_lem r.total ∙ sym (by_elements 8 r.classes h.eight_classes) in
    let t = total_back (class_at r 5) (class_at r 6) (class_at r 7) r.total h.total_bits in
    let w : with_free (flag_in (encode r)) (end - start_in (encode r) - sum (listed_in (encode r))) (listed_in (encode r)) ≡ r.widths =
    (λ i. with_free (f i) (end - s i - sum (l i)) (l i)) ∙ widths_back r.flag r.widths h.eight_widths r.start end h.ends in
    λ i. record { widths = w i; classes = c i; start = s i; flag = f i; total = t i }

-- ---- a word is what its fields make

start_word_lem : (w : ℕ) → kind w ≡ 1 → start_word (field w 29 10) (eqb (field w 9 9) 1) (field w 8 0) ≡ w
start_word_lem w k =
    ap (λ (n : ℕ). of_kind 1 + put (field w 29 10) 29 10 + put n 9 9 + put (field w 8 0) 8 0) (bit_back (field w 9 9) (omega arith))
    ∙ no_field _ w
    (next_field (of_kind 1 + put (field w 29 10) 29 10 + put (field w 9 9) 9 9) w 8 0 (omega arith)
    (next_field (of_kind 1 + put (field w 29 10) 29 10) w 9 9 (omega arith)
    (next_field (of_kind 1) w 29 10 (omega arith) (omega arith))))

class_word_lem : (w : ℕ) → kind w ≡ 2 → class_word (field w 29 24) (field w 23 18) (field w 17 12) (field w 11 6) (field w 5 0) ≡ w
class_word_lem w k =
    let a = of_kind 2 + put (field w 29 24) 29 24 in
    let b = a + put (field w 23 18) 23 18 in
    let c = b + put (field w 17 12) 17 12 in
    no_field _ w
    (next_field (c + put (field w 11 6) 11 6) w 5 0 (omega arith)
    (next_field c w 11 6 (omega arith) (next_field b w 17 12 (omega arith) (next_field a w 23 18 (omega arith) (next_field (of_kind 2) w 29 24 (omega arith) (omega arith))))))

total_word_lem : (w : ℕ) → kind w ≡ 2 → total_word (field w 29 24) (field w 23 18) (field w 17 12) (field w 11 0) ≡ w
total_word_lem w k =
    let a = of_kind 2 + put (field w 29 24) 29 24 in
    let b = a + put (field w 23 18) 23 18 in
    no_field _ w
    (next_field (b + put (field w 17 12) 17 12) w 11 0 (omega arith)
    (next_field b w 17 12 (omega arith) (next_field a w 23 18 (omega arith) (next_field (of_kind 2) w 29 24 (omega arith) (omega arith)))))

width_word_lem : (w : ℕ) → kind w ≡ 3 → field w 29 27 ≡ 0 → width_word (field w 26 18) (field w 17 9) (field w 8 0) ≡ w
width_word_lem w k o =
    let a = of_kind 3 + put (field w 26 18) 26 18 in
    no_field _ w
    (next_field (a + put (field w 17 9) 17 9) w 8 0 (omega arith)
    (next_field a w 17 9 (omega arith) (next_field (of_kind 3) w 26 18 (omega arith) (omega arith))))

-- what it says that words break no layout
pub record Whole (packed : List ℕ) : Type 0 where
  pub kind₀ : kind (word packed 0) ≡ 1
  pub kind₁ : kind (word packed 1) ≡ 2
  pub kind₂ : kind (word packed 2) ≡ 2
  pub kind₃ : kind (word packed 3) ≡ 3
  pub kind₄ : kind (word packed 4) ≡ 3
  pub outside₃ : field (word packed 3) 29 27 ≡ 0
  pub outside₄ : field (word packed 4) 29 27 ≡ 0

pub whole : (packed : List ℕ) → words_broken packed ≡ false → Whole packed
unfolding words_broken
whole packed b =
    let k₀ = eqb (kind (word packed 0)) 1 in
    let k₁ = eqb (kind (word packed 1)) 2 in
    let k₂ = eqb (kind (word packed 2)) 2 in
    let k₃ = eqb (kind (word packed 3)) 3 in
    let k₄ = eqb (kind (word packed 4)) 3 in
    let o₃ = eqb (field (word packed 3) 29 27) 0 in
    let o₄ = eqb (field (word packed 4) 29 27) 0 in
    let k : (k₀ && k₁ && k₂ && k₃ && k₄) ≡ true = not-false _ (neither_left (wrong_kind packed) (outside_bit packed) b) in
    let o : (o₃ && o₄) ≡ true = not-false _ (neither_right (wrong_kind packed) (outside_bit packed) b) in
    let j₃ = both_left (k₀ && k₁ && k₂ && k₃) k₄ k in
    let j₂ = both_left (k₀ && k₁ && k₂) k₃ j₃ in
    let j₁ = both_left (k₀ && k₁) k₂ j₂ in
    record {
      kind₀ = eqb-true _ _ (both_left k₀ k₁ j₁);
      kind₁ = eqb-true _ _ (both_right k₀ k₁ j₁);
      kind₂ = eqb-true _ _ (both_right (k₀ && k₁) k₂ j₂);
      kind₃ = eqb-true _ _ (both_right (k₀ && k₁ && k₂) k₃ j₃);
      kind₄ = eqb-true _ _ (both_right (k₀ && k₁ && k₂ && k₃) k₄ k);
      outside₃ = eqb-true _ _ (both_left o₃ o₄ o);
      outside₄ = eqb-true _ _ (both_right o₃ o₄ o);
    }

pub not_broken : (packed : List ℕ) → Whole packed → words_broken packed ≡ false
unfolding words_broken
not_broken packed w =
    simp (eq-eqb _ _ w.kind₀, eq-eqb _ _ w.kind₁, eq-eqb _ _ w.kind₂, eq-eqb _ _ w.kind₃, eq-eqb _ _ w.kind₄, eq-eqb _ _ w.outside₃, eq-eqb _ _ w.outside₄)

pub broken : (packed : List ℕ) → (Whole packed → ⊥) → words_broken packed ≡ true
broken packed h = ⊎_elim (λ (t : words_broken packed ≡ true). t) (λ (f : words_broken packed ≡ false). absurd (h (whole packed f))) (tested (words_broken packed))

pub encode_decode : (packed : List ℕ) (end : ℕ) → length packed ≡ 5 → words_broken packed ≡ false → encode (decode packed end) ≡ packed
unfolding encode decode
encode_decode packed end h b =
    let w = whole packed b in
    let free = end - start_in packed - sum (listed_in packed) in
    let l : (k : ℕ) → k < 7 → listed_at (decode packed end) k ≡ get_or (listed_in packed) k 0 = λ k g. listed_beside (flag_in packed) free k (listed_in packed) g in
    let e₀ = ap (start_word (start_in packed) (flag_in packed)) (l 0 (omega arith)) ∙ start_word_lem (word packed 0) w.kind₀ in
    let e₁ = class_word_lem (word packed 1) w.kind₁ in
    let e₂ = total_word_lem (word packed 2) w.kind₂ in
    let l₁ = l 1 (omega arith) in
    let l₂ = l 2 (omega arith) in
    let l₃ = l 3 (omega arith) in
    let l₄ = l 4 (omega arith) in
    let l₅ = l 5 (omega arith) in
    let l₆ = l 6 (omega arith) in
    let e₃ = (λ i. width_word (l₁ i) (l₂ i) (l₃ i)) ∙ width_word_lem (word packed 3) w.kind₃ w.outside₃ in
    let e₄ = (λ i. width_word (l₄ i) (l₅ i) (l₆ i)) ∙ width_word_lem (word packed 4) w.kind₄ w.outside₄ in
    (λ i. e₀ i ∷ e₁ i ∷ e₂ i ∷ e₃ i ∷ e₄ i ∷ []) ∙ sym (by_elements 5 packed h)

pub encoded : (r : Bucket) → words_broken (encode r) ≡ false
unfolding encode
encoded r =
    let b = bit_lt r.flag in
    not_broken (encode r)
    (record { kind₀ = omega arith; kind₁ = omega arith; kind₂ = omega arith; kind₃ = omega arith; kind₄ = omega arith; outside₃ = omega arith; outside₄ = omega arith })

-- ---- what was decoded is in range

-- each element is at most m
abbrev Most : ℕ → List ℕ → Type 0
Most m [] = Unit
Most m (x ∷ xs) = (x ≤ m) × Most m xs

most_at : (m : ℕ) (xs : List ℕ) → Most m xs → (k : ℕ) → get_or xs k 0 ≤ m
most_at m [] a k = omega arith
most_at m (x ∷ xs) a zero = a.0
most_at m (x ∷ xs) a (suc k) = most_at m xs a.1 k

listed_most : (packed : List ℕ) → Most max_listed (listed_in packed)
listed_most packed = (omega arith, (omega arith, (omega arith, (omega arith, (omega arith, (omega arith, (omega arith, tt)))))))

pub listed_bits : (packed l : List ℕ) → l ≡ listed_in packed → (k : ℕ) → get_or l k 0 ≤ max_listed
listed_bits packed l e k = subst (λ (m : List ℕ). get_or m k 0 ≤ max_listed) (sym e) (most_at max_listed (listed_in packed) (listed_most packed) k)

classes_most : (packed : List ℕ) → Most 63 (classes_in packed)
classes_most packed = (omega arith, (omega arith, (omega arith, (omega arith, (omega arith, (omega arith, (omega arith, (omega arith, tt))))))))

length_with_free : (f : Bool) (free : ℕ) (l : List ℕ) → length (with_free f free l) ≡ suc (length l)
length_with_free true free l = length-append l (free ∷ []) ∙ (omega arith)
length_with_free false free l = refl

pub class_bits_lem : (packed : List ℕ) (end k : ℕ) → class_at (decode packed end) k < 2 ^ 6
unfolding decode
class_bits_lem packed end k = omega (arith, most_at 63 (classes_in packed) (classes_most packed) k)

pub decoded : (packed : List ℕ) (end : ℕ) → start_in packed + sum (listed_in packed) ≤ end → InRange (decode packed end) end
unfolding decode
decoded packed end h =
    let free = end - start_in packed - sum (listed_in packed) in
    record {
      eight_widths = length_with_free (flag_in packed) free (listed_in packed);
      eight_classes = refl;
      start_bits = omega arith;
      listed_bits = λ k g. rw (listed_beside (flag_in packed) free k (listed_in packed) g) (listed_bits packed (listed_in packed) refl k);
      class_bits_lem = λ k g. class_bits_lem packed end k;
      total_bits = omega arith;
      ends = omega (arith, sum_with_free (flag_in packed) free (listed_in packed));
    }

pub decoded_sum : (packed : List ℕ) (end : ℕ) → start_in packed + sum (listed_in packed) ≤ end → sum (decode packed end).widths ≡ end - start_in packed
unfolding decode
decoded_sum packed end h = let e = sum_with_free (flag_in packed) (end - start_in packed - sum (listed_in packed)) (listed_in packed) in omega arith

most_up : (m n : ℕ) (xs : List ℕ) → m ≤ n → Most m xs → Most n xs
most_up m n [] h a = tt
most_up m n (x ∷ xs) h a = (omega (arith, a.0), most_up m n xs h a.1)

most_after : (m : ℕ) (xs : List ℕ) (x : ℕ) → Most m xs → x ≤ m → Most m (xs ++ (x ∷ []))
most_after m [] x a h = (h, tt)
most_after m (y ∷ xs) x a h = (a.0, most_after m xs x a.1 h)

most_with_free : (m : ℕ) (f : Bool) (free : ℕ) (l : List ℕ) → Most m l → free ≤ m → Most m (with_free f free l)
most_with_free m true free l a h = most_after m l free a h
most_with_free m false free l a h = (h, a)

-- a width is listed or the free one
pub decoded_width : (packed : List ℕ) (end m : ℕ) → max_listed ≤ m → end - start_in packed - sum (listed_in packed) ≤ m → (k : ℕ) → width_at (decode packed end) k ≤ m
unfolding decode
decoded_width packed end m h f k =
    most_at m (decode packed end).widths (most_with_free m (flag_in packed) _ (listed_in packed) (most_up max_listed m (listed_in packed) h (listed_most packed)) f) k
