-- A head is good exactly where what it holds is within its limits (specs/Reading.antt, sentence 7), and packing and reading it undo one
-- another.
-- Assumes nothing.
use mathlib.Core.Path.{◌≡◌, sym, ap, ◌∙◌}
use mathlib.Core.Bool.{Bool, true, false, not, ◌&&◌, ◌||◌}
use mathlib.Core.List.{List, [], ◌∷◌}
use Prim.Native.Nat.{ℕ, ◌^◌, ◌≤◌, ◌<◌}
use native.Mathlib.Omega.{arith}
use borrow.Author.Tests.{ltb-true, ltb-false, lt-ltb, le-ltb, not-false}
use lib.Dec.{ltb}
use lib.ListN.{length}
use Rattle.laws.proofs.Tests.{both, both_left, both_right, neither_left, neither_right}
use Rattle.laws.proofs.TabulateLaws.{by_elements}
use Rattle.words_rules.specs.declared.Head.{Head}
use Rattle.laws.specs.Between.{between}
use Rattle.list_rules.specs.Limits.{entries_good, theta_good, q_good}
use Rattle.words_rules.specs.Words.{head_words, word, qn, qd, head_of, q_word, encode_head}
use Rattle.words_rules.specs.Reading.{head_good, head_fault}
use Rattle.words_rules.specs.Claims.{HeadInRange}

pub record GoodHead (h : Head) : Type 0 where
  pub entries : entries_good h.entries ≡ true
  pub theta : theta_good h.theta ≡ true
  pub q : q_good h.qn h.qd ≡ true
  pub buckets : between 1 h.entries h.buckets ≡ true

pub good_head : (h : Head) → head_good h ≡ true → GoodHead h
unfolding head_good
good_head h t =
    let d = entries_good h.entries in
    let e = theta_good h.theta in
    let q = q_good h.qn h.qd in
    let n = between 1 h.entries h.buckets in
    let deq = both_left (d && e && q) n t in
    let de = both_left (d && e) q deq in
    record { entries = both_left d e de; theta = both_right d e de; q = both_right (d && e) q deq; buckets = both_right (d && e && q) n t }

-- where the rest is good, by the number of buckets
pub by_buckets : (h : Head) → entries_good h.entries ≡ true → theta_good h.theta ≡ true → q_good h.qn h.qd ≡ true
    → head_good h ≡ between 1 h.entries h.buckets
unfolding head_good
by_buckets h d t q = ap (λ (x : Bool). x && between 1 h.entries h.buckets) (both _ _ (both _ _ d t) q)

pub record HeadWords (ws : List ℕ) : Type 0 where
  pub words : head_words ≤ length ws
  pub q_bits : word ws 2 < 2 ^ 20
  pub head : head_good (head_of ws) ≡ true

module _ (ws : List ℕ) where
  pub head_words_lem : head_fault ws ≡ false → HeadWords ws
  unfolding head_fault
  head_words_lem f =
      let a = ltb (length ws) head_words in
      let b = not (ltb (word ws 2) (2 ^ 20)) in
      let c = not (head_good (head_of ws)) in
      let ab = neither_left (a || b) c f in
      record {
        words = ltb-false _ _ (neither_left a b ab);
        q_bits = ltb-true _ _ (not-false _ (neither_right a b ab));
        head = not-false _ (neither_right (a || b) c f);
      }

  pub no_head_fault : HeadWords ws → head_fault ws ≡ false
  unfolding head_fault
  no_head_fault f = simp (le-ltb _ _ f.words, lt-ltb _ _ f.q_bits, f.head)

-- ---- a head comes back from its words, and they from it

pub head_back : (h : Head) → HeadInRange h → head_of (encode_head h) ≡ h
head_back h b =
    let n : qn (encode_head h) ≡ h.qn = omega (arith, b.qn_bits, b.qd_bits) in
    let d : qd (encode_head h) ≡ h.qd = omega (arith, b.qn_bits, b.qd_bits) in
    λ i. record { entries = h.entries; theta = h.theta; qn = n i; qd = d i; buckets = h.buckets }

pub head_again : (ws : List ℕ) → length ws ≡ head_words → word ws 2 < 2 ^ 20 → encode_head (head_of ws) ≡ ws
head_again ws e h =
    let q : q_word (qn ws) (qd ws) ≡ word ws 2 = omega arith in
    ap (λ (w : ℕ). word ws 0 ∷ word ws 1 ∷ w ∷ word ws 3 ∷ []) q ∙ sym (by_elements head_words ws e)
