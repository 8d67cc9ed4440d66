-- The bucket and the bucketlet of an entry (specs/Claims.antt, `Entries` and `Finds`). Ends rise, and what is not below one end lies from
-- the next start on, so the first end above an entry belongs to the one span that holds it.
-- Assumes nothing.
use mathlib.Core.Path.{◌≡◌, refl, sym, ap, subst, ◌∙◌}
use mathlib.Core.Bool.{Bool, true, false, cond}
use mathlib.Core.List.{List, [], ◌∷◌}
use Prim.Native.Nat.{ℕ, zero, suc, ◌+◌, ◌-◌, ◌≤◌, ◌<◌}
use native.Mathlib.Nat.{le_trans}
use native.Mathlib.Omega.{arith}
use borrow.Author.Tests.{ltb-true, ltb-false, lt-ltb, le-ltb, le-leb, leb-true, lt-leb, leb-false, eqb-true, eqb-false, eq-eqb, ne_eqb}
use lib.Dec.{leb, ltb, eqb}
use lib.ListN.{length, get_or, take, drop, length-take, length-drop}
use lib.Seq.{get_or-take, get_or-drop}
use Rattle.laws.specs.Refusal.{refusal}
use Rattle.laws.specs.Reply.{Reply, answered, refused}
use Rattle.laws.specs.Sums.{prefix_sum}
use Rattle.laws.proofs.ReplyLaws.{reply_refused, reply_answered}
use Rattle.laws.proofs.RefusalLaws.{numbered, refusal_append}
use Rattle.laws.proofs.SearchLaws.{first_is, first_eq, halved_is}
use Rattle.laws.proofs.SumsLaws.{prefix_suc, prefix_mono, prefix_all}
use Rattle.laws.proofs.TabulateLaws.{by_elements}
use Rattle.laws.proofs.Tests.{true_not_false}
use Rattle.words_rules.specs.declared.Bucket.{Bucket}
use Rattle.words_rules.specs.Words.{word, place, entries, buckets, packed_at, start, end, bucket_words}
use Rattle.words_rules.specs.Decoded.{decode, bucket_at, bucketlet_start, bucketlet_end, width_at}
use Rattle.words_rules.specs.Reading.{read_sentences, read_fault, Readable}
use Rattle.words_rules.specs.Finding.{entry_fault, find_fault, bucket_of, bucket_by_halving, find_reply, found, bucketlet_of}
use Rattle.words_rules.specs.Claims.{InBucket, InBucketlet, Entries, Finds}
use Rattle.words_rules.proofs.StartLaws.{tiles, starts_mono, end_next, end_last}
use Rattle.words_rules.proofs.ReadingLaws.{NoFault, no_fault, limits, starts_in, holds}

-- a bucketlet ends after its width
pub bucketlet_end_lem : (r : Bucket) (k : ℕ) → bucketlet_end r k ≡ bucketlet_start r k + width_at r k
bucketlet_end_lem r k = omega (arith, prefix_suc k r.widths)

module _ (ws : List ℕ) (f : NoFault ws) where
  pub has_bucket : (e : ℕ) → e < entries ws → InBucket ws e (bucket_of ws e)
  unfolding bucket_of
  has_bucket e h =
      let s = first_is (λ b. ltb e (end ws b)) (buckets ws) 0 in
      let t = tiles ws (starts_in ws f) in
      let n = (limits ws f).some_buckets in
      let b = bucket_of ws e in
      let last : ltb e (end ws (buckets ws - 1)) ≡ true = lt-ltb _ _ (subst (λ (x : ℕ). e < x) (sym t.last_end) h) in
      let past : buckets ws ≤ b → ⊥ = λ l. true_not_false last (s.before (buckets ws - 1) (omega arith) (omega arith)) in
      let is : b < buckets ws = omega arith in
      record {
        is_bucket = is;
        from = from b is (λ m l. ltb-false _ _ (s.before m (omega arith) l));
        before = ltb-true _ _ (s.passes (omega arith));
      }
    where
      from : (b : ℕ) → b < buckets ws → ((m : ℕ) → m < b → end ws m ≤ e) → start ws b ≤ e
      from zero g p = subst (λ (x : ℕ). x ≤ e) (sym (tiles ws (starts_in ws f)).first_start) (omega arith)
      from (suc b) g p =
          let k : suc b ≡ b + 1 = omega arith in
          subst (λ (x : ℕ). x ≤ e) (end_next ws b (omega arith) ∙ ap (start ws) (sym k)) (p b (omega arith))

  pub one_bucket_lem : (e b : ℕ) → InBucket ws e b → bucket_of ws e ≡ b
  unfolding bucket_of
  one_bucket_lem e b i =
      first_eq (λ b. ltb e (end ws b)) (buckets ws) 0 b (omega arith) (omega (arith, i.is_bucket))
      (λ m _ l.
      let n = end_next ws m (omega (arith, i.is_bucket)) in
      let s : start ws (m + 1) ≤ start ws b = starts_mono ws (starts_in ws f) (m + 1) b (omega arith) i.is_bucket in
      le-ltb e (end ws m) (subst (λ (x : ℕ). x ≤ e) (sym n) (le_trans s i.from)))
      (lt-ltb _ _ i.before)

  -- halving ends where a bucket starts at or before the entry and the next, if there is one, after it
  pub by_halving : (e : ℕ) → e < entries ws → bucket_by_halving ws e ≡ bucket_of ws e
  unfolding bucket_by_halving
  by_halving e h =
      let n = buckets ws in
      let first = (starts_in ws f).first in
      let s = halved_is (λ b. leb (start ws b) e) n 0 n (omega arith) (limits ws f).some_buckets (le-leb (start ws 0) e (omega arith)) in
      sym (one_bucket_lem e (bucket_by_halving ws e) (record { is_bucket = s.before; from = leb-true _ _ s.passes; before = before (bucket_by_halving ws e) (λ l. leb-false _ _ (s.next l)) }))
    where
      before : (b : ℕ) → (b + 1 < buckets ws → e < start ws (b + 1)) → e < end ws b
      before b p = go (ltb (b + 1) (buckets ws)) refl
        where
          go : (t : Bool) → ltb (b + 1) (buckets ws) ≡ t → e < end ws b
          go true q = let l = ltb-true (b + 1) (buckets ws) q in subst (λ (x : ℕ). e < x) (sym (end_next ws b l)) (p l)
          go false q = subst (λ (x : ℕ). e < x) (sym (end_last ws b (ltb-false (b + 1) (buckets ws) q))) h

-- of any bucket: an entry lies in at most one bucketlet, which is not empty
pub one_bucketlet : (r : Bucket) (e k : ℕ) → InBucketlet r e k → bucketlet_of r e ≡ k
unfolding bucketlet_of
one_bucketlet r e k i =
    first_eq (λ k. ltb e (bucketlet_end r k)) 8 0 k (omega arith) (omega (arith, i.is_bucketlet))
    (λ m _ l. le-ltb e (bucketlet_end r m) (omega (arith, prefix_mono (suc m) k r.widths l, i.from)))
    (lt-ltb _ _ i.before)

pub not_empty : (r : Bucket) (e k : ℕ) → InBucketlet r e k → 0 < width_at r k
not_empty r e k i = omega (arith, prefix_suc k r.widths, i.from, i.before)

pub has_bucketlet : (r : Bucket) (e : ℕ) → length r.widths ≡ 8 → r.start ≤ e → e < r.start + prefix_sum 8 r.widths → InBucketlet r e (bucketlet_of r e)
unfolding bucketlet_of
has_bucketlet r e n g h =
    let s = first_is (λ k. ltb e (bucketlet_end r k)) 8 0 in
    let k = bucketlet_of r e in
    let last : ltb e (bucketlet_end r 7) ≡ true = lt-ltb e (bucketlet_end r 7) h in
    let past : 8 ≤ k → ⊥ = λ l. true_not_false last (s.before 7 (omega arith) (omega arith)) in
    record {
      is_bucketlet = omega arith;
      from = from k (λ m l. ltb-false _ _ (s.before m (omega arith) l));
      before = ltb-true _ _ (s.passes (omega arith));
    }
  where
    from : (k : ℕ) → ((m : ℕ) → m < k → bucketlet_end r m ≤ e) → bucketlet_start r k ≤ e
    from zero p = omega arith
    from (suc k) p = p k (omega arith)

module _ (ws : List ℕ) (f : NoFault ws) where
  bucketlet_in : (e b : ℕ) → InBucket ws e b → InBucketlet (bucket_at ws b) e (bucketlet_of (bucket_at ws b) e)
  unfolding decode
  bucketlet_in e b i =
      let r = bucket_at ws b in
      let h = holds ws f b i.is_bucket in
      has_bucketlet r e h.in_range.eight_widths i.from
      (omega (arith, h.in_range.ends, prefix_all 8 r.widths (omega (arith, h.in_range.eight_widths)), i.before))

  pub entries_in : Entries ws
  entries_in =
      record {
        has_bucket = has_bucket ws f;
        one_bucket_lem = one_bucket_lem ws f;
        halved = by_halving ws f;
        has_bucketlet = bucketlet_in;
        one_bucketlet = λ e b k. one_bucketlet (bucket_at ws b) e k;
        not_empty = λ e b k. not_empty (bucket_at ws b) e k;
      }

-- the part that begins at bucket b
pub part_packed : (ws : List ℕ) (b : ℕ) → place b 0 + bucket_words ≤ length ws → take bucket_words (drop (place b 0) ws) ≡ packed_at ws b
part_packed ws b h =
    let p = take bucket_words (drop (place b 0) ws) in
    let at : (i : ℕ) → i < bucket_words → get_or p i 0 ≡ word ws (place b i) =
    λ i l. get_or-take bucket_words (drop (place b 0) ws) i 0 l ∙ get_or-drop (place b 0) ws i 0 ∙ ap (word ws) (omega arith) in
    let e₀ = at 0 (omega arith) in
    let e₁ = at 1 (omega arith) in
    let e₂ = at 2 (omega arith) in
    let e₃ = at 3 (omega arith) in
    let e₄ = at 4 (omega arith) in
    by_elements bucket_words p (simp (length-take, length-drop) (omega arith)) ∙ (λ i. e₀ i ∷ e₁ i ∷ e₂ i ∷ e₃ i ∷ e₄ i ∷ [])

-- the finder's number: that of the list, and then 15 where the entry is not below d
pub find_fault_is : (ws : List ℕ) (e : ℕ) → find_fault ws e ≡ cond (eqb (read_fault ws) 0) (cond (entry_fault ws e) 15 0) (read_fault ws)
unfolding numbered refusal
find_fault_is ws e = refusal_append (read_sentences ws) (record { number = 15; holds = entry_fault ws e } ∷ []) refl

module _ (ws : List ℕ) (e : ℕ) where
  pub fault_of_list : (read_fault ws ≡ 0 → ⊥) → find_fault ws e ≡ read_fault ws
  fault_of_list n = find_fault_is ws e ∙ ap (λ (t : Bool). cond t (cond (entry_fault ws e) 15 0) (read_fault ws)) (ne_eqb (read_fault ws) 0 n)

  pub fault_of_entry : Readable ws → find_fault ws e ≡ cond (entry_fault ws e) 15 0
  fault_of_entry r = find_fault_is ws e ∙ ap (λ (t : Bool). cond t (cond (entry_fault ws e) 15 0) (read_fault ws)) (eq-eqb (read_fault ws) 0 r)

  pub no_find_fault : Readable ws → e < entries ws → find_fault ws e ≡ 0
  no_find_fault r h = fault_of_entry r ∙ ap (λ (t : Bool). cond t 15 0) (lt-leb (entries ws) e h)

  -- and where it is 0 there is no fault
  pub found_readable : find_fault ws e ≡ 0 → Readable ws
  found_readable f = go (eqb (read_fault ws) 0) refl
    where
      go : (t : Bool) → eqb (read_fault ws) 0 ≡ t → Readable ws
      go true q = eqb-true (read_fault ws) 0 q
      go false q = sym (fault_of_list (eqb-false (read_fault ws) 0 q)) ∙ f

  pub found_below : find_fault ws e ≡ 0 → e < entries ws
  found_below f = go (entry_fault ws e) refl
    where
      go : (t : Bool) → entry_fault ws e ≡ t → e < entries ws
      go true q = absurd (let z : 15 ≡ 0 = sym (fault_of_entry (found_readable f) ∙ ap (λ (t : Bool). cond t 15 0) q) ∙ f in omega arith)
      go false q = leb-false (entries ws) e q

module _ (ws : List ℕ) (e : ℕ) where
  -- the reply by the fault, and the fault by the reply, since no bucket begins at 0
  pub place_refused : (n : ℕ) → (find_fault ws e ≡ 0 → ⊥) → n ≡ find_fault ws e → refused n ≡ find_reply ws e
  unfolding find_reply
  place_refused n f p = reply_refused (find_fault ws e) (place (bucket_of ws e) 0) n p (λ z. f (sym p ∙ z))

  pub place_found : (at : ℕ) → find_fault ws e ≡ 0 → at ≡ place (bucket_of ws e) 0 → answered at ≡ find_reply ws e
  unfolding find_reply
  place_found at f p = ap answered p ∙ reply_answered (find_fault ws e) (place (bucket_of ws e) 0) f

  pub place_fault : (n : ℕ) → refused n ≡ find_reply ws e → find_fault ws e ≡ 0 → ⊥
  place_fault n r f = let v = ap (λ (x : Reply). x.value) (r ∙ sym (place_found _ f refl)) in omega arith

  pub place_no_fault : (at : ℕ) → answered at ≡ find_reply ws e → find_fault ws e ≡ 0
  place_no_fault at r = go (eqb (find_fault ws e) 0) refl
    where
      go : (t : Bool) → eqb (find_fault ws e) 0 ≡ t → find_fault ws e ≡ 0
      go true q = eqb-true (find_fault ws e) 0 q
      go false q = sym (ap (λ (x : Reply). x.refusal) (r ∙ sym (place_refused _ (eqb-false (find_fault ws e) 0 q) refl)))

  pub place_is : (at : ℕ) → answered at ≡ find_reply ws e → at ≡ place (bucket_of ws e) 0
  place_is at r = ap (λ (x : Reply). x.value) (r ∙ sym (place_found _ (place_no_fault at r) refl))

  pub found_none : (find_fault ws e ≡ 0 → ⊥) → found ws e ≡ []
  found_none n = simp (ne_eqb (find_fault ws e) 0 n)

  pub found_part : find_fault ws e ≡ 0 → found ws e ≡ take bucket_words (drop (place (bucket_of ws e) 0) ws)
  found_part f = simp (eq-eqb (find_fault ws e) 0 f)

-- the words of the entry's bucket lie within the list
pub bucket_within : (ws : List ℕ) (e : ℕ) → find_fault ws e ≡ 0 → place (bucket_of ws e) 0 + bucket_words ≤ length ws
bucket_within ws e f =
    let n = no_fault ws (found_readable ws e f) in
    omega (arith, (limits ws n).words, (has_bucket ws n e (found_below ws e f)).is_bucket)

pub finds : (ws : List ℕ) → Readable ws → Finds ws
finds ws r =
    record {
      no_fault = λ e h. no_find_fault ws e r h;
      packed = λ e h.
          let f = no_find_fault ws e r h in
          found_part ws e f ∙ part_packed ws (bucket_of ws e) (bucket_within ws e f);
    }
