-- Where nothing is refused, the entry's bucket stands where halving comes to, and its words lie within the list.
-- Assumes nothing.
use Rattle.std.proofs.Common.{◌≡◌, ℕ, ◌<◌, ◌+◌, ◌≤◌, List, [], length, take, drop, sym, ap, ◌∙◌, arith}
use Rattle.laws.specs.Reply.{Reply, answered}
use Rattle.refusals.proofs.NumberLaws.{numbered}
use Rattle.words_rules.specs.Words.{place, bucket_words}
use Rattle.words_rules.specs.Finding.{find_fault, find_reply, bucket_of, bucket_by_halving, found}
use Rattle.words_rules.proofs.Proved.{histogram}
use Rattle.words_rules.proofs.EntryLaws.{found_readable, found_below, found_part, found_none, place_found, place_refused, place_is, place_no_fault, bucket_within}

module _ (ws : List ℕ) (e : ℕ) where
  halved : find_fault ws e ≡ 0 → bucket_by_halving ws e ≡ bucket_of ws e
  halved f = (histogram.entries ws (found_readable ws e f)).halved e (found_below ws e f)

  pub halved_within : find_fault ws e ≡ 0 → place (bucket_by_halving ws e) 0 + bucket_words ≤ length ws
  halved_within f = omega (arith, halved f, bucket_within ws e f)

  pub halved_reply : find_fault ws e ≡ 0 → answered (place (bucket_by_halving ws e) 0) ≡ find_reply ws e
  halved_reply f = place_found ws e _ f (omega (arith, halved f))

  -- by the reply
  not_refused : (find_reply ws e).refusal ≡ 0 → find_fault ws e ≡ 0
  not_refused r = place_no_fault ws e _ (ap (λ (n : ℕ). record { refusal = n; value = (find_reply ws e).value }) {x = 0} (sym r))

  pub reply_within : (find_reply ws e).refusal ≡ 0 → (find_reply ws e).value + bucket_words ≤ length ws
  reply_within r =
      let f = not_refused r in
      omega (arith, ap (λ (x : Reply). x.value) (halved_reply f), halved_within f)

  pub reply_part : (n at : ℕ) → answered at ≡ find_reply ws e → n ≡ bucket_words → take n (drop at ws) ≡ found ws e
  reply_part n at r p =
      (λ i. take (p i) (drop (place_is ws e at r i) ws)) ∙ sym (found_part ws e (place_no_fault ws e at r))

  pub reply_none : 0 < (find_reply ws e).refusal → [] ≡ found ws e
  reply_none r = sym (found_none ws e (λ f. omega (arith, ap (λ (x : Reply). x.refusal) (halved_reply f))))

-- what `find_place` and `find` rest on
pub ruleset by_halving = (place_refused, halved_within, halved_reply)

pub ruleset by_reply = (numbered, reply_within, reply_part, reply_none)
