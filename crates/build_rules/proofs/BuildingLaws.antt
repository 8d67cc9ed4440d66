-- What the builder answers and leaves, by the sentence that is true first.
-- Assumes nothing.
use mathlib.Core.Path.{◌≡◌, refl, sym, ap, ◌∙◌}
use mathlib.Core.List.{List, [], ◌∷◌, ◌++◌}
use Prim.Native.Nat.{ℕ, ◌≤◌, ◌<◌}
use native.Mathlib.Omega.{arith}
use borrow.Author.Tests.{lt-ltb, le-ltb}
use lib.Dec.{ltb}
use lib.ListN.{length, take, drop}
use Rattle.laws.specs.Refusal.{Sentence, refusal}
use Rattle.laws.specs.Reply.{answered, refused}
use Rattle.laws.proofs.RefusalLaws.{numbered, append_refused, append_passed, none_left}
use Rattle.laws.proofs.RefusalLaws as law
use Rattle.laws.proofs.ReplyLaws.{lent_refused, lent_answered}
use Rattle.build_rules.specs.Words.{words}
use Rattle.list_rules.specs.Quality.{quality, input_sentences}
use Rattle.build_rules.specs.Building.{build_fault, build_reply, written}

module _ (fs : List ℕ) (theta qn qd : ℕ) (old : List ℕ) where
  abbrev new : List ℕ
  new = words (quality theta qn qd) fs

  abbrev short : Sentence
  short = record { number = 6; holds = ltb (length old) (length new) }

  -- the answer and the words of a refused call
  pub refused_by : (f : ℕ) → f ≡ build_fault fs theta qn qd (length old) → (f ≡ 0 → ⊥)
      → (refused f ≡ build_reply fs theta qn qd (length old)) × (old ≡ written fs theta qn qd old)
  unfolding build_reply written
  refused_by f e n = lent_refused (build_fault fs theta qn qd (length old)) (length new) (new ++ drop (length new) old) old f e n

  -- an input that is refused
  pub input_fault : (refusal (input_sentences fs theta qn qd) ≡ 0 → ⊥) → refusal (input_sentences fs theta qn qd) ≡ build_fault fs theta qn qd (length old)
  unfolding build_fault numbered
  input_fault h = sym (append_refused (input_sentences fs theta qn qd) (short ∷ []) refl h)

  module _ (sound : refusal (input_sentences fs theta qn qd) ≡ 0) where
    -- too few words lent
    pub short_fault_lem : length old < length new → 6 ≡ build_fault fs theta qn qd (length old)
    unfolding build_fault numbered
    short_fault_lem h = sym (append_passed (input_sentences fs theta qn qd) (short ∷ []) refl sound ∙ law.refused short [] (lt-ltb (length old) (length new) h))

    no_fault : length new ≤ length old → build_fault fs theta qn qd (length old) ≡ 0
    unfolding build_fault numbered
    no_fault h = append_passed (input_sentences fs theta qn qd) (short ∷ []) refl sound ∙ law.passed short [] (le-ltb (length old) (length new) h) ∙ none_left

    -- the histogram is written
    pub answered_by : (n : ℕ) (made : List ℕ) → n ≡ length new → take n made ≡ new → n ≤ length old
        → (answered n ≡ build_reply fs theta qn qd (length old)) × (take n made ++ drop n old ≡ written fs theta qn qd old)
    unfolding build_reply written
    answered_by n made e d h =
        let r = lent_answered (build_fault fs theta qn qd (length old)) (length new) (new ++ drop (length new) old) old (no_fault (omega arith)) in
        (ap answered e ∙ r.0, ap (λ (ws : List ℕ). ws ++ drop n old) d ∙ ap (λ (k : ℕ). new ++ drop k old) e ∙ r.1)
