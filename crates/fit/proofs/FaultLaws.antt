-- The number that the checker refuses with (specs/Accepted.antt): that of the list, else that of the words, else 13 where the two do not match.
-- Assumes nothing.
use mathlib.Core.Path.{◌≡◌, refl, sym, ap, ◌∙◌}
use mathlib.Core.Bool.{not}
use mathlib.Core.List.{List, [], ◌∷◌, ◌++◌}
use Prim.Native.Nat.{ℕ}
use borrow.Author.Tests.{eq-eqb, ne_eqb, eqb-true, not-false}
use lib.ListN.{length}
use Rattle.laws.specs.Refusal.{Sentence, refusal}
use Rattle.laws.proofs.Tests.{not_holds}
use Rattle.laws.proofs.RefusalLaws.{numbered, refused, passed, none_left, none_true, append_refused, append_passed, append_first}
use Rattle.words_rules.specs.Words.{entries}
use Rattle.words_rules.specs.Reading.{read_sentences, read_fault, Readable}
use Rattle.list_rules.specs.Frequencies.{list_sentences, list_fault}
use Rattle.fit.specs.Accepted.{mismatch, check_fault}

-- neither the list nor the words have a fault, and they match
pub record Matching (fs ws : List ℕ) : Type 0 where
  pub listed : list_fault fs ≡ 0
  pub readable : Readable ws
  pub same_length : length fs ≡ entries ws

module _ (fs ws : List ℕ) where
  abbrev thirteen : Sentence
  thirteen = record { number = 13; holds = mismatch fs ws }

  pub fault_of_list : (list_fault fs ≡ 0 → ⊥) → check_fault fs ws ≡ list_fault fs
  unfolding numbered
  fault_of_list n =
      let e = append_refused (list_sentences fs) (read_sentences ws) refl n in
      append_refused (list_sentences fs ++ read_sentences ws) _ refl (λ z. n (sym e ∙ z)) ∙ e

  pub fault_of_words : list_fault fs ≡ 0 → (read_fault ws ≡ 0 → ⊥) → check_fault fs ws ≡ read_fault ws
  unfolding numbered
  fault_of_words l n =
      let e = append_passed (list_sentences fs) (read_sentences ws) refl l in
      append_refused (list_sentences fs ++ read_sentences ws) _ refl (λ z. n (sym e ∙ z)) ∙ e

  -- where both are without fault, 13 decides
  thirteen_left : list_fault fs ≡ 0 → Readable ws → check_fault fs ws ≡ refusal (thirteen ∷ [])
  unfolding numbered
  thirteen_left l r = append_passed (list_sentences fs ++ read_sentences ws) _ refl (append_passed (list_sentences fs) (read_sentences ws) refl l ∙ r)

  pub fault_of_length : list_fault fs ≡ 0 → Readable ws → (length fs ≡ entries ws → ⊥) → check_fault fs ws ≡ 13
  unfolding mismatch
  fault_of_length l r n = thirteen_left l r ∙ refused thirteen [] (not_holds _ (ne_eqb (length fs) (entries ws) n))

  pub no_fault : Matching fs ws → check_fault fs ws ≡ 0
  unfolding mismatch
  no_fault m = thirteen_left m.listed m.readable ∙ passed thirteen [] (ap not (eq-eqb (length fs) (entries ws) m.same_length)) ∙ none_left

  pub matching : check_fault fs ws ≡ 0 → Matching fs ws
  unfolding numbered mismatch
  matching e =
      let b = append_first (list_sentences fs ++ read_sentences ws) _ refl e in
      let l = append_first (list_sentences fs) (read_sentences ws) refl b in
      let r = sym (append_passed (list_sentences fs) (read_sentences ws) refl l) ∙ b in
      record {
        listed = l;
        readable = r;
        same_length = eqb-true _ _ (not-false _ (none_true (thirteen ∷ []) refl (sym (thirteen_left l r) ∙ e)).0);
      }
