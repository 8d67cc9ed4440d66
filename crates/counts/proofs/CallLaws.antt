-- What a caller learns of an answer where its argument is one that is answered: it is no refusal, and the value that it holds.
-- Assumes nothing.
use Rattle.std.proofs.Common.{◌≡◌, Bool, true, cond, ℕ, ◌≤◌, ap, sym, ◌∙◌}
use Rattle.std.specs.Prelude.{Result, Ok}
use borrow.Author.Tests.{le-leb}
use Rattle.laws.specs.Reply.{Reply, answered, refused}
use Rattle.refusals.specs.declared.Refusal.{Refusal}
use Rattle.refusals.specs.Answers.{reply_of}
use Rattle.refusals.proofs.Proved.{answers}
use Rattle.counts_rules.specs.Limit.{limit, countable}
use Rattle.counts_rules.specs.Form.{base, used_class}
use Rattle.counts_rules.specs.Class.{class_of, class_number}
use Rattle.counts_rules.specs.Total.{total_code, total_number, valid_code}
use Rattle.counts.specs.Reply.{class_reply, total_reply, class_meaning, total_meaning}

holds : (a : Result ℕ Refusal) (t : Bool) (v n : ℕ) → t ≡ true → reply_of a ≡ cond t (answered v) (refused n) → a ≡ Ok v
holds a t v n h e = answers.same_reply a (Ok v) (e ∙ ap (λ (t : Bool). cond t (answered v) (refused n)) h)

module _ (a : Result ℕ Refusal) (n : ℕ) where
  pub class_code : n ≤ limit → reply_of a ≡ class_reply n → a ≡ Ok (class_of base n)
  unfolding class_reply
  class_code l e = holds a (countable n) _ 16 (le-leb n limit l) e

  pub total_code_lem : n ≤ limit → reply_of a ≡ total_reply n → a ≡ Ok (total_code n)
  unfolding total_reply
  total_code_lem l e = holds a (countable n) _ 16 (le-leb n limit l) e

  pub class_number_lem : used_class n ≡ true → reply_of a ≡ class_meaning n → a ≡ Ok (class_number base n)
  unfolding class_meaning
  class_number_lem h e = holds a (used_class n) _ 17 h e

  pub total_number_lem : valid_code n ≡ true → reply_of a ≡ total_meaning n → a ≡ Ok (total_number n)
  unfolding total_meaning
  total_number_lem h e = holds a (valid_code n) _ 17 h e
