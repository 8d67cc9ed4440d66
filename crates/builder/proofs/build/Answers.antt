-- `builder::build` meets its contract: the histogram stands before what is left of the lent words.
-- Assumes nothing.
use mathlib.Core.Path.{◌≡◌, sym, ap, subst, ◌∙◌}
use mathlib.Core.List.{List, ◌++◌}
use Prim.Native.Nat.{ℕ, ◌≤◌}
use native.Mathlib.Omega.{arith}
use lib.ListN.{length, take, drop}
use Rattle.laws.specs.Refusal.{refusal}
use Rattle.laws.specs.Reply.{answered}
use Rattle.list_rules.specs.declared.Quality.{Quality}
use Rattle.list_rules.specs.Quality.{input_sentences, quality}
use Rattle.build_rules.specs.Building.{build_reply, written}
use Rattle.build_rules.proofs.BuildingLaws.{answered_by}
use Rattle.builder.specs.Private.Filling.{Whole}
use Rattle.builder.proofs.EarlyLaws.{refused_input_written}
use Rattle.builder.proofs.build.Goals as goal

module _ (fs : List ℕ) (theta qn qd : ℕ) (passed : 0 ≡ refusal (input_sentences fs theta qn qd)) (read : List ℕ) (q : Quality) (is : (read ≡ fs) × (q ≡ quality theta qn qd)) where
  answers : (old words first : List ℕ) (n : ℕ) → Whole read q words n → first ≡ take n words → n ≤ length old
      → (answered n ≡ build_reply fs theta qn qd (length old)) × (first ++ drop n old ≡ written fs theta qn qd old)
  answers old words first n h f l =
      let w : Whole fs (quality theta qn qd) words n =
      subst (λ (xs : List ℕ). Whole xs (quality theta qn qd) words n) is.0 (subst (λ (q : Quality). Whole read q words n) is.1 h) in
      let r = answered_by fs theta qn qd old (sym passed) n words w.count w.front l in
      (r.0, ap (λ (x : List ℕ). x ++ drop n old) f ∙ r.1)

pub returns-in_err-input-clause-out_after : goal.returns-in_err-input-clause-out_after
returns-in_err-input-clause-out_after c = sym (refused_input_written _ _ _ _ _ _ c.in_err-input.ensures.fault)

pub put_words-n-requires : goal.put_words-n-requires
put_words-n-requires c = omega arith

pub returns-clause-reply : goal.returns-clause-reply
returns-clause-reply c =
    let i = c.in_ok-input in
    (answers c.args.freqs.now c.args.theta c.args.qn c.args.qd i.ensures.fault i.input.freqs.now i.input.q i.ensures.input c.args.out.now c.put_words-n.new.words
    c.copy_from_slice.new.self c.put_words-n.result c.put_words-n.ensures c.copy_from_slice.ensures.after (omega arith)).0

pub returns-clause-out_after : goal.returns-clause-out_after
returns-clause-out_after c =
    let i = c.in_ok-input in
    (answers c.args.freqs.now c.args.theta c.args.qn c.args.qd i.ensures.fault i.input.freqs.now i.input.q i.ensures.input c.args.out.now c.put_words-n.new.words
    c.copy_from_slice.new.self c.put_words-n.result c.put_words-n.ensures c.copy_from_slice.ensures.after (omega arith)).1
