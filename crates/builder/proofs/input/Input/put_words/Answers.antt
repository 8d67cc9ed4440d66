-- `builder::input::Input::put_words` meets its contract: the head words go before the buckets that are written.
-- Assumes nothing.
use mathlib.Core.Path.{ap, ◌∙◌}
use native.Mathlib.Omega.{arith}
use mathlib.Core.List.{List, ◌++◌}
use Prim.Native.Nat.{ℕ}
use lib.ListN.{drop}
use Rattle.words_rules.specs.Words.{head_words}
use Rattle.builder.proofs.FillLaws.{whole}
use Rattle.builder.proofs.input.Input.put_words.Goals as goal

pub returns : goal.returns
returns c =
    let b = c.put_buckets-b in
    whole c.args.self.now.freqs.now c.args.self.now.q c.args.words.now b.new.words _ b.result _ (omega (arith, c.requires)) b.auto.words
    (ap (λ (x : List ℕ). x ++ drop head_words b.new.words) (c.copy_from_slice.ensures.after ∙ c.encode_head-packed.ensures)) (omega arith) b.ensures
