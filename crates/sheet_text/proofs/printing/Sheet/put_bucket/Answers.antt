-- `sheet_text::printing::Sheet::put_bucket` meets its contract: the total's code is valid, so that its number is read, and the bucketlets follow the
-- bucket's line. Assumes nothing.
use Rattle.std.proofs.Common.{arith, refl, ap, ◌≡◌, ◌∙◌, ◌<◌, List, ℕ, length, true}
use Rattle.std.specs.Prelude.{Result, Ok}
use mathlib.Core.Path.{subst, subst⁻¹}
use Rattle.counts_rules.specs.Total.{total_number, valid_code}
use Rattle.counts.proofs.CallLaws.{total_number_lem}
use Rattle.refusals.specs.declared.Refusal.{Refusal}
use Rattle.refusals.specs.Answers.{reply_of}
use Rattle.counts.specs.Reply.{total_meaning}
use Rattle.words_rules.specs.declared.Bucket.{Bucket}
use Rattle.words_rules.specs.Words.{buckets}
use Rattle.words_rules.specs.Decoded.{bucket_at}
use Rattle.words_rules.proofs.Proved.{histogram}
use Rattle.sheet_rules.specs.Private.Room.{Roomy, Printable}
use Rattle.sheet_rules.proofs.SheetLaws.{bucket_short, printable}
use Rattle.sheet_text.specs.Private.Printing.{Put}
use Rattle.sheet_text.proofs.PrintLaws.{put_both, bucket_text, bucket_line_lem, bucket_whole}
use Rattle.sheet_text.proofs.printing.Sheet.put_bucket.Goals as goal

-- the total's code is valid, so that the call answers with its number
known : (ws : List ℕ) (b : ℕ) (r : Bucket) → r ≡ bucket_at ws b → Roomy ws → b < buckets ws
    → (a : Result ℕ Refusal) → reply_of a ≡ total_meaning r.total → a ≡ Ok (total_number r.total)
known ws b r is roomy h a e =
    total_number_lem a r.total (subst⁻¹ (λ (x : Bucket). valid_code x.total ≡ true) is (histogram.holds ws roomy.readable b h).total_valid) e

pub unwrap-number-requires : goal.unwrap-number-requires
unwrap-number-requires c =
    rw (known _ _ _ c.bucket_at-bucket.ensures c.requires.0 c.requires.1 _ c.number_of_total.ensures) refl

pub put-requires : goal.put-requires
put-requires c =
    let ws = c.args.words.now in
    let r = c.bucket_at-bucket in
    let k = known _ _ _ r.ensures c.requires.0 c.requires.1 _ c.number_of_total.ensures in
    let d = c.unwrap-number.ensures in
    let number : c.unwrap-number.result ≡ total_number r.result.total = cc in
    let line = c.bucket_line.ensures ∙ bucket_line_lem ws c.args.b r.result r.ensures _ _ _ c.start_at.ensures c.end_at.ensures number in
    omega (arith, ap length line, (bucket_short ws c.requires.0 c.args.b c.requires.1).within, c.requires.2)

pub put_bucketlets-requires : goal.put_bucketlets-requires
put_bucketlets-requires c =
    let ws = c.args.words.now in
    let r = c.bucket_at-bucket in
    let k = known _ _ _ r.ensures c.requires.0 c.requires.1 _ c.number_of_total.ensures in
    let d = c.unwrap-number.ensures in
    let number : c.unwrap-number.result ≡ total_number r.result.total = cc in
    let line = c.bucket_line.ensures ∙ bucket_line_lem ws c.args.b r.result r.ensures _ _ _ c.start_at.ensures c.end_at.ensures number in
    let short = bucket_short ws c.requires.0 c.args.b c.requires.1 in (
      subst⁻¹ Printable r.ensures (printable ws c.requires.0 c.args.b c.requires.1),
      omega (arith, ap length line, short.within, c.requires.2, c.put.ensures.text.ends),
    )

pub returns-clause-text : goal.returns-clause-text
returns-clause-text c =
    let ws = c.args.words.now in
    let r = c.bucket_at-bucket in
    let k = known _ _ _ r.ensures c.requires.0 c.requires.1 _ c.number_of_total.ensures in
    let d = c.unwrap-number.ensures in
    let number : c.unwrap-number.result ≡ total_number r.result.total = cc in
    let line = c.bucket_line.ensures ∙ bucket_line_lem ws c.args.b r.result r.ensures _ _ _ c.start_at.ensures c.end_at.ensures number in
    let put = subst (Put c.args.self.now.out.now _ c.args.self.now.at _) line c.put.ensures.text in
    subst (Put c.args.self.now.out.now _ c.args.self.now.at _) (bucket_whole ws c.args.b r.result r.ensures) (put_both put c.put_bucketlets.ensures.text)
