-- Laws of bytes that stand in an array (specs/Private/Held.antt): a number is put after those that stand there.
-- Assumes nothing.
use mathlib.Core.Path.{◌≡◌, refl, sym, ap, ◌∙◌}
use mathlib.Core.List.{List, ◌++◌}
use Prim.Native.Nat.{ℕ, ◌+◌, ◌-◌, ◌^◌, ◌≤◌, ◌<◌}
use native.Mathlib.Omega.{arith}
use borrow.Rule.Slice.PartMut.{mid_of, put_mid, mid_len, same_len_mid}
use lib.ListN.{length, take, drop, length-append}
use lib.Seq.{length-take-le, drop-drop, drop_at}
use Rattle.std.proofs.lemmas.Slice.{take-put_mid, drop-put_mid}
use Rattle.laws.specs.Padded.{zeros}
use Rattle.laws.proofs.PaddedLaws.{drop_zeros, is_padded}
use Rattle.sheet_rules.specs.Limits.{max_digits, line_bytes}
use Rattle.sheet_rules.specs.Text.{digits, decimal, places}
use Rattle.sheet_rules.proofs.TextLaws.{digits_length, decimal_length}
use Rattle.sheet_lines.specs.Private.Held.{Held}
use Rattle.sheet_lines.proofs.DigitLaws.{places_32}

held_rest : (bytes : List ℕ) (n : ℕ) → Held bytes n → drop n bytes ≡ zeros (line_bytes - n)
held_rest bytes n h =
    ap (drop n) (sym h.all) ∙ drop_at (take n bytes) (zeros (line_bytes - length (take n bytes))) n h.front ∙ ap (λ (k : ℕ). zeros (line_bytes - k)) h.front

module _ (now bytes : List ℕ) (len count n : ℕ) (held : Held bytes len) (all : length bytes ≡ line_bytes) (view : take len bytes ≡ now)
    (room : length now + max_digits ≤ line_bytes) (fits : n < 2 ^ 32) (counted : count ≡ places n) where
  pub ends : len + count ≤ line_bytes
  ends = omega (arith, held.front, ap length view, counted, places_32 n fits)

  module _ (text : List ℕ) (put : text ≡ digits (length (mid_of len (len + count - len) bytes)) n) where
    abbrev next : List ℕ
    next = put_mid len (len + count - len) bytes text

    part_long : length (mid_of len (len + count - len) bytes) ≡ count
    part_long = let long = mid_len len (len + count) bytes (omega (arith, ends, all)) in omega (arith, long)

    text_is : text ≡ decimal n
    text_is = put ∙ ap (λ (k : ℕ). digits k n) (part_long ∙ counted)

    text_long : length text ≡ count
    text_long = ap length put ∙ digits_length (length (mid_of len (len + count - len) bytes)) n ∙ part_long

    front : take (len + count) next ≡ take len bytes ++ text
    front = take-put_mid len (len + count - len) bytes text (len + count) (omega (arith, text_long)) (omega (arith, all, ends))

    rest : drop (len + count) next ≡ zeros (line_bytes - (len + count))
    rest =
        drop-put_mid len (len + count - len) bytes text (len + count) (omega arith) (omega (arith, all, ends)) (omega (arith, text_long))
        ∙ sym (drop-drop count len bytes)
        ∙ ap (drop count) (held_rest bytes len held)
        ∙ drop_zeros count (line_bytes - len)
        ∙ ap zeros (omega arith)

    pub number_held : Held next (len + count)
    number_held =
        let long : length next ≡ line_bytes = same_len_mid len (len + count - len) bytes text (text_long ∙ sym part_long) ∙ all in
        let counted_all : length (take (len + count) next) ≡ len + count = length-take-le (len + count) next (omega (arith, long, ends)) in
        record { front = counted_all; all = sym (is_padded line_bytes (len + count) next (take (len + count) next) refl counted_all rest) }

    pub number_put : take (len + count) next ≡ now ++ decimal n
    number_put = front ∙ (λ i. view i ++ text_is i)

    pub number_short : length (take (len + count) next) ≤ length now + max_digits
    number_short = omega (arith, ap length number_put, length-append now (decimal n), decimal_length n, places_32 n fits)
