-- The claims of specs/Claims.antt, from the laws beside this file. Assumes nothing.
use mathlib.Core.Path.{◌≡◌, refl, sym, ap, ◌∙◌}
use mathlib.Core.Bool.{Bool, true, false, cond, not}
use mathlib.Core.List.{List, []}
use Prim.Native.Nat.{ℕ, ◌≤◌, ◌<◌}
use native.Mathlib.Nat.{le_refl}
use native.Mathlib.Omega.{arith}
use borrow.Author.Tests.{le-ltb}
use lib.Dec.{eqb}
use lib.IntN.{ℤ, pos, nat_abs, ◌+ℤ◌}
use lib.ListN.{length, get_or}
use lib.Seq.{take-length}
use Rattle.laws.specs.Each.{each, some}
use Rattle.laws.specs.Reply.{answered, refused}
use Rattle.laws.specs.Sums.{sum}
use Rattle.laws.proofs.RefusalLaws.{numbered, none_true, passed, none_left}
use Rattle.laws.proofs.Tests.{is_true}
use Rattle.counts_rules.specs.Limit.{limit}
use Rattle.list_rules.specs.Limits.{entries_good}
use Rattle.list_rules.specs.Frequencies.{entries_fault, sum_fault, list_sentences, list_fault}
use Rattle.journal_rules.specs.Lines.{signed, unsigned, sumℤ, frequency_at, entry_at, change_at, after_lines, changes_of}
use Rattle.journal_rules.specs.Replaying.{lines_fault, outside_fault, breaks, bound_fault, replay_fault, after_all, replayed, replay_reply}
use Rattle.journal_rules.specs.Claims.{Afterwards, Journals}
use Rattle.journal_rules.proofs.SignedLaws.{signed_at, signed_sum, unsigned_signed}
use Rattle.journal_rules.proofs.LinesLaws.{after_none, after_frequency, after_summed, all_long, all_other, kept_limit}
use Rattle.journal_rules.proofs.BoundLaws.{kept_within, within_kept, small_change}
use Rattle.journal_rules.proofs.ReplayLaws.{list_refused, outside_refused, lines_refused, bound_refused, none_refused, kept_after, replay_sound, replay_lines, replay_inside, replay_kept, replay_refused, replay_answered, last_signed, many_lines, unequal_lines, same_lines}

-- a list as long as one that is sound, with a sum within the limit, is sound
sound_too : (fs gs : List ℕ) → list_fault fs ≡ 0 → length gs ≡ length fs → sum gs ≤ limit → list_fault gs ≡ 0
unfolding numbered entries_fault sum_fault
sound_too fs gs s e h =
    passed _ _ (ap (λ (n : ℕ). not (entries_good n)) e ∙ (none_true (list_sentences fs) refl s).0) ∙ passed _ _ (le-ltb limit (sum gs) h) ∙ none_left

module _ (fs es : List ℕ) (cs : List ℤ) (none : replay_fault fs es cs ≡ 0) where
  abbrev last : List ℤ
  last = after_lines (signed fs) es cs (length cs)

  kept : breaks last ≡ false
  kept = kept_after fs es cs (replay_sound fs es cs none) (replay_kept fs es cs none) (length cs) (le_refl (length cs))

  is_last : replayed fs es cs ≡ unsigned last
  is_last = sym (replay_answered fs es cs none).1

  each_moved : (e : ℕ) → e < length fs → pos (get_or (replayed fs es cs) e 0) ≡ pos (get_or fs e 0) +ℤ changes_of es cs e (length cs)
  each_moved e h =
      sym (signed_at (replayed fs es cs) e)
      ∙ ap (λ (zs : List ℤ). frequency_at zs e) (last_signed fs es cs none)
      ∙ after_frequency fs es cs (length cs) e h

  sum_moved : pos (sum (replayed fs es cs)) ≡ pos (sum fs) +ℤ sumℤ cs
  sum_moved =
      sym (signed_sum (replayed fs es cs))
      ∙ ap sumℤ (last_signed fs es cs none)
      ∙ after_summed fs es cs (same_lines es cs (replay_lines fs es cs none)) (replay_inside fs es cs none) (length cs) (le_refl (length cs))
      ∙ ap (λ (l : List ℤ). pos (sum fs) +ℤ sumℤ l) (take-length cs)

  same_length : length (replayed fs es cs) ≡ length fs
  same_length = ap length is_last ∙ all_long fs es cs

  pub replays : Afterwards fs es cs
  replays =
      record {
        each_moved = each_moved;
        sum_moved = sum_moved;
        same_length = same_length;
        sound = sound_too fs (replayed fs es cs) (replay_sound fs es cs none) same_length (rw is_last (kept_limit last kept));
        small_changes = small_change fs es cs (replay_lines fs es cs none) (replay_inside fs es cs none) (replay_sound fs es cs none) (replay_kept fs es cs none);
        sum_answered = sym (replay_answered fs es cs none).0 ∙ ap (λ (l : List ℕ). answered (sum l)) (replay_answered fs es cs none).1;
      }

-- a refusal's number is the reply's
refused_with_lem : (fs es : List ℕ) (cs : List ℤ) (n : ℕ) → (n ≡ 0 → ⊥) → replay_fault fs es cs ≡ n → replay_reply fs es cs ≡ refused n
refused_with_lem fs es cs n z e = sym (replay_refused fs es cs n (sym e) z).0

large_change : (fs es : List ℕ) (cs : List ℤ) → list_fault fs ≡ 0 → lines_fault es cs ≡ false → outside_fault fs es ≡ false
    → (i : ℕ) → i < length cs → limit < nat_abs (change_at cs i) → replay_reply fs es cs ≡ refused 27
large_change fs es cs sound lines inside i h l =
    refused_with_lem fs es cs 27 (λ z. omega arith)
    (bound_refused fs es cs sound lines inside (is_true _ (λ k. omega (arith, small_change fs es cs lines inside sound k i h))))

-- an entry of no line, whether the journal is refused or not
others_kept : (fs es : List ℕ) (cs : List ℤ) (e : ℕ) → ((i : ℕ) → i < length cs → entry_at es i ≡ e → ⊥) → get_or (replayed fs es cs) e 0 ≡ get_or fs e 0
unfolding replayed
others_kept fs es cs e h = go (eqb (replay_fault fs es cs) 0)
  where
    go : (t : Bool) → get_or (cond t (after_all fs es cs) fs) e 0 ≡ get_or fs e 0
    go true = all_other fs es cs e h
    go false = refl

-- no lines

none_after : (fs : List ℕ) → after_all fs [] [] ≡ fs
none_after fs = ap unsigned (after_none (signed fs) [] []) ∙ unsigned_signed fs

nothing_refused : (fs : List ℕ) → list_fault fs ≡ 0 → replay_fault fs [] [] ≡ 0
unfolding lines_fault outside_fault bound_fault some each
nothing_refused fs s = none_refused fs [] [] s refl refl refl

no_lines_list : (fs : List ℕ) → replayed fs [] [] ≡ fs
unfolding replayed
no_lines_list fs = go (eqb (replay_fault fs [] []) 0)
  where
    go : (t : Bool) → cond t (after_all fs [] []) fs ≡ fs
    go true = none_after fs
    go false = refl

pub journals : Journals
journals =
    record {
      replays = replays;
      unchanged = λ fs es cs h. sym (replay_refused fs es cs (replay_fault fs es cs) refl h).1;
      others_kept = others_kept;
      no_lines = λ fs s. sym (replay_answered fs [] [] (nothing_refused fs s)).0 ∙ ap (λ (l : List ℕ). answered (sum l)) (none_after fs);
      no_lines_list = no_lines_list;
      list_first = λ fs es cs h. refused_with_lem fs es cs (list_fault fs) h (list_refused fs es cs h);
      entry_first = λ fs es cs s l t. refused_with_lem fs es cs 26 (λ z. omega arith) (outside_refused fs es cs s l t);
      accepted_within = λ fs es cs none. kept_within fs es cs (replay_lines fs es cs none) (replay_inside fs es cs none) (replay_sound fs es cs none) (replay_kept fs es cs none);
      within_accepted = λ fs es cs s l i w. none_refused fs es cs s l i (within_kept fs es cs l i w);
      many_lines = λ fs es cs s h. refused_with_lem fs es cs 25 (λ z. omega arith) (lines_refused fs es cs s (many_lines es cs h));
      unequal_lists = λ fs es cs s h. refused_with_lem fs es cs 25 (λ z. omega arith) (lines_refused fs es cs s (unequal_lines es cs h));
      large_change = large_change;
    }
