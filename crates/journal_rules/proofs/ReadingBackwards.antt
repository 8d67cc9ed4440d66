-- The claims of backward journals (`ReadingBackwards` of specs/AddingUp.antt), by induction on the lines: a journal is its first line joined with the
-- others, and its backward journal is that of the others joined with that of the line.
-- Assumes nothing.
use mathlib.Core.Path.{◌≡◌, refl, sym, ap, ◌∙◌}
use mathlib.Core.Bool.{false}
use mathlib.Core.List.{List, [], ◌∷◌, map}
use Prim.Native.Nat.{ℕ, ◌<◌}
use native.Mathlib.Omega.{arith}
use lib.IntN.{ℤ, neg_ℤ}
use lib.ListN.{length, length-map, length-reverse}
use Rattle.laws.specs.Reply.{answered}
use Rattle.laws.specs.Sums.{sum}
use Rattle.laws.proofs.EachLaws.{each_all, some_none}
use Rattle.laws.proofs.Tests.{not_holds}
use Rattle.journal_rules.specs.Lines.{signed, unsigned, change_at, after_line, after_lines}
use Rattle.journal_rules.specs.Replaying.{lines_fault, outside_fault, breaks, breaks_after, bound_fault, replay_fault, replayed}
use Rattle.journal_rules.specs.Claims.{Afterwards}
use Rattle.journal_rules.specs.AddingUp.{Journal, fault_of, list_after, joined, in_turn_fault, EqualLists, Joinable, is_least, has_backward, backward, of32_bits, BroughtBack, ReadingBackwards}
use Rattle.journal_rules.proofs.SignedLaws.{signed_length, unsigned_signed}
use Rattle.journal_rules.proofs.LinesLaws.{inside_at, signed_kept}
use Rattle.journal_rules.proofs.ReplayLaws.{sum_within, outside_same, none_refused, replay_sound, replay_lines, replay_inside, replay_answered, last_signed, paired_lines, same_lines, few_lines}
use Rattle.journal_rules.proofs.BackwardLaws.{line_undone, small_in_32_bits, backward_in_32_bits, backward_joined, backward_twice, small_not_least}
use Rattle.journal_rules.proofs.Proved.{replays, journals}
use Rattle.journal_rules.proofs.Joining.{joined_accepted, both_accepted, first_accepted, second_accepted, same_list, in_turn}

-- what is shown of a journal line by line
record Back (fs : List ℕ) (j : Journal) : Type 0 where
  accepted : fault_of (list_after fs j) (backward j) ≡ 0
  old_list : list_after (list_after fs j) (backward j) ≡ fs

back_lengths : (j : Journal) → EqualLists j → EqualLists (backward j)
back_lengths j e = length-reverse j.entries ∙ e ∙ sym (length-map j.changes neg_ℤ) ∙ sym (length-reverse (map neg_ℤ j.changes))

back_joinable : (a b : Journal) → Joinable a b → Joinable (backward b) (backward a)
back_joinable a b j =
    record {
      first_equal = back_lengths b j.second_equal;
      second_equal = back_lengths a j.first_equal;
      within_limit = let h = j.within_limit in omega (arith, length-reverse a.entries, length-reverse b.entries);
    }

-- from what the second made back to what the first made, and then to the old list
back_joined : (fs : List ℕ) (a b : Journal) → Joinable a b → in_turn_fault fs a b ≡ 0 → Back fs a → Back (list_after fs a) b → Back fs (joined a b)
back_joined fs a b j none first second =
    record {
      accepted = (λ i. fault_of (end i) (way i)) ∙ joined_accepted last (backward b) (backward a) joinable turn;
      old_list =
          (λ i. list_after (end i) (way i))
          ∙ sym (same_list last (backward b) (backward a) joinable turn)
          ∙ ap (λ (l : List ℕ). list_after l (backward a)) second.old_list
          ∙ first.old_list;
    }
  where
    last : List ℕ
    last = list_after (list_after fs a) b

    end : list_after fs (joined a b) ≡ last
    end = sym (same_list fs a b j none)

    way : backward (joined a b) ≡ joined (backward b) (backward a)
    way = backward_joined a b

    joinable : Joinable (backward b) (backward a)
    joinable = back_joinable a b j

    turn : in_turn_fault last (backward b) (backward a) ≡ 0
    turn = in_turn last (list_after fs a) (backward b) (backward a) second.accepted second.old_list first.accepted

-- one line
line_back : (fs : List ℕ) (e : ℕ) (c : ℤ) → fault_of fs (record { entries = e ∷ []; changes = c ∷ [] }) ≡ 0
    → Back fs (record { entries = e ∷ []; changes = c ∷ [] })
unfolding after_lines bound_fault
line_back fs e c none = record { accepted = none_again; old_list = sym (replay_answered gs es back none_again).1 ∙ ap unsigned undone ∙ unsigned_signed fs }
  where
    es : List ℕ
    es = e ∷ []

    cs : List ℤ
    cs = c ∷ []

    back : List ℤ
    back = neg_ℤ c ∷ []

    gs : List ℕ
    gs = replayed fs es cs

    after : Afterwards fs es cs
    after = replays fs es cs none

    inside : outside_fault fs es ≡ false
    inside = replay_inside fs es cs none

    undone : after_lines (signed gs) es back 1 ≡ signed fs
    undone =
        ap (λ (zs : List ℤ). after_line zs e (neg_ℤ c)) (last_signed fs es cs none)
        ∙ line_undone (signed fs) e c (omega (arith, signed_length fs, inside_at fs es inside 0 (omega arith)))

    none_again : replay_fault gs es back ≡ 0
    none_again =
        none_refused gs es back after.sound (paired_lines es back (omega arith) refl) (outside_same fs gs es after.same_length ∙ inside)
        (some_none 1 (breaks_after gs es back)
        (λ i h. ap (λ (k : ℕ). breaks_after gs es back k) {x = i} {y = 0} (omega arith) ∙ ap breaks undone ∙ signed_kept fs (sum_within fs (replay_sound fs es cs none))))

-- no line
none_back : (fs : List ℕ) → fault_of fs (record { entries = []; changes = [] }) ≡ 0 → Back fs (record { entries = []; changes = [] })
none_back fs none =
    let same = journals.no_lines_list fs in
    record { accepted = ap (λ (l : List ℕ). replay_fault l [] []) same ∙ none; old_list = ap (λ (l : List ℕ). replayed l [] []) same ∙ same }

all_back : (es : List ℕ) (cs : List ℤ) (fs : List ℕ) → fault_of fs (record { entries = es; changes = cs }) ≡ 0 → Back fs (record { entries = es; changes = cs })
all_back [] [] fs none = none_back fs none
all_back [] (c ∷ cs) fs none = absurd (let e = same_lines [] (c ∷ cs) (replay_lines fs [] (c ∷ cs) none) in omega arith)
all_back (e ∷ es) [] fs none = absurd (let e = same_lines (e ∷ es) [] (replay_lines fs (e ∷ es) [] none) in omega arith)
all_back (e ∷ es) (c ∷ cs) fs none = step (all_back es cs)
  where
    first : Journal
    first = record { entries = e ∷ []; changes = c ∷ [] }

    rest : Journal
    rest = record { entries = es; changes = cs }

    lines : lines_fault (e ∷ es) (c ∷ cs) ≡ false
    lines = replay_lines fs (e ∷ es) (c ∷ cs) none

    joinable : Joinable first rest
    joinable =
        record {
          first_equal = refl;
          second_equal = let p = same_lines (e ∷ es) (c ∷ cs) lines in omega arith;
          within_limit = omega (arith, few_lines (e ∷ es) (c ∷ cs) lines);
        }

    turn : in_turn_fault fs first rest ≡ 0
    turn = both_accepted fs first rest joinable none

    step : ((gs : List ℕ) → fault_of gs rest ≡ 0 → Back gs rest) → Back fs (joined first rest)
    step back =
        back_joined fs first rest joinable turn (line_back fs e c (first_accepted fs first rest joinable turn)) (back (list_after fs first) (second_accepted fs first rest joinable turn))

never_least : (fs : List ℕ) (j : Journal) → fault_of fs j ≡ 0 → (i : ℕ) → i < length j.changes → is_least (change_at j.changes i) ≡ false
never_least fs j none i h = small_not_least (change_at j.changes i) ((replays fs j.entries j.changes none).small_changes i h)

brings_back : (fs : List ℕ) (j : Journal) → fault_of fs j ≡ 0 → BroughtBack fs j
unfolding has_backward of32_bits
brings_back fs j none =
    let back = all_back j.entries j.changes fs none in
    let small = (replays fs j.entries j.changes none).small_changes in
    let defined = each_all (length j.changes) _ (λ i h. not_holds _ (never_least fs j none i h)) in
    record {
      defined = defined;
      in_32_bits = backward_in_32_bits j (each_all (length j.changes) _ (λ i h. small_in_32_bits (change_at j.changes i) (small i h))) ∙ defined;
      accepted = back.accepted;
      old_list = back.old_list;
      old_sum =
          (replays (list_after fs j) (backward j).entries (backward j).changes back.accepted).sum_answered
          ∙ ap (λ (l : List ℕ). answered (sum l)) back.old_list;
    }

pub reading_backwards : ReadingBackwards
reading_backwards =
    record {
      brings_back = brings_back;
      never_least = never_least;
      negations_in_32_bits = backward_in_32_bits;
      joined_backwards = backward_joined;
      twice = backward_twice;
    }
