-- The claims of joined journals (`Joining` of specs/AddingUp.antt). Where 1 and 3 do not refuse the list and 25 neither journal, nor the joined one,
-- what is left are the tests of 26 and 27: the joined journal's are true where those of the first or of the second are, so that its number is the first
-- number of the two, but for 26 before 27. More than two journals are the first and the others joined.
-- Assumes nothing.
use mathlib.Core.Path.{◌≡◌, refl, sym, ap, ◌∙◌}
use mathlib.Core.Bool.{Bool, true, false, cond, not, ◌&&◌, ◌||◌}
use mathlib.Core.List.{List, [], ◌∷◌}
use Prim.Native.Nat.{ℕ, zero, suc, ◌+◌, ◌≤◌, ◌<◌}
use native.Mathlib.Omega.{arith}
use borrow.Author.Tests.{lt-ltb, ne_eqb}
use lib.Dec.{ltb, eqb}
use lib.IntN.{ℤ, pos, +ℤ_idr}
use lib.ListN.{length, get_or, set, replicate, length-append, length-replicate}
use lib.Seq.{set-get_or}
use Rattle.laws.specs.Reply.{answered, refused}
use Rattle.laws.specs.Sums.{sum}
use Rattle.laws.proofs.EachLaws.{some_none}
use Rattle.laws.proofs.Tests.{fails_left, not_fails, not_chosen}
use Rattle.list_rules.specs.Frequencies.{list_fault}
use Rattle.journal_rules.specs.Lines.{signed, unsigned, frequency_at, after_line, after_lines}
use Rattle.journal_rules.specs.Replaying.{max_lines, lines_fault, outside_at, outside_fault, breaks, breaks_after, bound_fault}
use Rattle.journal_rules.specs.AddingUp.{Journal, fault_of, reply_of, list_after, joined, in_turn_fault, joined_fault, EqualLists, Joinable, joined_all, all_in_turn_fault, list_after_all, AllEqual, AllJoinable, idle, Joining}
use Rattle.journal_rules.proofs.SignedLaws.{unsigned_signed}
use Rattle.journal_rules.proofs.LinesLaws.{signed_kept}
use Rattle.journal_rules.proofs.ReplayLaws.{list_number, sum_within, some_entry, line_number, outside_same, list_refused, none_refused, by_lines, replay_lines, replay_answered, last_signed, paired_lines, same_lines, few_lines}
use Rattle.journal_rules.proofs.JoinedLaws.{bound_from, bound_from_lem, outside_joined, after_both, bound_joined}
use Rattle.journal_rules.proofs.Proved.{replays, journals}

-- ---- the number of the joined journal, by the tests of both

-- the number in turn, by that of the first and, where it is 0, that of the second
abbrev number_in_turn : ℕ → ℕ → ℕ
number_in_turn first second = cond (eqb first 0) second first

-- the joined journal's where it is t in turn; `outside` says whether an entry of the second is outside
abbrev joined_number : ℕ → Bool → ℕ
joined_number t outside = cond (eqb t 27 && outside) 26 t

-- a small number, other than 0, is that of both
small_number : (t second : ℕ) (outside : Bool) → (t ≡ 0 → ⊥) → t ≤ 3 → t ≡ joined_number (number_in_turn t second) outside
small_number t second outside z h =
    not_chosen (eqb t 27 && outside) 26 t (fails_left (eqb t 27) outside (ne_eqb t 27 (λ e. omega arith)))
    ∙ ap (λ (u : ℕ). joined_number u outside) (not_chosen (eqb t 0) second t (ne_eqb t 0 z))

-- it is 0 only where that in turn is
number_zero : (t : ℕ) (outside : Bool) → joined_number t outside ≡ 0 → t ≡ 0
number_zero t outside = go (eqb t 27 && outside)
  where
    go : (u : Bool) → cond u 26 t ≡ 0 → t ≡ 0
    go true e = absurd (omega arith)
    go false e = e

-- the number in turn is 0 only where both are
both_zero : (first second : ℕ) → number_in_turn first second ≡ 0 → (first ≡ 0) × (second ≡ 0)
both_zero zero second e = (refl, e)
both_zero (suc first) second e =
    absurd (let z : suc first ≡ 0 = not_chosen (eqb (suc first) 0) second (suc first) (ne_eqb (suc first) 0 (λ z. omega arith)) ∙ e in omega arith)

number_by_tests : (outside₁ bound₁ outside₂ bound₂ : Bool) (second : ℕ)
    → (outside₁ ≡ false → bound₁ ≡ false → second ≡ line_number outside₂ bound₂)
    → line_number (outside₁ || outside₂) (bound₁ || bound₂) ≡ joined_number (number_in_turn (line_number outside₁ bound₁) second) outside₂
number_by_tests true b₁ o₂ b₂ s h = refl
number_by_tests false true true b₂ s h = refl
number_by_tests false true false b₂ s h = refl
number_by_tests false false true b₂ s h = ap (λ (t : ℕ). joined_number t true) (sym (h refl refl))
number_by_tests false false false true s h = ap (λ (t : ℕ). joined_number t false) (sym (h refl refl))
number_by_tests false false false false s h = ap (λ (t : ℕ). joined_number t false) (sym (h refl refl))

joined_lengths : (a b : Journal) → EqualLists a → EqualLists b → EqualLists (joined a b)
joined_lengths a b p q = length-append a.entries b.entries ∙ (λ i. p i + q i) ∙ sym (length-append a.changes b.changes)

module _ (fs : List ℕ) (a b : Journal) (j : Joinable a b) where
  lines_first : lines_fault a.entries a.changes ≡ false
  lines_first = paired_lines a.entries a.changes (let h = j.within_limit in omega arith) j.first_equal

  lines_second : lines_fault b.entries b.changes ≡ false
  lines_second = paired_lines b.entries b.changes (let h = j.within_limit in omega arith) j.second_equal

  lines_joined : lines_fault (joined a b).entries (joined a b).changes ≡ false
  lines_joined =
      paired_lines (joined a b).entries (joined a b).changes (let h = j.within_limit in omega (arith, length-append a.entries b.entries))
      (joined_lengths a b j.first_equal j.second_equal)

  -- what the first journal makes of the list, with sign
  abbrev made : List ℤ
  made = after_lines (signed fs) a.entries a.changes (length a.changes)

  -- the second over that, where the first is accepted
  second_number : fault_of fs a ≡ 0
      → fault_of (list_after fs a) b ≡ line_number (outside_fault fs b.entries) (bound_from made b.entries b.changes)
  second_number none =
      let after = replays fs a.entries a.changes none in
      let o = outside_same fs (list_after fs a) b.entries after.same_length in
      let f = bound_from_lem (list_after fs a) b.entries b.changes made (last_signed fs a.entries a.changes none) in
      by_lines (list_after fs a) b.entries b.changes after.sound lines_second ∙ λ i. line_number (o i) (f i)

  module _ (sound : list_fault fs ≡ 0) where
    first_number : fault_of fs a ≡ line_number (outside_fault fs a.entries) (bound_fault fs a.entries a.changes)
    first_number = by_lines fs a.entries a.changes sound lines_first

    sound_number : fault_of fs (joined a b) ≡ joined_fault fs a b
    sound_number =
        let o = outside_joined a.entries b.entries fs in
        let f = bound_joined a.entries b.entries a.changes b.changes j.first_equal fs in
        by_lines fs (joined a b).entries (joined a b).changes sound lines_joined
        ∙ (λ i. line_number (o i) (f i))
        ∙ number_by_tests (outside_fault fs a.entries) (bound_fault fs a.entries a.changes) (outside_fault fs b.entries)
        (bound_from made b.entries b.changes) (fault_of (list_after fs a) b)
        (λ p q. second_number (first_number ∙ λ i. line_number (p i) (q i)))
        ∙ ap (λ (first : ℕ). joined_number (number_in_turn first (fault_of (list_after fs a) b)) (outside_fault fs b.entries)) (sym first_number)

  -- a list that is refused is refused with its own number
  list_number_joined : (list_fault fs ≡ 0 → ⊥) → fault_of fs (joined a b) ≡ joined_fault fs a b
  list_number_joined h =
      let joint = list_refused fs (joined a b).entries (joined a b).changes h in
      let alone = list_refused fs a.entries a.changes h in
      joint
      ∙ small_number (list_fault fs) (fault_of (list_after fs a) b) (outside_fault fs b.entries) h (list_number fs)
      ∙ ap (λ (first : ℕ). joined_number (number_in_turn first (fault_of (list_after fs a) b)) (outside_fault fs b.entries)) (sym alone)

  joined_number_lem : fault_of fs (joined a b) ≡ joined_fault fs a b
  joined_number_lem = go (list_fault fs) refl
    where
      go : (l : ℕ) → list_fault fs ≡ l → fault_of fs (joined a b) ≡ joined_fault fs a b
      go zero e = sound_number e
      go (suc l) e = list_number_joined (λ z. omega arith)

  pub joined_accepted : in_turn_fault fs a b ≡ 0 → fault_of fs (joined a b) ≡ 0
  joined_accepted none = joined_number_lem ∙ ap (λ (t : ℕ). joined_number t (outside_fault fs b.entries)) none

  pub both_accepted : fault_of fs (joined a b) ≡ 0 → in_turn_fault fs a b ≡ 0
  both_accepted none = number_zero (in_turn_fault fs a b) (outside_fault fs b.entries) (sym joined_number_lem ∙ none)

  module _ (none : in_turn_fault fs a b ≡ 0) where
    pub first_accepted : fault_of fs a ≡ 0
    first_accepted = (both_zero (fault_of fs a) (fault_of (list_after fs a) b) none).0

    pub second_accepted : fault_of (list_after fs a) b ≡ 0
    second_accepted = (both_zero (fault_of fs a) (fault_of (list_after fs a) b) none).1

    pub same_list : list_after (list_after fs a) b ≡ list_after fs (joined a b)
    same_list =
        sym (replay_answered (list_after fs a) b.entries b.changes second_accepted).1
        ∙ ap (λ (zs : List ℤ). unsigned (after_lines zs b.entries b.changes (length b.changes))) (last_signed fs a.entries a.changes first_accepted)
        ∙ ap unsigned (sym (after_both a.entries b.entries a.changes b.changes j.first_equal (signed fs)))
        ∙ (replay_answered fs (joined a b).entries (joined a b).changes (joined_accepted none)).1

    same_reply : reply_of (list_after fs a) b ≡ reply_of fs (joined a b)
    same_reply =
        (replays (list_after fs a) b.entries b.changes second_accepted).sum_answered
        ∙ ap (λ (l : List ℕ). answered (sum l)) same_list
        ∙ sym (replays fs (joined a b).entries (joined a b).changes (joined_accepted none)).sum_answered

-- a journal that is accepted is of two equal lists

accepted_equal : (fs : List ℕ) (a : Journal) → fault_of fs a ≡ 0 → EqualLists a
accepted_equal fs a none = same_lines a.entries a.changes (replay_lines fs a.entries a.changes none)

in_turn_equal : (fs : List ℕ) (a b : Journal) → in_turn_fault fs a b ≡ 0 → EqualLists a × EqualLists b
in_turn_equal fs a b none =
    let both = both_zero (fault_of fs a) (fault_of (list_after fs a) b) none in
    (accepted_equal fs a both.0, accepted_equal (list_after fs a) b both.1)

accepted_in_turn : (fs : List ℕ) (a b : Journal) → EqualLists a → EqualLists b → fault_of fs (joined a b) ≡ 0 → Joinable a b × (in_turn_fault fs a b ≡ 0)
accepted_in_turn fs a b p q none = (joinable, both_accepted fs a b joinable none)
  where
    lines : lines_fault (joined a b).entries (joined a b).changes ≡ false
    lines = replay_lines fs (joined a b).entries (joined a b).changes none

    joinable : Joinable a b
    joinable =
        record {
          first_equal = p;
          second_equal = q;
          within_limit = omega (arith, length-append a.entries b.entries, few_lines (joined a b).entries (joined a b).changes lines);
        }

-- both are accepted, the second over what the first made
pub in_turn : (fs gs : List ℕ) (a b : Journal) → fault_of fs a ≡ 0 → list_after fs a ≡ gs → fault_of gs b ≡ 0 → in_turn_fault fs a b ≡ 0
in_turn fs gs a b first made second =
    ap (λ (t : ℕ). number_in_turn t (fault_of (list_after fs a) b)) first ∙ ap (λ (l : List ℕ). fault_of l b) made ∙ second

-- ---- more than two

all_lengths : (a : Journal) (bs : List Journal) → AllEqual a bs → EqualLists (joined_all a bs)
all_lengths a [] e = e
all_lengths a (b ∷ bs) e = joined_lengths a (joined_all b bs) e.0 (all_lengths b bs e.1)

-- the first and the others joined, and the others
first_joinable : (a b : Journal) (bs : List Journal) → AllJoinable a (b ∷ bs) → Joinable a (joined_all b bs)
first_joinable a b bs j =
    record {
      first_equal = j.all_equal.0;
      second_equal = all_lengths b bs j.all_equal.1;
      within_limit = let h = j.within_limit in omega (arith, length-append a.entries (joined_all b bs).entries);
    }

others_joinable : (a b : Journal) (bs : List Journal) → AllJoinable a (b ∷ bs) → AllJoinable b bs
others_joinable a b bs j =
    record {
      all_equal = j.all_equal.1;
      within_limit = let h = j.within_limit in omega (arith, length-append a.entries (joined_all b bs).entries);
    }

module _ (fs : List ℕ) (a b : Journal) (bs : List Journal) where
  -- the first, and then the others
  split_in_turn : all_in_turn_fault fs a (b ∷ bs) ≡ 0 → (fault_of fs a ≡ 0) × (all_in_turn_fault (list_after fs a) b bs ≡ 0)
  split_in_turn = both_zero (fault_of fs a) (all_in_turn_fault (list_after fs a) b bs)

  others_joined : fault_of fs a ≡ 0 → fault_of (list_after fs a) (joined_all b bs) ≡ 0 → in_turn_fault fs a (joined_all b bs) ≡ 0
  others_joined first others = in_turn fs (list_after fs a) a (joined_all b bs) first refl others

all_in_turn_equal : (fs : List ℕ) (a : Journal) (bs : List Journal) → all_in_turn_fault fs a bs ≡ 0 → AllEqual a bs
all_in_turn_equal fs a [] none = accepted_equal fs a none
all_in_turn_equal fs a (b ∷ bs) none =
    let split = split_in_turn fs a b bs none in
    (accepted_equal fs a split.0, all_in_turn_equal (list_after fs a) b bs split.1)

all_joined_accepted : (fs : List ℕ) (a : Journal) (bs : List Journal) → AllJoinable a bs → all_in_turn_fault fs a bs ≡ 0 → fault_of fs (joined_all a bs) ≡ 0
all_joined_accepted fs a [] j none = none
all_joined_accepted fs a (b ∷ bs) j none =
    let split = split_in_turn fs a b bs none in
    joined_accepted fs a (joined_all b bs) (first_joinable a b bs j)
    (others_joined fs a b bs split.0 (all_joined_accepted (list_after fs a) b bs (others_joinable a b bs j) split.1))

all_both_accepted : (fs : List ℕ) (a : Journal) (bs : List Journal) → AllJoinable a bs → fault_of fs (joined_all a bs) ≡ 0 → all_in_turn_fault fs a bs ≡ 0
all_both_accepted fs a [] j none = none
all_both_accepted fs a (b ∷ bs) j none =
    let joinable = first_joinable a b bs j in
    let turn = both_accepted fs a (joined_all b bs) joinable none in
    ap (λ (t : ℕ). number_in_turn t (all_in_turn_fault (list_after fs a) b bs)) (first_accepted fs a (joined_all b bs) joinable turn)
    ∙ all_both_accepted (list_after fs a) b bs (others_joinable a b bs j) (second_accepted fs a (joined_all b bs) joinable turn)

all_accepted_in_turn : (fs : List ℕ) (a : Journal) (bs : List Journal) → AllEqual a bs → fault_of fs (joined_all a bs) ≡ 0
    → AllJoinable a bs × (all_in_turn_fault fs a bs ≡ 0)
all_accepted_in_turn fs a bs e none = (joinable, all_both_accepted fs a bs joinable none)
  where
    all : Journal
    all = joined_all a bs

    joinable : AllJoinable a bs
    joinable = record { all_equal = e; within_limit = few_lines all.entries all.changes (replay_lines fs all.entries all.changes none) }

all_same_list : (fs : List ℕ) (a : Journal) (bs : List Journal) → AllJoinable a bs → all_in_turn_fault fs a bs ≡ 0 → list_after_all fs a bs ≡ list_after fs (joined_all a bs)
all_same_list fs a [] j none = refl
all_same_list fs a (b ∷ bs) j none =
    let split = split_in_turn fs a b bs none in
    let others = others_joinable a b bs j in
    all_same_list (list_after fs a) b bs others split.1
    ∙ same_list fs a (joined_all b bs) (first_joinable a b bs j)
    (others_joined fs a b bs split.0 (all_joined_accepted (list_after fs a) b bs others split.1))

-- ---- lines that change nothing

get_d_replicate_same : {A : Type 0} (n k : ℕ) (a : A) → get_or (replicate n a) k a ≡ a
get_d_replicate_same zero k a = refl
get_d_replicate_same (suc n) zero a = refl
get_d_replicate_same (suc n) (suc k) a = get_d_replicate_same n k a

idle_kept : (zs : List ℤ) (n k : ℕ) → after_lines zs (idle n).entries (idle n).changes k ≡ zs
unfolding after_lines
idle_kept zs n zero = refl
idle_kept zs n (suc k) =
    let l = idle_kept zs n k in
    let e = get_d_replicate_same {A = ℕ} n k 0 in
    let c = get_d_replicate_same n k (pos 0) in
    (λ i. after_line (l i) (e i) (c i)) ∙ ap (λ (z : ℤ). set zs 0 z) (+ℤ_idr (frequency_at zs 0)) ∙ set-get_or zs 0 (pos 0)

idle_accepted : (fs : List ℕ) (n : ℕ) → list_fault fs ≡ 0 → n ≤ max_lines → (fault_of fs (idle n) ≡ 0) × (list_after fs (idle n) ≡ fs)
unfolding outside_fault bound_fault
idle_accepted fs n sound h = (none, sym (replay_answered fs es cs none).1 ∙ ap unsigned (idle_kept (signed fs) n (length cs)) ∙ unsigned_signed fs)
  where
    es : List ℕ
    es = (idle n).entries

    cs : List ℤ
    cs = (idle n).changes

    none : fault_of fs (idle n) ≡ 0
    none =
        none_refused fs es cs sound
        (paired_lines es cs (omega (arith, length-replicate {A = ℕ} n 0)) (length-replicate {A = ℕ} n 0 ∙ sym (length-replicate n (pos 0))))
        (some_none (length es) (outside_at fs es)
        (λ i l. ap (λ (e : ℕ). not (ltb e (length fs))) (get_d_replicate_same {A = ℕ} n i 0) ∙ not_fails _ (lt-ltb 0 (length fs) (some_entry fs sound))))
        (some_none (length cs) (breaks_after fs es cs) (λ i l. ap breaks (idle_kept (signed fs) n (suc i)) ∙ signed_kept fs (sum_within fs sound)))

limit_needed : (fs : List ℕ) (m n : ℕ) → list_fault fs ≡ 0 → m ≤ max_lines → n ≤ max_lines → max_lines < m + n
    → (in_turn_fault fs (idle m) (idle n) ≡ 0) × (reply_of fs (joined (idle m) (idle n)) ≡ refused 25)
limit_needed fs m n sound h k l =
    let first = idle_accepted fs m sound h in
    let second = idle_accepted fs n sound k in (
      in_turn fs fs (idle m) (idle n) first.0 first.1 second.0,
      journals.many_lines fs (joined (idle m) (idle n)).entries (joined (idle m) (idle n)).changes sound
          (omega (arith, length-append (idle m).entries (idle n).entries, length-replicate {A = ℕ} m 0, length-replicate {A = ℕ} n 0)),
    )

pub joining : Joining
joining =
    record {
      joined_accepted = joined_accepted;
      in_turn_equal = in_turn_equal;
      accepted_in_turn = accepted_in_turn;
      same_list = same_list;
      same_reply = same_reply;
      joined_number_lem = joined_number_lem;
      all_joined_accepted = all_joined_accepted;
      all_in_turn_equal = all_in_turn_equal;
      all_accepted_in_turn = all_accepted_in_turn;
      all_same_list = all_same_list;
      limit_needed = limit_needed;
    }
