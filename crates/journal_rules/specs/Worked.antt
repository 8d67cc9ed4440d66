-- Journals on both sides of each bound, and each refusal before the next (document 02, request vii). Journals one after the other and joined, and read
-- backwards (request viii).
-- Assumes nothing.
use Rattle.std.specs.Prelude.{◌≡◌, true, false, List, [], ◌∷◌, ℕ, ℤ, pos, negsuc}
use Rattle.laws.specs.Reply.{answered, refused}
use Rattle.journal_rules.specs.Lines.{changes_of}
use Rattle.journal_rules.specs.Replaying.{lengths_fault, replay_fault, replay_reply, replayed}
use Rattle.journal_rules.specs.AddingUp.{Journal, fault_of, reply_of, list_after, joined, in_turn_fault, joined_fault, joined_all, all_in_turn_fault, list_after_all, has_backward, backward, of32_bits}

-- `negsuc n` is -(n + 1)
pub record Worked : Type 0 where
  -- over 5, 0 and 7: 3 more of entry 1, 2 less of entry 0, 4 more of entry 1, 7 less of entry 2
  pub replays : replayed (5 ∷ 0 ∷ 7 ∷ []) (1 ∷ 0 ∷ 1 ∷ 2 ∷ []) (pos 3 ∷ negsuc 1 ∷ pos 4 ∷ negsuc 6 ∷ []) ≡ 3 ∷ 7 ∷ 0 ∷ []
  pub answers : replay_reply (5 ∷ 0 ∷ 7 ∷ []) (1 ∷ 0 ∷ 1 ∷ 2 ∷ []) (pos 3 ∷ negsuc 1 ∷ pos 4 ∷ negsuc 6 ∷ []) ≡ answered 10
  pub changes : changes_of (1 ∷ 0 ∷ 1 ∷ 2 ∷ []) (pos 3 ∷ negsuc 1 ∷ pos 4 ∷ negsuc 6 ∷ []) 1 4 ≡ pos 7
  -- the order of lines matters: 5 less and then 5 more, and the other way
  pub below_first : replay_reply (0 ∷ []) (0 ∷ 0 ∷ []) (negsuc 4 ∷ pos 5 ∷ []) ≡ refused 27
  pub below_last : replay_reply (0 ∷ []) (0 ∷ 0 ∷ []) (pos 5 ∷ negsuc 4 ∷ []) ≡ answered 0
  -- a frequency may come to 0, and not below it
  pub to_zero : replayed (5 ∷ []) (0 ∷ []) (negsuc 4 ∷ []) ≡ 0 ∷ []
  pub below_zero_lem : replay_reply (5 ∷ 9 ∷ []) (0 ∷ []) (negsuc 5 ∷ []) ≡ refused 27
  -- the sum may come to its limit, and not pass it, not even to come back
  pub to_limit : replay_reply (1073741822 ∷ 0 ∷ []) (1 ∷ []) (pos 1 ∷ []) ≡ answered 1073741823
  pub past_limit : replay_reply (1073741822 ∷ 0 ∷ []) (1 ∷ []) (pos 2 ∷ []) ≡ refused 27
  pub past_and_back : replay_reply (1073741823 ∷ 0 ∷ []) (1 ∷ 0 ∷ []) (pos 1 ∷ negsuc 0 ∷ []) ≡ refused 27
  pub moved_over : replayed (1073741823 ∷ 0 ∷ []) (0 ∷ 1 ∷ []) (negsuc 0 ∷ pos 1 ∷ []) ≡ 1073741822 ∷ 1 ∷ []
  -- the least change and the largest
  pub least_change :
      replay_fault (0 ∷ []) (0 ∷ []) (negsuc 2147483647 ∷ [])
      ∷ replay_fault (1073741823 ∷ []) (0 ∷ []) (negsuc 2147483647 ∷ [])
      ∷ replay_fault (5 ∷ 7 ∷ []) (0 ∷ 1 ∷ []) (pos 1 ∷ negsuc 2147483647 ∷ [])
      ∷ []
      ≡ 27 ∷ 27 ∷ 27 ∷ []
  -- a change may be as large as the limit
  pub change_of_limit : replay_reply (0 ∷ []) (0 ∷ 0 ∷ []) (pos 1073741823 ∷ negsuc 1073741822 ∷ []) ≡ answered 0
  pub largest_change : replay_reply (0 ∷ []) (0 ∷ []) (pos 2147483647 ∷ []) ≡ refused 27
  -- refused, the list is as it was, whatever the lines before did
  pub unchanged : replayed (5 ∷ 7 ∷ []) (0 ∷ 1 ∷ []) (pos 1 ∷ negsuc 7 ∷ []) ≡ 5 ∷ 7 ∷ []
  -- 25 by the lengths
  pub lengths :
      lengths_fault 0 0 ∷ lengths_fault 65536 65536 ∷ lengths_fault 65537 65537 ∷ lengths_fault 65537 1 ∷ lengths_fault 1 65537 ∷ lengths_fault 2 1 ∷ lengths_fault 1 2 ∷ []
      ≡ false ∷ false ∷ true ∷ true ∷ true ∷ true ∷ true ∷ []
  -- an entry equal to the length
  pub outside : replay_fault (5 ∷ 7 ∷ []) (1 ∷ []) (pos 1 ∷ []) ∷ replay_fault (5 ∷ 7 ∷ []) (2 ∷ []) (pos 1 ∷ []) ∷ [] ≡ 0 ∷ 26 ∷ []
  -- each refusal before the next: an empty list, a large sum, unequal lists, an entry outside, 1 below 0; and 26 in the last line beside 27 in the first
  pub order :
      replay_fault [] (2 ∷ []) []
      ∷ replay_fault (1073741824 ∷ []) (2 ∷ []) []
      ∷ replay_fault (1 ∷ []) (2 ∷ []) []
      ∷ replay_fault (1 ∷ []) (0 ∷ 1 ∷ []) (negsuc 1 ∷ pos 0 ∷ [])
      ∷ replay_fault (1 ∷ []) (0 ∷ 0 ∷ []) (negsuc 1 ∷ pos 0 ∷ [])
      ∷ []
      ≡ 1 ∷ 3 ∷ 25 ∷ 26 ∷ 27 ∷ []
  pub no_lines : replay_reply (5 ∷ 7 ∷ []) [] [] ≡ answered 12

abbrev pub journal : List ℕ → List ℤ → Journal
journal es cs = record { entries = es; changes = cs }

-- a journal of one line
abbrev pub line : ℕ → ℤ → Journal
line e c = journal (e ∷ []) (c ∷ [])

pub record WorkedTogether : Type 0 where
  -- over 5, 0 and 7: 3 more of entry 1 and 2 less of entry 0, then 4 more of entry 1 and 7 less of entry 2
  pub in_turn :
      list_after (list_after (5 ∷ 0 ∷ 7 ∷ []) (journal (1 ∷ 0 ∷ []) (pos 3 ∷ negsuc 1 ∷ []))) (journal (1 ∷ 2 ∷ []) (pos 4 ∷ negsuc 6 ∷ []))
      ∷ list_after (5 ∷ 0 ∷ 7 ∷ []) (joined (journal (1 ∷ 0 ∷ []) (pos 3 ∷ negsuc 1 ∷ [])) (journal (1 ∷ 2 ∷ []) (pos 4 ∷ negsuc 6 ∷ [])))
      ∷ []
      ≡ (3 ∷ 7 ∷ 0 ∷ []) ∷ (3 ∷ 7 ∷ 0 ∷ []) ∷ []
  -- 3 less, twice: either is accepted on the old list, and not the second after the first, nor the joined journal
  pub each_alone :
      fault_of (5 ∷ []) (line 0 (negsuc 2))
      ∷ in_turn_fault (5 ∷ []) (line 0 (negsuc 2)) (line 0 (negsuc 2))
      ∷ fault_of (5 ∷ []) (joined (line 0 (negsuc 2)) (line 0 (negsuc 2)))
      ∷ []
      ≡ 0 ∷ 27 ∷ 27 ∷ []
  -- the first has then been replayed, and of the joined journal nothing
  pub first_replayed :
      list_after (list_after (5 ∷ []) (line 0 (negsuc 2))) (line 0 (negsuc 2)) ∷ list_after (5 ∷ []) (joined (line 0 (negsuc 2)) (line 0 (negsuc 2))) ∷ []
      ≡ (2 ∷ []) ∷ (5 ∷ []) ∷ []
  -- 5 more and 5 less: the second is refused on the old list, and not after the first; in the other order the first is refused
  pub second_needs_first :
      fault_of (0 ∷ []) (line 0 (negsuc 4))
      ∷ in_turn_fault (0 ∷ []) (line 0 (pos 5)) (line 0 (negsuc 4))
      ∷ fault_of (0 ∷ []) (joined (line 0 (pos 5)) (line 0 (negsuc 4)))
      ∷ fault_of (0 ∷ []) (joined (line 0 (negsuc 4)) (line 0 (pos 5)))
      ∷ []
      ≡ 27 ∷ 0 ∷ 0 ∷ 27 ∷ []
  -- 27 in the first and 26 in the second: 26 when joined
  pub number_26 :
      in_turn_fault (1 ∷ []) (line 0 (negsuc 1)) (line 1 (pos 0))
      ∷ fault_of (1 ∷ []) (joined (line 0 (negsuc 1)) (line 1 (pos 0)))
      ∷ joined_fault (1 ∷ []) (line 0 (negsuc 1)) (line 1 (pos 0))
      ∷ []
      ≡ 27 ∷ 26 ∷ 26 ∷ []
  -- it is the same otherwise: 26 in the second after an accepted first, 27 in either, and 1 of a list without an entry
  pub number_same :
      joined_fault (1 ∷ []) (line 0 (negsuc 0)) (line 1 (pos 0))
      ∷ joined_fault (1 ∷ []) (line 0 (negsuc 1)) (line 0 (pos 1))
      ∷ joined_fault (1 ∷ []) (line 0 (negsuc 0)) (line 0 (negsuc 0))
      ∷ joined_fault [] (line 0 (pos 0)) (line 0 (pos 0))
      ∷ []
      ≡ 26 ∷ 27 ∷ 27 ∷ 1 ∷ []
  -- three weeks over 0: 4 more, 4 less and 1 more
  pub weeks :
      list_after_all (0 ∷ []) (line 0 (pos 4)) (line 0 (negsuc 3) ∷ line 0 (pos 1) ∷ [])
      ∷ list_after (0 ∷ []) (joined_all (line 0 (pos 4)) (line 0 (negsuc 3) ∷ line 0 (pos 1) ∷ []))
      ∷ []
      ≡ (1 ∷ []) ∷ (1 ∷ []) ∷ []
  -- all of them are accepted, or the first, the second or the last is refused
  pub weeks_in_turn :
      all_in_turn_fault (0 ∷ []) (line 0 (pos 4)) (line 0 (negsuc 3) ∷ line 0 (pos 1) ∷ [])
      ∷ all_in_turn_fault (0 ∷ []) (line 1 (pos 4)) (line 0 (negsuc 3) ∷ line 0 (pos 1) ∷ [])
      ∷ all_in_turn_fault (0 ∷ []) (line 0 (pos 4)) (line 0 (negsuc 4) ∷ line 0 (pos 1) ∷ [])
      ∷ all_in_turn_fault (0 ∷ []) (line 0 (pos 4)) (line 0 (negsuc 3) ∷ line 0 (negsuc 0) ∷ [])
      ∷ fault_of (0 ∷ []) (joined_all (line 0 (pos 4)) (line 0 (negsuc 3) ∷ line 0 (negsuc 0) ∷ []))
      ∷ []
      ≡ 0 ∷ 26 ∷ 27 ∷ 27 ∷ 27 ∷ []
  -- an entry without a change and a change without an entry: both are refused, and joined they are a line
  pub unequal :
      fault_of (5 ∷ []) (journal (0 ∷ []) [])
      ∷ fault_of (5 ∷ []) (journal [] (pos 1 ∷ []))
      ∷ fault_of (5 ∷ []) (joined (journal (0 ∷ []) []) (journal [] (pos 1 ∷ [])))
      ∷ []
      ≡ 25 ∷ 25 ∷ 0 ∷ []
  -- back from 3, 7 and 0 to 5, 0 and 7, in four lines
  pub back :
      list_after (3 ∷ 7 ∷ 0 ∷ []) (backward (journal (1 ∷ 0 ∷ 1 ∷ 2 ∷ []) (pos 3 ∷ negsuc 1 ∷ pos 4 ∷ negsuc 6 ∷ []))) ≡ 5 ∷ 0 ∷ 7 ∷ []
  pub back_answers :
      reply_of (3 ∷ 7 ∷ 0 ∷ []) (backward (journal (1 ∷ 0 ∷ 1 ∷ 2 ∷ []) (pos 3 ∷ negsuc 1 ∷ pos 4 ∷ negsuc 6 ∷ []))) ≡ answered 12
  pub back_lines : backward (journal (1 ∷ 0 ∷ 2 ∷ []) (pos 3 ∷ negsuc 1 ∷ pos 0 ∷ [])) ≡ journal (2 ∷ 0 ∷ 1 ∷ []) (pos 0 ∷ pos 2 ∷ negsuc 2 ∷ [])
  -- 5 more and 5 less over 0: the negated lines in the old order are refused, and so are the lines that are not negated in the reverse order
  pub order_matters :
      fault_of (0 ∷ []) (journal (0 ∷ 0 ∷ []) (pos 5 ∷ negsuc 4 ∷ []))
      ∷ fault_of (0 ∷ []) (backward (journal (0 ∷ 0 ∷ []) (pos 5 ∷ negsuc 4 ∷ [])))
      ∷ fault_of (0 ∷ []) (journal (0 ∷ 0 ∷ []) (negsuc 4 ∷ pos 5 ∷ []))
      ∷ []
      ≡ 0 ∷ 0 ∷ 27 ∷ []
  -- the least change of 32 bits has a negation of more, and a journal that holds it no backward journal
  pub bits :
      of32_bits (line 0 (negsuc 2147483647)) ∷ of32_bits (backward (line 0 (negsuc 2147483647))) ∷ of32_bits (line 0 (negsuc 2147483648)) ∷ of32_bits (line 0 (pos 2147483647)) ∷ []
      ≡ true ∷ false ∷ false ∷ true ∷ []
  pub least : has_backward (line 0 (negsuc 2147483647)) ∷ has_backward (line 0 (negsuc 2147483646)) ∷ has_backward (line 0 (pos 2147483647)) ∷ [] ≡ false ∷ true ∷ true ∷ []
