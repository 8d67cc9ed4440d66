-- Document 01's example of the exam sheet, and inputs that are easily got wrong.
-- Assumes nothing.
use Rattle.std.specs.Prelude.{◌≡◌, false, [], ◌∷◌, ◌++◌}
use Rattle.sheet_rules.specs.Text.{ascii}
use Rattle.sheet_rules.specs.Input.{as_described, numbers, fault_line}
use Rattle.sheet_rules.specs.Sheet.{sheet_fault, sheet}

pub record Worked : Type 0 where
  pub pair :
      sheet (ascii "1\n3\n2\n1\n100\n")
      ≡ ascii "codes 2 theta 1 q 3/2 buckets 1\n" ++ ascii "bucket 0 2 total 3232 101\n" ++ ascii "0 1 code 1 count 1\n" ++ ascii "1 2 code 14 count 93\n"
  -- q is printed as it was given
  pub unreduced :
      sheet (ascii "1\n6\n4\n10\n")
      ≡ ascii "codes 1 theta 1 q 6/4 buckets 1\n" ++ ascii "bucket 0 1 total 320 10\n" ++ ascii "0 1 code 7 count 8\n"
  -- a bucketlet of words that no longer occur is printed, for empty means width 0
  pub zeros :
      sheet (ascii "1\n3\n2\n0\n0\n0\n")
      ≡ ascii "codes 3 theta 1 q 3/2 buckets 1\n" ++ ascii "bucket 0 3 total 0 0\n" ++ ascii "0 3 code 0 count 0\n"
  -- 18 comes before every other number, then 3 before 4 and 5, and 5 before 24; 15/1 is a slip for 15/10
  pub sum : sheet (ascii "0\n0\n0\n1073741823\n1\n") ≡ ascii "refused 3\n"
  pub theta : sheet (ascii "0\n0\n0\n1\n") ≡ ascii "refused 4\n"
  pub q : sheet (ascii "1\n124\n100\n1\n") ≡ ascii "refused 5\n"
  pub q_part : sheet (ascii "1\n1001\n1\n1\n") ≡ ascii "refused 5\n"
  pub slip : sheet (ascii "1\n15\n1\n1\n100\n") ≡ ascii "refused 24\n"
  pub no_list : sheet (ascii "1\n3\n2\n") ≡ ascii "refused 18\n"
  pub slip_no_list : sheet (ascii "1\n15\n1\n") ≡ ascii "refused 18\n"
  pub no_input : sheet [] ≡ ascii "refused 18\n"
  pub not_ended : as_described (ascii "1\n3\n2\n1") ≡ false
  pub empty_line : as_described (ascii "1\n3\n2\n1\n\n") ≡ false
  pub carriage_return : as_described (ascii "1\n3\n2\n1\r\n") ≡ false
  pub sign : as_described (ascii "1\n3\n2\n+1\n") ≡ false
  pub leading_zero_lem : as_described (ascii "1\n3\n2\n01\n") ≡ false
  pub space : as_described (ascii "1\n3\n2\n1 \n") ≡ false
  pub largest : numbers (ascii "1\n3\n2\n4294967295\n") ≡ 1 ∷ 3 ∷ 2 ∷ 4294967295 ∷ []
  pub larger : as_described (ascii "1\n3\n2\n4294967296\n") ≡ false
  pub twenty_digits : as_described (ascii "1\n3\n2\n18446744073709551617\n") ≡ false
  -- what an input is refused with, and where it stops being as described
  pub taken : sheet_fault (ascii "1\n3\n2\n1\n100\n") ≡ 0
  pub sum_fault_lem : sheet_fault (ascii "0\n0\n0\n1073741824\n") ≡ 3
  pub theta_fault : sheet_fault (ascii "0\n0\n0\n1\n") ≡ 4
  pub q_fault : sheet_fault (ascii "1\n1000\n124\n1\n") ≡ 24
  pub input_fault : sheet_fault (ascii "1\n3\n2\n1,000\n") ≡ 18
  pub comma_line : fault_line (ascii "1\n3\n2\n1,000\n5\n") ≡ 4
  pub heading_line : fault_line (ascii "theta\n1\n3\n2\n1\n") ≡ 1
  pub open_line : fault_line (ascii "1\n3\n2\n1\n100") ≡ 5
  pub missing_line : fault_line (ascii "1\n3\n2\n") ≡ 4
  pub first_line : fault_line [] ≡ 1
