-- The test of digits.
use Rattle.wagon_number.proofs.Common.{◌≡◌, ℕ, ◌<◌, List, length, true, eq-eqb, ◌==◌, nat_lt, list_all, and_parts, and_from, eqb-true, ltb-true, lt-ltb, All-weaker, AllPass-from_list_all, list_all-from_AllPass, IsValid, is_valid, has_check_digit, ValidityIsTested}

-- digits that pass the test are valid
valid_from_test : (ds : List ℕ) → is_valid ds ≡ true → IsValid ds
valid_from_test ds passed =
    let last = and_parts _ (has_check_digit ds) passed in
    let shape = and_parts (length ds == 12) (list_all (λ d. nat_lt d 10) ds) last.0 in
    record {
      twelve = eqb-true _ _ shape.0;
      digits = All-weaker (λ d. nat_lt d 10 ≡ true) (λ d. d < 10) (λ d h. ltb-true d 10 h) ds (AllPass-from_list_all (λ d. nat_lt d 10) ds shape.1);
      last = eqb-true _ _ last.1;
    }

-- valid digits pass it
test_from_valid : (ds : List ℕ) → IsValid ds → is_valid ds ≡ true
test_from_valid ds valid =
    let below = list_all-from_AllPass (λ d. nat_lt d 10) ds (All-weaker (λ d. d < 10) (λ d. nat_lt d 10 ≡ true) (λ d h. lt-ltb d 10 h) ds valid.digits) in
    and_from _ _ (and_from _ _ (eq-eqb _ _ valid.twelve) below) (eq-eqb _ _ valid.last)

pub validity_is_tested : ValidityIsTested
validity_is_tested ds = (valid_from_test ds, test_from_valid ds)
