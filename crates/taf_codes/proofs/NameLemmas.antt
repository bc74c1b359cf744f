-- A name that is kept with zeros behind it.
use Rattle.taf_codes.proofs.Common.{◌≡◌, ℕ, ◌-◌, ◌≤◌, true, List, ◌++◌, length, take, drop, arith, ap, ◌∙◌, sym, length-append, replicate, drop-replicate, take-append_seam, is_name, IsPadded, with_zeros}

-- a name that was copied to the front of twenty zeros
pub keeps_name : (name bytes : List ℕ) → is_name name ≡ true → bytes ≡ name ++ drop (length name) (replicate {A = ℕ} 20 0) → IsPadded bytes (length name) × (is_name (take (length name) bytes) ≡ true)
keeps_name name bytes h copied =
    let filled : bytes ≡ with_zeros name = copied ∙ ap (λ l. name ++ l) (drop-replicate {X = ℕ} (length name) 20 0) in
    let front : take (length name) bytes ≡ name = ap (take (length name)) filled ∙ take-append_seam name (replicate {A = ℕ} (20 - length name) 0) in
    let within : length name ≤ length bytes = omega (arith, ap length filled, length-append name (replicate {A = ℕ} (20 - length name) 0)) in
    (record { within = within; filled = filled ∙ ap with_zeros (sym front) }, rw front h)
