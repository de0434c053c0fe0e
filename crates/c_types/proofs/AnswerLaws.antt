-- What an answer is in C, of each kind of value that an entry answers. Assumes nothing.
use Rattle.std.specs.Prelude.{◌≡◌, refl, Bool, Result, Ok, Err, List, ℕ}
use Rattle.refusals.specs.Refused.{outcome_by, outcome_of}
use Rattle.refusals.specs.declared.Refusal.{Refusal}
use Rattle.c_types.specs.CTypes.{word_of, to_answer, to_flag, to_done}

pub number_answer : (r : Result ℕ Refusal) → to_answer (outcome_by (λ (k : ℕ). k) r) ≡ to_answer (outcome_of r)
number_answer (Ok k) = refl
number_answer (Err e) = refl

pub flag_answer : (r : Result Bool Refusal) → to_answer (outcome_by word_of r) ≡ to_flag (outcome_of r)
flag_answer (Ok b) = refl
flag_answer (Err e) = refl

-- of an entry whose answer is in lent memory
pub done_answer : (r : Result Unit Refusal) (words : List ℕ) → to_answer (outcome_by (λ _. 0) r) ≡ to_done (outcome_by (λ _. words) r)
done_answer (Ok u) words = refl
done_answer (Err e) words = refl
