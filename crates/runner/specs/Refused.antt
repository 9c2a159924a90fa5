-- What keeps a program from being run.
--
--   `limit_broken l n b`                    the first of the length l of the program, the count n of primary words and the bound b
--                                           that is outside its limits
--   `first_ill_formed p`                    the place of the first ill-formed instruction
--   `refused p ws b r c`                    the refusal of a run with r rows and c cell entries lent, if there is one
--   `refusal_number e`, `refusal_values e`  the number of a refusal, 0 where it has none, and the values that it returns
--
-- Assumes nothing.
use Rattle.std.specs.Prelude.{ℕ, cond, ◌&&◌, not, List, [], ◌∷◌, length, Some, None, Option, nat_le, position}
use Rattle.encoding.specs.declared.instruction.Instruction.{Instruction}
use Rattle.encoding.specs.Formed.{well_formed}
use Rattle.runner.specs.declared.refusal.Limit.{Limit}
use Rattle.runner.specs.declared.refusal.Limit.TheVariants as limit
use Rattle.runner.specs.declared.refusal.RunRefusal.{RunRefusal}
use Rattle.runner.specs.declared.refusal.RunRefusal.TheVariants.{Outside, IllFormed, Room, OutOfMemory}

abbrev pub limit_broken : ℕ → ℕ → ℕ → Option Limit
limit_broken l n b =
    cond (nat_le 1 l && nat_le l 4096) (cond (nat_le n 4096) (cond (nat_le 1 b && nat_le b 1000000) None (Some limit.Bound)) (Some limit.Primary)) (Some limit.Program)

abbrev pub first_ill_formed : List Instruction → Option ℕ
first_ill_formed p = position (λ i. not (well_formed i)) p

abbrev pub room_wanted : ℕ → ℕ → ℕ → Option RunRefusal
room_wanted b r c = cond (nat_le b r && nat_le b c) None (Some (Room b))

abbrev pub form_refused : Option ℕ → Option RunRefusal → Option RunRefusal
form_refused None e = e
form_refused (Some k) e = Some (IllFormed k)

abbrev pub limit_refused : Option Limit → Option RunRefusal → Option RunRefusal
limit_refused None e = e
limit_refused (Some l) e = Some (Outside l)

-- the limits come first, then the instructions, then the tables
abbrev pub refused : List Instruction → List ℕ → ℕ → ℕ → ℕ → Option RunRefusal
refused p ws b r c = limit_refused (limit_broken (length p) (length ws) b) (form_refused (first_ill_formed p) (room_wanted b r c))

abbrev pub limit_number : Limit → ℕ
limit_number limit.Program = 1
limit_number limit.Primary = 2
limit_number limit.Bound = 3

abbrev pub refusal_number : RunRefusal → ℕ
refusal_number (Outside l) = 7
refusal_number (IllFormed k) = 6
refusal_number (Room n) = 8
refusal_number OutOfMemory = 0

abbrev pub refusal_values : RunRefusal → List ℕ
refusal_values (Outside l) = limit_number l ∷ []
refusal_values (IllFormed k) = k ∷ []
refusal_values (Room n) = n ∷ []
refusal_values OutOfMemory = []
