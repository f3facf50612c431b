-- What a reader gives, and the two ways in which readers are put together. A reader takes the input and a place in it.
-- Places are byte offsets; a missing byte lies at the input's length.
use Rattle.std.specs.Prelude.{ℕ, zero, suc, List, [], ◌∷◌}
use Rattle.std.proofs.Math.Option.{Option, none, some}
use Rattle.std.proofs.Math.ListN.{get_elem?}
use Rattle.scope.specs.Refusals.{bytes_end, oversize}

-- a value with the place after its bytes, or a refusal's number and place. No is `refused` of what is read, `rejected` of what
-- is judged (Judging.antt), and `Refused` in every enum of the code.
pub data Read (A : Type 0) : Type 0 where
  got : A → ℕ → Read A
  refused : ℕ → ℕ → Read A

abbrev pub Reader : Type 0 → Type 0
Reader A = List ℕ → ℕ → Read A

-- what an optional value is read as: `other` where there is none
abbrev pub given : {A B : Type 0} → Option A → B → (A → B) → B
given none other f = other
given (some x) other f = f x

-- one after the other: the first refusal is the answer
abbrev pub then : {A B : Type 0} → Read A → (A → ℕ → Read B) → Read B
then (got x next) f = f x next
then (refused n p) f = refused n p

-- a code byte is an item: where it is missing, bytes end inside an item
abbrev pub on_byte : {A : Type 0} → List ℕ → ℕ → (ℕ → Read A) → Read A
on_byte s at f = given (get_elem? s at) (refused bytes_end at) f

-- `n` entries of a list for which there is `room`. The entry beyond is refused at its first byte, before its bytes are read.
unfoldable pub entries : {A : Type 0} → Reader A → ℕ → ℕ → Reader (List A)
entries one room zero s at = got [] at
entries one zero (suc n) s at = refused oversize at
entries one (suc room) (suc n) s at =
    then (one s at) (λ x next. then (entries one room n s next) (λ xs end. got (x ∷ xs) end))
