-- Tests over lists that the rules are asked through. The lists themselves are the library's.
use Rattle.std.specs.Prelude.{ℕ, ◌+◌, Bool, true, false, ◌&&◌, ◌||◌, List, [], ◌∷◌, ◌++◌}
use Rattle.std.proofs.Math.Option.{Option, none, some}

-- the test passes at every element
abbrev pub every : {A : Type 0} → (A → Bool) → List A → Bool
every f [] = true
every f (x ∷ xs) = f x && every f xs

-- the test passes at some element
abbrev pub some_of : {A : Type 0} → (A → Bool) → List A → Bool
some_of f [] = false
some_of f (x ∷ xs) = f x || some_of f xs

-- the lists have as many elements, and the test passes at each pair
abbrev pub pairwise : {A B : Type 0} → (A → B → Bool) → List A → List B → Bool
pairwise f [] [] = true
pairwise f [] (y ∷ ys) = false
pairwise f (x ∷ xs) [] = false
pairwise f (x ∷ xs) (y ∷ ys) = f x y && pairwise f xs ys

-- the first list has at least as many elements, and the test passes at each pair
abbrev pub prefixwise : {A B : Type 0} → (A → B → Bool) → List A → List B → Bool
prefixwise f xs [] = true
prefixwise f [] (y ∷ ys) = false
prefixwise f (x ∷ xs) (y ∷ ys) = f x y && prefixwise f xs ys

-- the elements of the lists, one list after the other
abbrev pub joined : {A : Type 0} → List (List A) → List A
joined [] = []
joined (xs ∷ more) = xs ++ joined more

abbrev pub sum : List ℕ → ℕ
sum [] = 0
sum (n ∷ ns) = n + sum ns

-- what may be missing, as a list
abbrev pub as_list : {A : Type 0} → Option A → List A
as_list none = []
as_list (some x) = x ∷ []

abbrev pub is_none : {A : Type 0} → Option A → Bool
is_none none = true
is_none (some x) = false
