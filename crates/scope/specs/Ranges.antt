-- Types as a forest: each stands right below its supertype, and what is below a type is a range of places. `p x` is what stands above
-- x: 0 nothing, else one more than the number. A type's size is how many types are below it, itself among them; it begins after its
-- supertype, or after nothing, and after those of its siblings that have lower numbers. Places count from 1 on.
use Rattle.std.specs.Prelude.{ℕ, zero, suc, ◌+◌, Bool, true, false, eqb}

-- a weight that counts only where the test holds, and is worked out only there
abbrev pub weighed : Bool → (Unit {0} → ℕ) → ℕ
weighed true w = w tt
weighed false w = 0

-- of the m numbers from k on those that have o above them, their weights in all
unfoldable pub total : (ℕ → ℕ) → (ℕ → ℕ) → ℕ → ℕ → ℕ → ℕ
total p w o k zero = 0
total p w o k (suc m) = weighed (eqb (p k) o) (λ t. w k) + total p w o (suc k) m

-- where the first of those begins that have o above them
abbrev pub base : (ℕ → ℕ) → ℕ → ℕ
base start zero = 1
base start (suc q) = start q + 1

-- `deep` is how far they look; n, the number of types, is far enough

unfoldable pub size_of : (ℕ → ℕ) → ℕ → ℕ → ℕ → ℕ
size_of p n zero y = 0
size_of p n (suc deep) y = 1 + total p (size_of p n deep) (suc y) 0 n

unfoldable pub start_of : (ℕ → ℕ) → (ℕ → ℕ) → ℕ → ℕ → ℕ
start_of p size zero x = 0
start_of p size (suc deep) x = base (start_of p size deep) (p x) + total p size (p x) 0 x

abbrev pub size_in : (ℕ → ℕ) → ℕ → ℕ → ℕ
size_in p n y = size_of p n n y

abbrev pub start_in : (ℕ → ℕ) → ℕ → ℕ → ℕ
start_in p n x = start_of p (size_in p n) n x
