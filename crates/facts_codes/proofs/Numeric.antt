-- The codes one by one and the ranges say the same of every byte. The checker computes both. So a code that the ranges know is in
-- the list, and what is computed of the whole list is read off at each of its lines.
use Prim.Native.Nat.{ℕ, zero, suc, ◌+◌, ◌≤◌, ◌<◌}
use native.Mathlib.Omega.{arith}
use mathlib.Core.Path.{◌≡◌, refl}
use mathlib.Core.Bool.{Bool, true, false, cond, ◌&&◌}
use mathlib.Core.Option.{some}
use mathlib.Core.List.{List, [], ◌∷◌, map}
use lib.Dec.{eqb, leb}
use borrow.Author.Tests.{eqb-true, eqb-false, leb-true}
use Rattle.scope.specs.Lists.{every}
use Rattle.scope.specs.Numeric.{Numeric, Range, ranges, within, numeric_of}
use Rattle.scope.proofs.Computes.{computes}
use Rattle.scope.proofs.Truths.{from_both}
use Rattle.scope.proofs.Impossible.{impossible}
use Rattle.facts_codes.specs.Numeric.{Code, typed_of, upward, codes, every_byte, Among, is_first_lem, is_later}

-- the codes 45 to C4, each once and in order
pub codes_in_order : map (λ c. c.byte) codes ≡ upward 0x45 128
codes_in_order = refl

pub every_byte_lem : map (λ b. typed_of (numeric_of b)) (upward 0 256) ≡ every_byte
unfolding computes
every_byte_lem = refl

-- lists

same_heads : {A : Type 0} {x y : A} {xs ys : List A} → (x ∷ xs) ≡ (y ∷ ys) → x ≡ y
same_heads e = cc

same_tails : {A : Type 0} {x y : A} {xs ys : List A} → (x ∷ xs) ≡ (y ∷ ys) → xs ≡ ys
same_tails e = cc

-- what is computed of the whole list, at one of its lines
pub read_off : {A B : Type 0} (f g : A → B) {x : A} {xs : List A} → map f xs ≡ map g xs → Among x xs → f x ≡ g x
read_off f g e is_first_lem = same_heads e
read_off f g e (is_later later) = read_off f g (same_tails e) later

among_upward : (n i b : ℕ) → i ≤ b → b < i + n → Among b (upward i n)
among_upward zero i b h l = absurd (contradiction_at i b h l)
  where
    contradiction_at : (i b : ℕ) → i ≤ b → b < i + 0 → ⊥
    contradiction_at i b h l = omega arith
among_upward (suc n) i b h l = go (eqb b i) refl (λ next. among_upward n (suc i) b next (omega arith))
  where
    go : (t : Bool) → eqb b i ≡ t → (suc i ≤ b → Among b (upward (suc i) n)) → Among b (i ∷ upward (suc i) n)
    go true e k = rw (eqb-true b i e) is_first_lem
    go false e k = let other = eqb-false b i e in is_later (k (omega arith))

-- a line that another line was made of
made_of : {A B : Type 0} (f : A → B) {y : B} (xs : List A) → Among y (map f xs) → (x : A) × Among x xs × (f x ≡ y)
made_of f [] x = elim x [ ]
made_of f (x ∷ xs) is_first_lem = (x, is_first_lem, refl)
made_of f (x ∷ xs) (is_later later) = let (z, among, same) = made_of f xs later in (z, is_later among, same)

-- the ranges begin at 45 and end at C4
abbrev inside : Range → Bool
inside r = leb 0x45 r.first && leb r.last 0xC4

within_ends : (b : ℕ) (rs : List Range) {kinds : Numeric} → every inside rs ≡ true → within b rs ≡ some kinds → (0x45 ≤ b) × (b ≤ 0xC4)
within_ends b [] all e = impossible cc
within_ends b (r ∷ rs) {kinds} all e =
    let both = from_both (inside r) (every inside rs) all in
    go (leb r.first b && leb b r.last) refl both.0 (λ f. within_ends b rs both.1 f) e
  where
    go :
        (t : Bool) → (leb r.first b && leb b r.last) ≡ t → inside r ≡ true → (within b rs ≡ some kinds → (0x45 ≤ b) × (b ≤ 0xC4))
        → cond t (some r.is) (within b rs) ≡ some kinds → (0x45 ≤ b) × (b ≤ 0xC4)
    go true here ends later e =
        let above = leb-true r.first b (from_both (leb r.first b) (leb b r.last) here).0 in
        let below = leb-true b r.last (from_both (leb r.first b) (leb b r.last) here).1 in
        let first = leb-true 0x45 r.first (from_both (leb 0x45 r.first) (leb r.last 0xC4) ends).0 in
        let last = leb-true r.last 0xC4 (from_both (leb 0x45 r.first) (leb r.last 0xC4) ends).1 in
        (omega arith, omega arith)
    go false here ends later e = later e

pub numeric_ends : (b : ℕ) {kinds : Numeric} → numeric_of b ≡ some kinds → (0x45 ≤ b) × (b ≤ 0xC4)
unfolding numeric_of
numeric_ends b e = within_ends b ranges refl e

-- a code that the ranges know is in the list
pub numeric-listed : (b : ℕ) {kinds : Numeric} → numeric_of b ≡ some kinds → (c : Code) × Among c codes × (c.byte ≡ b)
numeric-listed b e =
    let (first, last) = numeric_ends b e in
    made_of (λ c. c.byte) codes (rw codes_in_order (among_upward 128 0x45 b first (omega arith)))

-- and what is in the list is what they say of it
all_typed : map (λ c. typed_of (numeric_of c.byte)) codes ≡ map (λ c. some c.typed) codes
unfolding computes
all_typed = refl

pub listed-typed : {c : Code} → Among c codes → typed_of (numeric_of c.byte) ≡ some c.typed
listed-typed among = read_off (λ c. typed_of (numeric_of c.byte)) (λ c. some c.typed) all_typed among
