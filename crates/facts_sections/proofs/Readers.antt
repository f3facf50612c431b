-- `Reads W Small r`: the reader r gives a value exactly where a writing of it lies that is small enough. And what a
-- reader that is put together from `then`, `on_byte`, `cond` and `given` has given, taken apart.
use Prim.Native.Nat.{ℕ, ◌+◌}
use mathlib.Core.Path.{◌≡◌, refl}
use mathlib.Core.Bool.{Bool, true, false, cond}
use mathlib.Core.Option.{Option, none, some}
use mathlib.Core.List.{List, ◌∷◌}
use lib.ListN.{get_elem?}
use lib.Dec.{eqb}
use borrow.Author.Tests.{eqb-true}
use Rattle.scope.specs.Reading.{Read, got, refused, Reader, given, then, on_byte}
use Rattle.scope.proofs.Impossible.{contradiction}
use Rattle.facts_sections.specs.Between.{Between, byte}

-- a writing of x lies in s between the two places
pub record Found {A : Type 0} (W : ℕ → List ℕ → A → Type 0) (Small : A → Type 0) (s : List ℕ) (at : ℕ) (x : A) (next : ℕ) : Type 0 where
  pub bytes : List ℕ
  pub lies : Between s at bytes next
  pub writes : W at bytes x
  pub small : Small x

pub record Reads {A : Type 0} (W : ℕ → List ℕ → A → Type 0) (Small : A → Type 0) (r : Reader A) : Type 0 where
  pub sound : (s : List ℕ) (at : ℕ) {x : A} {next : ℕ} → r s at ≡ got x next → Found W Small s at x next
  pub complete : {s w : List ℕ} {at next : ℕ} {x : A} → Between s at w next → W at w x → Small x → r s at ≡ got x next

-- no size is asked
abbrev pub AnySize : {A : Type 0} → A → Type 0
AnySize x = Unit {0}

-- What was read, taken apart

pub refused_is_not_got : {A : Type 0} {n p next : ℕ} {x : A} → refused n p ≡ got x next → ⊥
refused_is_not_got e = contradiction cc

pub by_cond : {A C : Type 0} (t : Bool) {p q r : A} → (t ≡ true → p ≡ r → C) → (t ≡ false → q ≡ r → C) → cond t p q ≡ r → C
by_cond true first second e = first refl e
by_cond false first second e = second refl e

pub by_given : {A B C : Type 0} (o : Option B) {q r : A} {f : B → A} → ((y : B) → o ≡ some y → f y ≡ r → C) → (o ≡ none → q ≡ r → C) → given o q f ≡ r → C
by_given none there absent e = absent refl e
by_given (some y) there absent e = there y refl e

pub then_got : {A B : Type 0} (r : Read A) (f : A → ℕ → Read B) {y : B} {end : ℕ} → then r f ≡ got y end → (x : A) × (next : ℕ) × (r ≡ got x next) × (f x next ≡ got y end)
then_got (got x next) f e = (x, next, refl, e)
then_got (refused n p) f e = absurd (refused_is_not_got e)

pub byte_got : {A : Type 0} (s : List ℕ) (at : ℕ) (f : ℕ → Read A) {y : A} {end : ℕ} → on_byte s at f ≡ got y end → (b : ℕ) × (get_elem? s at ≡ some b) × (f b ≡ got y end)
byte_got s at f e = by_given (get_elem? s at) (λ b there g. (b, there, g)) (λ absent g. absurd (refused_is_not_got g)) e

-- What was found, under the names that the reader gave

pub found_got : {A : Type 0} {W : ℕ → List ℕ → A → Type 0} {Small : A → Type 0} {s : List ℕ} {at end next : ℕ} {x y : A} → got x end ≡ got y next → Found W Small s at x end → Found W Small s at y next
found_got {end = end} {next} {x} {y} e f = let p : x ≡ y = cc in let q : end ≡ next = cc in rw (← p, ← q) f

-- A byte that is this code, alone or with what stands behind it

pub this_byte : {s w : List ℕ} {at b code end : ℕ} → get_elem? s at ≡ some b → b ≡ code → Between s (at + 1) w end → Between s at (code ∷ w) end
this_byte there same rest = byte (rw same at there) rest

pub coded : {A B : Type 0} {W : ℕ → List ℕ → A → Type 0} {Small : A → Type 0} {r : Reader A} {U : ℕ → List ℕ → B → Type 0} {Fits : B → Type 0}
    → Reads W Small r → (code : ℕ) (f : A → B) {s : List ℕ} {at b : ℕ} {y : B} {next : ℕ}
    → ((w : List ℕ) (x : A) → W (at + 1) w x → U at (code ∷ w) (f x)) → ((x : A) → Small x → Fits (f x))
    → get_elem? s at ≡ some b → eqb b code ≡ true → then (r s (at + 1)) (λ x end. got (f x) end) ≡ got y next → Found U Fits s at y next
coded {r = r} reads code f {s} {at} {b} writes fits there same e =
    let (x, end, read, g) = then_got (r s (at + 1)) (λ x end. got (f x) end) e in
    let n = reads.sound s (at + 1) read in
    found_got g (record { bytes = code ∷ n.bytes; lies = this_byte there (eqb-true b code same) n.lies; writes = writes n.bytes x n.writes; small = fits x n.small })
