-- The main theorem at document 01's bytes, both ways. The verdict is computed. Where it is yes, the theorem gives the
-- derivation: an object with its descriptor, and ref.get_desc of an unknown. Where it is no, the theorem says that there is
-- none: struct.new of a type with a descriptor, and (ref y) where struct.new_desc takes (ref null (exact y)).
use Prim.Native.Nat.{ℕ}
use mathlib.Core.Path.{◌≡◌, refl}
use mathlib.Core.Bool.{Bool, true, false, false≢true}
use mathlib.Core.List.{List, [], ◌∷◌}
use Rattle.scope.specs.Sections.{empty_library}
use Rattle.scope.specs.Refusals.{bad_operand, bad_struct}
use Rattle.scope.specs.Syntax.{Definition}
use Rattle.scope.specs.declared.Place.{Place}
use Rattle.scope.specs.Judging.{plain, Judged, accepted, rejected, Joined, judge_joined}
use Rattle.scope.specs.Bodies.{judge_body}
use Rattle.scope.proofs.Computes.{computes}
use Rattle.scope.proofs.Impossible.{contradiction}
use Rattle.facts_bodies.specs.Typing.{AllowedBody}
use Rattle.facts_bodies.proofs.Main.{accepted_exactly_when_allowed}

-- F1 and F2 of document 01: type 0 has descriptor 1, and type 2 is a function type that gives (ref (exact 0)) or (ref (exact 1))
abbrev F : ℕ → List ℕ
F gives = 0x02 ∷ 0x4E ∷ 0x02 ∷ 0x4D ∷ 0x01 ∷ 0x5F ∷ 0x00 ∷ 0x4C ∷ 0x00 ∷ 0x5F ∷ 0x00 ∷ 0x60 ∷ 0x00 ∷ 0x01 ∷ 0x64 ∷ 0x62 ∷ gives ∷ []

abbrev joined_of : Judged Joined → Joined
joined_of (accepted j) = j
joined_of (rejected n p) = record { before = 0; types = [] }

abbrev is_yes : {A : Type 0} → Judged A → Bool
is_yes (accepted x) = true
is_yes (rejected n p) = false

said-yes : {A : Type 0} (j : Judged A) → is_yes j ≡ true → (x : A) × (j ≡ accepted x)
said-yes (accepted x) e = (x, refl)
said-yes (rejected n p) e = absurd (false≢true e)

-- the types of F1 and of F2
abbrev both : ℕ → Joined
both gives = joined_of (judge_joined empty_library (F gives))

abbrev types : ℕ → List Definition
types gives = (both gives).types

F1-accepted : judge_joined empty_library (F 0) ≡ accepted (both 0)
unfolding computes
F1-accepted = refl

F2-accepted : judge_joined empty_library (F 1) ≡ accepted (both 1)
unfolding computes
F2-accepted = refl

module _ (gives : ℕ) (judged : judge_joined empty_library (F gives) ≡ accepted (both gives)) (s : List ℕ) where
  derived : is_yes (judge_body empty_library (F gives) s 2) ≡ true → AllowedBody (types gives) 2 s
  derived e = (accepted_exactly_when_allowed empty_library (F gives) s 2 judged).0 (said-yes _ e)

  underivable : {n : ℕ} {p : Place} → judge_body empty_library (F gives) s 2 ≡ rejected n p → ¬ AllowedBody (types gives) 2 s
  underivable e a =
      let (b, yes') = (accepted_exactly_when_allowed empty_library (F gives) s 2 judged).1 a in
      contradiction cc

-- a yes

abbrev with_descriptor : List ℕ
with_descriptor = 0x00 ∷ 0xFB ∷ 0x00 ∷ 0x01 ∷ 0xFB ∷ 0x20 ∷ 0x00 ∷ 0x0B ∷ []

pub with_descriptor_allowed : AllowedBody (types 0) 2 with_descriptor
unfolding computes
with_descriptor_allowed = derived 0 F1-accepted with_descriptor refl

abbrev descriptor_of_unknown : List ℕ
descriptor_of_unknown = 0x00 ∷ 0x00 ∷ 0xFB ∷ 0x22 ∷ 0x00 ∷ 0x0B ∷ []

pub descriptor_of_unknown_allowed : AllowedBody (types 1) 2 descriptor_of_unknown
unfolding computes
descriptor_of_unknown_allowed = derived 1 F2-accepted descriptor_of_unknown refl

-- a no

abbrev without_descriptor : List ℕ
without_descriptor = 0x00 ∷ 0xFB ∷ 0x00 ∷ 0x00 ∷ 0x0B ∷ []

pub without_descriptor_not_allowed : ¬ AllowedBody (types 0) 2 without_descriptor
unfolding computes
without_descriptor_not_allowed = underivable 0 F1-accepted without_descriptor {n = bad_struct} {p = plain 1} refl

abbrev inexact_descriptor : List ℕ
inexact_descriptor = 0x01 ∷ 0x01 ∷ 0x64 ∷ 0x01 ∷ 0xFB ∷ 0x00 ∷ 0x01 ∷ 0x21 ∷ 0x00 ∷ 0x20 ∷ 0x00 ∷ 0xFB ∷ 0x20 ∷ 0x00 ∷ 0x0B ∷ []

pub inexact_descriptor_not_allowed : ¬ AllowedBody (types 0) 2 inexact_descriptor
unfolding computes
inexact_descriptor_not_allowed = underivable 0 F1-accepted inexact_descriptor {n = bad_operand} {p = plain 11} refl
