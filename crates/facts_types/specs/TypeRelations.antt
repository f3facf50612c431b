-- Type rules 1 to 5 as relations over the types by number: a constructor or a field for each thing that their sentences
-- say, with no word of refusals, places or tests. Rule 6 is the relation `ValOrder` of scope's specs/Order.antt.
-- `Valid ts n` collects them for every type below n.
use Rattle.std.specs.Prelude.{ℕ, ◌<◌, ◌≡◌, Bool, true, false}
use Rattle.std.proofs.Math.Option.{Option, none, some}
use mathlib.Core.List.{List, [], ◌∷◌, Memᴰ}
use Rattle.scope.specs.Syntax.{defined, exact, Val, ref, Field, Form, struct, func, Definition, Types, super_of}
use Rattle.scope.specs.Order.{ValOrder}

-- Rule 1: "A number may name any type up to the end of its own group."

-- a value type names a type number
pub data ValNames : Val → ℕ → Type 0 where
  of_defined : {n : Bool} {y : ℕ} → ValNames (ref n (defined y)) y
  of_exact : {n : Bool} {y : ℕ} → ValNames (ref n (exact y)) y

pub data FieldNames : Field → ℕ → Type 0 where
  of_holds : {f : Field} {y : ℕ} → ValNames f.holds y → FieldNames f y

-- one of the list names it
pub data SomeNames {A : Type 0} (R : A → ℕ → Type 0) : List A → ℕ → Type 0 where
  this_names : {x : A} {xs : List A} {y : ℕ} → R x y → SomeNames R (x ∷ xs) y
  later_names : {x : A} {xs : List A} {y : ℕ} → SomeNames R xs y → SomeNames R (x ∷ xs) y

pub data FormNames : Form → ℕ → Type 0 where
  in_field : {fs : List Field} {y : ℕ} → SomeNames FieldNames fs y → FormNames (struct fs) y
  in_parameter : {ps rs : List Val} {y : ℕ} → SomeNames ValNames ps y → FormNames (func ps rs) y
  in_result : {ps rs : List Val} {y : ℕ} → SomeNames ValNames rs y → FormNames (func ps rs) y

pub data Names (d : Definition) (y : ℕ) : Type 0 where
  as_supertype : Memᴰ y d.supers → Names d y
  as_described : d.describes ≡ some y → Names d y
  as_descriptor : d.descriptor ≡ some y → Names d y
  in_form : FormNames d.form y → Names d y

pub record InReach (d : Definition) : Type 0 where
  pub reached : {y : ℕ} → Names d y → y < d.reach

-- Rule 1: "At most one supertype; it is earlier and open."
pub data SupertypesOf (ts : Types) (x : ℕ) : List ℕ → Type 0 where
  no_supertype : SupertypesOf ts x []
  one_supertype : {p : ℕ} → p < x → (ts p).is_open ≡ true → SupertypesOf ts x (p ∷ [])

-- p is the supertype of x
abbrev pub Supertype : Types → ℕ → ℕ → Type 0
Supertype ts x p = super_of (ts x) ≡ some p

-- Rule 2: "Forms are equal. A struct matches its supertype with at least as many fields: a fixed field's type is a
-- subtype, a mutable one's is identical, mutability equal. Functions: same counts, parameters against, results along."

pub data FieldMatches (ts : Types) : Field → Field → Type 0 where
  fixed_subtype : {v w : Val} → ValOrder ts v w → FieldMatches ts (record { holds = v; mutable = false }) (record { holds = w; mutable = false })
  mutable_identical : {v : Val} → FieldMatches ts (record { holds = v; mutable = true }) (record { holds = v; mutable = true })

-- at least as many, and each that has a partner stands in the relation to it
pub data AtLeast {A B : Type 0} (R : A → B → Type 0) : List A → List B → Type 0 where
  any_more : {xs : List A} → AtLeast R xs []
  one_and_more : {x : A} {y : B} {xs : List A} {ys : List B} → R x y → AtLeast R xs ys → AtLeast R (x ∷ xs) (y ∷ ys)

-- the same count, and each stands in the relation to its partner
pub data AsMany {A B : Type 0} (R : A → B → Type 0) : List A → List B → Type 0 where
  no_more : AsMany R [] []
  one_and_as_many : {x : A} {y : B} {xs : List A} {ys : List B} → R x y → AsMany R xs ys → AsMany R (x ∷ xs) (y ∷ ys)

-- parameters against
pub data Against (ts : Types) (v w : Val) : Type 0 where
  against : ValOrder ts w v → Against ts v w

pub data FormMatches (ts : Types) : Form → Form → Type 0 where
  structs : {fs gs : List Field} → AtLeast (FieldMatches ts) fs gs → FormMatches ts (struct fs) (struct gs)
  functions : {ps rs qs ss : List Val} → AsMany (Against ts) ps qs → AsMany (ValOrder ts) rs ss → FormMatches ts (func ps rs) (func qs ss)

pub record Matches (ts : Types) (x : ℕ) : Type 0 where
  pub matched : {p : ℕ} → Supertype ts x p → FormMatches ts (ts x).form (ts p).form

-- Rule 3

pub data IsStruct : Form → Type 0 where
  a_struct : {fs : List Field} → IsStruct (struct fs)

-- "Clauses stand on structs only."
pub record OnStruct (ts : Types) (x : ℕ) : Type 0 where
  pub describes_on_struct : {y : ℕ} → (ts x).describes ≡ some y → IsStruct (ts x).form
  pub descriptor_on_struct : {y : ℕ} → (ts x).descriptor ≡ some y → IsStruct (ts x).form

-- "Describes names an earlier type."
pub record DescribesEarlier (ts : Types) (x : ℕ) : Type 0 where
  pub earlier : {y : ℕ} → (ts x).describes ≡ some y → y < x

-- "If x has descriptor y then y describes x, and the reverse."
pub record ClausesAgree (ts : Types) (x : ℕ) : Type 0 where
  pub descriptor_describes : {y : ℕ} → (ts x).descriptor ≡ some y → (ts y).describes ≡ some x
  pub described_has_descriptor : {y : ℕ} → (ts x).describes ≡ some y → (ts y).descriptor ≡ some x

-- Rule 4: "If the supertype has descriptor y, the subtype has a descriptor whose supertype is y. A supertype without one
-- allows either."
pub data DescriptorBelow (ts : Types) (y : ℕ) : Option ℕ → Type 0 where
  descriptor_below : {d : ℕ} → Supertype ts d y → DescriptorBelow ts y (some d)

pub record Descriptors (ts : Types) (x : ℕ) : Type 0 where
  pub follows : {p y : ℕ} → Supertype ts x p → (ts p).descriptor ≡ some y → DescriptorBelow ts y (ts x).descriptor

-- Rule 5: "A type and its supertype both describe or neither does; the described types stand as subtype and supertype too."
pub data DescribeAlike (ts : Types) : Option ℕ → Option ℕ → Type 0 where
  neither_describes : DescribeAlike ts none none
  both_describe : {a b : ℕ} → Supertype ts a b → DescribeAlike ts (some a) (some b)

pub record Described (ts : Types) (x : ℕ) : Type 0 where
  pub alike : {p : ℕ} → Supertype ts x p → DescribeAlike ts (ts x).describes (ts p).describes

-- The rules of one type, and of all below n

pub record ValidType (ts : Types) (x : ℕ) : Type 0 where
  pub reach : InReach (ts x)
  pub supertypes : SupertypesOf ts x (ts x).supers
  pub matches : Matches ts x
  pub on_struct : OnStruct ts x
  pub describes_earlier : DescribesEarlier ts x
  pub agree : ClausesAgree ts x
  pub descriptors : Descriptors ts x
  pub described : Described ts x

pub record Valid (ts : Types) (n : ℕ) : Type 0 where
  pub each : (x : ℕ) → x < n → ValidType ts x
