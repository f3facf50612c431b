-- The format as relations: which bytes are a writing of which piece of syntax, a constructor for each way that document 01
-- gives. Bytes are lists put one after the other. A definition keeps where its bytes lie, so definitions and groups carry
-- along the place where their bytes begin; nothing is looked up by place.
use Rattle.std.specs.Prelude.{ℕ, ◌+◌, ◌-◌, ◌*◌, ◌^◌, ◌%◌, ◌<◌, ◌≤◌, Bool, true, false, List, [], ◌∷◌, ◌++◌, length}
use Rattle.std.proofs.Math.Option.{Option, none, some}
use Rattle.scope.specs.Numbers.{greatest_length, Whole, plus, minus}
use Rattle.scope.specs.Abstract.{Abstract, row}
use Rattle.scope.specs.Syntax.{Heap, abstract, defined, exact, i32, i64, f32, f64, Val, num, ref, Field, Form, struct, func, Definition, Group}
use Rattle.scope.specs.Sections.{Head, describes_code, descriptor_code}

-- "Numbers are LEB128 as the core standard has them." Document 01's leave to pad them is withdrawn by request 10 of document 02:
-- no number has "more bytes than it needs".

-- seven bits a byte, lowest first; every byte but the last is 128 or more
pub data Sevens : List ℕ → ℕ → Type 0 where
  last_seven : {b : ℕ} → b < 128 → Sevens (b ∷ []) b
  seven_more : {b v : ℕ} {w : List ℕ} → 128 ≤ b → Sevens w v → Sevens (b ∷ w) (b % 128 + 128 * v)

-- of a whole number the highest bit of the bytes is the sign
pub data Twos : List ℕ → Whole → Type 0 where
  not_negative : {w : List ℕ} {v : ℕ} → Sevens w v → v < 2 ^ (7 * length w - 1) → Twos w (plus v)
  negative : {w : List ℕ} {v : ℕ} → Sevens w v → 2 ^ (7 * length w - 1) ≤ v → Twos w (minus (2 ^ (7 * length w) - v))

-- as many bytes as it needs: no shorter writing has this value
pub data Shortest {A : Type 0} (W : List ℕ → A → Type 0) (w : List ℕ) (x : A) : Type 0 where
  none_shorter : ((u : List ℕ) → W u x → length w ≤ length u) → Shortest W w x

-- the range of so many bits
pub data NaturalRange (width : ℕ) : ℕ → Type 0 where
  a_natural : {v : ℕ} → v < 2 ^ width → NaturalRange width v

pub data WholeRange (width : ℕ) : Whole → Type 0 where
  from_zero_on : {v : ℕ} → v < 2 ^ (width - 1) → WholeRange width (plus v)
  below-zero : {v : ℕ} → v ≤ 2 ^ (width - 1) → WholeRange width (minus v)

-- a number of so many bits: at most the greatest length, in the range of the width, and no byte more than it needs
pub data Numeral {A : Type 0} (W : List ℕ → A → Type 0) (Range : ℕ → A → Type 0) (width : ℕ) : List ℕ → A → Type 0 where
  a_numeral : {w : List ℕ} {x : A} → W w x → length w ≤ greatest_length width → Range width x → Shortest W w x → Numeral W Range width w x

-- uN and sN
abbrev pub Unsigned : ℕ → List ℕ → ℕ → Type 0
Unsigned = Numeral Sevens NaturalRange

abbrev pub Signed : ℕ → List ℕ → Whole → Type 0
Signed = Numeral Twos WholeRange

-- "Heap: 62 x (exact x), an abstract code, or a type number as a non-negative s33."
pub data WritesHeap : List ℕ → Heap → Type 0 where
  exact_type : {w : List ℕ} {x : ℕ} → Unsigned 32 w x → WritesHeap (0x62 ∷ w) (exact x)
  abstract_code_lem : {a : Abstract} → WritesHeap ((row a).code ∷ []) (abstract a)
  is_type_number : {w : List ℕ} {x : ℕ} → Signed 33 w (plus x) → WritesHeap w (defined x)

-- "7F i32, 7E i64, 7D f32, 7C f64, 63 heap (nullable), 64 heap; an abstract code alone is its nullable reference."
pub data WritesVal : List ℕ → Val → Type 0 where
  i32_type : WritesVal (0x7F ∷ []) (num i32)
  i64_type : WritesVal (0x7E ∷ []) (num i64)
  f32_type : WritesVal (0x7D ∷ []) (num f32)
  f64_type : WritesVal (0x7C ∷ []) (num f64)
  nullable_reference : {w : List ℕ} {h : Heap} → WritesHeap w h → WritesVal (0x63 ∷ w) (ref true h)
  reference : {w : List ℕ} {h : Heap} → WritesHeap w h → WritesVal (0x64 ∷ w) (ref false h)
  abstract_alone : {a : Abstract} → WritesVal ((row a).code ∷ []) (ref true (abstract a))

-- "Field: value type, then 00 fixed or 01 mutable."
pub data WritesFlag : List ℕ → Bool → Type 0 where
  fixed_flag : WritesFlag (0x00 ∷ []) false
  mutable_flag : WritesFlag (0x01 ∷ []) true

pub data WritesField : List ℕ → Field → Type 0 where
  a_field : {w u : List ℕ} {v : Val} {m : Bool} → WritesVal w v → WritesFlag u m → WritesField (w ++ u) (record { holds = v; mutable = m })

-- A list: the count, then the entries one after the other, each from the place where the one before it ends

pub data Entries {A : Type 0} (W : ℕ → List ℕ → A → Type 0) : ℕ → List ℕ → List A → Type 0 where
  no_entry : {at : ℕ} → Entries W at [] []
  an_entry : {at : ℕ} {w u : List ℕ} {x : A} {xs : List A} → W at w x → Entries W (at + length w) u xs → Entries W at (w ++ u) (x ∷ xs)

pub data Counted {A : Type 0} (W : ℕ → List ℕ → A → Type 0) : ℕ → List ℕ → List A → Type 0 where
  count_and_entries : {at : ℕ} {w u : List ℕ} {xs : List A} → Unsigned 32 w (length xs) → Entries W (at + length w) u xs → Counted W at (w ++ u) xs

-- what is written the same wherever it stands
abbrev pub Anywhere : {A : Type 0} → (List ℕ → A → Type 0) → ℕ → List ℕ → A → Type 0
Anywhere W at w x = W w x

-- a list of that
pub data Listed {A : Type 0} (W : List ℕ → A → Type 0) (w : List ℕ) (xs : List A) : Type 0 where
  listed : {at : ℕ} → Counted (Anywhere W) at w xs → Listed W w xs

-- "Definition: 50 (open) or 4F (final) with a list of supertypes, or neither (final, none);"
pub data WritesHead : List ℕ → Head → Type 0 where
  open_with_supertypes : {w : List ℕ} {xs : List ℕ} → Listed (Unsigned 32) w xs → WritesHead (0x50 ∷ w) (record { is_open = true; supers = xs })
  final_with_supertypes : {w : List ℕ} {xs : List ℕ} → Listed (Unsigned 32) w xs → WritesHead (0x4F ∷ w) (record { is_open = false; supers = xs })
  neither : WritesHead [] (record { is_open = false; supers = [] })

-- "then optionally 4C x, describes x; then optionally 4D y, descriptor y;"
pub data WritesClause (code : ℕ) : List ℕ → Option ℕ → Type 0 where
  a_clause : {w : List ℕ} {x : ℕ} → Unsigned 32 w x → WritesClause code (code ∷ w) (some x)
  no_clause : WritesClause code [] none

-- "then 5F and a list of fields, or 60 with parameters and results."
pub data WritesForm : List ℕ → Form → Type 0 where
  a_struct_form : {w : List ℕ} {fs : List Field} → Listed WritesField w fs → WritesForm (0x5F ∷ w) (struct fs)
  a_func_form : {w u : List ℕ} {ps rs : List Val} → Listed WritesVal w ps → Listed WritesVal u rs → WritesForm (0x60 ∷ w ++ u) (func ps rs)

-- a definition of a group that reaches so far; it keeps where its bytes lie
pub data WritesDefinition (reach : ℕ) : ℕ → List ℕ → Definition → Type 0 where
  a_definition : {at : ℕ} {w c e u : List ℕ} {h : Head} {x y : Option ℕ} {f : Form}
      → WritesHead w h → WritesClause describes_code c x → WritesClause descriptor_code e y → WritesForm u f
      → WritesDefinition reach at (w ++ (c ++ (e ++ u)))
      (record {
        is_open = h.is_open;
        supers = h.supers;
        describes = x;
        descriptor = y;
        form = f;
        from = at;
        to = at + length (w ++ (c ++ (e ++ u)));
        reach = reach;
      })

-- "Group: 4E and a list of definitions, or one definition alone." So many types stand before it.
pub data WritesGroup (first : ℕ) : ℕ → List ℕ → Group → Type 0 where
  several : {at : ℕ} {w : List ℕ} {ds : List Definition} → Counted (WritesDefinition (first + length ds)) (at + 1) w ds → WritesGroup first at (0x4E ∷ w) ds
  alone : {at : ℕ} {w : List ℕ} {d : Definition} → WritesDefinition (first + 1) at w d → WritesGroup first at w (d ∷ [])

-- groups one after the other; so many types stand before them
pub data WritesGroups : ℕ → ℕ → List ℕ → List Group → Type 0 where
  no_group : {first at : ℕ} → WritesGroups first at [] []
  a_group : {first at : ℕ} {w u : List ℕ} {g : Group} {gs : List Group}
      → WritesGroup first at w g → WritesGroups (first + length g) (at + length w) u gs → WritesGroups first at (w ++ u) (g ∷ gs)

-- "A section is the content of a type section: a list of groups." So many types stand before it, and its "own numbers run on".
pub data WritesSection (first : ℕ) : List ℕ → List Group → Type 0 where
  a_section : {w u : List ℕ} {gs : List Group} → Unsigned 32 w (length gs) → WritesGroups first (length w) u gs → WritesSection first (w ++ u) gs
