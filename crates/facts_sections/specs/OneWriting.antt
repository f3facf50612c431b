-- How far a section's syntax says its bytes. Since request 10 of document 02 no number has "more bytes than it needs", so a number,
-- a heap type and a clause have one writing each. Three things have two: a nullable reference to an abstract type (its code alone,
-- or 63 and the code), a final definition without supertypes (nothing, or 4F 00), and a group of one definition (alone, or 4E 01).
-- Syntax keeps where a definition's bytes lie, and that tells the last two apart; so bytes and syntax say each other wherever no
-- value type is a nullable reference to an abstract type.
use Rattle.std.specs.Prelude.{ℕ, ◌<◌, ◌≡◌, ◌⊎◌, ◌↔◌, true, false, List, [], ◌∷◌, map}
use Rattle.std.proofs.Math.Option.{Option, none}
use Rattle.scope.specs.Reading.{Read, got, then}
use Rattle.scope.specs.Numbers.{Whole}
use Rattle.scope.specs.Abstract.{Abstract, row}
use Rattle.scope.specs.Syntax.{Heap, abstract, defined, exact, i32, Number, Val, num, ref, Field, Form, struct, func, Definition, Group}
use Rattle.scope.specs.Sections.{read_after}
use Rattle.facts_sections.specs.Writing.{Unsigned, Signed, WritesHeap, WritesVal, WritesClause, WritesSection}

pub data All {A : Type 0} (P : A → Type 0) : List A → Type 0 where
  none_left_lem : All P []
  also : {x : A} {xs : List A} → P x → All P xs → All P (x ∷ xs)

abbrev pub Bytes : List ℕ → Type 0
Bytes = All (λ b. b < 256)

-- every value type but a nullable reference to an abstract type
pub data OneWay : Val → Type 0 where
  a_number : {n : Number} → OneWay (num n)
  not_null : {h : Heap} → OneWay (ref false h)
  nullable_number : {x : ℕ} → OneWay (ref true (defined x))
  nullable_exact : {x : ℕ} → OneWay (ref true (exact x))

pub data OneWayForm : Form → Type 0 where
  a_struct : {fs : List Field} → All (λ f. OneWay f.holds) fs → OneWayForm (struct fs)
  a_function : {ps rs : List Val} → All OneWay ps → All OneWay rs → OneWayForm (func ps rs)

abbrev pub OneWayGroups : List Group → Type 0
OneWayGroups = All (All (λ d. OneWayForm d.form))

pub record OneWriting : Type 0 where
  pub naturals : (width : ℕ) {w u : List ℕ} {v : ℕ} → Bytes w → Bytes u → Unsigned width w v → Unsigned width u v → w ≡ u
  pub wholes : (width : ℕ) {w u : List ℕ} {v : Whole} → Bytes w → Bytes u → Signed width w v → Signed width u v → w ≡ u
  pub heaps : {w u : List ℕ} {h : Heap} → Bytes w → Bytes u → WritesHeap w h → WritesHeap u h → w ≡ u
  pub clauses : (code : ℕ) {w u : List ℕ} {x : Option ℕ} → Bytes w → Bytes u → WritesClause code w x → WritesClause code u x → w ≡ u
  pub values : {w u : List ℕ} {v : Val} → OneWay v → Bytes w → Bytes u → WritesVal w v → WritesVal u v → w ≡ u
  -- the exception, whole
  pub either : {w : List ℕ} {a : Abstract} → WritesVal w (ref true (abstract a)) ↔ ((w ≡ (row a).code ∷ []) ⊎ (w ≡ 0x63 ∷ (row a).code ∷ []))
  -- a section's syntax says its bytes; that its bytes say its syntax is `one_syntax` of proofs/SectionReading.antt
  pub sections : {first : ℕ} {w u : List ℕ} {gs : List Group} → OneWayGroups gs → Bytes w → Bytes u → WritesSection first w gs → WritesSection first u gs → w ≡ u

-- The exceptions, by bytes

-- a definition without where its bytes lie
abbrev pub unplaced : Definition → Definition
unplaced d =
    record { is_open = d.is_open; supers = d.supers; describes = d.describes; descriptor = d.descriptor; form = d.form; from = 0; to = 0; reach = d.reach }

abbrev pub read_unplaced : List ℕ → Read (List Group)
read_unplaced s = then (read_after 0 s) (λ gs stop. got (map (map unplaced) gs) 0)

-- two sections that differ in the writing of one thing
pub record TwoWritings : Type 0 where
  pub one : List ℕ
  pub other : List ℕ

abbrev pub several_writings : List TwoWritings
several_writings =
    -- a group of one, alone or with 4E 01
    record { one = 0x01 ∷ 0x5F ∷ 0x00 ∷ []; other = 0x01 ∷ 0x4E ∷ 0x01 ∷ 0x5F ∷ 0x00 ∷ [] }
    -- final without supertypes: nothing, or 4F 00
    ∷ record { one = 0x01 ∷ 0x5F ∷ 0x00 ∷ []; other = 0x01 ∷ 0x4F ∷ 0x00 ∷ 0x5F ∷ 0x00 ∷ [] }
    -- (ref null any): 6E, or 63 6E
    ∷ record { one = 0x01 ∷ 0x5F ∷ 0x01 ∷ 0x6E ∷ 0x00 ∷ []; other = 0x01 ∷ 0x5F ∷ 0x01 ∷ 0x63 ∷ 0x6E ∷ 0x00 ∷ [] }
    ∷ []

-- places do not tell the last apart: two fields, each written the other way
abbrev pub same_places : TwoWritings
same_places =
    record {
      one = 0x01 ∷ 0x5F ∷ 0x02 ∷ 0x6E ∷ 0x00 ∷ 0x63 ∷ 0x6E ∷ 0x00 ∷ [];
      other = 0x01 ∷ 0x5F ∷ 0x02 ∷ 0x63 ∷ 0x6E ∷ 0x00 ∷ 0x6E ∷ 0x00 ∷ [];
    }

-- a section whose syntax says its bytes: an i32, a mutable (ref null 0) and a (ref (exact 0))
abbrev pub one_way : List ℕ
one_way = 0x01 ∷ 0x5F ∷ 0x03 ∷ 0x7F ∷ 0x00 ∷ 0x63 ∷ 0x00 ∷ 0x01 ∷ 0x64 ∷ 0x62 ∷ 0x00 ∷ 0x00 ∷ []

abbrev pub one_way_groups : List Group
one_way_groups =
    (record {
      is_open = false;
      supers = [];
      describes = none;
      descriptor = none;
      form = struct (record { holds = num i32; mutable = false } ∷ record { holds = ref true (defined 0); mutable = true } ∷ record { holds = ref false (exact 0); mutable = false } ∷ []);
      from = 1;
      to = 12;
      reach = 1;
    }
    ∷ [])
    ∷ []

pub record HowFar : Type 0 where
  pub unplaced_same : map (λ (t : TwoWritings). read_unplaced t.one) several_writings ≡ map (λ (t : TwoWritings). read_unplaced t.other) several_writings
  pub placed_same : read_after 0 same_places.one ≡ read_after 0 same_places.other
  -- whoever writes what this section says writes these bytes
  pub met : WritesSection 0 one_way one_way_groups × ((u : List ℕ) → Bytes u → WritesSection 0 u one_way_groups → u ≡ one_way)
