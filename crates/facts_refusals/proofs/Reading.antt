-- What a reader refuses: its number is a byte fault's, and its place lies inside the input or at its length. The argument
-- is that of scope's proofs/Forward.antt: a reader is put together from `then`, `on_byte`, `cond` and `given`, each of which
-- keeps it; a reader that begins inside the input or at its length ends there too.
use Prim.Native.Nat.{ℕ, zero, suc, ◌+◌, ◌-◌, ◌*◌, ◌≤◌, ◌<◌}
use native.Mathlib.Omega.{arith}
use mathlib.Core.Path.{◌≡◌, refl}
use mathlib.Core.Bool.{Bool, true, false, cond, ◌&&◌}
use mathlib.Core.Option.{Option, none, some}
use mathlib.Core.List.{List}
use lib.ListN.{length, get_elem?}
use lib.Dec.{ltb, eqb}
use Rattle.scope.specs.Sizes.{most_bytes, most_each, most_types}
use Rattle.scope.specs.Refusals.{bytes_end}
use Rattle.scope.specs.Reading.{Read, got, refused, Reader, given, then, on_byte, entries}
use Rattle.scope.specs.Numbers.{Bits, in_range, Whole, plus, minus, unsigned, signed, little_endian, float_bytes, u32}
use Rattle.scope.specs.Abstract.{abstract_of}
use Rattle.scope.specs.Syntax.{ref}
use Rattle.scope.specs.Sections.{type_number, heap_at, number_of, val_at, flag_at, field_at, few_at, supers_at, head_at, Head, clause_at, describes_code, descriptor_code, form_at, definition_at, group_at, groups_at, ended, read_after}
use Rattle.scope.proofs.Forward.{byte_inside, float_inside, BitsEnd, cuts, longs, stand, bits_end}
use Rattle.facts_refusals.specs.Numbers.{ByteFault, is_bytes_end, is_bad_number, is_not_listed, is_oversize, is_left_over, is_padded}

-- a byte fault at a place up to `hi`, or a place up to `hi` to go on from
pub data Heeds {A : Type 0} (hi : ℕ) : Read A → Type 0 where
  refuses : {n p : ℕ} → ByteFault n → p ≤ hi → Heeds hi (refused n p)
  goes_on_lem : {x : A} {next : ℕ} → next ≤ hi → Heeds hi (got x next)

pub record Heedful {A : Type 0} (r : Reader A) : Type 0 where
  pub heeds : (s : List ℕ) (at : ℕ) → at ≤ length s → Heeds (length s) (r s at)

-- the pieces

module _ {A : Type 0} {hi : ℕ} where
  pub heeds_then : {B : Type 0} {r : Read B} {f : B → ℕ → Read A} → Heeds hi r → ((x : B) (next : ℕ) → next ≤ hi → Heeds hi (f x next)) → Heeds hi (then r f)
  heeds_then (refuses fault inside) k = refuses fault inside
  heeds_then (goes_on_lem {x} {next} inside) k = k x next inside

  pub heeds_cond : (b : Bool) {p q : Read A} → Heeds hi p → Heeds hi q → Heeds hi (cond b p q)
  heeds_cond true p q = p
  heeds_cond false p q = q

  pub heeds_given : {B : Type 0} (o : Option B) {z : Read A} {f : B → Read A} → Heeds hi z → ((x : B) → Heeds hi (f x)) → Heeds hi (given o z f)
  heeds_given none z k = z
  heeds_given (some x) z k = k x

pub heeds_byte : {A : Type 0} (s : List ℕ) (at : ℕ) (f : ℕ → Read A) → at ≤ length s → ((b : ℕ) → at < length s → Heeds (length s) (f b)) → Heeds (length s) (on_byte s at f)
heeds_byte s at f h k = go (get_elem? s at) refl
  where
    go : (o : Option ℕ) → get_elem? s at ≡ o → Heeds (length s) (given o (refused bytes_end at) f)
    go none e = refuses is_bytes_end h
    go (some b) e = k b (byte_inside s at e)

-- numbers: one fact for every width

range_heeds : {A : Type 0} {lo hi : ℕ} (width at : ℕ) {r : Bits} (value : ℕ → ℕ → A) (holds : ℕ → A → Bool) → at ≤ hi → BitsEnd lo hi r → Heeds hi (in_range width at r value holds)
range_heeds width at value holds h cuts = refuses is_bytes_end h
range_heeds width at value holds h longs = refuses is_bad_number h
range_heeds width at value holds h (stand {v} {k} a b) =
    heeds_cond (holds width (value v k)) (heeds_cond (ltb 1 k && holds (7 * (k - 1)) (value v k)) (refuses is_padded h) (goes_on_lem b)) (refuses is_bad_number h)

pub unsigned_heeds : (width : ℕ) → Heedful (unsigned width)
unfolding unsigned
unsigned_heeds width = record { heeds = λ s at h. range_heeds width at _ _ h (bits_end _ s at) }

pub signed_heeds : (width : ℕ) → Heedful (signed width)
unfolding signed
signed_heeds width = record { heeds = λ s at h. range_heeds width at _ _ h (bits_end _ s at) }

-- a float's bytes are one item
pub float_heeds : (n : ℕ) → Heedful (float_bytes (suc n))
unfolding float_bytes
float_heeds n = record { heeds = λ s at h. go s at h (little_endian (suc n) s at) refl }
  where
    go : (s : List ℕ) (at : ℕ) → at ≤ length s → (o : Option ℕ) → little_endian (suc n) s at ≡ o → Heeds (length s) (given o (refused bytes_end at) (λ v. got v (at + suc n)))
    go s at h none e = refuses is_bytes_end h
    go s at h (some v) e = goes_on_lem (float_inside n s at e)

-- lists: the entry beyond is refused where it begins

pub entries_heed : {A : Type 0} {one : Reader A} → Heedful one → (room n : ℕ) (s : List ℕ) (at : ℕ) → at ≤ length s → Heeds (length s) (entries one room n s at)
unfolding entries
entries_heed t room zero s at h = goes_on_lem h
entries_heed t zero (suc n) s at h = refuses is_oversize h
entries_heed t (suc room) (suc n) s at h =
    heeds_then (t.heeds s at h) (λ x next a. heeds_then (entries_heed t room n s next a) (λ xs end b. goes_on_lem b))

-- the readers of a section

type-number_heeds : {hi : ℕ} (at : ℕ) (w : Whole) {next : ℕ} → at ≤ hi → next ≤ hi → Heeds hi (type_number at w next)
type-number_heeds at (plus x) h a = goes_on_lem a
type-number_heeds at (minus x) h a = refuses is_not_listed h

pub heap_heeds : Heedful heap_at
unfolding heap_at
heap_heeds =
    record {
      heeds = λ s at h.
          heeds_byte s at _ h (λ b inside.
          heeds_cond (eqb b 0x62)
          (heeds_then ((unsigned_heeds 32).heeds s (at + 1) (omega arith)) (λ x next a. goes_on_lem a))
          (heeds_given (abstract_of b) (heeds_then ((signed_heeds 33).heeds s at h) (λ w next a. type-number_heeds at w h a)) (λ a. goes_on_lem (omega arith))));
    }

pub val_heeds : Heedful val_at
unfolding val_at
val_heeds =
    record {
      heeds = λ s at h.
          heeds_byte s at _ h (λ b inside.
          let reference : (n : Bool) → Heeds (length s) (then (heap_at s (at + 1)) (λ k next. got (ref n k) next)) =
          λ n. heeds_then (heap_heeds.heeds s (at + 1) (omega arith)) (λ k next a. goes_on_lem a) in
          heeds_given (number_of b)
          (heeds_cond (eqb b 0x63) (reference _)
          (heeds_cond (eqb b 0x64) (reference _)
          (heeds_given (abstract_of b) (refuses is_not_listed h) (λ a. goes_on_lem (omega arith)))))
          (λ n. goes_on_lem (omega arith)));
    }

pub flag_heeds : Heedful flag_at
flag_heeds =
    record {
      heeds = λ s at h.
          heeds_byte s at _ h (λ b inside.
          heeds_cond (eqb b 0x00) (goes_on_lem (omega arith)) (heeds_cond (eqb b 0x01) (goes_on_lem (omega arith)) (refuses is_not_listed h)));
    }

pub field_heeds : Heedful field_at
unfolding field_at
field_heeds =
    record {
      heeds = λ s at h.
          heeds_then (val_heeds.heeds s at h) (λ v next a. heeds_then (flag_heeds.heeds s next a) (λ m end b. goes_on_lem b));
    }

-- a count and then its entries
counted_heeds : {A : Type 0} {one : Reader A} → Heedful one → (room : ℕ → ℕ) → Heedful (λ s at. then (u32 s at) (λ n next. entries one (room n) n s next))
counted_heeds t room =
    record { heeds = λ s at h. heeds_then ((unsigned_heeds 32).heeds s at h) (λ n next a. entries_heed t (room n) n s next a) }

pub few_heeds : {A : Type 0} {one : Reader A} → Heedful one → Heedful (few_at one)
unfolding few_at
few_heeds t = record { heeds = (counted_heeds t (λ n. most_each)).heeds }

supers_heed : Heedful supers_at
unfolding supers_at
supers_heed = record { heeds = (counted_heeds (unsigned_heeds 32) (λ n. n)).heeds }

head_heeds : Heedful head_at
unfolding head_at
head_heeds =
    record {
      heeds = λ s at h.
          heeds_byte s at _ h (λ b inside.
          let subtyped : (n : Bool) → Heeds {A = Head} (length s) (then (supers_at s (at + 1)) (λ xs next. got (record { is_open = n; supers = xs }) next)) =
          λ n. heeds_then (supers_heed.heeds s (at + 1) (omega arith)) (λ xs next a. goes_on_lem a) in
          heeds_cond (eqb b 0x50) (subtyped _) (heeds_cond (eqb b 0x4F) (subtyped _) (goes_on_lem h)));
    }

clause_heeds : (code : ℕ) → Heedful (clause_at code)
unfolding clause_at
clause_heeds code =
    record {
      heeds = λ s at h.
          heeds_byte s at _ h (λ b inside.
          heeds_cond (eqb b code) (heeds_then ((unsigned_heeds 32).heeds s (at + 1) (omega arith)) (λ x next a. goes_on_lem a)) (goes_on_lem h));
    }

form_heeds : Heedful form_at
unfolding form_at
form_heeds =
    record {
      heeds = λ s at h.
          heeds_byte s at _ h (λ b inside.
          heeds_cond (eqb b 0x5F)
          (heeds_then ((few_heeds field_heeds).heeds s (at + 1) (omega arith)) (λ fs next a. goes_on_lem a))
          (heeds_cond (eqb b 0x60)
          (heeds_then ((few_heeds val_heeds).heeds s (at + 1) (omega arith)) (λ ps next a.
          heeds_then ((few_heeds val_heeds).heeds s next a) (λ rs end c. goes_on_lem c)))
          (refuses is_not_listed h)));
    }

definition_heeds : (reach : ℕ) → Heedful (definition_at reach)
unfolding definition_at
definition_heeds reach =
    record {
      heeds = λ s at h.
          heeds_then (head_heeds.heeds s at h) (λ k clauses a.
          heeds_then ((clause_heeds describes_code).heeds s clauses a) (λ d next b.
          heeds_then ((clause_heeds descriptor_code).heeds s next b) (λ y form c.
          heeds_then (form_heeds.heeds s form c) (λ f end e. goes_on_lem e))));
    }

group_heeds : (first : ℕ) → Heedful (group_at first)
unfolding group_at
group_heeds first =
    record {
      heeds = λ s at h.
          heeds_byte s at _ h (λ b inside.
          heeds_cond (eqb b 0x4E)
          (heeds_then ((unsigned_heeds 32).heeds s (at + 1) (omega arith)) (λ n next a.
          entries_heed (definition_heeds (first + n)) (most_types - first) n s next a))
          (heeds_cond (ltb first most_types)
          (heeds_then ((definition_heeds (first + 1)).heeds s at h) (λ d next a. goes_on_lem a))
          (refuses is_oversize h)));
    }

groups_heed : (n first : ℕ) (s : List ℕ) (at : ℕ) → at ≤ length s → Heeds (length s) (groups_at n first s at)
unfolding groups_at
groups_heed zero first s at h = goes_on_lem h
groups_heed (suc n) first s at h =
    heeds_then ((group_heeds first).heeds s at h) (λ g next a. heeds_then (groups_heed n (first + length g) s next a) (λ gs end b. goes_on_lem b))

-- bytes left over are refused at the first of them
pub ended_heeds : {A : Type 0} (s : List ℕ) (x : A) (at : ℕ) → at ≤ length s → Heeds (length s) (ended s x at)
ended_heeds s x at h = heeds_cond (eqb at (length s)) (goes_on_lem h) (refuses is_left_over h)

pub section_heeds : (first : ℕ) (s : List ℕ) → Heeds (length s) (read_after first s)
unfolding read_after
section_heeds first s =
    heeds_cond (ltb most_bytes (length s)) (refuses is_oversize (omega arith))
    (heeds_then ((unsigned_heeds 32).heeds s 0 (omega arith)) (λ n next a.
    heeds_then (groups_heed n first s next a) (λ gs end b. ended_heeds s gs end b)))
