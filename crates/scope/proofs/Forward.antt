-- Reading never moves back and never past the input's end. The argument: a reader is put together from `then`, `on_byte`,
-- `cond` and `given`, each of which keeps "the place after lies between lo and the input's length"; a byte that is
-- there moves lo by one.
use Prim.Native.Nat.{ℕ, zero, suc, ◌+◌, ◌-◌, ◌*◌, ◌≤◌, ◌<◌}
use mathlib.Core.Path.{◌≡◌, refl}
use mathlib.Core.Bool.{Bool, true, false, cond, ◌&&◌}
use mathlib.Core.Option.{Option, none, some}
use mathlib.Core.List.{List, [], ◌∷◌}
use native.Mathlib.Omega.{arith}
use native.Mathlib.Nat.{le_trans, le_refl}
use lib.ListN.{length, get_elem?}
use lib.Dec.{ltb, eqb}
use Rattle.scope.specs.Reading.{Read, got, refused, Reader, given, then, on_byte, entries}
use Rattle.scope.specs.Numbers.{Bits, bits, cut, long, under, bits_at, in_range, Whole, plus, minus, unsigned, signed, little_endian, float_bytes, u32}
use Rattle.scope.specs.Sizes.{most_each, most_types}
use Rattle.scope.specs.Refusals.{bytes_end}
use Rattle.scope.specs.Abstract.{abstract_of}
use Rattle.scope.specs.Syntax.{ref}
use Rattle.scope.specs.Sections.{type_number, heap_at, number_of, val_at, flag_at, field_at, few_at, supers_at, head_at, Head, clause_at, describes_code, descriptor_code, form_at, definition_at, group_at, groups_at}
use Rattle.scope.proofs.Impossible.{impossible}

-- where reading ends: refused, or at a place between lo and hi
pub data Ends {A : Type 0} (lo hi : ℕ) : Read A → Type 0 where
  stops : {n p : ℕ} → Ends lo hi (refused n p)
  reaches : {x : A} {next : ℕ} → lo ≤ next → next ≤ hi → Ends lo hi (got x next)

-- a reader that takes at least one byte of the input
pub record Takes {A : Type 0} (r : Reader A) : Type 0 where
  pub takes : (s : List ℕ) (at : ℕ) → Ends (at + 1) (length s) (r s at)

-- the pieces

module _ {A B : Type 0} {lo hi : ℕ} where
  pub ends_then : {mid : ℕ} {r : Read A} {f : A → ℕ → Read B} → Ends mid hi r → ((x : A) (next : ℕ) → mid ≤ next → next ≤ hi → Ends lo hi (f x next)) → Ends lo hi (then r f)
  ends_then stops k = stops
  ends_then (reaches {x} {next} a b) k = k x next a b

module _ {A : Type 0} {lo hi : ℕ} where
  pub ends_cond : (b : Bool) {p q : Read A} → Ends lo hi p → Ends lo hi q → Ends lo hi (cond b p q)
  ends_cond true p q = p
  ends_cond false p q = q

  pub ends_given : {B : Type 0} (o : Option B) {z : Read A} {f : B → Read A} → Ends lo hi z → ((x : B) → Ends lo hi (f x)) → Ends lo hi (given o z f)
  ends_given none z k = z
  ends_given (some x) z k = k x

  pub ends_from : {mid : ℕ} {r : Read A} → lo ≤ mid → Ends mid hi r → Ends lo hi r
  ends_from h stops = stops
  ends_from h (reaches a b) = reaches (le_trans h a) b

-- a byte that is there lies before the end
pub byte_inside : (s : List ℕ) (at : ℕ) {b : ℕ} → get_elem? s at ≡ some b → at < length s
byte_inside [] at e = impossible cc
byte_inside (x ∷ xs) zero e = omega arith
byte_inside (x ∷ xs) (suc at) e = let h : at < length xs = byte_inside xs at e in omega arith

pub ends_byte : {A : Type 0} {lo : ℕ} (s : List ℕ) (at : ℕ) (f : ℕ → Read A) → ((b : ℕ) → at < length s → Ends lo (length s) (f b)) → Ends lo (length s) (on_byte s at f)
ends_byte {A} {lo} s at f k = go (get_elem? s at) refl
  where
    go : (o : Option ℕ) → get_elem? s at ≡ o → Ends lo (length s) (given o (refused bytes_end at) f)
    go none e = stops
    go (some b) e = k b (byte_inside s at e)

-- numbers

-- the bits of a number end past its first byte
pub data BitsEnd (lo hi : ℕ) : Bits → Type 0 where
  cuts : BitsEnd lo hi cut
  longs : BitsEnd lo hi long
  stand : {v k next : ℕ} → lo ≤ next → next ≤ hi → BitsEnd lo hi (bits v k next)

pub one_less : {m n : ℕ} → m + 1 ≤ n → m ≤ n
one_less h = omega arith

bits_under : {lo hi : ℕ} (b : ℕ) {r : Bits} → BitsEnd (lo + 1) hi r → BitsEnd lo hi (under b r)
bits_under b cuts = cuts
bits_under b longs = longs
bits_under b (stand a h) = stand (one_less a) h

bits_first : (s : List ℕ) (at : ℕ) {more : ℕ → Bits} → ((b : ℕ) → BitsEnd (at + 1) (length s) (more b)) → BitsEnd (at + 1) (length s) (given (get_elem? s at) cut (λ b. cond (ltb b 128) (bits b 1 (at + 1)) (more b)))
bits_first s at {more} k = go (get_elem? s at) refl
  where
    test : (b : ℕ) (t : Bool) → at < length s → BitsEnd (at + 1) (length s) (cond t (bits b 1 (at + 1)) (more b))
    test b true h = stand (le_refl (at + 1)) (omega arith)
    test b false h = k b

    go : (o : Option ℕ) → get_elem? s at ≡ o → BitsEnd (at + 1) (length s) (given o cut (λ b. cond (ltb b 128) (bits b 1 (at + 1)) (more b)))
    go none e = cuts
    go (some b) e = test b (ltb b 128) (byte_inside s at e)

pub bits_end : (room : ℕ) (s : List ℕ) (at : ℕ) → BitsEnd (at + 1) (length s) (bits_at room s at)
unfolding bits_at
bits_end zero s at = longs
bits_end (suc room) s at = bits_first s at (λ b. bits_under b (bits_end room s (at + 1)))

range_ends : {A : Type 0} {lo hi : ℕ} (width at : ℕ) {r : Bits} (value : ℕ → ℕ → A) (holds : ℕ → A → Bool) → BitsEnd lo hi r → Ends lo hi (in_range width at r value holds)
range_ends width at value holds cuts = stops
range_ends width at value holds longs = stops
range_ends width at value holds (stand {v} {k} a h) =
    ends_cond (holds width (value v k)) (ends_cond (ltb 1 k && holds (7 * (k - 1)) (value v k)) stops (reaches a h)) stops

-- one fact for every width
pub unsigned-takes : (width : ℕ) → Takes (unsigned width)
unfolding unsigned
unsigned-takes width = record { takes = λ s at. range_ends width at _ _ (bits_end _ s at) }

pub signed-takes : (width : ℕ) → Takes (signed width)
unfolding signed
signed-takes width = record { takes = λ s at. range_ends width at _ _ (bits_end _ s at) }

-- the bytes of a float are all there, where they are read
pub float_inside : (n : ℕ) (s : List ℕ) (at : ℕ) {v : ℕ} → little_endian (suc n) s at ≡ some v → at + suc n ≤ length s
unfolding little_endian
float_inside zero s at {v} e = go (get_elem? s at) refl e
  where
    go : (o : Option ℕ) → get_elem? s at ≡ o → given o none (λ b. some (b + 256 * 0)) ≡ some v → at + 1 ≤ length s
    go none there e = impossible cc
    go (some b) there e = let h : at < length s = byte_inside s at there in omega arith
float_inside (suc n) s at {v} e = go (get_elem? s at) (little_endian (suc n) s (at + 1)) (λ w f. float_inside n s (at + 1) f) e
  where
    go :
        (o higher : Option ℕ) → ((w : ℕ) → higher ≡ some w → at + 1 + suc n ≤ length s)
        → given o none (λ b. given higher none (λ w. some (b + 256 * w))) ≡ some v → at + suc (suc n) ≤ length s
    go none higher inside e = impossible cc
    go (some b) none inside e = impossible cc
    go (some b) (some w) inside e = let h : at + 1 + suc n ≤ length s = inside w refl in omega arith

-- one byte at least
pub float_takes : (n : ℕ) → Takes (float_bytes (suc n))
unfolding float_bytes
float_takes n = record { takes = λ s at. go s at (little_endian (suc n) s at) refl }
  where
    go : (s : List ℕ) (at : ℕ) (o : Option ℕ) → little_endian (suc n) s at ≡ o → Ends (at + 1) (length s) (given o (refused bytes_end at) (λ v. got v (at + suc n)))
    go s at none e = stops
    go s at (some v) e = reaches {next = at + suc n} (omega arith) (float_inside n s at e)

-- lists: `n` entries end no earlier than they begin

pub entries-end : {A : Type 0} {one : Reader A} → Takes one → (room n : ℕ) (s : List ℕ) (at : ℕ) → at ≤ length s → Ends at (length s) (entries one room n s at)
unfolding entries
entries-end t room zero s at h = reaches (le_refl at) h
entries-end t zero (suc n) s at h = stops
entries-end t (suc room) (suc n) s at h =
    ends_then (t.takes s at) (λ x next a b.
    ends_then (entries-end t room n s next b) (λ xs end c d. reaches (le_trans (one_less a) c) d))

-- the readers of a section

type-number_ends : {lo hi : ℕ} (at : ℕ) (w : Whole) {next : ℕ} → lo ≤ next → next ≤ hi → Ends lo hi (type_number at w next)
type-number_ends at (plus x) a b = reaches a b
type-number_ends at (minus x) a b = stops

pub heap-takes : Takes heap_at
unfolding heap_at
heap-takes =
    record {
      takes = λ s at.
          ends_byte s at _ (λ b h.
          ends_cond (eqb b 0x62)
          (ends_then ((unsigned-takes 32).takes s (at + 1)) (λ x next c d. reaches (one_less c) d))
          (ends_given (abstract_of b) (ends_then ((signed-takes 33).takes s at) (λ w next c d. type-number_ends at w c d)) (λ a. reaches (le_refl (at + 1)) (omega arith))));
    }

pub val_takes : Takes val_at
unfolding val_at
val_takes =
    record {
      takes = λ s at.
          ends_byte s at _ (λ b h.
          let reference : (n : Bool) → Ends (at + 1) (length s) (then (heap_at s (at + 1)) (λ k next. got (ref n k) next)) =
          λ n. ends_then (heap-takes.takes s (at + 1)) (λ k next c d. reaches (one_less c) d) in
          ends_given (number_of b)
          (ends_cond (eqb b 0x63) (reference _)
          (ends_cond (eqb b 0x64) (reference _)
          (ends_given (abstract_of b) stops (λ a. reaches (le_refl (at + 1)) (omega arith)))))
          (λ n. reaches (le_refl (at + 1)) (omega arith)));
    }

pub flag-takes : Takes flag_at
flag-takes =
    record {
      takes = λ s at.
          ends_byte s at _ (λ b h.
          ends_cond (eqb b 0x00) (reaches (le_refl (at + 1)) (omega arith))
          (ends_cond (eqb b 0x01) (reaches (le_refl (at + 1)) (omega arith)) stops));
    }

pub field_takes : Takes field_at
unfolding field_at
field_takes =
    record {
      takes = λ s at.
          ends_then (val_takes.takes s at) (λ v next a b.
          ends_then (flag-takes.takes s next) (λ m end c d. reaches (le_trans a (one_less c)) d));
    }

-- a count and then its entries
counted-takes : {A : Type 0} {one : Reader A} → Takes one → (room : ℕ → ℕ) → Takes (λ s at. then (u32 s at) (λ n next. entries one (room n) n s next))
counted-takes t room =
    record {
      takes = λ s at.
          ends_then ((unsigned-takes 32).takes s at) (λ n next a b. ends_from a (entries-end t (room n) n s next b));
    }

pub few_takes : {A : Type 0} {one : Reader A} → Takes one → Takes (few_at one)
unfolding few_at
few_takes t = record { takes = (counted-takes t (λ n. most_each)).takes }

pub supers_take : Takes supers_at
unfolding supers_at
supers_take = record { takes = (counted-takes (unsigned-takes 32) (λ n. n)).takes }

-- what may be absent takes no byte
pub head_ends : (s : List ℕ) (at : ℕ) → Ends at (length s) (head_at s at)
unfolding head_at
head_ends s at =
    ends_byte s at _ (λ b h.
    let subtyped : (n : Bool) → Ends {A = Head} at (length s) (then (supers_at s (at + 1)) (λ xs next. got (record { is_open = n; supers = xs }) next)) =
    λ n. ends_then (supers_take.takes s (at + 1)) (λ xs next c d. reaches (one_less (one_less c)) d) in
    ends_cond (eqb b 0x50) (subtyped _) (ends_cond (eqb b 0x4F) (subtyped _) (reaches (le_refl at) (omega arith))))

pub clause_ends : (code : ℕ) (s : List ℕ) (at : ℕ) → Ends at (length s) (clause_at code s at)
unfolding clause_at
clause_ends code s at =
    ends_byte s at _ (λ b h.
    ends_cond (eqb b code)
    (ends_then ((unsigned-takes 32).takes s (at + 1)) (λ x next c d. reaches (one_less (one_less c)) d))
    (reaches (le_refl at) (omega arith)))

pub form_takes : Takes form_at
unfolding form_at
form_takes =
    record {
      takes = λ s at.
          ends_byte s at _ (λ b h.
          ends_cond (eqb b 0x5F)
          (ends_then ((few_takes field_takes).takes s (at + 1)) (λ fs next c d. reaches (one_less c) d))
          (ends_cond (eqb b 0x60)
          (ends_then ((few_takes val_takes).takes s (at + 1)) (λ ps next a e.
          ends_then ((few_takes val_takes).takes s next) (λ rs end c d. reaches (le_trans (one_less a) (one_less c)) d)))
          stops));
    }

pub definition_takes : (reach : ℕ) → Takes (definition_at reach)
unfolding definition_at
definition_takes reach =
    record {
      takes = λ s at.
          ends_then (head_ends s at) (λ h clauses a e.
          ends_then (clause_ends describes_code s clauses) (λ d next b f.
          ends_then (clause_ends descriptor_code s next) (λ y form c g.
          ends_then (form_takes.takes s form) (λ k end i j. reaches (omega arith) j))));
    }

pub group_takes : (first : ℕ) → Takes (group_at first)
unfolding group_at
group_takes first =
    record {
      takes = λ s at.
          ends_byte s at _ (λ b h.
          ends_cond (eqb b 0x4E)
          (ends_then ((unsigned-takes 32).takes s (at + 1)) (λ n next c d.
          ends_from (one_less c) (entries-end (definition_takes (first + n)) (most_types - first) n s next d)))
          (ends_cond (ltb first most_types)
          (ends_then ((definition_takes (first + 1)).takes s at) (λ d next c e. reaches c e))
          stops));
    }

pub groups_end : (n first : ℕ) (s : List ℕ) (at : ℕ) → at ≤ length s → Ends at (length s) (groups_at n first s at)
unfolding groups_at
groups_end zero first s at h = reaches (le_refl at) h
groups_end (suc n) first s at h =
    ends_then ((group_takes first).takes s at) (λ g next a b.
    ends_then (groups_end n (first + length g) s next b) (λ gs end c d. reaches (le_trans (one_less a) c) d))

-- reading never moves back, and stays inside the input
pub never_back : {A : Type 0} {r : Reader A} → Takes r → (s : List ℕ) (at : ℕ) {x : A} {next : ℕ} → r s at ≡ got x next → (at < next) × (next ≤ length s)
never_back {A} {r} t s at {x} {next} e = go (t.takes s at) e
  where
    go : {p : Read A} → Ends (at + 1) (length s) p → p ≡ got x next → (at < next) × (next ≤ length s)
    go stops q = impossible cc
    go (reaches {next = n} a b) q = let same : n ≡ next = cc in (omega arith, omega arith)
