-- Soundness is not vacuous: accepted programs whose runs are computed, and reach done, each of the six traps and spent.
-- Among them are descriptors, descriptors of descriptors, supertypes of both, casts that pass and that fail, the four
-- branching casts, between types of which neither is below the other too, a field that is set, loops, and numbers of each kind
-- in operands, locals and fields. One list and one claim about it.
use Prim.Native.Nat.{ℕ}
use mathlib.Core.Path.{◌≡◌, refl}
use mathlib.Core.Bool.{Bool, true}
use mathlib.Core.List.{List, [], ◌∷◌, ◌++◌, map}
use lib.ListN.{replicate}
use lib.Dec.{eqb}
use Rattle.scope.specs.Sections.{empty_library}
use Rattle.scope.specs.Sizes.{most_each}
use Rattle.scope.specs.Lists.{every, pairwise, joined}
use Rattle.scope.specs.Judging.{Judged, accepted, rejected, place_number}
use Rattle.scope.specs.Machine.{Machine}
use Rattle.scope.specs.Running.{Ending, done, trapped, spent, wrong, Trial, trial_run}
use Rattle.scope.specs.Memory.{value_words}
use Rattle.scope.proofs.Computes.{computes}

-- a run's ending as numbers: 1 done with its results, 2 and the trap, 3 spent, 4 never; then the steps. 0 for a refusal.
abbrev results_of : Machine → List ℕ
results_of m = joined (map value_words m.operands)

abbrev ending_words : Ending → List ℕ
ending_words (done steps m) = (1 ∷ steps ∷ []) ++ results_of m
ending_words (trapped number steps m) = 2 ∷ number ∷ steps ∷ []
ending_words (spent steps m) = 3 ∷ steps ∷ []
ending_words (wrong steps m) = 4 ∷ steps ∷ []

abbrev trial_words : Judged Trial → List ℕ
trial_words (accepted t) = ending_words t.ending
trial_words (rejected n p) = 0 ∷ n ∷ place_number p ∷ []

-- done after so many steps with one i32; a trap in that step
abbrev done-after : ℕ → ℕ → List ℕ
done-after steps n = 1 ∷ steps ∷ 1 ∷ n ∷ []

abbrev trap_after : ℕ → ℕ → List ℕ
trap_after number steps = 2 ∷ number ∷ steps ∷ []

pub record Sample : Type 0 where
  pub body : List ℕ
  pub budget : ℕ
  pub ends : List ℕ

-- the section: type 0 with descriptor 1, which has descriptor 2; type 3 below 0, with descriptor 4 below 1, which has
-- descriptor 5 below 2; type 6 is () → i32; type 7 has 64 fields; type 8 has a field of each other kind of number
abbrev pub types : List ℕ
types =
    (0x04 ∷ 0x4E ∷ 0x06 ∷ [])
    ++ (0x50 ∷ 0x00 ∷ 0x4D ∷ 0x01 ∷ 0x5F ∷ 0x01 ∷ 0x7F ∷ 0x01 ∷ [])
    ++ (0x50 ∷ 0x00 ∷ 0x4C ∷ 0x00 ∷ 0x4D ∷ 0x02 ∷ 0x5F ∷ 0x00 ∷ [])
    ++ (0x50 ∷ 0x00 ∷ 0x4C ∷ 0x01 ∷ 0x5F ∷ 0x00 ∷ [])
    ++ (0x50 ∷ 0x01 ∷ 0x00 ∷ 0x4D ∷ 0x04 ∷ 0x5F ∷ 0x02 ∷ 0x7F ∷ 0x01 ∷ 0x7F ∷ 0x01 ∷ [])
    ++ (0x50 ∷ 0x01 ∷ 0x01 ∷ 0x4C ∷ 0x03 ∷ 0x4D ∷ 0x05 ∷ 0x5F ∷ 0x00 ∷ [])
    ++ (0x50 ∷ 0x01 ∷ 0x02 ∷ 0x4C ∷ 0x04 ∷ 0x5F ∷ 0x00 ∷ [])
    ++ (0x60 ∷ 0x00 ∷ 0x01 ∷ 0x7F ∷ [])
    ++ (0x5F ∷ 0x40 ∷ [])
    ++ joined (replicate most_each (0x7F ∷ 0x00 ∷ []))
    ++ (0x5F ∷ 0x03 ∷ 0x7E ∷ 0x01 ∷ 0x7D ∷ 0x01 ∷ 0x7C ∷ 0x01 ∷ [])

-- instructions, as bytes

abbrev unreachable : List ℕ
unreachable = 0x00 ∷ []

abbrev end : List ℕ
end = 0x0B ∷ []

abbrev branch : ℕ → List ℕ
branch l = 0x0C ∷ l ∷ []

abbrev return : List ℕ
return = 0x0F ∷ []

abbrev drop_value : List ℕ
drop_value = 0x1A ∷ []

abbrev local_get : ℕ → List ℕ
local_get x = 0x20 ∷ x ∷ []

abbrev local_tee : ℕ → List ℕ
local_tee x = 0x22 ∷ x ∷ []

abbrev i32_const : ℕ → List ℕ
i32_const n = 0x41 ∷ n ∷ []

abbrev i64_const : ℕ → List ℕ
i64_const n = 0x42 ∷ n ∷ []

-- by its two highest bytes; the others are zero
abbrev f32_const : ℕ → ℕ → List ℕ
f32_const a b = 0x43 ∷ 0x00 ∷ 0x00 ∷ b ∷ a ∷ []

abbrev f64_const : ℕ → ℕ → List ℕ
f64_const a b = 0x44 ∷ 0x00 ∷ 0x00 ∷ 0x00 ∷ 0x00 ∷ 0x00 ∷ 0x00 ∷ b ∷ a ∷ []

-- by the code
abbrev numeric : ℕ → List ℕ
numeric code = code ∷ []

-- (ref x) as a block's result; no result
abbrev block_of_lem : ℕ → List ℕ
block_of_lem x = 0x02 ∷ 0x64 ∷ x ∷ []

abbrev loop : List ℕ
loop = 0x03 ∷ 0x40 ∷ []

abbrev new_default : ℕ → List ℕ
new_default x = 0xFB ∷ 0x01 ∷ x ∷ []

abbrev new_default_desc : ℕ → List ℕ
new_default_desc x = 0xFB ∷ 0x21 ∷ x ∷ []

abbrev struct_new : ℕ → List ℕ
struct_new x = 0xFB ∷ 0x00 ∷ x ∷ []

abbrev struct_get : ℕ → ℕ → List ℕ
struct_get x i = 0xFB ∷ 0x02 ∷ x ∷ i ∷ []

abbrev struct_set : ℕ → ℕ → List ℕ
struct_set x i = 0xFB ∷ 0x05 ∷ x ∷ i ∷ []

abbrev ref_test : ℕ → List ℕ
ref_test x = 0xFB ∷ 0x14 ∷ x ∷ []

abbrev ref_cast : ℕ → List ℕ
ref_cast x = 0xFB ∷ 0x16 ∷ x ∷ []

abbrev ref_cast_exact : ℕ → List ℕ
ref_cast_exact x = 0xFB ∷ 0x16 ∷ 0x62 ∷ x ∷ []

abbrev ref_get_desc : ℕ → List ℕ
ref_get_desc x = 0xFB ∷ 0x22 ∷ x ∷ []

abbrev cast_desc_eq : ℕ → List ℕ
cast_desc_eq x = 0xFB ∷ 0x23 ∷ x ∷ []

abbrev cast_desc_eq_exact : ℕ → List ℕ
cast_desc_eq_exact x = 0xFB ∷ 0x23 ∷ 0x62 ∷ x ∷ []

-- the four branching casts, by their code: to label 0, from (ref x) to (ref y)
abbrev branching : ℕ → ℕ → ℕ → List ℕ
branching code x y = 0xFB ∷ code ∷ 0x00 ∷ 0x00 ∷ x ∷ y ∷ []

abbrev br_on_cast : ℕ → ℕ → List ℕ
br_on_cast x y = branching 0x18 x y

abbrev br_on_cast_fail : ℕ → ℕ → List ℕ
br_on_cast_fail x y = branching 0x19 x y

abbrev br_on_cast_desc_eq : ℕ → ℕ → List ℕ
br_on_cast_desc_eq x y = branching 0x25 x y

abbrev br_on_cast_desc_eq_fail : ℕ → ℕ → List ℕ
br_on_cast_desc_eq_fail x y = branching 0x26 x y

-- pieces of bodies

abbrev no_locals : List ℕ
no_locals = 0x00 ∷ []

-- one local: (ref null (exact 4)), or (ref null 0)
abbrev descriptor_local : List ℕ
descriptor_local = 0x01 ∷ 0x01 ∷ 0x63 ∷ 0x62 ∷ 0x04 ∷ []

abbrev upper_local : List ℕ
upper_local = 0x01 ∷ 0x01 ∷ 0x63 ∷ 0x00 ∷ []

-- one local: an i64, or an f64
abbrev i64_local : List ℕ
i64_local = 0x01 ∷ 0x01 ∷ 0x7E ∷ []

abbrev f64_local : List ℕ
f64_local = 0x01 ∷ 0x01 ∷ 0x7C ∷ []

-- an object of type 0 with a descriptor of type 1, which has one of type 2
abbrev upper : List ℕ
upper = new_default 2 ++ new_default_desc 1 ++ new_default_desc 0

-- a descriptor of type 4, which has one of type 5; an object of type 3 with such a descriptor
abbrev lower_descriptor : List ℕ
lower_descriptor = new_default 5 ++ new_default_desc 4

abbrev lower : List ℕ
lower = lower_descriptor ++ new_default_desc 3

-- its descriptor is kept in local 0
abbrev lower_kept : List ℕ
lower_kept = lower_descriptor ++ local_tee 0 ++ new_default_desc 3

-- programs, in the order in which document 01 lists what they do

abbrev through_casts : List Sample
through_casts =
    -- known as of its supertype, and back by a descriptor cast: field 1 of type 3 is read
    record { body = joined (descriptor_local ∷ lower_kept ∷ ref_cast 0 ∷ local_get 0 ∷ cast_desc_eq 3 ∷ struct_get 3 1 ∷ end ∷ []); budget = 100; ends = done-after 9 0 }
    -- the same, to the exact type
    ∷ record { body = joined (descriptor_local ∷ lower_kept ∷ ref_cast 0 ∷ local_get 0 ∷ cast_desc_eq_exact 3 ∷ struct_get 3 1 ∷ end ∷ []); budget = 100; ends = done-after 9 0 }
    -- the descriptor's descriptor, by way of supertypes, cast to the exact type that it was made as
    ∷ record { body = joined (no_locals ∷ lower ∷ ref_cast 0 ∷ ref_get_desc 0 ∷ ref_get_desc 1 ∷ ref_cast_exact 5 ∷ drop_value ∷ i32_const 42 ∷ end ∷ []); budget = 100; ends = done-after 10 42 }
    -- a field is set and read where the object is known as of its supertype
    ∷ record { body = joined (upper_local ∷ lower ∷ local_tee 0 ∷ i32_const 7 ∷ struct_set 0 0 ∷ local_get 0 ∷ struct_get 0 0 ∷ end ∷ []); budget = 100; ends = done-after 9 7 }
    -- a test that fails, and one that passes
    ∷ record { body = joined (no_locals ∷ upper ∷ ref_test 3 ∷ end ∷ []); budget = 100; ends = done-after 5 0 }
    ∷ record { body = joined (no_locals ∷ lower ∷ ref_test 0 ∷ end ∷ []); budget = 100; ends = done-after 5 1 }
    ∷ []

abbrev to_traps : List Sample
to_traps =
    record { body = joined (no_locals ∷ unreachable ∷ end ∷ []); budget = 100; ends = trap_after 41 1 }
    -- a null is read
    ∷ record { body = joined (no_locals ∷ (0xD0 ∷ 0x00 ∷ []) ∷ struct_get 0 0 ∷ end ∷ []); budget = 100; ends = trap_after 42 2 }
    -- a null descriptor
    ∷ record { body = joined (no_locals ∷ (0xD0 ∷ 0x62 ∷ 0x01 ∷ []) ∷ new_default_desc 0 ∷ struct_get 0 0 ∷ end ∷ []); budget = 100; ends = trap_after 43 2 }
    -- a cast that fails; a descriptor cast with another descriptor object
    ∷ record { body = joined (no_locals ∷ upper ∷ ref_cast 3 ∷ struct_get 3 1 ∷ end ∷ []); budget = 100; ends = trap_after 44 4 }
    ∷ record { body = joined (no_locals ∷ lower ∷ lower_descriptor ∷ cast_desc_eq 3 ∷ struct_get 3 1 ∷ end ∷ []); budget = 100; ends = trap_after 44 6 }
    -- a loop makes objects of 64 cells until fewer are left
    ∷ record { body = joined (no_locals ∷ loop ∷ new_default 7 ∷ drop_value ∷ branch 0 ∷ end ∷ unreachable ∷ end ∷ []); budget = 1_000; ends = trap_after 45 194 }
    -- a loop that does nothing
    ∷ record { body = joined (no_locals ∷ loop ∷ branch 0 ∷ end ∷ unreachable ∷ end ∷ []); budget = 10; ends = 3 ∷ 10 ∷ [] }
    ∷ []

-- each branching cast twice: it branches, and it falls through
abbrev through_branches : List Sample
through_branches =
    record { body = joined (no_locals ∷ block_of_lem 3 ∷ lower ∷ ref_cast 0 ∷ br_on_cast 0 3 ∷ unreachable ∷ end ∷ struct_get 3 1 ∷ end ∷ []); budget = 100; ends = done-after 8 0 }
    ∷ record { body = joined (no_locals ∷ block_of_lem 3 ∷ upper ∷ br_on_cast 0 3 ∷ unreachable ∷ end ∷ struct_get 3 1 ∷ end ∷ []); budget = 100; ends = trap_after 41 6 }
    ∷ record { body = joined (no_locals ∷ block_of_lem 0 ∷ upper ∷ br_on_cast_fail 0 3 ∷ unreachable ∷ end ∷ struct_get 0 0 ∷ end ∷ []); budget = 100; ends = done-after 7 0 }
    ∷ record { body = joined (no_locals ∷ block_of_lem 0 ∷ lower ∷ br_on_cast_fail 0 3 ∷ struct_get 3 1 ∷ return ∷ end ∷ struct_get 0 0 ∷ end ∷ []); budget = 100; ends = done-after 7 0 }
    ∷ record {
      body = joined (descriptor_local ∷ block_of_lem 3 ∷ lower_kept ∷ ref_cast 0 ∷ local_get 0 ∷ br_on_cast_desc_eq 0 3 ∷ unreachable ∷ end ∷ struct_get 3 1 ∷ end ∷ []);
      budget = 100;
      ends = done-after 10 0;
    }
    ∷ record { body = joined (no_locals ∷ block_of_lem 3 ∷ lower ∷ lower_descriptor ∷ br_on_cast_desc_eq 0 3 ∷ unreachable ∷ end ∷ struct_get 3 1 ∷ end ∷ []); budget = 100; ends = trap_after 41 8 }
    ∷ record { body = joined (no_locals ∷ block_of_lem 0 ∷ lower ∷ lower_descriptor ∷ br_on_cast_desc_eq_fail 0 3 ∷ unreachable ∷ end ∷ struct_get 0 0 ∷ end ∷ []); budget = 100; ends = done-after 9 0 }
    ∷ record {
      body = joined (descriptor_local ∷ block_of_lem 0 ∷ lower_kept ∷ local_get 0 ∷ br_on_cast_desc_eq_fail 0 3 ∷ struct_get 3 1 ∷ return ∷ end ∷ struct_get 0 0 ∷ end ∷ []);
      budget = 100;
      ends = done-after 9 0;
    }
    ∷ []

-- Request 4 of document 02: neither type is below the other, or the target is above the source.
abbrev across_types : List Sample
across_types =
    -- to (ref struct), by a block of (ref null struct): an object of type 0 is one
    record { body = joined (no_locals ∷ (0x02 ∷ 0x6B ∷ []) ∷ upper ∷ br_on_cast 0 0x6B ∷ unreachable ∷ end ∷ drop_value ∷ i32_const 5 ∷ end ∷ []); budget = 100; ends = done-after 8 5 }
    -- from (ref 7) to (ref 3), which no object passes
    ∷ record { body = joined (no_locals ∷ block_of_lem 3 ∷ new_default 7 ∷ br_on_cast 7 3 ∷ struct_get 7 0 ∷ return ∷ end ∷ struct_get 3 1 ∷ end ∷ []); budget = 100; ends = done-after 5 0 }
    ∷ record { body = joined (no_locals ∷ block_of_lem 7 ∷ new_default 7 ∷ br_on_cast_fail 7 3 ∷ unreachable ∷ end ∷ struct_get 7 0 ∷ end ∷ []); budget = 100; ends = done-after 5 0 }
    ∷ record { body = joined (no_locals ∷ block_of_lem 3 ∷ new_default 7 ∷ lower_descriptor ∷ br_on_cast_desc_eq 7 3 ∷ struct_get 7 0 ∷ return ∷ end ∷ struct_get 3 1 ∷ end ∷ []); budget = 100; ends = done-after 7 0 }
    ∷ record { body = joined (no_locals ∷ block_of_lem 7 ∷ new_default 7 ∷ lower_descriptor ∷ br_on_cast_desc_eq_fail 7 3 ∷ unreachable ∷ end ∷ struct_get 7 0 ∷ end ∷ []); budget = 100; ends = done-after 7 0 }
    ∷ []

-- Request 1 of document 02: numbers of each kind.
abbrev with_numbers : List Sample
with_numbers =
    -- i32: 0 - 1 is less than 0
    record { body = joined (no_locals ∷ i32_const 0 ∷ i32_const 1 ∷ numeric 0x6B ∷ i32_const 0 ∷ numeric 0x48 ∷ end ∷ []); budget = 100; ends = done-after 6 1 }
    -- i64: -1 + 1 is zero; so is a local at first
    ∷ record { body = joined (no_locals ∷ i64_const 0x7F ∷ i64_const 1 ∷ numeric 0x7C ∷ numeric 0x50 ∷ end ∷ []); budget = 100; ends = done-after 5 1 }
    ∷ record { body = joined (i64_local ∷ local_get 0 ∷ numeric 0x50 ∷ end ∷ []); budget = 100; ends = done-after 3 1 }
    -- f32: 1.5 + 2.5 is 4
    ∷ record { body = joined (no_locals ∷ f32_const 0x3F 0xC0 ∷ f32_const 0x40 0x20 ∷ numeric 0x92 ∷ f32_const 0x40 0x80 ∷ numeric 0x5B ∷ end ∷ []); budget = 100; ends = done-after 6 1 }
    -- f64, in a field and in a local: -1 divided by itself is 1
    ∷ record {
      body = joined (f64_local ∷ i64_const 0 ∷ f32_const 0 0 ∷ f64_const 0x3F 0xF0 ∷ struct_new 8 ∷ struct_get 8 2 ∷ numeric 0x9A ∷ local_tee 0 ∷ local_get 0 ∷ numeric 0xA3 ∷ f64_const 0x3F 0xF0 ∷ numeric 0x61 ∷ end ∷ []);
      budget = 100;
      ends = done-after 12 1;
    }
    -- 46: a division by zero, a root, a conversion
    ∷ record { body = joined (no_locals ∷ i32_const 1 ∷ i32_const 0 ∷ numeric 0x6D ∷ end ∷ []); budget = 100; ends = trap_after 46 3 }
    ∷ record { body = joined (no_locals ∷ new_default 8 ∷ struct_get 8 1 ∷ numeric 0x91 ∷ drop_value ∷ i32_const 0 ∷ end ∷ []); budget = 100; ends = trap_after 46 3 }
    ∷ record { body = joined (no_locals ∷ i32_const 1 ∷ numeric 0xAC ∷ numeric 0x50 ∷ end ∷ []); budget = 100; ends = trap_after 46 2 }
    ∷ []

-- the body, of type 6, is accepted, and its run ends so
abbrev agrees : Sample → Bool
agrees p = pairwise eqb (trial_words (trial_run empty_library types p.body 6 p.budget)) p.ends

pub programs_run : every agrees (through_casts ++ to_traps ++ through_branches ++ across_types ++ with_numbers) ≡ true
unfolding computes
programs_run = refl
