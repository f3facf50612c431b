-- Document 01's starred examples and the three short cuts, and the cases of document 02's requests, each with the answer that its
-- paper gives. One list.
use Rattle.std.specs.Prelude.{ℕ, Bool, List, [], ◌∷◌, ◌++◌, length, take}
use Rattle.scope.specs.Sections.{empty_library}
use Rattle.scope.specs.Judging.{judge_joined}
use Rattle.scope.specs.Memory.{joined_rows}
use Rattle.facts_words.specs.Words.{answered, body_words, run_words, same_words}

-- what is asked: a section; a body of a type of a section; a run of such a body with a budget
pub data Question : Type 0 where
  section : List ℕ → Question
  body : List ℕ → ℕ → List ℕ → Question
  run : List ℕ → ℕ → List ℕ → ℕ → Question

-- each after a library of no types: yes and the count; no, the refusal's number, place and input; how a run ended and all words of its state
abbrev pub answer : Question → List ℕ
answer (section s) = answered (λ j. length j.types ∷ take 1 (joined_rows j)) (judge_joined empty_library s)
answer (body s x b) = body_words empty_library s x b
answer (run s x b budget) = run_words empty_library s x b budget

pub record Case : Type 0 where
  pub asks : Question
  pub says : List ℕ

-- the answers

abbrev pub no_types : List ℕ
no_types = 1 ∷ 0 ∷ []

abbrev pub instructions : ℕ → List ℕ
instructions n = 1 ∷ n ∷ []

-- at a type's number, or at a place in a body: no input is named
abbrev pub refusal : ℕ → ℕ → List ℕ
refusal number place = 0 ∷ number ∷ place ∷ 0 ∷ []

-- at a byte of the add-on's section
abbrev pub byte_refusal : ℕ → ℕ → List ℕ
byte_refusal number place = 0 ∷ number ∷ place ∷ 2 ∷ []

-- the count of types, and the form of the first: struct
abbrev pub structs : ℕ → List ℕ
structs n = 1 ∷ n ∷ 1 ∷ []

-- the sections of the paper

abbrev pub F1 : List ℕ
F1 = 0x02 ∷ 0x4E ∷ 0x02 ∷ 0x4D ∷ 0x01 ∷ 0x5F ∷ 0x00 ∷ 0x4C ∷ 0x00 ∷ 0x5F ∷ 0x00 ∷ 0x60 ∷ 0x00 ∷ 0x01 ∷ 0x64 ∷ 0x62 ∷ 0x00 ∷ []

abbrev pub F2 : List ℕ
F2 = 0x02 ∷ 0x4E ∷ 0x02 ∷ 0x4D ∷ 0x01 ∷ 0x5F ∷ 0x00 ∷ 0x4C ∷ 0x00 ∷ 0x5F ∷ 0x00 ∷ 0x60 ∷ 0x00 ∷ 0x01 ∷ 0x64 ∷ 0x62 ∷ 0x01 ∷ []

-- a function from nothing to nothing
abbrev pub to_nothing : List ℕ
to_nothing = 0x01 ∷ 0x60 ∷ 0x00 ∷ 0x00 ∷ []

-- a descriptor object, and an object with it
abbrev pub with_descriptor : List ℕ
with_descriptor = 0x00 ∷ 0xFB ∷ 0x00 ∷ 0x01 ∷ 0xFB ∷ 0x20 ∷ 0x00 ∷ 0x0B ∷ []

-- the incident as 003 has it: a short type 0 with descriptor 1, a long type 2 below it with descriptor 3
abbrev pub short_and_long : List ℕ
short_and_long =
    (0x02 ∷ 0x4E ∷ 0x04 ∷ 0x50 ∷ 0x00 ∷ 0x4D ∷ 0x01 ∷ 0x5F ∷ 0x00 ∷ 0x50 ∷ 0x00 ∷ 0x4C ∷ 0x00 ∷ 0x5F ∷ 0x00 ∷ [])
    ++ (0x50 ∷ 0x01 ∷ 0x00 ∷ 0x4D ∷ 0x03 ∷ 0x5F ∷ 0x01 ∷ 0x7F ∷ 0x00 ∷ 0x50 ∷ 0x01 ∷ 0x01 ∷ 0x4C ∷ 0x02 ∷ 0x5F ∷ 0x00 ∷ [])
    ++ (0x60 ∷ 0x00 ∷ 0x01 ∷ 0x7F ∷ [])

-- 001's "Ok (but strange)": type 3, below the descriptor 1 of type 0, describes a stranger, type 2
abbrev pub strange : List ℕ
strange =
    (0x01 ∷ 0x4E ∷ 0x04 ∷ 0x50 ∷ 0x00 ∷ 0x4D ∷ 0x01 ∷ 0x5F ∷ 0x00 ∷ 0x50 ∷ 0x00 ∷ 0x4C ∷ 0x00 ∷ 0x5F ∷ 0x00 ∷ [])
    ++ (0x5F ∷ 0x00 ∷ 0x50 ∷ 0x01 ∷ 0x01 ∷ 0x4C ∷ 0x02 ∷ 0x5F ∷ 0x00 ∷ [])

-- the same as 003 has it, where the stranger has type 3 as its descriptor
abbrev pub stranger : List ℕ
stranger =
    (0x01 ∷ 0x4E ∷ 0x04 ∷ 0x50 ∷ 0x00 ∷ 0x4D ∷ 0x01 ∷ 0x5F ∷ 0x00 ∷ 0x50 ∷ 0x00 ∷ 0x4C ∷ 0x00 ∷ 0x5F ∷ 0x00 ∷ [])
    ++ (0x4D ∷ 0x03 ∷ 0x5F ∷ 0x00 ∷ 0x50 ∷ 0x01 ∷ 0x01 ∷ 0x4C ∷ 0x02 ∷ 0x5F ∷ 0x00 ∷ [])

-- type 1 below type 0; a function that gives (ref (exact 0))
abbrev pub exact_of_super : List ℕ
exact_of_super =
    0x03 ∷ 0x50 ∷ 0x00 ∷ 0x5F ∷ 0x00 ∷ 0x4F ∷ 0x01 ∷ 0x00 ∷ 0x5F ∷ 0x01 ∷ 0x7F ∷ 0x00 ∷ 0x60 ∷ 0x00 ∷ 0x01 ∷ 0x64 ∷ 0x62 ∷ 0x00 ∷ []

abbrev pub starred : List Case
starred =
    record { asks = section (0x00 ∷ []); says = no_types }
    ∷ record { asks = section []; says = byte_refusal 1 0 }
    ∷ record { asks = section (0x01 ∷ 0x4E ∷ 0x02 ∷ 0x4D ∷ 0x01 ∷ 0x5F ∷ 0x00 ∷ 0x4C ∷ 0x00 ∷ 0x5F ∷ 0x00 ∷ []); says = structs 2 }
    ∷ record { asks = section (0x01 ∷ 0x4E ∷ 0x02 ∷ 0x4C ∷ 0x01 ∷ 0x5F ∷ 0x00 ∷ 0x4D ∷ 0x00 ∷ 0x5F ∷ 0x00 ∷ []); says = refusal 10 0 }
    ∷ record { asks = section (0x01 ∷ 0x4E ∷ 0x03 ∷ 0x5F ∷ 0x00 ∷ 0x4D ∷ 0x02 ∷ 0x5F ∷ 0x00 ∷ 0x4C ∷ 0x00 ∷ 0x5F ∷ 0x00 ∷ []); says = refusal 11 1 }
    ∷ record {
      asks = section ((0x02 ∷ 0x4E ∷ 0x02 ∷ 0x50 ∷ 0x00 ∷ 0x4D ∷ 0x01 ∷ 0x5F ∷ 0x00 ∷ 0x50 ∷ 0x00 ∷ 0x4C ∷ 0x00 ∷ 0x5F ∷ 0x00 ∷ []) ++ (0x4F ∷ 0x01 ∷ 0x00 ∷ 0x5F ∷ 0x00 ∷ []));
      says = refusal 12 2;
    }
    ∷ record { asks = body F1 2 with_descriptor; says = instructions 3 }
    -- done after 3 steps at place 8: two objects, object 1 of type 0 with descriptor object 0, and it is the result
    ∷ record {
      asks = run F1 2 with_descriptor 3;
      says = (1 ∷ 1 ∷ 0 ∷ 3 ∷ []) ++ (8 ∷ 2 ∷ 0 ∷ 0 ∷ 1 ∷ 0 ∷ []) ++ (1 ∷ 0 ∷ 0 ∷ 0 ∷ []) ++ (0 ∷ 1 ∷ 0 ∷ 0 ∷ []) ++ (6 ∷ 1 ∷ []);
    }
    -- spent after 2 steps, before the `end` at place 7
    ∷ record {
      asks = run F1 2 with_descriptor 2;
      says = (1 ∷ 3 ∷ 0 ∷ 2 ∷ []) ++ (7 ∷ 2 ∷ 0 ∷ 0 ∷ 1 ∷ 0 ∷ []) ++ (1 ∷ 0 ∷ 0 ∷ 0 ∷ []) ++ (0 ∷ 1 ∷ 0 ∷ 0 ∷ []) ++ (6 ∷ 1 ∷ []);
    }
    ∷ record { asks = body F1 2 (0x00 ∷ 0xFB ∷ 0x00 ∷ 0x00 ∷ 0x0B ∷ []); says = refusal 23 1 }
    ∷ record {
      asks = body F1 2 (0x01 ∷ 0x01 ∷ 0x64 ∷ 0x01 ∷ 0xFB ∷ 0x00 ∷ 0x01 ∷ 0x21 ∷ 0x00 ∷ 0x20 ∷ 0x00 ∷ 0xFB ∷ 0x20 ∷ 0x00 ∷ 0x0B ∷ []);
      says = refusal 20 11;
    }
    ∷ record { asks = body F2 2 (0x00 ∷ 0xD0 ∷ 0x71 ∷ 0xFB ∷ 0x22 ∷ 0x00 ∷ 0x0B ∷ []); says = instructions 3 }
    -- trap 42 in the second step, at place 3; the null is still there
    ∷ record {
      asks = run F2 2 (0x00 ∷ 0xD0 ∷ 0x71 ∷ 0xFB ∷ 0x22 ∷ 0x00 ∷ 0x0B ∷ []) 1_000;
      says = (1 ∷ 2 ∷ 42 ∷ 2 ∷ []) ++ (3 ∷ 0 ∷ 0 ∷ 0 ∷ 1 ∷ 0 ∷ []) ++ (5 ∷ 0 ∷ []);
    }
    ∷ []

abbrev pub short_cuts : List Case
short_cuts =
    -- taking (ref y) as enough for struct.new_desc: a long descriptor is put on a short object, which is then read as long
    record {
      asks =
          body short_and_long 4
          ((0x01 ∷ 0x01 ∷ 0x64 ∷ 0x01 ∷ 0xFB ∷ 0x01 ∷ 0x03 ∷ 0x21 ∷ 0x00 ∷ 0x20 ∷ 0x00 ∷ 0xFB ∷ 0x20 ∷ 0x00 ∷ [])
          ++ (0xFB ∷ 0x16 ∷ 0x02 ∷ 0xFB ∷ 0x02 ∷ 0x02 ∷ 0x00 ∷ 0x0B ∷ []));
      says = refusal 20 11;
    }
    -- following 001's "Ok (but strange)" case
    ∷ record { asks = section strange; says = refusal 11 3 }
    ∷ record { asks = section stranger; says = refusal 13 3 }
    -- reading "exact x above exact subtype" as order: an object of type 1 for (ref (exact 0))
    ∷ record { asks = body exact_of_super 2 (0x00 ∷ 0xFB ∷ 0x01 ∷ 0x01 ∷ 0x0B ∷ []); says = refusal 20 4 }
    ∷ []

-- type 0 and a function that gives (ref null struct)
abbrev pub to_struct : List ℕ
to_struct = 0x02 ∷ 0x50 ∷ 0x00 ∷ 0x5F ∷ 0x00 ∷ 0x60 ∷ 0x00 ∷ 0x01 ∷ 0x6B ∷ []

-- type 0; type 1 with descriptor 2; a function that gives (ref null struct), or (ref null func)
abbrev pub beside_described : ℕ → List ℕ
beside_described gives =
    (0x03 ∷ 0x50 ∷ 0x00 ∷ 0x5F ∷ 0x00 ∷ 0x4E ∷ 0x02 ∷ 0x4D ∷ 0x02 ∷ 0x5F ∷ 0x00 ∷ 0x4C ∷ 0x01 ∷ 0x5F ∷ 0x00 ∷ []) ++ (0x60 ∷ 0x00 ∷ 0x01 ∷ gives ∷ [])

-- Request 4: "source nullable type 0, target nullable struct, label result nullable struct: was 25, now accepted." The last two
-- forms take a target with a descriptor, which struct has not: there it is type 1.
abbrev pub branching_casts : List Case
branching_casts =
    -- the four forms: were 25 at 3, at 3, at 5 and at 5
    record { asks = body to_struct 1 (0x00 ∷ 0xD0 ∷ 0x00 ∷ 0xFB ∷ 0x18 ∷ 0x03 ∷ 0x00 ∷ 0x00 ∷ 0x6B ∷ 0x0B ∷ []); says = instructions 3 }
    ∷ record { asks = body to_struct 1 (0x00 ∷ 0xD0 ∷ 0x00 ∷ 0xFB ∷ 0x19 ∷ 0x03 ∷ 0x00 ∷ 0x00 ∷ 0x6B ∷ 0x0B ∷ []); says = instructions 3 }
    ∷ record { asks = body (beside_described 0x6B) 3 (0x00 ∷ 0xD0 ∷ 0x00 ∷ 0xD0 ∷ 0x02 ∷ 0xFB ∷ 0x25 ∷ 0x03 ∷ 0x00 ∷ 0x00 ∷ 0x01 ∷ 0x0B ∷ []); says = instructions 4 }
    ∷ record { asks = body (beside_described 0x6B) 3 (0x00 ∷ 0xD0 ∷ 0x00 ∷ 0xD0 ∷ 0x02 ∷ 0xFB ∷ 0x26 ∷ 0x03 ∷ 0x00 ∷ 0x00 ∷ 0x01 ∷ 0x0B ∷ []); says = instructions 4 }
    -- the target may be null and the source not: was 25 at 7
    ∷ record { asks = body (0x02 ∷ 0x50 ∷ 0x00 ∷ 0x5F ∷ 0x00 ∷ 0x60 ∷ 0x00 ∷ 0x01 ∷ 0x63 ∷ 0x00 ∷ []) 1 (0x01 ∷ 0x01 ∷ 0x64 ∷ 0x00 ∷ 0xFB ∷ 0x01 ∷ 0x00 ∷ 0xFB ∷ 0x18 ∷ 0x02 ∷ 0x00 ∷ 0x00 ∷ 0x00 ∷ 0x0B ∷ []); says = instructions 3 }
    -- another hierarchy, in the four forms, where the label takes what is carried: 25 as before
    ∷ record { asks = body (0x01 ∷ 0x60 ∷ 0x00 ∷ 0x01 ∷ 0x70 ∷ []) 0 (0x00 ∷ 0xD0 ∷ 0x6E ∷ 0xFB ∷ 0x18 ∷ 0x03 ∷ 0x00 ∷ 0x6E ∷ 0x70 ∷ 0x1A ∷ 0xD0 ∷ 0x70 ∷ 0x0B ∷ []); says = refusal 25 3 }
    ∷ record { asks = body (0x01 ∷ 0x60 ∷ 0x00 ∷ 0x01 ∷ 0x6E ∷ []) 0 (0x00 ∷ 0xD0 ∷ 0x6E ∷ 0xFB ∷ 0x19 ∷ 0x03 ∷ 0x00 ∷ 0x6E ∷ 0x70 ∷ 0x1A ∷ 0xD0 ∷ 0x6E ∷ 0x0B ∷ []); says = refusal 25 3 }
    ∷ record { asks = body (beside_described 0x6B) 3 (0x00 ∷ 0xD0 ∷ 0x70 ∷ 0xD0 ∷ 0x02 ∷ 0xFB ∷ 0x25 ∷ 0x03 ∷ 0x00 ∷ 0x70 ∷ 0x01 ∷ 0x1A ∷ 0xD0 ∷ 0x6B ∷ 0x0B ∷ []); says = refusal 25 5 }
    ∷ record { asks = body (beside_described 0x70) 3 (0x00 ∷ 0xD0 ∷ 0x70 ∷ 0xD0 ∷ 0x02 ∷ 0xFB ∷ 0x26 ∷ 0x03 ∷ 0x00 ∷ 0x70 ∷ 0x01 ∷ 0x1A ∷ 0xD0 ∷ 0x70 ∷ 0x0B ∷ []); says = refusal 25 5 }
    -- a label that does not take the target, of another hierarchy and of the same: 25 as before
    ∷ record { asks = body (0x01 ∷ 0x60 ∷ 0x00 ∷ 0x01 ∷ 0x6E ∷ []) 0 (0x00 ∷ 0xD0 ∷ 0x6E ∷ 0xFB ∷ 0x18 ∷ 0x03 ∷ 0x00 ∷ 0x6E ∷ 0x70 ∷ 0x0B ∷ []); says = refusal 25 3 }
    ∷ record { asks = body (0x01 ∷ 0x60 ∷ 0x00 ∷ 0x01 ∷ 0x6B ∷ []) 0 (0x00 ∷ 0xD0 ∷ 0x71 ∷ 0xFB ∷ 0x18 ∷ 0x03 ∷ 0x00 ∷ 0x6B ∷ 0x6C ∷ 0x0B ∷ []); says = refusal 25 3 }
    -- a target without a descriptor: 23 as before, before the types are asked
    ∷ record { asks = body to_struct 1 (0x00 ∷ 0xD0 ∷ 0x00 ∷ 0xD0 ∷ 0x00 ∷ 0xFB ∷ 0x25 ∷ 0x03 ∷ 0x00 ∷ 0x00 ∷ 0x6B ∷ 0x0B ∷ []); says = refusal 23 5 }
    ∷ record { asks = body to_struct 1 (0x00 ∷ 0xD0 ∷ 0x70 ∷ 0xD0 ∷ 0x00 ∷ 0xFB ∷ 0x26 ∷ 0x03 ∷ 0x00 ∷ 0x70 ∷ 0x6B ∷ 0x0B ∷ []); says = refusal 23 5 }
    ∷ []

-- type 0 and a function that gives (ref 0)
abbrev pub one_struct : List ℕ
one_struct = 0x02 ∷ 0x5F ∷ 0x00 ∷ 0x60 ∷ 0x00 ∷ 0x01 ∷ 0x64 ∷ 0x00 ∷ []

-- Request 9: "would fit if it couldn't be null .. gives new refusal 31 at the same place, and 20 keeps the third and the missing
-- operand." Each 31 was 20.
abbrev pub only_nulls : List Case
only_nulls =
    -- only operands: that of a branching cast is one; what its label takes is none (25 as before), nor is a field by rule 2
    record { asks = body one_struct 1 (0x00 ∷ 0xD0 ∷ 0x00 ∷ 0xFB ∷ 0x18 ∷ 0x00 ∷ 0x00 ∷ 0x00 ∷ 0x00 ∷ 0x00 ∷ 0x0B ∷ []); says = refusal 31 3 }
    ∷ record { asks = body one_struct 1 (0x00 ∷ 0xD0 ∷ 0x00 ∷ 0xFB ∷ 0x18 ∷ 0x03 ∷ 0x00 ∷ 0x00 ∷ 0x00 ∷ 0x00 ∷ 0x0B ∷ []); says = refusal 25 3 }
    ∷ record { asks = section (0x03 ∷ 0x5F ∷ 0x00 ∷ 0x50 ∷ 0x00 ∷ 0x5F ∷ 0x01 ∷ 0x64 ∷ 0x00 ∷ 0x00 ∷ 0x4F ∷ 0x01 ∷ 0x01 ∷ 0x5F ∷ 0x01 ∷ 0x63 ∷ 0x00 ∷ 0x00 ∷ []); says = refusal 8 2 }
    -- the bottom too; null and the heap wrong, and an operand missing, are 20 as before
    ∷ record { asks = body one_struct 1 (0x00 ∷ 0xD0 ∷ 0x71 ∷ 0x0B ∷ []); says = refusal 31 3 }
    ∷ record { asks = body (0x02 ∷ 0x50 ∷ 0x00 ∷ 0x5F ∷ 0x00 ∷ 0x60 ∷ 0x00 ∷ 0x01 ∷ 0x64 ∷ 0x62 ∷ 0x00 ∷ []) 1 (0x00 ∷ 0xD0 ∷ 0x00 ∷ 0x0B ∷ []); says = refusal 20 3 }
    ∷ record { asks = body one_struct 1 (0x00 ∷ 0x0B ∷ []); says = refusal 20 1 }
    -- before 28, and in code that is not reached
    ∷ record { asks = body one_struct 1 (0x00 ∷ 0x41 ∷ 0x00 ∷ 0xD0 ∷ 0x00 ∷ 0x0B ∷ []); says = refusal 31 5 }
    ∷ record { asks = body one_struct 1 (0x00 ∷ 0x00 ∷ 0xD0 ∷ 0x00 ∷ 0x0B ∷ []); says = refusal 31 4 }
    -- from the top the first at fault decides: the null on top of an i64 for an i32, and under one
    ∷ record { asks = body (0x02 ∷ 0x5F ∷ 0x00 ∷ 0x60 ∷ 0x00 ∷ 0x02 ∷ 0x7F ∷ 0x64 ∷ 0x00 ∷ []) 1 (0x00 ∷ 0x42 ∷ 0x00 ∷ 0xD0 ∷ 0x00 ∷ 0x0B ∷ []); says = refusal 31 5 }
    ∷ record { asks = body (0x02 ∷ 0x5F ∷ 0x00 ∷ 0x60 ∷ 0x00 ∷ 0x02 ∷ 0x64 ∷ 0x00 ∷ 0x7F ∷ []) 1 (0x00 ∷ 0xD0 ∷ 0x00 ∷ 0x42 ∷ 0x00 ∷ 0x0B ∷ []); says = refusal 20 5 }
    -- what local.set takes
    ∷ record { asks = body one_struct 1 (0x01 ∷ 0x01 ∷ 0x64 ∷ 0x00 ∷ 0xD0 ∷ 0x00 ∷ 0x21 ∷ 0x00 ∷ 0x00 ∷ 0x0B ∷ []); says = refusal 31 6 }
    -- a number where any reference is wanted, by ref.is_null and by ref.as_non_null: 20 as before
    ∷ record { asks = body one_struct 1 (0x00 ∷ 0x41 ∷ 0x00 ∷ 0xD1 ∷ 0x1A ∷ 0x00 ∷ 0x0B ∷ []); says = refusal 20 3 }
    ∷ record { asks = body one_struct 1 (0x00 ∷ 0x41 ∷ 0x00 ∷ 0xD4 ∷ 0x1A ∷ 0x00 ∷ 0x0B ∷ []); says = refusal 20 3 }
    ∷ []

-- Request 10: "32, at its first byte, for any LEB number with more bytes than it needs, looked at after 1 and 2 and before 3 for the
-- same number."
abbrev pub padded_numbers : List Case
padded_numbers =
    -- after 1 and 2: a count that is cut, out of range, too long
    record { asks = section (0x80 ∷ []); says = byte_refusal 1 0 }
    ∷ record { asks = section (0x80 ∷ 0x80 ∷ 0x80 ∷ 0x80 ∷ 0x10 ∷ []); says = byte_refusal 2 0 }
    ∷ record { asks = section (0x80 ∷ 0x80 ∷ 0x80 ∷ 0x80 ∷ 0x80 ∷ 0x00 ∷ []); says = byte_refusal 2 0 }
    ∷ record { asks = section (0x80 ∷ 0x00 ∷ []); says = byte_refusal 32 0 }
    -- before 3: a negative heap type, an FB number that is not listed; before 4: 257 locals
    ∷ record { asks = section (0x01 ∷ 0x5F ∷ 0x01 ∷ 0x63 ∷ 0xF0 ∷ 0x7F ∷ 0x00 ∷ []); says = byte_refusal 32 4 }
    ∷ record { asks = body to_nothing 0 (0x00 ∷ 0xFB ∷ 0x90 ∷ 0x00 ∷ 0x0B ∷ []); says = refusal 32 2 }
    ∷ record { asks = body to_nothing 0 (0x01 ∷ 0x81 ∷ 0x82 ∷ 0x00 ∷ 0x7F ∷ 0x0B ∷ []); says = refusal 32 1 }
    -- a float's bytes are no LEB number
    ∷ record { asks = body (0x01 ∷ 0x60 ∷ 0x00 ∷ 0x01 ∷ 0x7D ∷ []) 0 (0x00 ∷ 0x43 ∷ 0x80 ∷ 0x80 ∷ 0x80 ∷ 0x00 ∷ 0x0B ∷ []); says = instructions 2 }
    -- signed numbers: 127 and -128 need two bytes, -1 and 0 do not; as a heap type 64 does and 63 does not
    ∷ record { asks = body to_nothing 0 (0x00 ∷ 0x41 ∷ 0xFF ∷ 0x00 ∷ 0x1A ∷ 0x0B ∷ []); says = instructions 3 }
    ∷ record { asks = body to_nothing 0 (0x00 ∷ 0x41 ∷ 0x80 ∷ 0x7F ∷ 0x1A ∷ 0x0B ∷ []); says = instructions 3 }
    ∷ record { asks = body to_nothing 0 (0x00 ∷ 0x41 ∷ 0xFF ∷ 0x7F ∷ 0x1A ∷ 0x0B ∷ []); says = refusal 32 2 }
    ∷ record { asks = body to_nothing 0 (0x00 ∷ 0x41 ∷ 0x80 ∷ 0x00 ∷ 0x1A ∷ 0x0B ∷ []); says = refusal 32 2 }
    ∷ record { asks = section (0x01 ∷ 0x5F ∷ 0x01 ∷ 0x63 ∷ 0xC0 ∷ 0x00 ∷ 0x00 ∷ []); says = refusal 6 0 }
    ∷ record { asks = section (0x01 ∷ 0x5F ∷ 0x01 ∷ 0x63 ∷ 0xBF ∷ 0x00 ∷ 0x00 ∷ []); says = byte_refusal 32 4 }
    -- a later instruction's 32 comes after an earlier one's rule
    ∷ record { asks = body to_nothing 0 (0x00 ∷ 0x1A ∷ 0x41 ∷ 0x80 ∷ 0x00 ∷ 0x0B ∷ []); says = refusal 20 1 }
    ∷ []

abbrev pub table : List Case
table = starred ++ short_cuts ++ branching_casts ++ only_nulls ++ padded_numbers

abbrev pub agrees : Case → Bool
agrees c = same_words (answer c.asks) c.says
