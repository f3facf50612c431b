-- Request 5 of document 02: a library and an add-on's section, each case with its answer. The last word of a refusal is 1 where its place
-- is a byte of the library, 2 where it is one of the add-on's own input, 0 where it names no input. Sections of more than 32,768 bytes
-- are not computed: proofs/LibraryExamples.antt of facts_sections has them.
use Rattle.std.specs.Prelude.{ℕ, ◌+◌, Bool, List, [], ◌∷◌, ◌++◌, take}
use Rattle.scope.specs.Sizes.{most_steps}
use Rattle.facts_words.specs.Words.{section_words, type_words, body_words, run_words, same_words}
use Rattle.facts_examples.specs.FaultCases.{root, below}

pub record Pair : Type 0 where
  pub computed : List ℕ
  pub says : List ℕ

abbrev pub agree : Pair → Bool
agree p = same_words p.computed p.says

abbrev pub in_library : ℕ → ℕ → List ℕ
in_library number place = 0 ∷ number ∷ place ∷ 1 ∷ []

abbrev pub in_addon : ℕ → ℕ → List ℕ
in_addon number place = 0 ∷ number ∷ place ∷ 2 ∷ []

abbrev pub at_type : ℕ → ℕ → List ℕ
at_type number place = 0 ∷ number ∷ place ∷ 0 ∷ []

abbrev pub one_struct : List ℕ
one_struct = 0x01 ∷ 0x5F ∷ 0x00 ∷ []

-- an open struct, and a struct below it
abbrev pub open_struct : List ℕ
open_struct = 0x01 ∷ 0x50 ∷ 0x00 ∷ 0x5F ∷ 0x00 ∷ []

abbrev pub below_it : List ℕ
below_it = 0x01 ∷ 0x4F ∷ 0x01 ∷ 0x00 ∷ 0x5F ∷ 0x00 ∷ []

-- types 0 to 63, each below the one before it: 63 steps
abbrev pub long_chain : List ℕ
long_chain = (0x40 ∷ []) ++ root ++ below most_steps

-- which input, and where

abbrev pub places : List Pair
places =
    record { computed = section_words one_struct (0x01 ∷ 0x7B ∷ []); says = in_addon 3 1 }
    ∷ record { computed = section_words one_struct (0x01 ∷ 0x4C ∷ 0x00 ∷ 0x60 ∷ 0x00 ∷ 0x00 ∷ []); says = at_type 9 1 }
    ∷ record { computed = section_words [] (0x00 ∷ []); says = in_library 1 0 }
    -- a place in a body that is an input by itself
    ∷ record { computed = body_words (0x01 ∷ 0x60 ∷ 0x00 ∷ 0x00 ∷ []) one_struct 0 (0x00 ∷ 0xFB ∷ 0x01 ∷ 0x02 ∷ 0x1A ∷ 0x0B ∷ []); says = at_type 6 1 }
    -- the add-on's bytes before its rules
    ∷ record { computed = section_words one_struct (0x01 ∷ 0x4C ∷ 0x09 ∷ 0x5F ∷ 0x00 ∷ 0x00 ∷ []); says = in_addon 5 5 }
    ∷ record { computed = section_words one_struct (0x01 ∷ 0x4C ∷ 0x09 ∷ 0x5F ∷ 0x00 ∷ []); says = at_type 6 1 }
    ∷ []

-- numbers run on

abbrev pub numbers : List Pair
numbers =
    -- "The library may not mention the add-on's numbers": 1 is out of reach
    record { computed = section_words (0x01 ∷ 0x5F ∷ 0x01 ∷ 0x63 ∷ 0x01 ∷ 0x00 ∷ []) one_struct; says = at_type 6 0 }
    -- the add-on may mention the library's, and its own
    ∷ record { computed = take 2 (section_words one_struct (0x01 ∷ 0x5F ∷ 0x02 ∷ 0x63 ∷ 0x00 ∷ 0x00 ∷ 0x63 ∷ 0x01 ∷ 0x00 ∷ [])); says = 1 ∷ 2 ∷ [] }
    ∷ record { computed = section_words one_struct (0x01 ∷ 0x5F ∷ 0x01 ∷ 0x63 ∷ 0x02 ∷ 0x00 ∷ []); says = at_type 6 1 }
    -- rows of both, where their codes begin, and the ranges (the library's type 1 to 3, the one below it 2 to 3); the definitions' places count in the section that holds them
    ∷ record {
      computed = section_words open_struct below_it;
      says = (1 ∷ 2 ∷ []) ++ (1 ∷ 0 ∷ 0 ∷ 1 ∷ 0 ∷ 0 ∷ 0 ∷ 1 ∷ 5 ∷ 1 ∷ 32_768 ∷ 0 ∷ 1 ∷ 3 ∷ 0 ∷ 0 ∷ []) ++ (1 ∷ 0 ∷ 0 ∷ 0 ∷ 1 ∷ 0 ∷ 0 ∷ 1 ∷ 6 ∷ 2 ∷ 0 ∷ 0 ∷ 2 ∷ 3 ∷ 0 ∷ 0 ∷ []);
    }
    -- codes of the library, then of the add-on: an i32; a mutable (ref null 0) and an i64
    ∷ record {
      computed = section_words (0x01 ∷ 0x5F ∷ 0x01 ∷ 0x7F ∷ 0x00 ∷ []) (0x01 ∷ 0x5F ∷ 0x02 ∷ 0x63 ∷ 0x00 ∷ 0x01 ∷ 0x7E ∷ 0x00 ∷ []);
      says = (1 ∷ 2 ∷ []) ++ (1 ∷ 1 ∷ 0 ∷ 0 ∷ 0 ∷ 0 ∷ 0 ∷ 1 ∷ 5 ∷ 1 ∷ 32_768 ∷ 0 ∷ 1 ∷ 2 ∷ 0 ∷ 0 ∷ []) ++ (1 ∷ 2 ∷ 0 ∷ 0 ∷ 0 ∷ 0 ∷ 0 ∷ 1 ∷ 8 ∷ 2 ∷ 0 ∷ 0 ∷ 2 ∷ 3 ∷ 0 ∷ 0 ∷ []) ++ (0 ∷ []) ++ (51 ∷ 2 ∷ []);
    }
    -- the supertype chain is counted over both
    ∷ record { computed = section_words long_chain (0x01 ∷ 0x50 ∷ 0x01 ∷ 0x3F ∷ 0x5F ∷ 0x00 ∷ []); says = at_type 4 64 }
    ∷ record { computed = take 2 (section_words long_chain (0x01 ∷ 0x50 ∷ 0x01 ∷ 0x3E ∷ 0x5F ∷ 0x00 ∷ [])); says = 1 ∷ 65 ∷ [] }
    -- a clause of the add-on cannot agree with a type of the library
    ∷ record { computed = section_words one_struct (0x01 ∷ 0x4C ∷ 0x00 ∷ 0x5F ∷ 0x00 ∷ []); says = at_type 11 1 }
    ∷ []

-- types that are asked for: 1 the library's, 2 the add-on's, and the bytes

abbrev pub handed : List Pair
handed =
    record { computed = type_words open_struct below_it 1; says = 1 ∷ 2 ∷ 0x4F ∷ 0x01 ∷ 0x00 ∷ 0x5F ∷ 0x00 ∷ [] }
    ∷ record { computed = type_words open_struct below_it 0; says = 1 ∷ 1 ∷ 0x50 ∷ 0x00 ∷ 0x5F ∷ 0x00 ∷ [] }
    ∷ record { computed = type_words open_struct below_it 2; says = at_type 6 2 }
    ∷ []

-- bodies and runs over the joined list: type 1, of the add-on, is a function that gives an object of type 0, of the library

abbrev pub gives_first : List ℕ
gives_first = 0x01 ∷ 0x60 ∷ 0x00 ∷ 0x01 ∷ 0x64 ∷ 0x62 ∷ 0x00 ∷ []

abbrev pub makes_first : List ℕ
makes_first = 0x00 ∷ 0xFB ∷ 0x01 ∷ 0x00 ∷ 0x0B ∷ []

abbrev pub bodies : List Pair
bodies =
    record { computed = body_words one_struct gives_first 1 makes_first; says = 1 ∷ 2 ∷ [] }
    ∷ record { computed = take 6 (run_words one_struct gives_first 1 makes_first 9); says = 1 ∷ 1 ∷ 0 ∷ 2 ∷ 5 ∷ 1 ∷ [] }
    -- a cast from the library's type to the add-on's below it: the object is of the library's
    ∷ record {
      computed = take 4 (run_words open_struct (0x02 ∷ 0x4F ∷ 0x01 ∷ 0x00 ∷ 0x5F ∷ 0x00 ∷ 0x60 ∷ 0x00 ∷ 0x00 ∷ []) 2 (0x00 ∷ 0xFB ∷ 0x01 ∷ 0x00 ∷ 0xFB ∷ 0x16 ∷ 0x01 ∷ 0x1A ∷ 0x0B ∷ []) 9);
      says = 1 ∷ 2 ∷ 44 ∷ 2 ∷ [];
    }
    -- type 0 is the library's function, and no type 2 is there
    ∷ record { computed = body_words (0x01 ∷ 0x60 ∷ 0x00 ∷ 0x00 ∷ []) one_struct 1 (0x00 ∷ 0x0B ∷ []); says = at_type 27 0 }
    ∷ record { computed = body_words (0x01 ∷ 0x60 ∷ 0x00 ∷ 0x00 ∷ []) one_struct 2 (0x00 ∷ 0x0B ∷ []); says = at_type 27 0 }
    ∷ []
